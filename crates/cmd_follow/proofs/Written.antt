-- What is written and read, in turn.
use Rattle.std.proofs.Common.{◌≡◌, ℕ, List, [], ◌++◌, Option, Some, None, IfSome, refl, sym, ap, ◌∙◌, append_assoc}
use Rattle.std.proofs.lemmas.List.{append-nil}
use Rattle.std.specs.Io.KnownBytes.{Appends, Consumes, IsAtEnd, Keeps}

pub joins : (a b c : Option (List ℕ)) (x y : List ℕ) → Appends a b x → Appends b c y → Appends a c (x ++ y)
joins None b c x y h k = tt
joins (Some a) None c x y h k = absurd h
joins (Some a) (Some b) None x y h k = absurd k
joins (Some a) (Some b) (Some c) x y h k = k ∙ ap (λ q. q ++ y) h ∙ append_assoc a x y

pub wrote_none : (a : Option (List ℕ)) → Appends a a []
wrote_none None = tt
wrote_none (Some a) = sym (append-nil a)

pub kept_wrote : (a b c : Option (List ℕ)) (x : List ℕ) → Appends a b x → Keeps b c → Appends a c x
kept_wrote None b c x h k = tt
kept_wrote (Some a) None c x h k = absurd h
kept_wrote (Some a) (Some b) None x h k = absurd k
kept_wrote (Some a) (Some b) (Some c) x h k = k ∙ h

pub wrote_same : (a b : Option (List ℕ)) (x y : List ℕ) → x ≡ y → Appends a b x → Appends a b y
wrote_same a b x y e h = rw e at h

pub keeps_same : (a : Option (List ℕ)) → Keeps a a
keeps_same None = tt
keeps_same (Some a) = refl

pub read_none : (a : Option (List ℕ)) → Consumes a a []
read_none None = tt
read_none (Some a) = refl

pub reads : (a b c : Option (List ℕ)) (x y : List ℕ) → Consumes a b x → Consumes b c y → Consumes a c (x ++ y)
reads None b c x y h k = tt
reads (Some a) None c x y h k = absurd h
reads (Some a) (Some b) None x y h k = absurd k
reads (Some a) (Some b) (Some c) x y h k = h ∙ ap (λ q. x ++ q) k ∙ sym (append_assoc x y c)

pub kept_read : (a b c : Option (List ℕ)) (x : List ℕ) → Consumes a b x → Keeps b c → Consumes a c x
kept_read None b c x h k = tt
kept_read (Some a) None c x h k = absurd h
kept_read (Some a) (Some b) None x h k = absurd k
kept_read (Some a) (Some b) (Some c) x h k = h ∙ ap (λ q. x ++ q) (sym k)

-- all was read where nothing is left
pub read_all : (a b : Option (List ℕ)) (x : List ℕ) → Consumes a b x → IsAtEnd b → IfSome a (λ bytes. bytes ≡ x)
read_all None b x h end = tt
read_all (Some a) None x h end = absurd h
read_all (Some a) (Some b) x h end = h ∙ ap (λ q. x ++ q) end ∙ append-nil x

-- all of it comes first
pub all_first : (a : Option (List ℕ)) (x : List ℕ) → IfSome a (λ bytes. bytes ≡ x) → IfSome a (λ bytes. (left : List ℕ) × (bytes ≡ x ++ left))
all_first None x h = tt
all_first (Some a) x h = ([], h ∙ sym (append-nil x))

-- what was read comes first
pub read_first : (a b : Option (List ℕ)) (x : List ℕ) → Consumes a b x → IfSome a (λ bytes. (left : List ℕ) × (bytes ≡ x ++ left))
read_first None b x h = tt
read_first (Some a) None x h = absurd h
read_first (Some a) (Some b) x h = (b, h)

pub kept_reads : (a b c : Option (List ℕ)) (x : List ℕ) → Keeps a b → Consumes b c x → Consumes a c x
kept_reads None b c x k h = tt
kept_reads (Some a) None c x k h = absurd k
kept_reads (Some a) (Some b) None x k h = absurd h
kept_reads (Some a) (Some b) (Some c) x k h = sym k ∙ h

pub keeps_more : (a b c : Option (List ℕ)) → Keeps a b → Keeps b c → Keeps a c
keeps_more None b c k l = tt
keeps_more (Some a) None c k l = absurd k
keeps_more (Some a) (Some b) None k l = absurd l
keeps_more (Some a) (Some b) (Some c) k l = l ∙ k
