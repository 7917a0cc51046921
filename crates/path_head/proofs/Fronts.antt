-- A text begins with one front.
use Rattle.std.proofs.Common.{◌≡◌, ◌≢◌, ◌<◌, ◌^◌, ℕ, List, ◌∷◌, ◌++◌, length, codes, decimal, Option, Some, None, refl, sym, ap, ◌∙◌, subst, arith}
use Rattle.std.proofs.lemmas.List.{append_cancel_left}
use Rattle.hex.specs.Hex.{encode_lower, IsBytes}
use Rattle.sha2.specs.Sha256.{sha256}
use Rattle.path_model.specs.Rooms.{IsRoom}
use Rattle.path_head.specs.declared.hash.Sum.{Sum}
use Rattle.path_head.specs.declared.front.Counts.{Counts}
use Rattle.path_head.specs.declared.front.Front.{Front}
use Rattle.path_head.specs.HeadTexts.{room_before, of_before, counts_before, link_rest, link_before, front_before, CountsFit, LinkFits, IsLinked, FrontFits}
use Rattle.path_head.proofs.Sums.{sum_once, sum_no_sign}
use Rattle.path_head.proofs.Numbers.{Ends, number_once_before}
use Rattle.path_head.proofs.Facts.{feed_ends, small}

pub lines_ends : Ends (codes " lines ")
lines_ends rest = λ is. omega (arith, is.0)

pub starts_ends : Ends (codes " starts ")
starts_ends rest = λ is. omega (arith, is.0)

pub workers_ends : Ends (codes " workers ")
workers_ends rest = λ is. omega (arith, is.0)

pub files_ends : Ends (codes " files\n")
files_ends rest = λ is. omega (arith, is.0)

-- the next number of a line
pub step : (end text : List ℕ) (m n : ℕ) (x y : List ℕ) → Ends end → m < 2 ^ 64 → n < 2 ^ 64 → text ≡ decimal m ++ (end ++ x) → text ≡ decimal n ++ (end ++ y) → (m ≡ n) × (x ≡ y)
step end text m n x y f h k e g = number_once_before end m n x y f h k (sym e ∙ g)

room_small : (m : ℕ) → IsRoom m → m < 2 ^ 64
room_small m h = omega (arith, h.1)

pub room_once : (m n : ℕ) (x y : List ℕ) → IsRoom m → IsRoom n → room_before m x ≡ room_before n y → (m ≡ n) × (x ≡ y)
room_once m n x y h k e = number_once_before (codes "\n") m n x y feed_ends (room_small m h) (room_small n k) (append_cancel_left (codes "journal 4 room ") _ _ e)

-- what stands behind the first word of a line of counts
pub counts_after : (text rest : List ℕ) (c : Counts) (y : List ℕ) → text ≡ codes "after " ++ rest → text ≡ counts_before c y
    → rest ≡ decimal c.lines ++ (codes " lines " ++ (decimal c.starts ++ (codes " starts " ++ (decimal c.highest ++ (codes " workers " ++ (decimal c.files ++ (codes " files\n" ++ y)))))))
counts_after text rest c y e f = append_cancel_left (codes "after ") _ _ (sym e ∙ f)

pub counts_once : (a b : Counts) (x y : List ℕ) → CountsFit a → CountsFit b → counts_before a x ≡ counts_before b y → (a ≡ b) × (x ≡ y)
counts_once a b x y h k e =
    let p = number_once_before (codes " lines ") a.lines b.lines _ _ lines_ends h.0 k.0 (append_cancel_left (codes "after ") _ _ e) in
    let q = number_once_before (codes " starts ") a.starts b.starts _ _ starts_ends h.1 k.1 p.1 in
    let r = number_once_before (codes " workers ") a.highest b.highest _ _ workers_ends (small a.highest h.2) (small b.highest k.2) q.1 in
    let s = number_once_before (codes " files\n") a.files b.files x y files_ends h.3 k.3 r.1 in
    ((λ i. record { lines = p.0 i; starts = q.0 i; highest = r.0 i; files = s.0 i }), s.1)

-- no link has a text that begins with no sum, unless it is none
pub unlinked : (text print : List ℕ) (link : Option Sum) (y : List ℕ) → LinkFits link → ((sum rest : List ℕ) → length sum ≡ 32 → IsBytes sum → text ≢ encode_lower sum ++ rest) → text ≡ link_rest print link y
    → text ≡ codes "-\ndeclares " ++ (print ++ 10 ∷ y)
unlinked text print None y h n e = e
unlinked text print (Some sum) y h n e = absurd (n sum.0 (10 ∷ y) h.0 h.1 e)

-- and a sum is followed by the end of its line
pub linked : (text print sum rest : List ℕ) (link : Option Sum) (y : List ℕ) → length sum ≡ 32 → IsBytes sum → LinkFits link → text ≡ encode_lower sum ++ rest → text ≡ link_rest print link y → rest ≡ 10 ∷ y
linked text print sum rest None y l b h e f = absurd (sum_no_sign sum rest _ l (sym e ∙ f))
linked text print sum rest (Some other) y l b h e f = (sum_once sum other.0 rest (10 ∷ y) l h.0 b h.1 (sym e ∙ f)).1

pub link_once : (print : List ℕ) (a b : Option Sum) (x y : List ℕ) → LinkFits a → LinkFits b → link_rest print a x ≡ link_rest print b y → (a ≡ b) × (x ≡ y)
link_once print None None x y h k e =
    let rest : x ≡ y = same_tail (append_cancel_left print _ _ (append_cancel_left (codes "-\ndeclares ") _ _ e)) in
    (refl, rest)
  where
    same_tail : {x y : ℕ} {xs ys : List ℕ} → x ∷ xs ≡ y ∷ ys → xs ≡ ys
    same_tail e = cc
link_once print None (Some b) x y h k e = absurd (sum_no_sign b.0 (10 ∷ y) _ k.0 (sym e))
link_once print (Some a) None x y h k e = absurd (sum_no_sign a.0 (10 ∷ x) _ h.0 e)
link_once print (Some a) (Some b) x y h k e =
    let p = sum_once a.0 b.0 (10 ∷ x) (10 ∷ y) h.0 k.0 h.1 k.1 e in
    let rest : x ≡ y = let q = p.1 in cc in
    ((λ i. Some (record { 0 = p.0 i })), rest)

-- behind the sum of the declaration
pub of_once : (print x y : List ℕ) → of_before print x ≡ of_before print y → x ≡ y
of_once print x y e = let q : 10 ∷ x ≡ 10 ∷ y = append_cancel_left (encode_lower (sha256 print)) _ _ (append_cancel_left (codes "of ") _ _ e) in cc

pub front_once : (print : List ℕ) (f g : Front) (x y : List ℕ) → FrontFits f → FrontFits g → front_before print f x ≡ front_before print g y → (f ≡ g) × (x ≡ y)
front_once print f g x y h k e =
    let p = room_once f.room g.room _ _ h.room k.room e in
    let q = counts_once f.before g.before _ _ h.before k.before (of_once print _ _ p.1) in
    let r = link_once print f.link g.link x y h.link k.link (append_cancel_left (codes "link ") _ _ q.1) in
    ((λ i. record { room = p.0 i; before = q.0 i; link = r.0 i }), r.1)

-- what follows each line
module _ (print text : List ℕ) (f : Front) (y : List ℕ) (h : FrontFits f) (e : text ≡ front_before print f y) where
  pub behind_room : (m : ℕ) (x : List ℕ) → IsRoom m → text ≡ room_before m x → x ≡ of_before print (counts_before f.before (link_before print f.link y))
  behind_room m x k g = (room_once m f.room x _ k h.room (sym g ∙ e)).1

  pub behind_of : (m : ℕ) (x z : List ℕ) → IsRoom m → text ≡ room_before m x → x ≡ of_before print z → z ≡ counts_before f.before (link_before print f.link y)
  behind_of m x z k g i = of_once print z _ (sym i ∙ behind_room m x k g)

  pub behind_counts : (m : ℕ) (x z : List ℕ) (c : Counts) (w : List ℕ) → IsRoom m → text ≡ room_before m x → x ≡ of_before print z → CountsFit c → z ≡ counts_before c w → w ≡ link_before print f.link y
  behind_counts m x z c w k g i l j = (counts_once c f.before w _ l h.before (sym j ∙ behind_of m x z k g i)).1

-- the declaration behind the sign of no link
pub declared_after : (text print rest : List ℕ) (link : Option Sum) (y : List ℕ) → LinkFits link → ((sum rest : List ℕ) → length sum ≡ 32 → IsBytes sum → text ≢ encode_lower sum ++ rest) → text ≡ codes "-\ndeclares " ++ rest → text ≡ link_rest print link y
    → rest ≡ print ++ 10 ∷ y
declared_after text print rest link y h n e f = append_cancel_left (codes "-\ndeclares ") _ _ (sym e ∙ unlinked text print link y h n f)

-- the lines of a front together
pub front_is : (print text x z w rest : List ℕ) (f : Front) → text ≡ room_before f.room x → x ≡ of_before print z → z ≡ counts_before f.before w → w ≡ link_before print f.link rest → text ≡ front_before print f rest
front_is print text x z w rest f e g h k = e ∙ ap (room_before f.room) (g ∙ ap (of_before print) (h ∙ ap (counts_before f.before) k))

-- what was read of a front is its own
pub front_same : (print text x z w : List ℕ) (m : ℕ) (c : Counts) (l : Option Sum) (r : List ℕ) → IsRoom m → text ≡ room_before m x → x ≡ of_before print z → CountsFit c → z ≡ counts_before c w → LinkFits l → w ≡ link_before print l r
    → (f : Front) (y : List ℕ) → FrontFits f → text ≡ front_before print f y → IsLinked c.files l
front_same print text x z w m c l r k g i j q t u f y h e =
    let a = (counts_once c f.before w _ j h.before (sym q ∙ behind_of print text f y h e m x z k g i)).0 in
    let b = (link_once print l f.link r y t h.link (append_cancel_left (codes "link ") _ _ (sym u ∙ behind_counts print text f y h e m x z c w k g i j q))).0 in
    subst (λ n. IsLinked n l) (ap (λ d. d.files) (sym a)) (subst (IsLinked f.before.files) (sym b) h.linked)
