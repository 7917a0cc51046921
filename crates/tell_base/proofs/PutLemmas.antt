-- What has been written so far.
use Rattle.std.proofs.Common.{◌≡◌, inl, inr, subst, ℕ, ◌-◌, List, [], ◌++◌, length, take, drop, Option, Some, None, refl, sym, ap, ◌∙◌, append_assoc, arith}
use Rattle.std.proofs.lemmas.List.{append-nil, take-append-drop, take_all}
use Rattle.std.proofs.Common.{length-drop, Bor}
use Rattle.std.specs.Io.KnownBytes.{Appends, Keeps}
use Rattle.tell_base.specs.Writes.{AppendsSome, IsFrontOf}

pub appends_more : (a b c : Option (List ℕ)) (x y z : List ℕ) → Appends a b x → Appends b c y → z ≡ x ++ y → Appends a c z
appends_more None b c x y z h k e = tt
appends_more (Some a) None c x y z h k e = absurd h
appends_more (Some a) (Some b) None x y z h k e = absurd k
appends_more (Some a) (Some b) (Some c) x y z h k e = k ∙ ap (λ q. q ++ y) h ∙ append_assoc a x y ∙ ap (λ q. a ++ q) (sym e)

pub appends_none : (a b : Option (List ℕ)) → Keeps a b → Appends a b []
appends_none None b h = tt
appends_none (Some a) None h = absurd h
appends_none (Some a) (Some b) h = h ∙ sym (append-nil a)

pub appends_kept : (a b c : Option (List ℕ)) (x : List ℕ) → Appends a b x → Keeps b c → Appends a c x
appends_kept a b c x h k = appends_more a b c x [] x h (appends_none b c k) (sym (append-nil x))

pub appends_to : (a b : Option (List ℕ)) (x y : List ℕ) → x ≡ y → Appends a b x → Appends a b y
appends_to a b x y e h = rw e at h

pub record PutSoFar (old new : Option (List ℕ)) (bytes rest : List ℕ) : Type 0 where
  pub front : List ℕ
  pub parts : bytes ≡ front ++ rest
  pub wrote : Appends old new front

pub puts_more : (old now new : Option (List ℕ)) (bytes rest left : List ℕ) (n : ℕ) → left ≡ drop n rest → Appends now new (take n rest) → PutSoFar old now bytes rest → PutSoFar old new bytes left
puts_more old now new bytes rest left n is a p = record {
  front = p.front ++ take n rest;
  parts = p.parts ∙ ap (λ x. p.front ++ x) (sym (take-append-drop n rest)) ∙ sym (append_assoc p.front (take n rest) (drop n rest)) ∙ ap (λ x. (p.front ++ take n rest) ++ x) (sym is);
  wrote = appends_more old now new p.front (take n rest) (p.front ++ take n rest) p.wrote a refl;
}

pub puts_kept : (old now new : Option (List ℕ)) (bytes rest : List ℕ) → Keeps now new → PutSoFar old now bytes rest → PutSoFar old new bytes rest
puts_kept old now new bytes rest k p = record { front = p.front; parts = p.parts; wrote = appends_kept old now new p.front p.wrote k }

-- the bytes that were written are so
pub appends_some : (old new : Option (List ℕ)) (P : List ℕ → Type 0) (told bytes : List ℕ) → told ≡ bytes → P bytes → Appends old new told → AppendsSome old new P
appends_some old new P told bytes e p a = (bytes, p, appends_to old new told bytes e a)

front_of : (P : List ℕ → Type 0) (bytes front : List ℕ) → P bytes → IsFrontOf (λ all. all ≡ bytes) front → IsFrontOf P front
front_of P bytes front p (inl none) = inl none
front_of P bytes front p (inr (rest, is)) = inr (rest, subst P (sym is) p)

-- of bytes that are so a front was written
pub appends_front : (old new : Option (List ℕ)) (P : List ℕ → Type 0) (told bytes : List ℕ) → told ≡ bytes → P bytes → AppendsSome old new (IsFrontOf (λ all. all ≡ told)) → AppendsSome old new (IsFrontOf P)
appends_front old new P told bytes e p w = (w.0, front_of P told w.0 (subst P (sym e) p) w.1, w.2)

pub rest_whole : (s : List ℕ) (n : ℕ) → take (length s - n) (drop n s) ≡ drop n s
rest_whole s n = take_all (length s - n) (drop n s) (omega (arith, length-drop n s))

pub at_rest : (old new : Option (List ℕ)) (bytes : List ℕ) (r s : Bor (List ℕ)) → r ≡ s → PutSoFar old new bytes s.now → PutSoFar old new bytes r.now
at_rest old new bytes r s e p = rw e p

-- nothing is written
pub keeps_same : (a : Option (List ℕ)) → Keeps a a
keeps_same None = tt
keeps_same (Some a) = refl
