-- What follows after parts were taken.
use Rattle.std.proofs.Common.{◌≡◌, List, ◌++◌, sym, ap, ◌∙◌, subst, Result, Ok, Err, IfOk, IfErr, ◌⊎◌, inl, inr}
use Rattle.std.specs.Result.{IsErrAnd, IsErrOf}
use Rattle.path_lex.specs.declared.fault.DeclFault.{DeclFault}
use Rattle.path_lex.specs.declared.fault.DeclFault.TheVariants as faults
use Rattle.path_read.specs.Inner.Parts.{Saying}
use Rattle.path_read.specs.Inner.Reading.{Fails}
use Rattle.path_read.specs.Inner.Building.{AllAllowed, after_all}
use Rattle.path_read.specs.Inner.Taking.{Taking, sound, broken, Follows}
use Rattle.path_read.proofs.Taken.{after_all-append, allowed-append, allowed_front, allowed_back}

pub fails_then : (e : DeclFault) {P Q : Type 0} → (P → Q) → Fails e P → Fails e Q
fails_then faults.OutOfMemory f h = tt
fails_then faults.TooLong f h = absurd h
fails_then (faults.BadByte at) f h = absurd h
fails_then (faults.WordTooLong at) f h = absurd h
fails_then (faults.NumberTooLong at) f h = absurd h
fails_then _ f h = f h

-- what failed has no value
pub no_value : {T E : Type 0} (r : Result T E) (P : E → Type 0) (Q : T → Type 0) → IsErrAnd r P → IfOk r Q
no_value (Ok x) P Q is = absurd is
no_value (Err e) P Q is = tt

-- a fault that is handed on
pub handed_on : {T : Type 0} (r : Result T DeclFault) (f : DeclFault) (P Q : Type 0) → IsErrAnd r (λ e. e ≡ f) → (P → Q) → Fails f P → IfErr r (λ e. Fails e Q)
handed_on (Ok x) f P Q is g h = absurd is
handed_on (Err e) f P Q is g h = subst (λ x. Fails x Q) (sym is) (fails_then f g h)

-- an OutOfMemory
pub no_memory : {T : Type 0} (r : Result T DeclFault) (P : Type 0) → IsErrAnd r (λ e. e ≡ faults.OutOfMemory) → IfErr r (λ e. Fails e P)
no_memory (Ok x) P is = absurd is
no_memory (Err e) P is = subst (λ x. Fails x P) (sym is) tt

-- a value is no fault
pub no_fault : {T E : Type 0} (v : T) (e f : E) (P : Type 0) → IsErrOf (Ok v) e ⊎ IsErrOf (Ok v) f → P
no_fault v e f P (inl h) = absurd (cc (h))
no_fault v e f P (inr h) = absurd (cc (h))

one_fault : {S T E : Type 0} (q : Result T E) (was e : E) → IsErrAnd q (λ x. x ≡ was) → IsErrOf {T = S} (Err was) e → IsErrOf q e
one_fault (Ok x) was e now h = absurd now
one_fault (Err x) was e now h = cc (h, now)

-- the fault of a call is that which is handed on
pub same_fault : {S T E : Type 0} (q : Result T E) (was e f : E) → IsErrAnd q (λ x. x ≡ was) → IsErrOf {T = S} (Err was) e ⊎ IsErrOf {T = S} (Err was) f → IsErrOf q e ⊎ IsErrOf q f
same_fault q was e f now (inl h) = inl (one_fault q was e now h)
same_fault q was e f now (inr h) = inr (one_fault q was f now h)

-- parts after parts
pub follows : (xs ys : List Saying) (a b c : Taking) → Follows xs a b → Follows ys b c → Follows (xs ++ ys) a c
follows xs ys (sound d) (sound e) (sound f) p q = (allowed-append xs ys d p.0 (subst (AllAllowed ys) p.1 q.0), q.1 ∙ ap (after_all ys) p.1 ∙ sym (after_all-append xs ys d))
follows xs ys (sound d) (sound e) (broken f) p q = fails_then f (λ none a. none (subst (AllAllowed ys) (sym p.1) (allowed_back xs ys d a))) q
follows xs ys (sound d) (broken e) (sound f) p q = absurd q
follows xs ys (sound d) (broken e) (broken f) p q = subst (λ x. Fails x (AllAllowed (xs ++ ys) d → ⊥)) q (fails_then e (λ none a. none (allowed_front xs ys d a)) p)
follows xs ys (broken d) (sound e) c p q = absurd p
follows xs ys (broken d) (broken e) (sound f) p q = absurd q
follows xs ys (broken d) (broken e) (broken f) p q = p ∙ q

pub follows_as : (xs ys : List Saying) (a b : Taking) → xs ≡ ys → Follows xs a b → Follows ys a b
follows_as xs ys a b e p = subst (λ x. Follows x a b) e p
