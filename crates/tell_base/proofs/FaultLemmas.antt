-- The status with which a fault is reported, and how a write ends.
use Rattle.std.proofs.Common.{◌≡◌, ◌≢◌, ℕ, List, ◌⊎◌, inl, inr, sym, ap, ◌∙◌, subst}
use Rattle.path_lex.specs.declared.fault.DeclFault.{DeclFault}
use Rattle.path_lex.specs.declared.fault.DeclFault.TheVariants as declarations
use Rattle.path_read.specs.Refused.{Refuses}
use Rattle.tell_base.specs.declared.status.Status.{Status}
use Rattle.tell_base.specs.declared.status.Status.TheVariants.{Done, StreamFailed, NoMemory}
use Rattle.tell_base.specs.declared.fault.Fault.{Fault}
use Rattle.tell_base.specs.declared.fault.Fault.TheVariants.{Unwritable, OutOfMemory}
use Rattle.tell_base.specs.Statuses.{status_of, declaration_status}
use Rattle.tell_base.specs.Refusals.{IsUndeclared}

-- what holds of a fault's status holds of the one that was reported
pub told : (P : Status → Type 0) (s r t : Status) → P s → (r ≡ s) ⊎ (r ≡ StreamFailed) → t ≢ StreamFailed → r ≡ t → P t
told P s r t p (inl e) other is = subst P (sym e ∙ is) p
told P s r t p (inr e) other is = absurd (other (sym is ∙ e))

-- what refuses a declaration refuses its print
pub undeclared : (s : List ℕ) (f : DeclFault) → Refuses s f → IsUndeclared s (declaration_status f)
undeclared s declarations.OutOfMemory r = tt
undeclared s f r = r

-- how a write ends
abbrev pub EndsWrite : Status → Type 0
EndsWrite Done = Unit {0}
EndsWrite StreamFailed = Unit {0}
EndsWrite NoMemory = Unit {0}
EndsWrite status = ⊥

pub ends_write : (r t : Status) → (r ≡ Done) ⊎ (r ≡ StreamFailed) ⊎ (r ≡ NoMemory) → r ≡ t → EndsWrite t
ends_write r t (inl e) is = subst EndsWrite (sym e ∙ is) tt
ends_write r t (inr (inl e)) is = subst EndsWrite (sym e ∙ is) tt
ends_write r t (inr (inr e)) is = subst EndsWrite (sym e ∙ is) tt

-- a fault of writing is reported
pub tells_write : (r : Status) (f : Fault) → (f ≡ Unwritable) ⊎ (f ≡ OutOfMemory) → (r ≡ status_of f) ⊎ (r ≡ StreamFailed) → (r ≡ Done) ⊎ (r ≡ StreamFailed) ⊎ (r ≡ NoMemory)
tells_write r f which (inr e) = inr (inl e)
tells_write r f (inl is) (inl e) = inr (inl (e ∙ ap status_of is))
tells_write r f (inr is) (inl e) = inr (inr (e ∙ ap status_of is))
