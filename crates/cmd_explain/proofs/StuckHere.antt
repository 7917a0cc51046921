-- A resource is stuck where none of its activations is live and none of its operations can start.
use Rattle.std.proofs.Common.{◌≡◌, ◌≢◌, ◌&&◌, not, ℕ, zero, suc, Bool, true, false, List, [], ◌∷◌, All, refl, sym, subst, Some, None}
use Rattle.std.specs.Prelude.{◌↔◌, IsTrue, IsFalse, option_map, slice_get, slice_index_or}
use Rattle.path_model.specs.declared.ids.ResId.{ResId}
use Rattle.path_model.specs.declared.journal.Line.{Line}
use Rattle.path_model.specs.declared.journal.Activation.{Activation}
use Rattle.path_model.specs.Declarations.{Declaration, Operation, resource_of}
use Rattle.path_model.specs.Journals.{live, admitted_history}
use Rattle.path_model.specs.Stuck.{IsStuckAt}
use Rattle.cmd_explain.specs.Standing.{CanStart, NoneStarts}

true_false : true ≡ false → ⊥
true_false z = cc

abbrev pub Elsewhere : Declaration → ℕ → Activation → Type 0
Elsewhere d r x = resource_of d x.op.0 ≢ r

pub stuck_told : (d : Declaration) (ls : List Line) (r : ℕ) (xs : List Activation) (lives starts : Bool) → xs ≡ live ls
    → (IsTrue lives → All (Elsewhere d r) xs → ⊥) → (IsFalse lives → All (Elsewhere d r) xs)
    → (IsTrue starts → CanStart d (admitted_history ls) r) → (IsFalse starts → NoneStarts d (admitted_history ls) r)
    → IsTrue (not lives && not starts) ↔ IsStuckAt d ls r
stuck_told d ls r xs true starts e some none can cannot = (λ t. absurd (true_false (sym t)), λ s. absurd (some refl (subst (All (Elsewhere d r)) (sym e) s.nothing_live)))
stuck_told d ls r xs false true e some none can cannot = (
  λ t. absurd (true_false (sym t)),
  λ s. (let k = can refl in absurd (s.nothing_startable k.0 k.1.own (record { declared = k.1.declared; legal = k.1.legal }))),
)
stuck_told d ls r xs false false e some none can cannot = (
  λ t. record {
    nothing_live = subst (All (Elsewhere d r)) e (none refl);
    nothing_startable = λ a own s. cannot refl a (record { declared = s.declared; own = own; legal = s.legal });
  },
  λ s. refl,
)

-- the resource of an operation, which is the first one if the operation isn't declared
pub own_resource : (os : List Operation) (k : ℕ) (r : ResId) → Some r.0 ≡ option_map (λ o. o.resource) (slice_get os k) → (slice_index_or os k (record { name = []; resource = 0 })).resource ≡ r.0
own_resource [] k r e = absurd (cc)
own_resource (o ∷ os) zero r e = cc
own_resource (o ∷ os) (suc k) r e = own_resource os k r e

pub no_resource : (os : List Operation) (k : ℕ) → option_map (λ o. o.resource) (slice_get os k) ≡ None → (slice_index_or os k (record { name = []; resource = 0 })).resource ≡ 0
no_resource [] k e = refl
no_resource (o ∷ os) zero e = absurd (cc)
no_resource (o ∷ os) (suc k) e = no_resource os k e
