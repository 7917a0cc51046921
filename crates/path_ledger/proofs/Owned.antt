-- What a worker may end, by what is live of a number.
use Rattle.std.proofs.Common.{rules, ◌≡◌, ◌≢◌, ◌∙◌, ℕ, List, Some, Ok, Err, refl, sym, ap, slice_index_or}
use Rattle.path_model.specs.declared.ids.ActId.{ActId}
use Rattle.path_model.specs.declared.journal.Activation.{Activation}
use Rattle.path_model.specs.Journals.{activation_of}
use Rattle.path_ledger.specs.declared.ledger.EndFault.TheVariants.{Stale, NotYours}
use Rattle.path_ledger.specs.Ledgers.{IsNowhere, IsPlaceOf, own_of}

pub none_is_stale : (w : ℕ) (n : ActId) (live : List Activation) → IsNowhere n live → Err Stale ≡ own_of w (activation_of n live)
none_is_stale w n live p = rw p.missing refl

others : (w : ℕ) (a : Activation) → a.worker ≢ w → Err NotYours ≡ own_of w (Some a)
others w a other = search rules

mine : (w : ℕ) (a : Activation) → a.worker ≡ w → Ok a ≡ own_of w (Some a)
mine w a is = search rules

pub another_is_not_yours : (w : ℕ) (n : ActId) (live seen : List Activation) (i : ℕ) (d : Activation) → seen ≡ live → IsPlaceOf n live i
    → (slice_index_or seen i d).worker ≢ w → Err NotYours ≡ own_of w (activation_of n live)
another_is_not_yours w n live seen i d same p other = rw (p.found d, ← same) (others w (slice_index_or seen i d) other)

pub own_is_ended : (w : ℕ) (n : ActId) (live seen : List Activation) (i : ℕ) (d a : Activation) → seen ≡ live → IsPlaceOf n live i → a ≡ slice_index_or live i a
    → (slice_index_or seen i d).worker ≡ w → Ok a ≡ own_of w (activation_of n live)
own_is_ended w n live seen i d a same p at yours =
    let found : activation_of n live ≡ Some a = p.found a ∙ ap Some (sym at) in
    let one : Some (slice_index_or live i d) ≡ Some a = sym (p.found d) ∙ found in
    rw found (mine w a (search rules))
