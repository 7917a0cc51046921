-- A system that goes on behind lines.
use Rattle.std.proofs.Common.{◌≡◌, ℕ, ◌+◌, ◌<◌, List, [], ◌∷◌, ◌++◌, length, get_or, take, sym, ap, subst, ◌∙◌}
use Rattle.std.proofs.lemmas.List.{take_more}
use Rattle.std.proofs.lemmas.Option.{slice_get-get_or}
use Rattle.path_model.specs.declared.journal.Line.{Line}
use Rattle.path_model.specs.Declarations.{Declaration}
use Rattle.path_shelf.specs.States.{State}
use Rattle.path_system.specs.Accounts.{Account, IsSystem}
use Rattle.path_system.specs.Taken.{IsTaken, IsTakeFault}
use Rattle.path_system.specs.Resumed.{AreDevicesOf, IsStoppedAt, after_lines}
use Rattle.path_system.specs.declared.fault.TakeFault.{TakeFault}
use Rattle.path_system.specs.declared.fault.TakeFault.TheVariants.{NotOwed, DeviceFailed}

-- a line that isn't taken leaves the devices with what they contained
kept_devices : (may_fail : Type 0) (old next : Account) (line : Line) (fault : TakeFault) (left : List State) → IsTakeFault may_fail old line fault next → AreDevicesOf next left → AreDevicesOf old left
kept_devices may_fail old next line (NotOwed reply) left wrong devices = subst (λ (a : Account). AreDevicesOf a left) wrong.kept devices
kept_devices may_fail old next line DeviceFailed left wrong devices =
    let same = subst (λ (a : Account). AreDevicesOf a left) wrong.kept devices in
    record { laws = same.laws; held = same.held }

module _ (d : Declaration) (room : ℕ) (states : List State) (lines : List Line) (n : ℕ) (x : Line) (within : n < length lines) (system : Account)
    (so_far : system ≡ after_lines d room states (take n lines) system.failures) where
  -- one line more
  pub one_taken : (new : Account) → IsTaken system (get_or lines n x) new → new ≡ after_lines d room states (take (n + 1) lines) new.failures
  one_taken new taken =
      taken.written
      ∙ ap (λ (a : Account). record a { journal = a.journal ++ get_or lines n x ∷ []; failures = new.failures }) so_far
      ∙ ap (λ ls. after_lines d room states ls new.failures) (sym (take_more lines n x within))

  -- the first line that isn't taken
  pub one_refused : (may_fail : Type 0) (next : Account) (fault : TakeFault) (left : List State) → IsSystem system → IsTakeFault may_fail system (get_or lines n x) fault next → AreDevicesOf next left
      → IsStoppedAt may_fail d room states lines n fault left
  one_refused may_fail next fault left right wrong devices = record {
    line = get_or lines n x;
    at = slice_get-get_or lines n x within;
    failures = system.failures;
    right = subst IsSystem so_far right;
    next = next;
    wrong = subst (λ (a : Account). IsTakeFault may_fail a (get_or lines n x) fault next) so_far wrong;
    devices = subst (λ (a : Account). AreDevicesOf a left) so_far (kept_devices may_fail system next (get_or lines n x) fault left wrong devices);
  }
