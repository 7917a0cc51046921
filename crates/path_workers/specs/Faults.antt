-- What each error of a settlement means.
use Rattle.std.specs.Prelude.{◌≡◌, ◌≢◌, ℕ, ◌-◌, ◌≤◌, List, length, min}
use Rattle.path_model.specs.declared.journal.Line.{Line}
use Rattle.path_workers.specs.declared.settle.SettleFault.{SettleFault}
use Rattle.path_workers.specs.declared.settle.SettleFault.TheVariants.{MissingPass, Mismatch}
use Rattle.path_workers.specs.Attempts.{Held}
use Rattle.path_workers.specs.Settled.{receipts_of, IsFirstMismatch}

-- the numbers of lines and of receipts differ, and the error has both (u64::MAX for more receipts than a u64 counts);
-- or they are equal, and the place is the first whose line isn't equal to exactly one receipt
abbrev pub IsFault : ℕ → List Line → List Held → SettleFault → Type 0
IsFault b lines hs (MissingPass n m) =
    (n ≡ length lines - b) × (m ≡ min 18446744073709551615 (receipts_of hs)) × (n ≢ receipts_of hs)
IsFault b lines hs (Mismatch p) = (receipts_of hs ≡ length lines - b) × IsFirstMismatch b lines hs p

-- there are no more receipts than lines
abbrev pub FewReceipts : SettleFault → Type 0
FewReceipts (MissingPass n m) = m ≤ n
FewReceipts (Mismatch p) = Unit {0}
