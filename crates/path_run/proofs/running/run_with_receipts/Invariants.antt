-- The desk is a new one, over this system.
use Rattle.path_run.proofs.running.run_with_receipts.Given as goal

abbrev pub ghosts-run_at-L-Ledger : goal.ghosts-run_at-L-Ledger
ghosts-run_at-L-Ledger g a = record { name = a.blank.name; parts = a.blank.parts }

abbrev pub ghosts-run_at-L-DeskName : goal.ghosts-run_at-L-DeskName
ghosts-run_at-L-DeskName g a = record { opened = g.S.Steps.account a.system }
