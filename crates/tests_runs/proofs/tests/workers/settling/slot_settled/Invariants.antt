-- The desk is a new one, over this system.
use Rattle.tests_runs.proofs.tests.workers.settling.slot_settled.Given as goal

abbrev pub ghosts-exchanged-L-Ledger : goal.ghosts-exchanged-L-Ledger
ghosts-exchanged-L-Ledger g a = record { name = a.blank.name; parts = a.blank.parts }

abbrev pub ghosts-exchanged-L-DeskName : goal.ghosts-exchanged-L-DeskName
ghosts-exchanged-L-DeskName g a = record { opened = a.system }
