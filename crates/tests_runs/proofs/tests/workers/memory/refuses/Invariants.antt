-- The desk is a new one, over this system.
use Rattle.tests_runs.proofs.tests.workers.memory.refuses.Given as goal

abbrev pub ghosts-lines-L-Ledger : goal.ghosts-lines-L-Ledger
ghosts-lines-L-Ledger g a = record { name = a.blank.name; parts = a.blank.parts }

abbrev pub ghosts-lines-L-DeskName : goal.ghosts-lines-L-DeskName
ghosts-lines-L-DeskName g a = record { opened = a.system }
