-- The desk is a new one, over this system.
use Rattle.tests_runs.proofs.tests.workers.threads.worked.Given as goal

abbrev pub ghosts-settled-L-Ledger : goal.ghosts-settled-L-Ledger
ghosts-settled-L-Ledger g a = record { name = a.blank.name; parts = a.blank.parts }

abbrev pub ghosts-settled-L-DeskName : goal.ghosts-settled-L-DeskName
ghosts-settled-L-DeskName g a = record { opened = a.system }
