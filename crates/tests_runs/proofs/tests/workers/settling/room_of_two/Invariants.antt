-- The desk is a new one, over this system.
use Rattle.tests_runs.proofs.tests.workers.settling.room_of_two.Given as goal

abbrev pub ghosts-alone-L-Ledger : goal.ghosts-alone-L-Ledger
ghosts-alone-L-Ledger g a = record { name = a.blank.name; parts = a.blank.parts }

abbrev pub ghosts-alone-L-DeskName : goal.ghosts-alone-L-DeskName
ghosts-alone-L-DeskName g a = record { opened = a.system }
