-- The desks are new ones, over these systems.
use Rattle.tests_runs.proofs.tests.workers.settling.slots_crossed.Given as goal

abbrev pub ghosts-crossed-L-Ledger : goal.ghosts-crossed-L-Ledger
ghosts-crossed-L-Ledger g a = record { name = a.blank_here.name; parts = a.blank_here.parts }

abbrev pub ghosts-crossed-L-DeskName : goal.ghosts-crossed-L-DeskName
ghosts-crossed-L-DeskName g a = record { opened = a.here }

abbrev pub ghosts-crossed-M-Ledger : goal.ghosts-crossed-M-Ledger
ghosts-crossed-M-Ledger g a = record { name = a.blank_there.name; parts = a.blank_there.parts }

abbrev pub ghosts-crossed-M-DeskName : goal.ghosts-crossed-M-DeskName
ghosts-crossed-M-DeskName g a = record { opened = a.there }
