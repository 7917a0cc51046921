-- The desk is a new one, over this system.
use Rattle.example_buffer.proofs.shared.Given as goal

abbrev pub ghosts-shared_by_two-L-Ledger : goal.ghosts-shared_by_two-L-Ledger
ghosts-shared_by_two-L-Ledger g a = record { name = a.blank.name; parts = a.blank.parts }

abbrev pub ghosts-shared_by_two-L-DeskName : goal.ghosts-shared_by_two-L-DeskName
ghosts-shared_by_two-L-DeskName g a = record { opened = a.system }
