-- The desk is a new one, over this system.
use Rattle.example_desk.proofs.served.Given as goal

abbrev pub ghosts-served_by_two-L-Ledger : goal.ghosts-served_by_two-L-Ledger
ghosts-served_by_two-L-Ledger g a = record { name = a.blank.name; parts = a.blank.parts }

abbrev pub ghosts-served_by_two-L-DeskName : goal.ghosts-served_by_two-L-DeskName
ghosts-served_by_two-L-DeskName g a = record { opened = a.system }
