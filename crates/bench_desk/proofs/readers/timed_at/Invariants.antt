-- The desk is a new one, over this system.
use Rattle.bench_desk.proofs.readers.timed_at.Given as goal

abbrev pub ghosts-measured-L-Ledger : goal.ghosts-measured-L-Ledger
ghosts-measured-L-Ledger g a = record { name = a.blank.name; parts = a.blank.parts }

abbrev pub ghosts-measured-L-DeskName : goal.ghosts-measured-L-DeskName
ghosts-measured-L-DeskName g a = record { opened = a.system }
