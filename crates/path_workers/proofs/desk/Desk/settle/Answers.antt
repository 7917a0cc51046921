use Rattle.path_workers.proofs.desk.Desk.settle.Goals as goal

pub close-requires : goal.close-requires
close-requires g c κs = λ within. within

pub compared-requires : goal.compared-requires
compared-requires g c κs = λ within. within
