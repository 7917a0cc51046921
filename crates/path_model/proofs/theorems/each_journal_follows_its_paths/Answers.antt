use Rattle.path_model.proofs.theorems.each_journal_follows_its_paths.Goals as goal
use Rattle.path_model.proofs.JournalGuarantees.{each_journal_follows_its_paths}

pub returns : goal.returns
returns c = each_journal_follows_its_paths
