use Rattle.path_model.proofs.theorems.trimmed_terms_touch_the_kept.Goals as goal
use Rattle.path_model.proofs.KeptTerms.{trimmed_terms_touch_the_kept}

pub returns : goal.returns
returns c = trimmed_terms_touch_the_kept
