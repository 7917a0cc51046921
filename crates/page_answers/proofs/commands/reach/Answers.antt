-- The answer is what was written into an empty text; a search that came to no answer has written nothing.
use Rattle.std.proofs.Common.{◌∙◌}
use Rattle.tell_base.specs.Ends.{UnderText}
use Rattle.cmd_explore.specs.Reaches.{OfReach}
use Rattle.page_answers.proofs.Answered.{answered_on}
use Rattle.page_answers.proofs.commands.reach.Goals as goal

pub returns-in-Ended : goal.returns-in-Ended
returns-in-Ended g c =
    answered_on (UnderText c.args.declaration.now (λ d. OfReach d c.args.workers)) c.in-Ended.status _ _ _ _ _ _ c.blank-answer.ensures c.in-Ended.ensures c.ended-answer.ensures.kept c.ended-answer.ensures.failed c.with_place.ensures.status c.with_place.ensures.out

pub returns-in-Undecided : goal.returns-in-Undecided
returns-in-Undecided g c = (c.in-Undecided.ensures.0 ∙ c.blank-answer.ensures, c.in-Undecided.ensures.1)
