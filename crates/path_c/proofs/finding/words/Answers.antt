-- Of a declaration there are no words.
use Rattle.std.proofs.Common.{◌∙◌, ap}
use Rattle.path_c.specs.declared.answer.CodedAnswer.{CodedAnswer}
use Rattle.path_c.proofs.Refused.{refused}
use Rattle.path_c.proofs.finding.words.Goals as goal

pub returns : goal.returns
returns c d declared =
    absurd (refused c.args.text.now d c.in-Err.fault
    (λ is. c.if-undeclared-eq-OUT_OF_MEMORY.false (ap (λ (a : CodedAnswer). a.code) c.undeclared.ensures ∙ is))
    c.in-Err.ensures.err declared)
