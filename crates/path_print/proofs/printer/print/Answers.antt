-- The text of all resources, and that it is a text of the declaration.
use Rattle.std.proofs.Common.{◌≤◌, ◌<◌, [], length, ◌∙◌, arith}
use Rattle.std.proofs.lemmas.Option.{slice_get-get_or}
use Rattle.path_model.specs.declared.resource.Law.TheVariants.{Cell}
use Rattle.path_model.specs.Declarations.{Resource}
use Rattle.path_print.proofs.PrintedLoop.{printing_first, printing_more, printing_end}
use Rattle.path_print.proofs.PrintedText.{printed_walk, printed_again}
use Rattle.path_print.proofs.printer.print.Goals as goal

pub loop-number-init : goal.loop-number-init
loop-number-init g c = rw c.new-out.ensures.bytes (printing_first _)

pub loop-number-preserved : goal.loop-number-preserved
loop-number-preserved g c =
    let within : c.loop-number.number < length c.args.decl.now.declaration.resources = omega arith in
    let none : Resource = record { name = []; law = Cell } in
    let at = slice_get-get_or c.args.decl.now.declaration.resources c.loop-number.number none within in
    printing_more _ _ _ _ _ _ _ _ _ _ _ _ c.loop-number.invariant at (c.in_ok-put_head.ensures _ at) c.in_ok-op.ensures.text c.in_ok-path.ensures.text c.in_ok-push_str.ensures.bytes c.in_ok-op.ensures.next c.in_ok-path.ensures.next

pub returns-clause-text : goal.returns-clause-text
returns-clause-text g c =
    let all : length c.args.decl.now.declaration.resources ≤ c.loop-number.number = omega arith in
    c.in_ok-push_str-2.ensures.bytes ∙ printed_walk c.args.decl.now.declaration _ c.counts-number-end.ensures.declared (printing_end _ _ _ _ _ c.loop-number.invariant all)

pub returns-clause-again : goal.returns-clause-again
returns-clause-again g c = printed_again c.args.decl.now.declaration _ c.counts-number-end.ensures.declared (returns-clause-text g c)
