-- One segment more was taken.
use Rattle.std.specs.Prelude.{map}
use Rattle.std.proofs.Common.{◌≡◌, ◌<◌, List, [], length, get_or, ◌∙◌, arith}
use Rattle.path_model.specs.declared.journal.Line.{Line}
use Rattle.tell_journals.proofs.Going.{Begins, first_begins, next_begins, one_more, turned}
use Rattle.tell_journals.proofs.Wrong.{lines_there, within_lists}
use Rattle.tell_journals.proofs.taking.take_segments.Goals as goal
use Rattle.tell_journals.proofs.taking.take_segments.Goals.{then-i-gt0, else-i-gt0}

pub take_lines-requires-clause-right : goal.take_lines-requires-clause-right
take_lines-requires-clause-right g c = elim c.if-i-gt0.branch [
  | then-i-gt0 w ↦ rw w.system-is (turned _ _ c.loop-i.invariant.is_system w.rotate.ensures.rotated w.rotate.ensures.controlled)
  | else-i-gt0 w ↦ rw w.system-is c.loop-i.invariant.is_system
]

pub loop-i-preserved : goal.loop-i-preserved
loop-i-preserved g c =
    let lists : List (List Line) = map (λ lines. lines.items) c.args.segments.now in
    let is : c.deref.result.now ≡ get_or lists c.loop-i.i [] = c.deref.ensures.value ∙ lines_there (λ lines. lines.items) c.args.segments.now c.loop-i.i c.index-segments-i.result c.loop-i-test.true c.index-segments-i.is in
    let within : c.loop-i.i < length lists = within_lists (λ lines. lines.items) c.args.segments.now c.loop-i.i c.index-segments-i.result c.loop-i-test.true c.index-segments-i.is in
    let begins : Begins c.args.system.now lists c.loop-i.i c.if-i-gt0.system = elim c.if-i-gt0.branch [
      | then-i-gt0 w ↦ rw w.system-is (next_begins c.args.system.now lists c.loop-i.i c.loop-i.system _ w.if-i-gt0.true c.loop-i.invariant w.rotate.ensures.rotated (turned _ _ c.loop-i.invariant.is_system w.rotate.ensures.rotated w.rotate.ensures.controlled))
      | else-i-gt0 w ↦ rw w.system-is (first_begins c.args.system.now lists c.loop-i.i c.loop-i.system (omega (arith, w.if-i-gt0.false)) c.loop-i.invariant)
    ] in
    one_more c.args.system.now lists c.loop-i.i c.deref.result.now c.if-i-gt0.system c.take_lines.new.system within is begins c.in_default.ensures.taken
