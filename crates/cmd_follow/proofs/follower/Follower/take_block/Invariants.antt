-- The lines so far were taken.
use Rattle.std.proofs.Common.{◌++◌, List, length}
use Rattle.path_model.specs.declared.journal.Line.{Line}
use Rattle.path_fields.specs.Splits.{HasNone}
use Rattle.path_shelf.specs.States.{MayFail}
use Rattle.cmd_follow.specs.Inner.Taken.{Passes}
use Rattle.cmd_follow.proofs.follower.Follower.take_block.Given as goal

abbrev pub invariant-loop-line : goal.invariant-loop-line
invariant-loop-line g l = record {
  passes : Passes (MayFail g.D.Device.state) l.initial.self.system l.self.system (l.initial.pending.items ++ l.block)
      (l.pending.items ++ l.rest) l.initial.self.refused l.self.refused (g.O.Write.contents l.initial.out) (g.O.Write.contents l.out);
  kept : (first : g.row.K.Denot) (found : List Line) → g.K.Keeper.keeps first l.initial.keeper found l.initial.self.system.journal
      → g.K.Keeper.keeps first l.keeper found l.self.system.journal;
  one : HasNone 10 l.pending.items;
}

abbrev pub decreases-loop-line : goal.decreases-loop-line
decreases-loop-line g l = length l.rest
