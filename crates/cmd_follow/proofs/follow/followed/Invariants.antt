-- The lines of the blocks so far were taken.
use Rattle.std.proofs.Common.{◌<◌, List, vec_len}
use Rattle.path_model.specs.declared.journal.Line.{Line}
use Rattle.path_fields.specs.Splits.{HasNone}
use Rattle.path_shelf.specs.States.{MayFail}
use Rattle.cmd_follow.specs.Inner.Taken.{PassesRead}
use Rattle.cmd_follow.proofs.follow.followed.Given as goal

abbrev pub invariant-loop : goal.invariant-loop
invariant-loop g l = record {
  passes : PassesRead (MayFail g.D.Device.state) l.initial.follower.system l.follower.system (g.R.Read.remaining l.initial.input) (g.R.Read.remaining l.input)
      l.pending.items l.initial.follower.refused l.follower.refused (g.O.Write.contents l.initial.out) (g.O.Write.contents l.out);
  kept : (first : g.row.K.Denot) (found : List Line) → g.K.Keeper.keeps first l.initial.keeper found l.initial.follower.system.journal
      → g.K.Keeper.keeps first l.keeper found l.follower.system.journal;
  one : HasNone 10 l.pending.items;
  some : 0 < vec_len l.block;
}
