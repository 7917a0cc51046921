-- The lines so far were written.
use Rattle.std.proofs.Common.{◌≡◌, ◌≤◌, ◌+◌, ◌++◌, List, length, map, take, true}
use Rattle.path_model.specs.declared.journal.Line.{Line}
use Rattle.path_journal.specs.JournalTexts.{kept_text}
use Rattle.path_store.specs.Devices.{LeavesOnly}
use Rattle.path_store.specs.Stores.{FindsSome, IsStored}
use Rattle.path_store.proofs.store.Store.commit.Given as goal

abbrev pub invariant-loop-line : goal.invariant-loop-line
invariant-loop-line g l = record {
  room : l.self.room ≡ l.fn.self.room;
  decl : l.self.decl.declaration ≡ l.fn.self.decl.declaration;
  broken : l.self.broken ≡ l.fn.self.broken;
  size : l.self.length ≤ l.fn.self.length + length (kept_text l.fn.self.decl.declaration (map (λ line. (true, line)) (take l.line-index l.lines)));
  stored : (synced fresh : List Line) → IsStored g.D.Device.holds g.D.Device.may_leave l.fn.self synced fresh → IsStored g.D.Device.holds g.D.Device.may_leave l.self synced (fresh ++ take l.line-index l.lines);
  so_far : (synced fresh : List Line) → IsStored g.D.Device.holds g.D.Device.may_leave l.fn.self synced fresh → LeavesOnly g.D.Device.moment g.D.Device.left_since l.fn.self.device l.self.device (FindsSome l.fn.self.decl.declaration l.fn.self.room synced (fresh ++ l.lines));
}
