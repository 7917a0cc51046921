-- The replay begins behind nothing, so what was found holds of the lines alone.
use Rattle.std.proofs.Common.{[], subst, ◌∙◌}
use Rattle.path_model.specs.Rooms.{IsRoom}
use Rattle.tell_base.specs.Own.{own_openings}
use Rattle.cmd_explain.proofs.journal.examined.Goals as goal

pub returns-in-Ok-clause-ok : goal.returns-in-Ok-clause-ok
returns-in-Ok-clause-ok g c =
    c.in_ok-examined-in-Ok.ensures.found (own_openings c.args.decl.now.declaration) [] (rw (c.deref.ensures.value, c.in_ok-openings.ensures) at c.in-Ok.ensures.opened)

pub returns-in-Ok-clause-room : goal.returns-in-Ok-clause-room
returns-in-Ok-clause-room g c = c.in_ok-examined-in-Ok.ensures.room ∙ c.in-Ok.ensures.room

pub returns-in-Ok-clause-good_room : goal.returns-in-Ok-clause-good_room
returns-in-Ok-clause-good_room g c = subst IsRoom c.in-Ok.ensures.room c.in-Ok.ensures.opened.good_room
