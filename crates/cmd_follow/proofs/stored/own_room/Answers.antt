-- The room that a file names can be that of a journal, and a read touches nothing.
use Rattle.std.proofs.Common.{◌∙◌, take}
use Rattle.path_store.proofs.CallerLemmas.{read_untouched}
use Rattle.cmd_follow.proofs.Opening.{named_or, named_so}
use Rattle.cmd_follow.proofs.stored.own_room.Goals as goal

pub returns-in_err-front-clause-untouched : goal.returns-in_err-front-clause-untouched
returns-in_err-front-clause-untouched g c =
    read_untouched g.D.Device.holds g.D.Device.may_leave g.D.Device.moment g.D.Device.left_since g.met.D.Device.only_now c.args.device.now c.front.new.self c.front.ensures.holds c.front.ensures.crash c.front.ensures.time

pub returns-clause-untouched : goal.returns-clause-untouched
returns-clause-untouched g c =
    read_untouched g.D.Device.holds g.D.Device.may_leave g.D.Device.moment g.D.Device.left_since g.met.D.Device.only_now c.args.device.now c.front.new.self c.front.ensures.holds c.front.ensures.crash c.front.ensures.time

pub returns-clause-named : goal.returns-clause-named
returns-clause-named g c = λ b held.
    named_so c.version_in.result c.args.room c.unwrap_or.result c.room.result (take 64 b) _ (c.deref.ensures.value ∙ c.in_ok-front.ensures.bytes b held) c.version_in.ensures.fits c.version_in.ensures.no_head c.version_in.ensures.head c.room.ensures c.unwrap_or.ensures

pub returns-clause-room : goal.returns-clause-room
returns-clause-room g c = named_or c.version_in.result c.args.room c.unwrap_or.result c.room.result c.version_in.ensures.fits c.room.ensures c.unwrap_or.ensures
