-- The place is on the line behind so many others, or there is no such line.
use Rattle.std.proofs.Common.{arith}
use Rattle.tell_places.proofs.Spots.{spot_behind}
use Rattle.tell_places.proofs.places.spot_behind.Goals as goal

pub returns-in-Some : goal.returns-in-Some
returns-in-Some c = (
  spot_behind c.args.text.now c.in-Some.rest.now _ _ c.args.lines _ _ _ c.in-Some.ensures.some c.until.ensures.parts c.until.ensures.first c.until.ensures.end
      (omega (arith, c.spot_on.ensures.place, c.saturating_sub.ensures)) c.spot_on.ensures.number c.spot_on.ensures.bytes,
  λ rest b. c.spot_on.ensures.number,
)

pub returns-in-None : goal.returns-in-None
returns-in-None c = ((_, c.spot_at.ensures), λ rest b. absurd (c.in-None.ensures.none rest b))
