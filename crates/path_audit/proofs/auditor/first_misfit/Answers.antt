-- One more opening fits.
use Rattle.std.proofs.Common.{arith}
use Rattle.path_audit.proofs.Replayed.{fits_more}
use Rattle.path_audit.proofs.auditor.first_misfit.Goals as goal

pub loop-i-preserved : goal.loop-i-preserved
loop-i-preserved g c =
    fits_more c.args.decl.now.declaration c.args.openings.now c.loop-i.i c.index-openings-i.result c.law_at.result c.loop-i.invariant (omega arith) c.index-openings-i.is c.law_at.ensures
    (c.fits.ensures.0 c.if-not-fits.false)

pub returns : goal.returns
returns g c = λ r l. c.loop-i.invariant r (omega (arith, l))
