-- What no path names is not counted.
use Rattle.std.proofs.Common.{◌≡◌, get_or, arith}
use Rattle.std.proofs.lemmas.Grind.{common_steps}
use Rattle.path_gate.proofs.gate.Gate.in_progress.Goals as goal

pub returns-in-Some-clause-unnamed : goal.returns-in-Some-clause-unnamed
returns-in-Some-clause-unnamed g c = rw (← c.self.view_is) (λ none. let idle : get_or c.self.inside.in_progress.items c.args.op.0 0 ≡ 0 = c.self.invariant.sound.idle c.args.op none in grind (arith, common_steps))
