-- The first one that has it is the answer, else the path itself.
use Rattle.std.proofs.Common.{◌<◌, ◌≤◌, length, arith, refl, below_more}
use Rattle.cmd_explain.proofs.alike.first_alike.Goals as goal

pub loop-number-preserved : goal.loop-number-preserved
loop-number-preserved g c = below_more _ _ c.loop-number.invariant (λ e. (let t = c.is_alike.ensures.1 e in let f = c.if-is_alike.false in cc))

pub returns-then-is_alike : goal.returns-then-is_alike
returns-then-is_alike g c =
    let within : c.loop-number.number < length c.args.decl.now.declaration.paths = omega arith in
    record { within = within; same = c.is_alike.ensures.0 c.if-is_alike.true; first = c.loop-number.invariant }

pub returns : goal.returns
returns g c =
    let all : c.args.path.0 ≤ c.loop-number.number = omega arith in
    record { within = c.requires; same = refl; first = λ k below. c.loop-number.invariant k (omega (arith, below, all)) }
