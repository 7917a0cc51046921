-- A step adds at most a line, which is counted.
use Rattle.std.proofs.Common.{◌≡◌, length, ap, arith}
use Rattle.path_model.specs.Journals.{with_line}
use Rattle.path_system.specs.Accounts.{Account}
use Rattle.path_workers.proofs.Later.{later_then, one_more}
use Rattle.path_workers.proofs.shared.SharedSystem.stamp.Goals as goal

pub invariant_of-self-2 : goal.invariant_of-self-2
invariant_of-self-2 g c =
    let before : Account = g.S.Steps.account c.self.inside.system in
    let after : Account = g.S.Steps.account c.step-reply.new.self in
    let counted = c.self.invariant.counted in
    let more = one_more before.journal c.args.worker c.args.attempt c.step-reply.result c.in_default.not-NoRoom in
    let grown : length after.journal ≡ length (with_line before.journal c.args.worker c.args.attempt c.step-reply.result) = ap (λ (x : Account). length x.journal) c.step-reply.ensures.journal in
    record {
      later = later_then g.L.DeskName.opened before after c.args.worker c.args.attempt c.step-reply.result c.self.invariant.later c.step-reply.ensures.journal;
      counted = record {
        lines = omega (arith, more, grown, counted.lines);
        booked = omega (arith, c.gain.ensures.total, counted.booked);
        parted = omega (arith, c.gain.ensures.parts, counted.parted);
        unclaimed = c.gain.ensures.rest;
      };
    }
