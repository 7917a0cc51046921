-- If what was read is within the limit, it is all there is.
use Rattle.std.proofs.Common.{arith}
use Rattle.tell_base.proofs.InputLemmas.{read_whole}
use Rattle.tell_base.proofs.input.read_all.Goals as goal

pub returns-in-Ok-2-clause-ok : goal.returns-in-Ok-2-clause-ok
returns-in-Ok-2-clause-ok g c =
    let h = rw (c.take.ensures.limit, c.take.ensures.inner, c.in_ok-bytes.ensures.items) at c.in-Ok-2.ensures.bytes in
    rw c.shrink_to_fit.ensures.items (omega (arith, c.len.ensures), read_whole (g.R.Read.remaining c.args.reader) _ _ h (omega (arith, c.len.ensures, c.saturating_add-most.ensures, c.read_to_end.new.buf.small)))
