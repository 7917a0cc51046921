-- Each line read is one more.
use Rattle.std.proofs.Common.{◌∷◌, [], ap, arith, length, length-append}
use Rattle.path_journal.proofs.CutLemmas.{read_more}
use Rattle.path_journal.proofs.cut.whole_lines.Goals as goal

pub loop-line-preserved : goal.loop-line-preserved
loop-line-preserved g c =
    let line = c.in-Some.ensures.some in
    let short = c.in-Some.ensures.shorter in
    let few = c.loop-line.invariant.few in
    let longer = ap length c.in_ok-push.ensures.items in
    let n = length-append c.loop-line.lines.items (c.in-Some.line ∷ []) in
    record {
      read = read_more c.args.decl.now.declaration c.args.marks c.args.text.now c.loop-line.rest.now c.in-Some.after.now c.loop-line.lines.items c.push.new.self.items c.in-Some.line line.0 line.1 line.2 c.in_ok-push.ensures.items c.loop-line.invariant.read;
      few = omega (arith, short, few, longer, n);
    }
