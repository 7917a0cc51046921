-- An operation gives its term to the run of its number.
use Rattle.std.proofs.Common.{◌++◌, ◌+◌, ◌<◌, ◌∙◌, length, get_or, drop, None, ap, sym, arith}
use Rattle.std.proofs.lemmas.List.{length-set}
use Rattle.path_trim.specs.declared.table.LeanOp.{LeanOp}
use Rattle.path_gate.specs.Inner.Initial.{terms_for, ops_terms}
use Rattle.path_gate.proofs.Runs.{pushed, op_added, drop_more}
use Rattle.path_gate.proofs.gate.table.add_terms.Goals as goal

pub loop-lean_op-preserved : goal.loop-lean_op-preserved
loop-lean_op-preserved g c =
    let i = c.loop-lean_op.lean_op-index in
    let o : LeanOp = get_or c.args.ops.now i (record { op = record { 0 = 0 }; prologue = None; epilogue = None }) in
    let l : i < length c.args.ops.now = omega arith in
    let low : o.op.0 < length c.loop-lean_op.by_op.items = (let a = c.requires i (record { op = record { 0 = 0 }; prologue = None; epilogue = None }) l in let b = c.loop-lean_op.invariant.kept in omega (arith, a, b)) in
    record {
      kept = length-set _ _ _ ∙ c.loop-lean_op.invariant.kept;
      added = λ a. op_added c.args.path o (drop (i + 1) c.args.ops.now) a (terms_for c.loop-lean_op.by_op.items a) _ _
          (pushed (λ terms. terms.items) c.loop-lean_op.by_op.items o.op.0 c.index_mut-terms.result.now c.push.new.self (record { path = c.args.path; prologue = o.prologue; epilogue = o.epilogue }) a low c.index_mut-terms.ensures.value c.in_ok-push.ensures.items)
          (ap (λ os. terms_for c.loop-lean_op.by_op.items a ++ ops_terms c.args.path os a) (sym (drop_more c.args.ops.now i (record { op = record { 0 = 0 }; prologue = None; epilogue = None }) l)) ∙ c.loop-lean_op.invariant.added a);
    }
