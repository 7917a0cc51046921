-- Each line is written behind those before it, and then all are synced.
use Rattle.std.proofs.Common.{arith, not, ◌++◌, [], length, take, refl, sym, ◌∙◌, subst}
use Rattle.std.specs.Result.{OnOk}
use Rattle.std.proofs.lemmas.List.{append-nil, take_all}
use Rattle.std.proofs.lemmas.Result.{IfErr-weaker}
use Rattle.path_store.specs.Stores.{IsStored}
use Rattle.path_store.proofs.Broken.{broken_as, broken_same, breaks_left, err_as, not_broken, past_limit, size_so_far, step_fault, still_stored}
use Rattle.path_store.proofs.Crash.{one_line, run_start, run_more, run_end}
use Rattle.path_store.proofs.store.Store.commit.Goals as goal

pub loop-line-init : goal.loop-line-init
loop-line-init g c = record {
  room = refl;
  decl = refl;
  broken = refl;
  size = omega arith;
  stored = λ synced fresh s. subst (λ x. IsStored g.D.Device.holds g.D.Device.may_leave c.args.self.now synced x) (sym (append-nil fresh)) s;
  so_far = λ synced fresh s. run_start g.D.Device.holds g.D.Device.may_leave c.args.self.now.decl.declaration c.args.self.now.room g.D.Device.moment g.D.Device.left_since g.met.D.Device.only_now c.args.self.now.device c.args.self.now.length synced fresh c.args.lines.now s.lines;
}

pub loop-line-preserved : goal.loop-line-preserved
loop-line-preserved g c =
    let i = c.loop-line.invariant in
    record {
      room = c.append.ensures.room ∙ i.room;
      decl = c.append.ensures.decl ∙ i.decl;
      broken = c.in_ok-append.ensures.going_on ∙ sym (not_broken _ c.in_ok-append.was c.append.ensures.was_broken) ∙ i.broken;
      size = size_so_far c.loop-line.self.decl.declaration c.args.self.now.decl.declaration c.args.lines.now c.loop-line.line-index _ (not c.loop-line.self.synced) c.args.self.now.length c.loop-line.self.length c.append.new.self.length i.decl c.loop-line-test.true i.size c.in_ok-append.ensures.length;
      stored = λ synced fresh s. subst (λ x. IsStored g.D.Device.holds g.D.Device.may_leave c.append.new.self synced x) (one_line fresh c.args.lines.now c.loop-line.line-index _ c.loop-line-test.true) (c.in_ok-append.ensures.stored synced (fresh ++ take c.loop-line.line-index c.args.lines.now) (i.stored synced fresh s));
      so_far = λ synced fresh s. run_more g.D.Device.holds g.D.Device.may_leave c.args.self.now.decl.declaration c.args.self.now.room g.D.Device.moment g.D.Device.left_since g.met.D.Device.only_now c.args.self.now.device c.loop-line.self.device c.append.new.self.device synced fresh c.args.lines.now c.loop-line.line-index c.loop-line.self.room c.loop-line.self.decl.declaration _ i.room i.decl c.loop-line-test.true (i.so_far synced fresh s) (c.append.ensures.any_moment synced (fresh ++ take c.loop-line.line-index c.args.lines.now) (i.stored synced fresh s));
    }

pub returns-in_err-append-clause-any_moment : goal.returns-in_err-append-clause-any_moment
returns-in_err-append-clause-any_moment g c = λ synced fresh s.
    let i = c.loop-line.invariant in
    run_more g.D.Device.holds g.D.Device.may_leave c.args.self.now.decl.declaration c.args.self.now.room g.D.Device.moment g.D.Device.left_since g.met.D.Device.only_now c.args.self.now.device c.loop-line.self.device c.append.new.self.device synced fresh c.args.lines.now c.loop-line.line-index c.loop-line.self.room c.loop-line.self.decl.declaration _ i.room i.decl c.loop-line-test.true (i.so_far synced fresh s) (c.append.ensures.any_moment synced (fresh ++ take c.loop-line.line-index c.args.lines.now) (i.stored synced fresh s))

pub returns-clause-any_moment : goal.returns-clause-any_moment
returns-clause-any_moment g c = λ synced fresh s.
    let i = c.loop-line.invariant in
    run_end g.D.Device.holds g.D.Device.may_leave c.args.self.now.decl.declaration c.args.self.now.room g.D.Device.moment g.D.Device.left_since g.met.D.Device.only_now c.args.self.now.device c.loop-line.self.device c.sync.new.self.device synced fresh c.args.lines.now c.loop-line.line-index c.loop-line.self.room c.loop-line.self.decl.declaration i.room i.decl (i.so_far synced fresh s) (c.sync.ensures.any_moment synced (fresh ++ take c.loop-line.line-index c.args.lines.now) (i.stored synced fresh s))

pub returns-clause-stored : goal.returns-clause-stored
returns-clause-stored g c = λ synced fresh s.
    let i = c.loop-line.invariant in
    let past = c.loop-line-test.false in
    let all = take_all c.loop-line.line-index c.args.lines.now past in
    subst (λ x. OnOk c.sync.result (IsStored g.D.Device.holds g.D.Device.may_leave c.sync.new.self (synced ++ (fresh ++ x)) [])) all (c.sync.ensures.stored synced (fresh ++ take c.loop-line.line-index c.args.lines.now) (i.stored synced fresh s))

pub returns-in_err-append-clause-was_broken : goal.returns-in_err-append-clause-was_broken
returns-in_err-append-clause-was_broken g c =
    let i = c.loop-line.invariant in
    broken_as c.from_residual.result c.append.result _ _ _ c.from_residual.ensures.1 c.in_err-append.was i.broken c.append.ensures.was_broken

pub returns-in_err-append-clause-fault : goal.returns-in_err-append-clause-fault
returns-in_err-append-clause-fault g c =
    let i = c.loop-line.invariant in
    err_as c.from_residual.result c.in_err-append.field-0.0 _ c.from_residual.ensures.1
    (step_fault c.in_err-append.field-0.0 _ _ _ _ _ (λ b. sym i.broken ∙ b) (λ long. past_limit c.loop-line.self.decl.declaration c.args.self.now.decl.declaration c.args.lines.now c.loop-line.line-index _ (not c.loop-line.self.synced) c.args.self.now.length c.loop-line.self.length i.decl c.loop-line-test.true i.size long) c.in_err-append.ensures.fault)

pub returns-in_err-append-clause-left : goal.returns-in_err-append-clause-left
returns-in_err-append-clause-left g c =
    let i = c.loop-line.invariant in
    err_as c.from_residual.result c.in_err-append.field-0.0 _ c.from_residual.ensures.1 (breaks_left c.loop-line.self c.append.new.self _ c.in_err-append.field-0.0 i.broken c.in_err-append.ensures.left)

pub returns-in_err-append-clause-written : goal.returns-in_err-append-clause-written
returns-in_err-append-clause-written g c = λ synced fresh s.
    let i = c.loop-line.invariant in
    let lt = c.loop-line-test.true in
    err_as c.from_residual.result c.in_err-append.field-0.0 _ c.from_residual.ensures.1
    (λ refused. (c.loop-line.line-index, omega (arith, lt), still_stored g.D.Device.holds g.D.Device.may_leave c.loop-line.self c.append.new.self c.in_err-append.field-0.0 synced (fresh ++ take c.loop-line.line-index c.args.lines.now) refused c.in_err-append.ensures.left (i.stored synced fresh s)))

pub returns-clause-was_broken : goal.returns-clause-was_broken
returns-clause-was_broken g c = let i = c.loop-line.invariant in broken_same c.sync.result _ _ i.broken c.sync.ensures.was_broken

pub returns-clause-fault : goal.returns-clause-fault
returns-clause-fault g c =
    let i = c.loop-line.invariant in
    IfErr-weaker c.sync.result _ _ (λ e fault. step_fault e _ _ _ _ _ (λ b. sym i.broken ∙ b) absurd fault) c.sync.ensures.fault

pub returns-clause-left : goal.returns-clause-left
returns-clause-left g c =
    let i = c.loop-line.invariant in
    IfErr-weaker c.sync.result _ _ (λ e left. breaks_left c.loop-line.self c.sync.new.self _ e i.broken left) c.sync.ensures.left

pub returns-clause-written : goal.returns-clause-written
returns-clause-written g c = λ synced fresh s.
    let i = c.loop-line.invariant in
    let past = c.loop-line-test.false in
    let all = take_all c.loop-line.line-index c.args.lines.now past in
    IfErr-weaker c.sync.result _ _
    (λ e left refused. (
      length c.args.lines.now,
      omega arith,
      subst (λ x. IsStored g.D.Device.holds g.D.Device.may_leave c.sync.new.self synced (fresh ++ x)) (all ∙ sym (take_all (length c.args.lines.now) c.args.lines.now (omega arith)))
          (still_stored g.D.Device.holds g.D.Device.may_leave c.loop-line.self c.sync.new.self e synced (fresh ++ take c.loop-line.line-index c.args.lines.now) refused left (i.stored synced fresh s)),
    ))
    c.sync.ensures.left
