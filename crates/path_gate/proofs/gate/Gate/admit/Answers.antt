-- If no term blocks, the passes move the gate by one start; otherwise nothing is written.
use Rattle.std.proofs.Common.{◌<◌, Ok, Err, ap, arith}
use Rattle.path_gate.specs.Levels.{Levels}
use Rattle.path_gate.specs.Inner.Terms.{one_more}
use Rattle.path_gate.proofs.Sound.{within, judges, stay, starts, counted, count_small, begun_sound, begun_places, admits, written}
use Rattle.path_gate.proofs.gate.Gate.admit.Goals as goal

pub run_of-terms-requires : goal.run_of-terms-requires
run_of-terms-requires g c = rw (c.deref.ensures.value, c.deref-2.ensures.value) c.self.invariant.laid_out

pub first_blocked-requires : goal.first_blocked-requires
first_blocked-requires g c = within _ _ c.self.invariant.sound c.args.op c.run_of-terms.result.now (rw (← c.deref.ensures.value, ← c.deref-2.ensures.value) c.run_of-terms.ensures)

pub returns-in-Err-clause-judges : goal.returns-in-Err-clause-judges
returns-in-Err-clause-judges g c = rw (← c.self.view_is) (judges _ _ c.self.invariant.sound c.args.op c.run_of-terms.result.now (rw (← c.deref.ensures.value, ← c.deref-2.ensures.value) c.run_of-terms.ensures) (Err c.in-Err.path) c.in-Err.ensures)

pub start_all-requires-clause-within : goal.start_all-requires-clause-within
start_all-requires-clause-within g c = within _ _ c.self.invariant.sound c.args.op c.run_of-terms.result.now (rw (← c.deref.ensures.value, ← c.deref-2.ensures.value) c.run_of-terms.ensures)

pub start_all-requires-clause-can : goal.start_all-requires-clause-can
start_all-requires-clause-can g c =
    let room : c.self.inside.admitted < 4294967295 = rw (← c.self.view_is) at c.requires in
    starts _ _ c.self.invariant.sound c.args.op c.run_of-terms.result.now (rw (← c.deref.ensures.value, ← c.deref-2.ensures.value) c.run_of-terms.ensures) (omega (arith, room)) c.in-Ok.ensures

pub count_start-requires-clause-within : goal.count_start-requires-clause-within
count_start-requires-clause-within g c = rw c.deref_mut.ensures.value (counted _ _ c.self.invariant.sound c.args.op c.run_of-terms.result.now (rw (← c.deref.ensures.value, ← c.deref-2.ensures.value) c.run_of-terms.ensures))

pub count_start-requires-clause-small : goal.count_start-requires-clause-small
count_start-requires-clause-small g c =
    rw c.deref_mut.ensures.value (λ n.
    let most = count_small _ _ c.self.invariant.sound c.args.op c.run_of-terms.result.now (rw (← c.deref.ensures.value, ← c.deref-2.ensures.value) c.run_of-terms.ensures) n in
    let room : c.self.inside.admitted < 4294967295 = rw (← c.self.view_is) at c.requires in
    omega (arith, most, room))

pub invariant_of-self : goal.invariant_of-self
invariant_of-self g c =
    let terms = c.run_of-terms.result.now in
    let semaphores = ap (λ (v : Levels). v.semaphores) c.start_all.ensures in
    let counters = ap (λ (v : Levels). v.counters) c.start_all.ensures in
    let counts = written c.self.inside.in_progress.len c.count_start.new.in_progress c.deref_mut.result.now c.self.inside.in_progress.items (one_more terms c.args.op.0 c.self.inside.in_progress.items) c.self.inside.in_progress.ok.0 c.deref_mut.ensures.value c.count_start.auto.in_progress (rw c.deref_mut.ensures.value at c.count_start.ensures) in
    record {
      sound = rw (semaphores, counters, counts) (begun_sound _ _ c.self.invariant.sound c.args.op terms (rw (← c.deref.ensures.value, ← c.deref-2.ensures.value) c.run_of-terms.ensures) c.in-Ok.ensures);
      laid_out = c.self.invariant.laid_out;
    }

pub returns-in-Ok-clause-judges : goal.returns-in-Ok-clause-judges
returns-in-Ok-clause-judges g c = rw (← c.self.view_is) (judges _ _ c.self.invariant.sound c.args.op c.run_of-terms.result.now (rw (← c.deref.ensures.value, ← c.deref-2.ensures.value) c.run_of-terms.ensures) (Ok tt) c.in-Ok.ensures)

pub returns-in-Ok-clause-ok : goal.returns-in-Ok-clause-ok
returns-in-Ok-clause-ok g c =
    let terms = c.run_of-terms.result.now in
    let semaphores = ap (λ (v : Levels). v.semaphores) c.start_all.ensures in
    let counters = ap (λ (v : Levels). v.counters) c.start_all.ensures in
    let counts = written c.self.inside.in_progress.len c.count_start.new.in_progress c.deref_mut.result.now c.self.inside.in_progress.items (one_more terms c.args.op.0 c.self.inside.in_progress.items) c.self.inside.in_progress.ok.0 c.deref_mut.ensures.value c.count_start.auto.in_progress (rw c.deref_mut.ensures.value at c.count_start.ensures) in
    rw (← c.self.view_is, semaphores, counters, counts) (admits _ _ c.self.invariant.sound c.args.op terms (rw (← c.deref.ensures.value, ← c.deref-2.ensures.value) c.run_of-terms.ensures))

pub returns-in-Ok-clause-blocks : goal.returns-in-Ok-clause-blocks
returns-in-Ok-clause-blocks g c = rw (← c.self.view_is) (stay _ _ c.self.invariant.sound c.args.op c.run_of-terms.result.now (rw (← c.deref.ensures.value, ← c.deref-2.ensures.value) c.run_of-terms.ensures))

pub returns-in-Ok-clause-places : goal.returns-in-Ok-clause-places
returns-in-Ok-clause-places g c =
    let terms = c.run_of-terms.result.now in
    let semaphores = ap (λ (v : Levels). v.semaphores) c.start_all.ensures in
    let counters = ap (λ (v : Levels). v.counters) c.start_all.ensures in
    let counts = written c.self.inside.in_progress.len c.count_start.new.in_progress c.deref_mut.result.now c.self.inside.in_progress.items (one_more terms c.args.op.0 c.self.inside.in_progress.items) c.self.inside.in_progress.ok.0 c.deref_mut.ensures.value c.count_start.auto.in_progress (rw c.deref_mut.ensures.value at c.count_start.ensures) in
    rw (← c.self.view_is, semaphores, counters, counts) (begun_places _ _ c.self.invariant.sound c.args.op terms (rw (← c.deref.ensures.value, ← c.deref-2.ensures.value) c.run_of-terms.ensures))
