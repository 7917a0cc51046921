-- The passes move the gate by one finish.
use Rattle.std.proofs.Common.{ap, arith}
use Rattle.path_gate.specs.Levels.{Levels}
use Rattle.path_gate.specs.Inner.Terms.{one_less}
use Rattle.path_gate.proofs.Sound.{within, finishes, counted, named, unmoved, ended_sound, ended_places, releases, written}
use Rattle.path_gate.proofs.gate.Gate.release.Goals as goal

pub run_of-terms-requires : goal.run_of-terms-requires
run_of-terms-requires g c = rw (c.deref.ensures.value, c.deref-2.ensures.value) c.self.invariant.laid_out

pub finish_all-requires-clause-within : goal.finish_all-requires-clause-within
finish_all-requires-clause-within g c = within _ _ c.self.invariant.sound c.args.op c.run_of-terms.result.now (rw (← c.deref.ensures.value, ← c.deref-2.ensures.value) c.run_of-terms.ensures)

pub finish_all-requires-clause-can : goal.finish_all-requires-clause-can
finish_all-requires-clause-can g c = finishes _ _ c.self.invariant.sound c.args.op c.run_of-terms.result.now (rw (← c.deref.ensures.value, ← c.deref-2.ensures.value) c.run_of-terms.ensures) (rw (← c.self.view_is) at c.requires) (omega arith)

pub count_finish-requires-clause-within : goal.count_finish-requires-clause-within
count_finish-requires-clause-within g c = rw c.deref_mut.ensures.value (counted _ _ c.self.invariant.sound c.args.op c.run_of-terms.result.now (rw (← c.deref.ensures.value, ← c.deref-2.ensures.value) c.run_of-terms.ensures))

pub count_finish-requires-clause-some : goal.count_finish-requires-clause-some
count_finish-requires-clause-some g c =
    rw c.deref_mut.ensures.value (λ n. (rw (← c.self.view_is) at c.requires) (named _ _ c.self.invariant.sound c.args.op c.run_of-terms.result.now (rw (← c.deref.ensures.value, ← c.deref-2.ensures.value) c.run_of-terms.ensures) n))

pub invariant_of-self : goal.invariant_of-self
invariant_of-self g c =
    let terms = c.run_of-terms.result.now in
    let semaphores = ap (λ (v : Levels). v.semaphores) c.finish_all.ensures in
    let counters = ap (λ (v : Levels). v.counters) c.finish_all.ensures in
    let counts = written c.self.inside.in_progress.len c.count_finish.new.in_progress c.deref_mut.result.now c.self.inside.in_progress.items (one_less terms c.args.op.0 c.self.inside.in_progress.items) c.self.inside.in_progress.ok.0 c.deref_mut.ensures.value c.count_finish.auto.in_progress (rw c.deref_mut.ensures.value at c.count_finish.ensures) in
    record {
      sound = rw (semaphores, counters, counts) (ended_sound _ _ c.self.invariant.sound c.args.op terms (rw (← c.deref.ensures.value, ← c.deref-2.ensures.value) c.run_of-terms.ensures) (rw (← c.self.view_is) at c.requires));
      laid_out = c.self.invariant.laid_out;
    }

pub returns-clause-moves : goal.returns-clause-moves
returns-clause-moves g c =
    let terms = c.run_of-terms.result.now in
    let semaphores = ap (λ (v : Levels). v.semaphores) c.finish_all.ensures in
    let counters = ap (λ (v : Levels). v.counters) c.finish_all.ensures in
    let counts = written c.self.inside.in_progress.len c.count_finish.new.in_progress c.deref_mut.result.now c.self.inside.in_progress.items (one_less terms c.args.op.0 c.self.inside.in_progress.items) c.self.inside.in_progress.ok.0 c.deref_mut.ensures.value c.count_finish.auto.in_progress (rw c.deref_mut.ensures.value at c.count_finish.ensures) in
    rw (← c.self.view_is, semaphores, counters, counts) (releases _ _ c.self.invariant.sound c.args.op terms (rw (← c.deref.ensures.value, ← c.deref-2.ensures.value) c.run_of-terms.ensures) (rw (← c.self.view_is) at c.requires))

pub returns-clause-unnamed : goal.returns-clause-unnamed
returns-clause-unnamed g c =
    let terms = c.run_of-terms.result.now in
    let semaphores = ap (λ (v : Levels). v.semaphores) c.finish_all.ensures in
    let counters = ap (λ (v : Levels). v.counters) c.finish_all.ensures in
    let counts = written c.self.inside.in_progress.len c.count_finish.new.in_progress c.deref_mut.result.now c.self.inside.in_progress.items (one_less terms c.args.op.0 c.self.inside.in_progress.items) c.self.inside.in_progress.ok.0 c.deref_mut.ensures.value c.count_finish.auto.in_progress (rw c.deref_mut.ensures.value at c.count_finish.ensures) in
    rw (← c.self.view_is, semaphores, counters, counts) (unmoved _ _ c.self.invariant.sound c.args.op terms (rw (← c.deref.ensures.value, ← c.deref-2.ensures.value) c.run_of-terms.ensures))

pub returns-clause-places : goal.returns-clause-places
returns-clause-places g c =
    let terms = c.run_of-terms.result.now in
    let semaphores = ap (λ (v : Levels). v.semaphores) c.finish_all.ensures in
    let counters = ap (λ (v : Levels). v.counters) c.finish_all.ensures in
    let counts = written c.self.inside.in_progress.len c.count_finish.new.in_progress c.deref_mut.result.now c.self.inside.in_progress.items (one_less terms c.args.op.0 c.self.inside.in_progress.items) c.self.inside.in_progress.ok.0 c.deref_mut.ensures.value c.count_finish.auto.in_progress (rw c.deref_mut.ensures.value at c.count_finish.ensures) in
    rw (← c.self.view_is, semaphores, counters, counts) (ended_places _ _ c.self.invariant.sound c.args.op terms (rw (← c.deref.ensures.value, ← c.deref-2.ensures.value) c.run_of-terms.ensures) (rw (← c.self.view_is) at c.requires))
