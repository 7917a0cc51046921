-- What is put back was the gate's at a legal history.
use Rattle.std.proofs.Common.{refl}
use Rattle.path_gate.proofs.Sound.{written, restored_sound, restores}
use Rattle.path_gate.proofs.gate.Gate.restore.Goals as goal

pub invariant_of-self : goal.invariant_of-self
invariant_of-self g c =
    let counts = written c.self.inside.in_progress.len c.write_counts.new.places c.deref_mut.result.now c.self.inside.in_progress.items c.write_counts.new.places c.self.inside.in_progress.ok.0 c.deref_mut.ensures.value c.write_counts.auto.places refl in
    record {
      sound = rw (c.copy_from_slice.ensures.items, c.copy_from_slice-2.ensures.items, counts)
          (restored_sound _ _ c.self.invariant.sound c.args.semaphores.now c.args.counters.now c.args.in_progress.now c.args.admitted (rw (← c.self.view_is) at c.requires)
          c.write_counts.new.places (rw c.deref_mut.ensures.value at c.write_counts.ensures.length) (rw c.deref_mut.ensures.value at c.write_counts.ensures.written) (rw c.deref_mut.ensures.value at c.write_counts.ensures.others));
      laid_out = c.self.invariant.laid_out;
    }

pub returns : goal.returns
returns g c =
    let counts = written c.self.inside.in_progress.len c.write_counts.new.places c.deref_mut.result.now c.self.inside.in_progress.items c.write_counts.new.places c.self.inside.in_progress.ok.0 c.deref_mut.ensures.value c.write_counts.auto.places refl in
    rw (← c.self.view_is, c.copy_from_slice.ensures.items, c.copy_from_slice-2.ensures.items, counts)
    (restores _ _ c.self.invariant.sound c.args.semaphores.now c.args.counters.now c.args.in_progress.now c.args.admitted (rw (← c.self.view_is) at c.requires)
    c.write_counts.new.places (rw c.deref_mut.ensures.value at c.write_counts.ensures.length) (rw c.deref_mut.ensures.value at c.write_counts.ensures.written) (rw c.deref_mut.ensures.value at c.write_counts.ensures.others))
