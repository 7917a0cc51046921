-- Each path can have the values, and the gate that has them is at each history that leads there.
use Rattle.std.proofs.Common.{◌≡◌, ◌<◌, ◌^◌, ◌++◌, ℕ, List, length, take, drop, arith, sym, ap, ◌∙◌}
use Rattle.std.proofs.lemmas.List.{take_at}
use Rattle.path_standings.specs.Told.{rows_of}
use Rattle.path_standings.proofs.Leads.{can_have, at_each}
use Rattle.path_standings.proofs.at.gate_at.Goals as goal

-- a list that was lent as a slice, and came back as another of its length
written : (n : ℕ) (after lent values : List ℕ) → n ≡ length values → lent ≡ values → length after ≡ length lent → take n (after ++ drop (length after) values) ≡ after
written n after lent values e same long = take_at after (drop (length after) values) n (long ∙ ap length same ∙ sym e)

pub restore-requires : goal.restore-requires
restore-requires g c =
    let small : c.args.admitted < 2 ^ 32 = omega arith in
    let ss : c.deref.result.now ≡ c.write_paths.new.semaphores =
    c.deref.ensures.value ∙ written c.in_ok-semaphores.semaphores.len c.write_paths.new.semaphores c.deref_mut.result.now c.in_ok-semaphores.semaphores.items c.in_ok-semaphores.semaphores.ok.0 c.deref_mut.ensures.value c.write_paths.auto.semaphores in
    let cs : c.deref-2.result.now ≡ c.write_paths.new.counters =
    c.deref-2.ensures.value ∙ written c.in_ok-counters.counters.len c.write_paths.new.counters c.deref_mut-2.result.now c.in_ok-counters.counters.items c.in_ok-counters.counters.ok.0 c.deref_mut-2.ensures.value c.write_paths.auto.counters in
    let os : c.deref_mut.result.now ≡ c.in_ok-gate.gate.levels.semaphores = c.deref_mut.ensures.value ∙ c.in_ok-semaphores.ensures ∙ c.semaphores.ensures.value in
    let oc : c.deref_mut-2.result.now ≡ c.in_ok-gate.gate.levels.counters = c.deref_mut-2.ensures.value ∙ c.in_ok-counters.ensures ∙ c.counters.ensures in
    rw (ss, cs)
    (can_have c.args.decl.now.declaration c.args.decl.now.lawful c.args.in_progress.now (rows_of c.args.rows.now) c.args.admitted c.requires.operations c.requires.idle c.requires.few small
    c.in_default.ensures.none c.in_ok-gate.gate c.in_ok-gate.ensures.paths c.semaphores.ensures.places c.in_ok-gate.ensures.opened c.write_paths.new.semaphores c.write_paths.new.counters
    (rw (os, oc) at c.in_ok-write_paths.ensures))

pub returns-clause-at : goal.returns-clause-at
returns-clause-at g c = λ h lead.
    (let small : c.args.admitted < 2 ^ 32 = omega arith in
    let ss : c.deref.result.now ≡ c.write_paths.new.semaphores =
    c.deref.ensures.value ∙ written c.in_ok-semaphores.semaphores.len c.write_paths.new.semaphores c.deref_mut.result.now c.in_ok-semaphores.semaphores.items c.in_ok-semaphores.semaphores.ok.0 c.deref_mut.ensures.value c.write_paths.auto.semaphores in
    let cs : c.deref-2.result.now ≡ c.write_paths.new.counters =
    c.deref-2.ensures.value ∙ written c.in_ok-counters.counters.len c.write_paths.new.counters c.deref_mut-2.result.now c.in_ok-counters.counters.items c.in_ok-counters.counters.ok.0 c.deref_mut-2.ensures.value c.write_paths.auto.counters in
    let os : c.deref_mut.result.now ≡ c.in_ok-gate.gate.levels.semaphores = c.deref_mut.ensures.value ∙ c.in_ok-semaphores.ensures ∙ c.semaphores.ensures.value in
    let oc : c.deref_mut-2.result.now ≡ c.in_ok-gate.gate.levels.counters = c.deref_mut-2.ensures.value ∙ c.in_ok-counters.ensures ∙ c.counters.ensures in
    c.restore.ensures.at h (rw (ss, cs)
    (at_each c.args.decl.now.declaration c.args.decl.now.lawful c.args.in_progress.now (rows_of c.args.rows.now) c.args.admitted c.requires.operations c.requires.idle c.requires.few small
    c.in_default.ensures.none c.in_ok-gate.gate c.in_ok-gate.ensures.paths c.semaphores.ensures.places c.in_ok-gate.ensures.opened c.write_paths.new.semaphores c.write_paths.new.counters
    (rw (os, oc) at c.in_ok-write_paths.ensures) h lead)))
