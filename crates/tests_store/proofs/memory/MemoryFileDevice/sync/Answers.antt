-- What a sync leaves.
use Rattle.std.proofs.Common.{◌≡◌, ◌++◌, [], List, ℕ, length, take, rules, sym, ◌∙◌, ap, subst, arith}
use Rattle.path_store.specs.Devices.{Torn, Cut, Follows}
use Rattle.tests_store.specs.Memory.{IsLeftOf}
use Rattle.tests_store.proofs.Kept.{appended, none_torn, none_cut, cut_done, sync_done, all_kept, elapses_push}
use Rattle.tests_store.proofs.memory.MemoryFileDevice.sync.Goals as goal

pub returns-clause-crash : goal.returns-clause-crash
returns-clause-crash c = λ x left.
    let kept : c.change.new.self.state.kept.items ≡ c.args.self.now.state.kept.items ++ c.args.self.now.state.fresh.items = search rules in
    let fresh : c.change.new.self.state.fresh.items ≡ [] = search rules in
    sync_done c.args.self.now.state.kept.items c.args.self.now.state.fresh.items x (subst (λ y. IsLeftOf y [] x) kept (subst (λ y. IsLeftOf c.change.new.self.state.kept.items y x) fresh left))

pub returns-clause-durable : goal.returns-clause-durable
returns-clause-durable c = λ b held x left.
    let kept : c.change.new.self.state.kept.items ≡ c.args.self.now.state.kept.items ++ c.args.self.now.state.fresh.items = search rules in
    let fresh : c.change.new.self.state.fresh.items ≡ [] = search rules in
    all_kept c.change.new.self.state.kept.items x (subst (λ y. IsLeftOf c.change.new.self.state.kept.items y x) fresh left) ∙ kept ∙ sym held

pub returns-clause-time : goal.returns-clause-time
returns-clause-time c =
    let past = c.in_ok-change.ensures.past in
    elapses_push c.args.self.now.past.items past.0 c.change.new.self.past.items c.args.self.now.state.kept.items c.args.self.now.state.fresh.items c.change.new.self.state.kept.items c.change.new.self.state.fresh.items past.1 past.2 past.3
