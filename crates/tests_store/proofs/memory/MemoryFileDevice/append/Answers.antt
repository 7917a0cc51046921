-- What an append may leave.
use Rattle.std.proofs.Common.{◌≡◌, ◌++◌, [], List, ℕ, length, take, rules, sym, ◌∙◌, ap, subst, arith}
use Rattle.path_store.specs.Devices.{Torn, Cut, Follows}
use Rattle.tests_store.specs.Memory.{IsLeftOf}
use Rattle.tests_store.proofs.Kept.{appended, none_torn, none_cut, cut_done, sync_done, all_kept, elapses_push}
use Rattle.tests_store.proofs.memory.MemoryFileDevice.append.Goals as goal

pub returns-in_err-kept-clause-crash : goal.returns-in_err-kept-clause-crash
returns-in_err-kept-clause-crash c = λ b held. none_torn (length b) c.args.bytes.now (IsLeftOf c.args.self.now.state.kept.items c.args.self.now.state.fresh.items)

pub returns-in_err-fresh-clause-crash : goal.returns-in_err-fresh-clause-crash
returns-in_err-fresh-clause-crash c = λ b held. none_torn (length b) c.args.bytes.now (IsLeftOf c.args.self.now.state.kept.items c.args.self.now.state.fresh.items)

pub returns-in_err-extend_from_slice-clause-crash : goal.returns-in_err-extend_from_slice-clause-crash
returns-in_err-extend_from_slice-clause-crash c = λ b held. none_torn (length b) c.args.bytes.now (IsLeftOf c.args.self.now.state.kept.items c.args.self.now.state.fresh.items)

pub returns-in_err-change-clause-crash : goal.returns-in_err-change-clause-crash
returns-in_err-change-clause-crash c = λ b held. subst (λ s. Follows (Torn (length b) c.args.bytes.now) (IsLeftOf c.args.self.now.state.kept.items c.args.self.now.state.fresh.items) (IsLeftOf s.kept.items s.fresh.items)) (sym c.in_err-change.ensures.same.0) (none_torn (length b) c.args.bytes.now (IsLeftOf c.args.self.now.state.kept.items c.args.self.now.state.fresh.items))

pub returns-clause-crash : goal.returns-clause-crash
returns-clause-crash c = λ b held.
    let kept : c.change.new.self.state.kept.items ≡ c.args.self.now.state.kept.items = search rules in
    let fresh : c.change.new.self.state.fresh.items ≡ c.args.self.now.state.fresh.items ++ c.args.bytes.now = search rules in
    subst (λ x. Follows (Torn (length b) c.args.bytes.now) (IsLeftOf c.args.self.now.state.kept.items c.args.self.now.state.fresh.items) (IsLeftOf x c.change.new.self.state.fresh.items)) (sym kept)
    (subst (λ x. Follows (Torn (length b) c.args.bytes.now) (IsLeftOf c.args.self.now.state.kept.items c.args.self.now.state.fresh.items) (IsLeftOf c.args.self.now.state.kept.items x)) (sym fresh) (appended c.args.self.now.state.kept.items c.args.self.now.state.fresh.items c.args.bytes.now (length b) (ap length held)))

pub returns-clause-time : goal.returns-clause-time
returns-clause-time c =
    let past = c.in_ok-change.ensures.past in
    elapses_push c.args.self.now.past.items past.0 c.change.new.self.past.items c.args.self.now.state.kept.items c.args.self.now.state.fresh.items c.change.new.self.state.kept.items c.change.new.self.state.fresh.items past.1 past.2 past.3
