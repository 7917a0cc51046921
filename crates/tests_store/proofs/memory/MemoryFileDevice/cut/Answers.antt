-- What a cut may leave.
use Rattle.std.proofs.Common.{◌≡◌, ◌≤◌, ◌++◌, [], List, ℕ, length, take, rules, sym, ◌∙◌, ap, subst, arith}
use Rattle.path_store.specs.Devices.{Torn, Cut, Follows}
use Rattle.tests_store.specs.Memory.{IsLeftOf}
use Rattle.tests_store.proofs.Kept.{appended, none_torn, none_cut, cut_done, sync_done, all_kept, elapses_push}
use Rattle.tests_store.proofs.memory.MemoryFileDevice.cut.Goals as goal

pub returns-in_err-kept-clause-crash : goal.returns-in_err-kept-clause-crash
returns-in_err-kept-clause-crash c = λ b held le. none_cut c.args.size (IsLeftOf c.args.self.now.state.kept.items c.args.self.now.state.fresh.items)

pub returns-in_err-change-clause-crash : goal.returns-in_err-change-clause-crash
returns-in_err-change-clause-crash c = λ b held le. subst (λ s. Follows (Cut c.args.size) (IsLeftOf c.args.self.now.state.kept.items c.args.self.now.state.fresh.items) (IsLeftOf s.kept.items s.fresh.items)) (sym c.in_err-change.ensures.same.0) (none_cut c.args.size (IsLeftOf c.args.self.now.state.kept.items c.args.self.now.state.fresh.items))

pub returns-clause-crash : goal.returns-clause-crash
returns-clause-crash c = λ b held le.
    let kept : c.change.new.self.state.kept.items ≡ take c.args.size (c.args.self.now.state.kept.items ++ c.args.self.now.state.fresh.items) = search rules in
    let fresh : c.change.new.self.state.fresh.items ≡ [] = search rules in
    subst (λ x. Follows (Cut c.args.size) (IsLeftOf c.args.self.now.state.kept.items c.args.self.now.state.fresh.items) (IsLeftOf x c.change.new.self.state.fresh.items)) (sym kept)
    (subst (λ x. Follows (Cut c.args.size) (IsLeftOf c.args.self.now.state.kept.items c.args.self.now.state.fresh.items) (IsLeftOf (take c.args.size (c.args.self.now.state.kept.items ++ c.args.self.now.state.fresh.items)) x)) (sym fresh) (cut_done c.args.self.now.state.kept.items c.args.self.now.state.fresh.items c.args.size (subst (λ x. c.args.size ≤ length x) held le)))

pub returns-clause-time : goal.returns-clause-time
returns-clause-time c =
    let past = c.in_ok-change.ensures.past in
    elapses_push c.args.self.now.past.items past.0 c.change.new.self.past.items c.args.self.now.state.kept.items c.args.self.now.state.fresh.items c.change.new.self.state.kept.items c.change.new.self.state.fresh.items past.1 past.2 past.3
