-- An append leaves the lines from before it, with the new one or without.
use Rattle.std.proofs.Common.{◌++◌, arith, not, rules, ap, ◌∙◌}
use Rattle.path_journal.specs.JournalTexts.{LineFits, kept_line}
use Rattle.path_store.proofs.Crash.{more_at_start, append_leaves, has_more}
use Rattle.path_store.proofs.store.Store.append.Goals as goal

pub returns-in_err-check_whole-clause-any_moment : goal.returns-in_err-check_whole-clause-any_moment
returns-in_err-check_whole-clause-any_moment g c = λ synced fresh s.
    more_at_start g.D.Device.holds g.D.Device.may_leave c.args.self.now.decl.declaration c.args.self.now.room g.D.Device.moment g.D.Device.left_since g.met.D.Device.only_now c.args.self.now.device c.args.self.now.length synced fresh c.args.line s.lines

pub returns-in_err-push_kept_line-clause-any_moment : goal.returns-in_err-push_kept_line-clause-any_moment
returns-in_err-push_kept_line-clause-any_moment g c = λ synced fresh s.
    more_at_start g.D.Device.holds g.D.Device.may_leave c.args.self.now.decl.declaration c.args.self.now.room g.D.Device.moment g.D.Device.left_since g.met.D.Device.only_now c.args.self.now.device c.args.self.now.length synced fresh c.args.line s.lines

pub returns-then-length-gt-LIMIT-clause-any_moment : goal.returns-then-length-gt-LIMIT-clause-any_moment
returns-then-length-gt-LIMIT-clause-any_moment g c = λ synced fresh s.
    more_at_start g.D.Device.holds g.D.Device.may_leave c.args.self.now.decl.declaration c.args.self.now.room g.D.Device.moment g.D.Device.left_since g.met.D.Device.only_now c.args.self.now.device c.args.self.now.length synced fresh c.args.line s.lines

pub returns-in_err-append-clause-any_moment : goal.returns-in_err-append-clause-any_moment
returns-in_err-append-clause-any_moment g c = λ synced fresh s.
    let fits : LineFits c.args.line = search rules in
    let is = c.as_bytes.ensures.value ∙ c.in_ok-push_kept_line.ensures ∙ ap (λ x. x ++ kept_line c.args.self.now.decl.declaration (not c.args.self.now.synced, c.args.line)) c.clear.ensures.bytes in
    let saved = c.saturating_add-length.ensures in
    let fits_in = c.if-length-gt-LIMIT.false in
    let long = c.len.ensures in
    let same = c.as_bytes.ensures.len in
    append_leaves g.D.Device.holds g.D.Device.may_leave c.args.self.now.decl.declaration c.args.self.now.room g.D.Device.moment g.D.Device.left_since g.met.D.Device.only_now c.args.self.now.device c.append.new.self c.args.self.now.length c.saturating_add-length.result synced fresh c.args.line c.args.self.now.synced (not c.args.self.now.synced) c.as_bytes.result.now s.lines fits s.none_fresh (λ e. ap not e) is (omega (arith, saved, fits_in, long, same)) (omega (arith, fits_in)) c.append.ensures.crash c.append.ensures.time

pub returns-clause-any_moment : goal.returns-clause-any_moment
returns-clause-any_moment g c = λ synced fresh s.
    let fits : LineFits c.args.line = search rules in
    let is = c.as_bytes.ensures.value ∙ c.in_ok-push_kept_line.ensures ∙ ap (λ x. x ++ kept_line c.args.self.now.decl.declaration (not c.args.self.now.synced, c.args.line)) c.clear.ensures.bytes in
    let saved = c.saturating_add-length.ensures in
    let fits_in = c.if-length-gt-LIMIT.false in
    let long = c.len.ensures in
    let same = c.as_bytes.ensures.len in
    append_leaves g.D.Device.holds g.D.Device.may_leave c.args.self.now.decl.declaration c.args.self.now.room g.D.Device.moment g.D.Device.left_since g.met.D.Device.only_now c.args.self.now.device c.append.new.self c.args.self.now.length c.saturating_add-length.result synced fresh c.args.line c.args.self.now.synced (not c.args.self.now.synced) c.as_bytes.result.now s.lines fits s.none_fresh (λ e. ap not e) is (omega (arith, saved, fits_in, long, same)) (omega (arith, fits_in)) c.append.ensures.crash c.append.ensures.time

pub returns-clause-stored : goal.returns-clause-stored
returns-clause-stored g c = λ synced fresh s.
    let fits : LineFits c.args.line = search rules in
    let is = c.as_bytes.ensures.value ∙ c.in_ok-push_kept_line.ensures ∙ ap (λ x. x ++ kept_line c.args.self.now.decl.declaration (not c.args.self.now.synced, c.args.line)) c.clear.ensures.bytes in
    let saved = c.saturating_add-length.ensures in
    let fits_in = c.if-length-gt-LIMIT.false in
    let long = c.len.ensures in
    let same = c.as_bytes.ensures.len in
    record {
      lines = has_more g.D.Device.holds g.D.Device.may_leave c.args.self.now.decl.declaration c.args.self.now.room c.args.self.now.device c.append.new.self c.args.self.now.length c.saturating_add-length.result synced fresh c.args.line c.args.self.now.synced (not c.args.self.now.synced) c.as_bytes.result.now s.lines fits s.none_fresh (λ e. ap not e) is (omega (arith, saved, fits_in, long, same)) (omega (arith, fits_in)) c.in_ok-append.ensures.written c.append.ensures.crash;
      none_fresh = λ e. cc;
    }
