use Rattle.std.proofs.Common.{subst}
use Rattle.path_read.specs.Inner.Parts.{file_parts}
use Rattle.path_read.specs.Inner.Reading.{told}
use Rattle.path_read.specs.Inner.Building.{nothing}
use Rattle.path_read.specs.Inner.Taking.{sound, taken, Follows}
use Rattle.path_read.proofs.Following.{fails_then}
use Rattle.path_read.proofs.Lists.{ok_then, err_then, both_ok, both_err}
use Rattle.path_read.proofs.Whole.{no_file_kept, broken_file}
use Rattle.path_read.proofs.outline.file.Goals as goal

pub returns-clause-found : goal.returns-clause-found
returns-clause-found g c =
    rw c.and.ensures (both_ok c.resources.result c.finish.result _ _ c.resources.ensures.found (λ f.
    let begun = subst (λ x. Follows (file_parts f.0) x (taken c.resources.new.out)) c.new-out.ensures f.2 in
    ok_then c.finish.result (λ d e. let a = subst (λ x. Follows (file_parts f.0) (sound nothing) x) e begun in (f.0, f.1, a.0, a.1)) c.finish.ensures.ok))

pub returns-clause-none : goal.returns-clause-none
returns-clause-none g c =
    let unread = err_then c.resources.result (λ e. fails_then e (no_file_kept (told c.args.tokens.now))) c.resources.ensures.none in
    rw c.and.ensures (both_err c.resources.result c.finish.result _ _ c.resources.ensures.found unread (λ f.
    let begun = subst (λ x. Follows (file_parts f.0) x (taken c.resources.new.out)) c.new-out.ensures f.2 in
    err_then c.finish.result (λ e is. fails_then e (λ none. broken_file _ f.0 f.1 none) (subst (λ x. Follows (file_parts f.0) (sound nothing) x) is begun)) c.finish.ensures.err))
