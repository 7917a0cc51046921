-- A head stands there whole, or none does.
use Rattle.path_journal.proofs.CutLemmas.{none_to}
use Rattle.path_journal.proofs.KeptHeads.{no_heads, short_two, short_three}
use Rattle.path_journal.proofs.cut.whole_head.Goals as goal

pub returns-in-Ok-clause-none : goal.returns-in-Ok-clause-none
returns-in-Ok-clause-none c = none_to c.behind_feed.result _ _ (λ none. short_two c.args.text.now c.in-Ok.rest.now c.in-Ok.room c.in-Ok.ensures.ok.0 c.in-Ok.ensures.ok.1 c.in-Ok.ensures.ok.2 none) c.behind_feed.ensures.none

pub returns-in-Ok-read_kept_head-clause-none : goal.returns-in-Ok-read_kept_head-clause-none
returns-in-Ok-read_kept_head-clause-none c = none_to c.behind_feed-in-Ok-read_kept_head.result _ _ (λ none. short_three c.args.text.now c.in-Ok-read_kept_head.rest.now c.in-Ok-read_kept_head.room c.in-Ok-read_kept_head.ensures.ok.0 c.in-Ok-read_kept_head.ensures.ok.1 c.in-Ok-read_kept_head.ensures.ok.2 none) c.behind_feed-in-Ok-read_kept_head.ensures.none

pub returns-in-Err-read_kept_head-clause-none : goal.returns-in-Err-read_kept_head-clause-none
returns-in-Err-read_kept_head-clause-none c = no_heads c.args.text.now c.in-Err.ensures.err c.in-Err-read_kept_head.ensures.err
