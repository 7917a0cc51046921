-- The declaration or the journal is refused, or what is said of it is written.
use Rattle.std.proofs.Common.{ℕ, List, refl}
use Rattle.tell_base.specs.declared.status.Status.{Status}
use Rattle.tell_base.specs.declared.status.Status.TheVariants.{Done, Unsound}
use Rattle.tell_base.specs.Refusals.{Under}
use Rattle.tell_base.specs.Statuses.{status_of}
use Rattle.tell_base.proofs.CallerLemmas.{ends_told, ends_written}
use Rattle.cmd_explain.specs.Judgements.{IsJudgedText, JudgementEnds}
use Rattle.cmd_explain.proofs.journal.explain_journal.Goals as goal

judged : (declaration : List ℕ) (room : ℕ) (text : List ℕ) (s : Status) (bytes : List ℕ) → Under declaration (λ d. IsJudgedText d room text s bytes) → JudgementEnds declaration room text s bytes
judged declaration room text Done bytes u = u
judged declaration room text Unsound bytes u = u
judged declaration room text s bytes u = absurd u.2

pub returns-in-Ok : goal.returns-in-Ok
returns-in-Ok g c =
    ends_written (JudgementEnds c.args.declaration.now c.args.room c.args.journal.now) _ _ _ _ _ _ c.as_bytes.ensures.value (judged c.args.declaration.now c.args.room c.args.journal.now c.in-Ok.told.status _ c.in-Ok.ensures.ok) c.put_ending.ensures

pub returns-in-Err : goal.returns-in-Err
returns-in-Err g c = ends_told _ _ (status_of c.in-Err.fault) _ c.in-Err.ensures.err c.tell_place.ensures
