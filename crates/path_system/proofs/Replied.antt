-- What is owed beside the reply of a line that is taken over.
use Rattle.std.proofs.Common.{◌≡◌, ◌≢◌, ℕ, List, [], ◌∷◌, ◌++◌, refl, sym, ap, subst, ◌∙◌, inl, inr}
use Rattle.path_model.specs.declared.ids.ActId.{ActId}
use Rattle.path_model.specs.declared.journal.Verb.{Verb}
use Rattle.path_model.specs.declared.journal.Attempt.{Attempt}
use Rattle.path_model.specs.declared.journal.Attempt.TheVariants.{Start, Apply, Finish}
use Rattle.path_model.specs.declared.journal.Reply.{Reply}
use Rattle.path_model.specs.declared.journal.Reply.TheVariants.{Started, Blocked, UnknownOperation, Used, DeviceFailed, Finished, Stale, NotYours, NoRoom}
use Rattle.path_model.specs.declared.journal.Line.{Line}
use Rattle.path_model.specs.Asked.{resource_asked}
use Rattle.path_model.specs.Declarations.{Declaration}
use Rattle.path_model.specs.Journals.{with_line}
use Rattle.path_model.specs.Owed.{AreSame}
use Rattle.path_model.specs.Segments.{OwedBehind}
use Rattle.path_model.proofs.CallerLemmas.{line_of, one_reply_is_owed_behind}
use Rattle.path_step.proofs.CallerLemmas.{IsRefusal}
use Rattle.path_system.specs.Accounts.{Account, StayBut}
use Rattle.path_system.specs.Before.{earlier_behind, lines_behind}
use Rattle.path_system.specs.Calls.{IsStartReply, IsFinishReply}
use Rattle.path_system.specs.Taken.{IsTakenAt, IsNotOwedAt}
use Rattle.path_system.specs.Inner.Parts.{MayTell}
use Rattle.path_system.proofs.Narrow.{is_start_reply, is_finish_reply}

-- what is told of a start or a finish is neither `Used` nor a failure
started_plain : (r : Reply) → IsStartReply r → IsRefusal r
started_plain (Started n) is = record { not_used = λ x e. cc; not_failed = λ e. cc }
started_plain (Blocked p) is = record { not_used = λ x e. cc; not_failed = λ e. cc }
started_plain UnknownOperation is = record { not_used = λ x e. cc; not_failed = λ e. cc }
started_plain NoRoom is = record { not_used = λ x e. cc; not_failed = λ e. cc }
started_plain r is = absurd is

finished_plain : (r : Reply) → IsFinishReply r → IsRefusal r
finished_plain Finished is = record { not_used = λ x e. cc; not_failed = λ e. cc }
finished_plain Stale is = record { not_used = λ x e. cc; not_failed = λ e. cc }
finished_plain NotYours is = record { not_used = λ x e. cc; not_failed = λ e. cc }
finished_plain NoRoom is = record { not_used = λ x e. cc; not_failed = λ e. cc }
finished_plain r is = absurd is

-- a journal gains a line but for `NoRoom`
with_line_is : (ls : List Line) (w : ℕ) (attempt : Attempt) (r : Reply) → r ≢ NoRoom → with_line ls w attempt r ≡ ls ++ line_of w attempt r ∷ []
with_line_is ls w attempt NoRoom some = absurd (some refl)
with_line_is ls w attempt r some = refl

-- where a line may be told, there is room
pub roomy_owed : (owed told : Reply) → MayTell owed told → told ≢ NoRoom → owed ≢ NoRoom
roomy_owed owed told (inl same) some none = some (same ∙ none)
roomy_owed owed told (inr (x, is, failed)) some none = (let e : Used x ≡ NoRoom = sym is ∙ none in cc)

module _ (d : Declaration) (room : ℕ) (openings : List (List ℕ)) (earlier ls : List Line) (w : ℕ) (attempt : Attempt) where
  abbrev OwedHere : Reply → Type 0
  OwedHere r = OwedBehind d room openings earlier ls w attempt r

  one_or_failed : (owed r : Reply) → OwedHere owed → OwedHere r → AreSame owed r
  one_or_failed owed r first second = one_reply_is_owed_behind d room openings earlier ls w attempt owed r first second

  -- one that is owed besides may be told
  may_besides : (owed told : Reply) → OwedHere owed → owed ≢ DeviceFailed → OwedHere told → MayTell owed told
  may_besides owed told first served second = go (one_or_failed owed told first second)
    where
      go : AreSame owed told → MayTell owed told
      go (inl same) = inl (sym same)
      go (inr (inl (x, is, failed))) = inr (x, is, failed)
      go (inr (inr (x, failed, is))) = absurd (served failed)

  -- the reply to what isn't a use is the one that may be told
  plain_same : (owed told r : Reply) → IsRefusal owed → OwedHere owed → OwedHere r → MayTell owed told → r ≡ told
  plain_same owed told r plain first second may = sym (same_as (one_or_failed owed r first second)) ∙ sym (told_is may)
    where
      same_as : AreSame owed r → owed ≡ r
      same_as (inl same) = same
      same_as (inr (inl (x, is, failed))) = absurd (plain.not_used x is)
      same_as (inr (inr (x, failed, is))) = absurd (plain.not_failed failed)

      told_is : MayTell owed told → told ≡ owed
      told_is (inl same) = same
      told_is (inr (x, is, failed)) = absurd (plain.not_used x is)

plain_owed : (d : Declaration) (room : ℕ) (openings : List (List ℕ)) (earlier ls : List Line) (w : ℕ) (attempt : Attempt) (owed : Reply)
    → ((n : ActId) (verb : Verb) → attempt ≡ Apply n verb → ⊥) → OwedBehind d room openings earlier ls w attempt owed → IsRefusal owed
plain_owed d room openings earlier ls w (Start a) owed other is = started_plain owed (is_start_reply d room openings earlier ls w a owed is)
plain_owed d room openings earlier ls w (Apply n verb) owed other is = absurd (other n verb refl)
plain_owed d room openings earlier ls w (Finish n) owed other is = finished_plain owed (is_finish_reply d room openings earlier ls w n owed is)

module _ (old : Account) (openings : List (List ℕ)) (before : List Line) (line : Line) (owed : Reply)
    (is : OwedBehind old.declaration old.room openings (earlier_behind before old) old.journal line.worker line.attempt owed) where
  -- a line that may not be told isn't the next
  pub not_owed : owed ≢ DeviceFailed → (MayTell owed line.reply × (line.reply ≢ NoRoom) → ⊥) → IsNotOwedAt openings before old line owed old
  not_owed served other = record {
    other = λ next. other (may_besides old.declaration old.room openings (earlier_behind before old) old.journal line.worker line.attempt owed line.reply is served next.owed, next.roomy);
    owed = is;
    served = served;
    kept = refl;
  }

  -- a step that isn't a use moves as its line says
  pub taken_step : (r : Reply) (new : Account) → ((n : ActId) (verb : Verb) → line.attempt ≡ Apply n verb → ⊥) → MayTell owed line.reply → line.reply ≢ NoRoom
      → OwedBehind old.declaration old.room openings (earlier_behind before old) old.journal line.worker line.attempt r
      → new ≡ record old { journal = with_line old.journal line.worker line.attempt r; failures = new.failures }
      → StayBut (resource_asked old.declaration (lines_behind before old) line.attempt r) old.failures new.failures → IsTakenAt openings before old line new
  taken_step r new other may some second moved stays =
      let plain = plain_owed old.declaration old.room openings (earlier_behind before old) old.journal line.worker line.attempt owed other is in
      let same : r ≡ line.reply = plain_same old.declaration old.room openings (earlier_behind before old) old.journal line.worker line.attempt owed line.reply r plain is second may in
      record {
        next = record { owed = subst (λ q. OwedBehind old.declaration old.room openings (earlier_behind before old) old.journal line.worker line.attempt q) same second; roomy = some };
        written = subst (λ xs. new ≡ record old { journal = xs; failures = new.failures }) (ap (with_line old.journal line.worker line.attempt) same ∙ with_line_is old.journal line.worker line.attempt line.reply some) moved;
        failures = subst (λ q. StayBut (resource_asked old.declaration (lines_behind before old) line.attempt q) old.failures new.failures) same stays;
      }

-- what changes only the journal and the counts of failures
pub only_journal : (old new : Account) (journal : List Line) → new ≡ record old { journal = journal; failures = new.failures } → new ≡ record old { journal = new.journal; failures = new.failures }
only_journal old new journal is = is ∙ ap (λ ls. record old { journal = ls; failures = new.failures }) (sym (ap (λ (a : Account). a.journal) is))
