-- The verdict on the text of a journal, and how it is written.
use Rattle.std.proofs.Common.{◌≡◌, ℕ, List, Option, None, refl, sym, subst}
use Rattle.std.specs.Prelude.{◌↔◌}
use Rattle.std.specs.Option.{unwrap_or}
use Rattle.path_model.specs.declared.journal.Line.{Line}
use Rattle.path_model.specs.Declarations.{Declaration}
use Rattle.path_model.specs.Honest.{IsHonest}
use Rattle.path_model.specs.Rooms.{IsRoom}
use Rattle.path_journal.specs.JournalTexts.{IsJournalText}
use Rattle.path_audit.specs.declared.journals.Verdict.{Verdict}
use Rattle.path_audit.specs.declared.journals.Verdict.TheVariants.{Sound, WrongLine}
use Rattle.path_audit.specs.Verdicts.{IsFirstWrong}
use Rattle.tell_base.specs.declared.status.Status.{Status}
use Rattle.tell_base.specs.declared.status.Status.TheVariants.{Done, Unsound}
use Rattle.tell_base.specs.Ends.{Ends, OfJournal, Writes}
use Rattle.tell_base.specs.Own.{own_openings}
use Rattle.cmd_audit.specs.Audits.{IsAuditOf, TellsVerdict, verdict_line, verdict_status}

-- the line of the verdict on a text is one that its audit may write
pub tells : (d : Declaration) (room : ℕ) (text : List ℕ) (v : Verdict) → IsAuditOf d room text v → OfJournal (TellsVerdict d room text) d room text (verdict_status v) (verdict_line None v)
tells d room text Sound is = (Sound, is, (refl, refl))
tells d room text (WrongLine n) is = (WrongLine n, is, (refl, refl))

-- what is sound doesn't end as unsound
pub never_wrong : (v : Verdict) (old new : Option (List ℕ)) (s : Status) → Sound ≡ v → Ends (Writes (verdict_status v) (verdict_line None v)) old new s → s ≡ Unsound → ⊥
never_wrong v old new s is ends e = let wrote = subst (Ends (Writes (verdict_status v) (verdict_line None v)) old new) e ends in differs v is wrote.wrote.1.0
  where
    differs : (v : Verdict) → Sound ≡ v → Unsound ≡ verdict_status v → ⊥
    differs Sound is e = cc
    differs (WrongLine n) is e = cc

-- what is wrong doesn't end as done
pub never_sound : (v : Verdict) (old new : Option (List ℕ)) (s : Status) (n : ℕ) → WrongLine n ≡ v → Ends (Writes (verdict_status v) (verdict_line None v)) old new s → s ≡ Done → ⊥
never_sound v old new s n is ends e = let wrote = subst (Ends (Writes (verdict_status v) (verdict_line None v)) old new) e ends in differs v is wrote.wrote.1.0
  where
    differs : (v : Verdict) → WrongLine n ≡ v → Done ≡ verdict_status v → ⊥
    differs Sound is e = cc
    differs (WrongLine m) is e = cc

-- the verdict on the lines is that on the text
pub audit_told : (d : Declaration) (room : ℕ) (text : List ℕ) (named : Option ℕ) (lines : List Line) (v : Verdict) → IsJournalText d text named lines → IsRoom (unwrap_or named room)
    → (v ≡ Sound ↔ IsHonest d (unwrap_or named room) (own_openings d) lines) → ((n : ℕ) → v ≡ WrongLine n ↔ IsFirstWrong d (unwrap_or named room) (own_openings d) lines n) → IsAuditOf d room text v
audit_told d room text named lines Sound told fits sound wrong = record { named = named; lines = lines; told = told; in_range = fits; judged = sound.0 refl }
audit_told d room text named lines (WrongLine n) told fits sound wrong = record { named = named; lines = lines; told = told; in_range = fits; judged = (wrong n).0 refl }

-- and the only one
pub one_audit : (d : Declaration) (room : ℕ) (text : List ℕ) (named : Option ℕ) (lines : List Line) (v : Verdict)
    → ((k : Option ℕ) (ls : List Line) → IsJournalText d text k ls → (k ≡ named) × (ls ≡ lines))
    → (v ≡ Sound ↔ IsHonest d (unwrap_or named room) (own_openings d) lines) → ((n : ℕ) → v ≡ WrongLine n ↔ IsFirstWrong d (unwrap_or named room) (own_openings d) lines n)
    → (other : Verdict) → IsAuditOf d room text other → other ≡ v
one_audit d room text named lines v one sound wrong Sound is =
    let same = one is.named is.lines is.told in
    sym (sound.1 (subst (λ k. IsHonest d (unwrap_or k room) (own_openings d) lines) same.0 (subst (λ ls. IsHonest d (unwrap_or is.named room) (own_openings d) ls) same.1 is.judged)))
one_audit d room text named lines v one sound wrong (WrongLine n) is =
    let same = one is.named is.lines is.told in
    sym ((wrong n).1 (subst (λ k. IsFirstWrong d (unwrap_or k room) (own_openings d) lines n) same.0 (subst (λ ls. IsFirstWrong d (unwrap_or is.named room) (own_openings d) ls n) same.1 is.judged)))
