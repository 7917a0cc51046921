-- How a command ends by what it calls.
use Rattle.std.proofs.Common.{◌≡◌, ◌≢◌, ℕ, ◌<◌, ◌≤◌, List, [], ◌++◌, length, ◌⊎◌, inl, inr, refl, sym, ap, ◌∙◌, subst}
use Rattle.std.specs.Prelude.{Option}
use Rattle.std.specs.Io.KnownBytes.{Appends}
use Rattle.std.proofs.lemmas.List.{append-nil}
use Rattle.path_model.specs.Declarations.{Declaration}
use Rattle.path_decl.specs.Text.{IsDeclarationText}
use Rattle.path_lines.specs.declared.texts.TextFault.{TextFault}
use Rattle.path_lines.specs.declared.texts.TextFault.TheVariants as texts
use Rattle.path_lines.specs.AttemptTexts.{IsNoAttemptsText}
use Rattle.path_journal.specs.JournalTexts.{IsNoJournalText}
use Rattle.path_shelf.specs.States.{State}
use Rattle.path_system.specs.declared.fault.OpenFault.{OpenFault}
use Rattle.path_system.specs.declared.fault.OpenFault.TheVariants as openings
use Rattle.path_system.specs.Faults.{IsOpenFault}
use Rattle.tell_base.specs.declared.status.Status.{Status}
use Rattle.tell_base.specs.declared.status.Status.TheVariants.{Done, DeclarationRefused, CommandRefused, StreamFailed, TextRefused, Unsound, NoMemory}
use Rattle.tell_base.specs.declared.fault.Fault.{Fault}
use Rattle.tell_base.specs.declared.fault.Fault.TheVariants.{Unwritable, OutOfMemory}
use Rattle.tell_base.specs.Ends.{AtDone, Ends, MayEnd, OfText, RefusesText, UnderText, Writes, Wrote, WroteNothing}
use Rattle.tell_base.specs.Refusals.{IsBadAttempts, IsBadJournal, IsUndeclared, IsUnopened}
use Rattle.tell_base.specs.Statuses.{open_status, status_of, text_status}
use Rattle.tell_base.specs.Writes.{AppendsSome, IsFrontOf}
use Rattle.tell_base.proofs.FaultLemmas.{told}
use Rattle.tell_base.proofs.PutLemmas.{appends_none, keeps_same}

-- what one table has the other has, too
module _ (P Q : Status → List ℕ → Type 0) (so : (t : Status) (out : List ℕ) → P t out → Q t out) where
  wrote_so : (old new : Option (List ℕ)) (s : Status) → Wrote P old new s → Wrote Q old new s
  wrote_so old new NoMemory (out, inl none, wrote) = (out, inl none, wrote)
  wrote_so old new NoMemory (out, inr (rest, (t, p)), wrote) = (out, inr (rest, (t, so t (out ++ rest) p)), wrote)
  wrote_so old new StreamFailed wrote = tt
  wrote_so old new s (out, p, wrote) = (out, so s out p, wrote)

  pub ends_so : (old new : Option (List ℕ)) (s : Status) → Ends P old new s → Ends Q old new s
  ends_so old new s e = record { wrote = wrote_so old new s e.wrote }

  nothing_so : (s : Status) → WroteNothing P s → WroteNothing Q s
  nothing_so NoMemory may = tt
  nothing_so StreamFailed may = tt
  nothing_so s may = so s [] may

  pub may_so : (s : Status) → MayEnd P s → MayEnd Q s
  may_so s m = record { may = nothing_so s m.may }

module _ (Q : Status → List ℕ → Type 0) where
  -- these bytes are written, which the table has
  pub ends_written : (old new : Option (List ℕ)) (s status : Status) (told bytes : List ℕ) → told ≡ bytes → Q status bytes → Ends (Writes status told) old new s → Ends Q old new s
  ends_written old new s status told bytes is q =
      ends_so (Writes status told) Q (λ t out w. subst (λ x. Q x out) (sym w.0) (subst (Q status) (sym (w.1 ∙ is)) q)) old new s

  unwritten : (a : Option (List ℕ)) (s : Status) → WroteNothing Q s → Wrote Q a a s
  unwritten a NoMemory may = ([], inl refl, appends_none a a (keeps_same a))
  unwritten a StreamFailed may = tt
  unwritten a s may = ([], may, appends_none a a (keeps_same a))

  -- a fault is told before anything is written
  pub ends_told : (a : Option (List ℕ)) (s r : Status) → MayEnd Q s → (r ≡ s) ⊎ (r ≡ StreamFailed) → Ends Q a a r
  ends_told a s r m (inl is) = subst (Ends Q a a) (sym is) (record { wrote = unwritten a s m.may })
  ends_told a s r m (inr is) = subst (Ends Q a a) (sym is) (record { wrote = tt })

-- a writer took these bytes, which end so
module _ (status : Status) (bytes : List ℕ) (old new : Option (List ℕ)) where
  all_wrote : (s : Status) → Appends old new bytes → Wrote (Writes s bytes) old new s
  all_wrote NoMemory wrote = (bytes, inr ([], (NoMemory, (refl, append-nil bytes))), wrote)
  all_wrote StreamFailed wrote = tt
  all_wrote s wrote = (bytes, (refl, refl), wrote)

  -- all of them
  pub ends_now : Appends old new bytes → Ends (Writes status bytes) old new status
  ends_now wrote = record { wrote = all_wrote status wrote }

  front_wrote : AppendsSome old new (IsFrontOf (λ all. all ≡ bytes)) → Ends (Writes status bytes) old new NoMemory
  front_wrote (out, inl none, wrote) = record { wrote = (out, inl none, wrote) }
  front_wrote (out, inr (rest, whole), wrote) = record { wrote = (out, inr (rest, (status, (refl, whole))), wrote) }

  -- or a front, and then it failed, which is told
  pub ends_failed : (f : Fault) (r : Status) → (f ≡ Unwritable) ⊎ (f ≡ OutOfMemory) → (r ≡ status_of f) ⊎ (r ≡ StreamFailed)
      → AppendsSome old new (IsFrontOf (λ all. all ≡ bytes)) → Ends (Writes status bytes) old new r
  ends_failed f r (inl is) (inl told) wrote = subst (Ends (Writes status bytes) old new) (sym (told ∙ ap status_of is)) (record { wrote = tt })
  ends_failed f r (inr is) (inl told) wrote = subst (Ends (Writes status bytes) old new) (sym (told ∙ ap status_of is)) (front_wrote wrote)
  ends_failed f r which (inr told) wrote = subst (Ends (Writes status bytes) old new) (sym told) (record { wrote = tt })

  -- all of them, and then it failed
  pub whole_front : Appends old new bytes → AppendsSome old new (IsFrontOf (λ all. all ≡ bytes))
  whole_front wrote = (bytes, inr ([], append-nil bytes), wrote)

-- a command under the declaration in a text
module _ (text : List ℕ) (table : Declaration → Status → List ℕ → Type 0) where
  under_so : (d : Declaration) → IsDeclarationText text d → ((out : List ℕ) → table d DeclarationRefused out → ⊥) → (t : Status) (out : List ℕ) → table d t out → UnderText text table t out
  under_so d declares never DeclarationRefused out p = absurd (never out p)
  under_so d declares never t out p = (d, declares, p)

  pub ends_under : (d : Declaration) (old new : Option (List ℕ)) (s : Status) → IsDeclarationText text d → ((out : List ℕ) → table d DeclarationRefused out → ⊥)
      → Ends (table d) old new s → Ends (UnderText text table) old new s
  ends_under d old new s declares never = ends_so (table d) (UnderText text table) (under_so d declares never) old new s

  pub may_under : (d : Declaration) (s : Status) → IsDeclarationText text d → ((out : List ℕ) → table d DeclarationRefused out → ⊥) → MayEnd (table d) s → MayEnd (UnderText text table) s
  may_under d s declares never = may_so (table d) (UnderText text table) (under_so d declares never) s

  undeclared_so : (s : Status) → IsUndeclared text s → WroteNothing (UnderText text table) s
  undeclared_so DeclarationRefused none = (none, refl)
  undeclared_so NoMemory none = tt
  undeclared_so s none = absurd none

  -- the text is refused
  pub may_undeclared : (s : Status) → IsUndeclared text s → MayEnd (UnderText text table) s
  may_undeclared s none = record { may = undeclared_so s none }

-- what one table of a text has the other has, too
module _ (P Q : Status → List ℕ → Type 0) (refused refuses bad worse : Type 0) where
  pub text_so : ((t : Status) (out : List ℕ) → P t out → Q t out) → (refused → refuses) → (bad → worse) → (t : Status) (out : List ℕ) → OfText P refused bad t out → OfText Q refuses worse t out
  text_so is so too Done out p = is Done out p
  text_so is so too Unsound out p = is Unsound out p
  text_so is so too CommandRefused out p = (so p.0, p.1)
  text_so is so too TextRefused out p = (too p.0, p.1)
  text_so is so too t out p = p

-- a text that is refused
pub may_refuse : (Q : Status → List ℕ → Type 0) (refused refuses bad worse : Type 0) (s : Status) → (refused → refuses) → (bad → worse) → RefusesText refused bad s → MayEnd (OfText Q refuses worse) s
may_refuse Q refused refuses bad worse s so too =
    may_so (OfText (λ t out. ⊥) refused bad) (OfText Q refuses worse) (text_so (λ t out. ⊥) Q refused refuses bad worse (λ t out none. absurd none) so too) s

-- a text of attempts is refused
pub refuses_attempts : (refused : Type 0) (d : Declaration) (text : List ℕ) (f : TextFault) → (f ≡ texts.TooLong → 134217728 < length text)
    → (f ≢ texts.TooLong → f ≢ texts.OutOfMemory → IsNoAttemptsText d text) → RefusesText refused (IsBadAttempts d text) (text_status f)
refuses_attempts refused d text texts.OutOfMemory long none = record { may = tt }
refuses_attempts refused d text texts.TooLong long none = record { may = (inl (long refl), refl) }
refuses_attempts refused d text f long none = record { may = (inr (none (λ e. cc) (λ e. cc)), refl) }

-- the text of a journal is refused
pub refuses_journal : (refused : Type 0) (d : Declaration) (text : List ℕ) (f : TextFault) → (f ≡ texts.TooLong → 134217728 < length text)
    → (f ≢ texts.TooLong → f ≢ texts.OutOfMemory → IsNoJournalText d text) → RefusesText refused (IsBadJournal d text) (text_status f)
refuses_journal refused d text texts.OutOfMemory long none = record { may = tt }
refuses_journal refused d text texts.TooLong long none = record { may = (inl (long refl), refl) }
refuses_journal refused d text f long none = record { may = (inr (none (λ e. cc) (λ e. cc)), refl) }

-- a system can't be opened
pub refuses_opening : (refused bad : Type 0) (d : Declaration) (states : List State) (room : ℕ) (f : OpenFault) → (IsUnopened d states room → refused) → IsOpenFault room states d f
    → RefusesText refused bad (open_status f)
refuses_opening refused bad d states room openings.OutOfMemory so is = record { may = tt }
refuses_opening refused bad d states room f so is = record { may = (so (f, λ e. cc, is), refl) }

-- a refusal that is told doesn't end as a text that is read
module _ (refused bad : Type 0) (s r : Status) (refuses : RefusesText refused bad s) (tells : (r ≡ s) ⊎ (r ≡ StreamFailed)) where
  pub never_done : r ≡ Done → ⊥
  never_done e = (told (RefusesText refused bad) s r Done refuses tells (λ h. cc) e).may

  pub never_unsound : r ≡ Unsound → ⊥
  never_unsound e = (told (RefusesText refused bad) s r Unsound refuses tells (λ h. cc) e).may

-- what was put is what was written
pub put_all : (told bytes : List ℕ) (old new : Option (List ℕ)) (r : Status) → told ≡ bytes → r ≡ Done → Ends (Writes Done told) old new r → Appends old new bytes
put_all told bytes old new r same is e =
    let w = (subst (Ends (Writes Done told) old new) is e).wrote in
    subst (λ out. Appends old new out) (w.1.1 ∙ same) w.2
