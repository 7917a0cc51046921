-- What callers cite: how a command ends that goes on behind a journal.
use Rattle.std.proofs.Common.{◌≡◌, ℕ, List, inl, inr, ap, ◌⊎◌}
use Rattle.path_model.specs.Declarations.{Declaration}
use Rattle.path_decl.specs.Text.{IsDeclarationText}
use Rattle.path_system.specs.Accounts.{Account}
use Rattle.tell_base.specs.declared.status.Status.{Status}
use Rattle.tell_base.specs.declared.status.Status.TheVariants.{Done, DeclarationRefused, Unsound}
use Rattle.tell_base.specs.Ends.{MayEnd, RefusesText, UnderText}
use Rattle.tell_base.proofs.CallerLemmas.{may_refuse, may_so, may_under, text_so}
use Rattle.cmd_audit.specs.Segments.{AreNoSegments, LackRoom}
use Rattle.tell_journals.specs.Behind.{HasWrongLine, IsBehind, OfBehind, RefusesBehind, UnlessWrong}

-- the system is under the declaration
pub same_declaration : (d : Declaration) (given : ℕ) (texts : List (List ℕ)) (system : Account) → IsBehind d given texts system → system.declaration ≡ d
same_declaration d given texts system b = ap (λ (a : Account). a.declaration) b.answered.opened

unless_so : (P : List ℕ → Type 0) (wrong : Type 0) (t : Status) (out : List ℕ) → UnlessWrong (λ bytes. ⊥) wrong t out → UnlessWrong P wrong t out
unless_so P wrong Done out u = absurd u
unless_so P wrong Unsound out u = u
unless_so P wrong t out u = absurd u

worse : (none bad : Type 0) → none ⊎ ⊥ → none ⊎ bad
worse none bad (inl e) = inl e
worse none bad (inr e) = absurd e

module _ (declaration : List ℕ) (given : ℕ) (texts : List (List ℕ)) (P : Declaration → List ℕ → Type 0) (bad : Declaration → Type 0) where
  behind_so : (d : Declaration) (t : Status) (out : List ℕ) → OfBehind (λ bytes. ⊥) ⊥ d given texts t out → OfBehind (P d) (bad d) d given texts t out
  behind_so d =
      text_so (UnlessWrong (λ bytes. ⊥) (HasWrongLine d given texts)) (UnlessWrong (P d) (HasWrongLine d given texts)) (LackRoom d given texts) (LackRoom d given texts)
      (AreNoSegments d given texts ⊎ ⊥) (AreNoSegments d given texts ⊎ bad d) (unless_so (P d) (HasWrongLine d given texts)) (λ x. x) (worse (AreNoSegments d given texts) (bad d))

  under_so : (t : Status) (out : List ℕ) → RefusesBehind declaration given texts t out → UnderText declaration (λ d. OfBehind (P d) (bad d) d given texts) t out
  under_so DeclarationRefused out p = p
  under_so t out (d, declares, p) = (d, declares, behind_so d t out p)

  -- no system goes on
  pub may_unopened : (s : Status) → MayEnd (RefusesBehind declaration given texts) s → MayEnd (UnderText declaration (λ d. OfBehind (P d) (bad d) d given texts)) s
  may_unopened = may_so (RefusesBehind declaration given texts) (UnderText declaration (λ d. OfBehind (P d) (bad d) d given texts)) under_so

  -- the other text is refused
  pub may_behind : (d : Declaration) (s : Status) → IsDeclarationText declaration d → RefusesText ⊥ (bad d) s → MayEnd (UnderText declaration (λ d. OfBehind (P d) (bad d) d given texts)) s
  may_behind d s declares refuses =
      may_under declaration (λ d. OfBehind (P d) (bad d) d given texts) d s declares (λ out none. none)
      (may_refuse (UnlessWrong (P d) (HasWrongLine d given texts)) ⊥ (LackRoom d given texts) (bad d) (AreNoSegments d given texts ⊎ bad d) s absurd inr refuses)
