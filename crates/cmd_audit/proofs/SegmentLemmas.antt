-- The segments that texts have, one text after another, and how their verdict is written.
use Rattle.std.proofs.Common.{◌≡◌, ◌≢◌, ℕ, ◌+◌, ◌<◌, ◌≤◌, List, [], ◌∷◌, ◌++◌, length, get_or, take, Option, Some, None, ◌⊎◌, inl, inr, refl, sym, ap, ◌∙◌, subst, arith, length-append}
use Rattle.std.specs.Prelude.{map}
use Rattle.std.specs.Option.{unwrap_or}
use Rattle.std.proofs.Math.ListN.{get_or-append}
use Rattle.std.proofs.Math.Seq.{get_or-append_seam}
use Rattle.std.proofs.lemmas.Bool.{cases_lt}
use Rattle.std.proofs.lemmas.List.{get_or-take, get_or-map, length-map, length-take-le}
use Rattle.path_model.specs.declared.journal.Line.{Line}
use Rattle.path_model.specs.Declarations.{Declaration}
use Rattle.path_model.specs.Rooms.{IsBadRoom}
use Rattle.path_journal.specs.JournalTexts.{IsJournalText, IsNoJournalText}
use Rattle.path_lines.specs.declared.texts.TextFault.{TextFault}
use Rattle.path_lines.specs.declared.texts.TextFault.TheVariants as texts
use Rattle.path_audit.specs.declared.auditor.AuditFault.{AuditFault}
use Rattle.path_audit.specs.declared.auditor.AuditFault.TheVariants as audits
use Rattle.path_audit.specs.Verdicts.{IsAuditFault}
use Rattle.path_audit.specs.declared.journals.SegmentsVerdict.{SegmentsVerdict}
use Rattle.path_audit.specs.declared.journals.SegmentsVerdict.TheVariants as verdicts
use Rattle.tell_base.specs.Ends.{OfText, RefusesText}
use Rattle.tell_base.specs.Own.{own_openings}
use Rattle.tell_base.specs.Statuses.{audit_status, text_status}
use Rattle.tell_base.proofs.CallerLemmas.{own_refused}
use Rattle.cmd_audit.specs.Segments.{AreAuditOf, AreNoSegments, AreSegmentTexts, IsSegmentText, LackRoom, NamesAnother}
use Rattle.cmd_audit.specs.Audits.{verdict_line, verdict_status}
use Rattle.cmd_audit.specs.Segments.{TellsSegments, file_of, verdict_in}

module _ (d : Declaration) (given : ℕ) (texts : List (List ℕ)) where
  -- the first i texts are those of these segments
  pub record AreRead (i room : ℕ) (segments : List (List Line)) : Type 0 where
    pub counted : length segments ≡ i
    pub each : (j : ℕ) → j < i → IsSegmentText d room (get_or texts j []) (get_or segments j [])
    pub first : (room ≡ given) ⊎ ((0 < i) × (lines : List Line) × IsJournalText d (get_or texts 0 []) (Some room) lines)

  pub none_read : AreRead 0 given []
  none_read = record { counted = refl; each = λ j l. absurd (omega (arith, l)); first = inl refl }

  module _ (i room : ℕ) (segments : List (List Line)) (r : AreRead i room segments) where
    -- one text more, which names the room or none
    one_more : (named : Option ℕ) (lines : List Line) (all : ℕ) → IsJournalText d (get_or texts i []) named lines → unwrap_or named all ≡ all
        → ((j : ℕ) → j < i → IsSegmentText d all (get_or texts j []) (get_or segments j []))
        → (j : ℕ) → j < i + 1 → IsSegmentText d all (get_or texts j []) (get_or (segments ++ lines ∷ []) j [])
    one_more named lines all told same before j l = elim (cases_lt j i) [
      | inl low ↦ subst (IsSegmentText d all (get_or texts j [])) (sym (get_or-append segments (lines ∷ []) [] j (omega (arith, low, r.counted)))) (before j low)
      | inr high ↦
          let here : j ≡ i = omega (arith, l, high) in
          let last : get_or (segments ++ lines ∷ []) i [] ≡ lines = ap (λ k. get_or (segments ++ lines ∷ []) k []) (sym r.counted) ∙ get_or-append_seam segments lines [] [] in
          subst (λ k. IsSegmentText d all (get_or texts k []) (get_or (segments ++ lines ∷ []) k [])) (sym here)
          (subst (IsSegmentText d all (get_or texts i [])) (sym last) (record { named = named; told = told; same = same }))
    ]

    one_longer : (lines : List Line) → length (segments ++ lines ∷ []) ≡ i + 1
    one_longer lines = let k = length-append segments (lines ∷ []) in omega (arith, k, r.counted)

    brought : (named : Option ℕ) (lines : List Line) → IsJournalText d (get_or texts 0 []) named lines
        → (unwrap_or named given ≡ given) ⊎ ((0 < i + 1) × (ls : List Line) × IsJournalText d (get_or texts 0 []) (Some (unwrap_or named given)) ls)
    brought None lines told = inl refl
    brought (Some k) lines told = inr (omega arith, lines, told)

    same_again : (named : Option ℕ) → unwrap_or named (unwrap_or named given) ≡ unwrap_or named given
    same_again None = refl
    same_again (Some k) = refl

    -- the first text brings the room
    pub first_read : (named : Option ℕ) (lines : List Line) → i ≡ 0 → IsJournalText d (get_or texts i []) named lines → AreRead (i + 1) (unwrap_or named given) (segments ++ lines ∷ [])
    first_read named lines start told = record {
      counted = one_longer lines;
      each = one_more named lines (unwrap_or named given) told (same_again named) (λ j l. absurd (omega (arith, l, start)));
      first = brought named lines (subst (λ k. IsJournalText d (get_or texts k []) named lines) start told);
    }

    -- and each further one has it
    pub next_read : (named : Option ℕ) (lines : List Line) → IsJournalText d (get_or texts i []) named lines → unwrap_or named room ≡ room → AreRead (i + 1) room (segments ++ lines ∷ [])
    next_read named lines told same = record {
      counted = one_longer lines;
      each = one_more named lines room told same r.each;
      first = elim r.first [
        | inl given ↦ inl given
        | inr x ↦ inr (omega arith, x.1, x.2)
      ];
    }

    -- the texts so far
    pub so_far : i ≤ length texts → AreSegmentTexts d given (take i texts) room segments
    so_far within =
        let counted = length-take-le i texts within in
        record {
          counted = omega (arith, counted, r.counted);
          each = λ j l. (let low : j < i = omega (arith, l, counted) in subst (λ text. IsSegmentText d room text (get_or segments j [])) (sym (get_or-take i texts j [] low)) (r.each j low));
          first = elim r.first [
            | inl given ↦ inl given
            | inr x ↦ inr (subst (λ text. (lines : List Line) × IsJournalText d text (Some room) lines) (sym (get_or-take i texts 0 [] x.0)) (x.1, x.2))
          ];
        }

    -- all of them
    pub all_read : i ≡ length texts → AreSegmentTexts d given texts room segments
    all_read whole = record {
      counted = r.counted ∙ whole;
      each = λ j l. r.each j (omega (arith, l, whole));
      first = elim r.first [
        | inl given ↦ inl given
        | inr x ↦ inr (x.1, x.2)
      ];
    }

    -- a text that names another room
    pub names_another : (named : Option ℕ) (lines : List Line) → i ≢ 0 → i < length texts → IsJournalText d (get_or texts i []) named lines → unwrap_or named room ≢ room → NamesAnother d given texts i
    names_another None lines later within told other = absurd (other refl)
    names_another (Some k) lines later within told other = record {
      room = room;
      named = k;
      segments = segments;
      lines = lines;
      later = omega (arith, later);
      before = so_far (omega (arith, within));
      told = told;
      other = other;
    }

-- the own devices' openings are refused for nothing but the room, and then the first text names none
pub refuses_segments : (d : Declaration) (given room : ℕ) (texts : List (List ℕ)) (segments : List (List Line)) (openings : List (List ℕ)) (f : AuditFault) → AreSegmentTexts d given texts room segments
    → openings ≡ own_openings d → IsAuditFault d room openings f → RefusesText (LackRoom d given texts) (AreNoSegments d given texts) (audit_status f)
refuses_segments d given room texts segments openings audits.BadRoom read own bad = elim read.first [
  | inl same ↦ record { may = (record { segments = segments; told = subst (λ k. AreSegmentTexts d given texts k segments) same read; bad = subst (λ x. IsBadRoom x) same bad }, refl) }
  | inr named ↦ absurd (elim bad [ inl none ↦ (let fits = named.1.room_fits in omega (arith, fits.0, none)) | inr much ↦ (let fits = named.1.room_fits in omega (arith, fits.1, much)) ])
]
refuses_segments d given room texts segments openings audits.WrongCount read own bad = absurd (own_refused d room openings audits.WrongCount tt own bad)
refuses_segments d given room texts segments openings (audits.BadOpening q) read own bad = absurd (own_refused d room openings (audits.BadOpening q) tt own bad)
refuses_segments d given room texts segments openings audits.OutOfMemory read own bad = record { may = tt }

-- a text that is refused is that of no segment
pub refuses_text : (d : Declaration) (given : ℕ) (all : List (List ℕ)) (i : ℕ) (f : TextFault) → i < length all → ((f ≡ texts.TooLong) → 134217728 < length (get_or all i []))
    → (f ≢ texts.TooLong → f ≢ texts.OutOfMemory → IsNoJournalText d (get_or all i [])) → RefusesText (LackRoom d given all) (AreNoSegments d given all) (text_status f)
refuses_text d given all i texts.OutOfMemory within long none = record { may = tt }
refuses_text d given all i texts.TooLong within long none = record { may = ((i, within, inl (inl (long refl))), refl) }
refuses_text d given all i f within long none = record { may = ((i, within, inl (inr (none (λ e. cc) (λ e. cc)))), refl) }

-- the text of a file
module _ {F : Type 0} (f : F → List ℕ) (files : List F) (i : ℕ) (v : F) (within : i < length files) (at : v ≡ get_or files i v) where
  pub text_there : get_or (map f files) i [] ≡ f v
  text_there = get_or-map f files i v [] within ∙ ap f (sym at)

  pub within_texts : i < length (map f files)
  within_texts = omega (arith, within, length-map files f)

-- the line of the verdict on texts is one that their audit may write
pub tells : (d : Declaration) (given : ℕ) (names all : List (List ℕ)) (v : SegmentsVerdict) → AreAuditOf d given all v
    → OfText (TellsSegments d given names all) (LackRoom d given all) (AreNoSegments d given all) (verdict_status (verdict_in v)) (verdict_line (file_of names v) (verdict_in v))
tells d given names all verdicts.Sound is = (verdicts.Sound, is, (refl, refl))
tells d given names all (verdicts.WrongLine k n) is = (verdicts.WrongLine k n, is, (refl, refl))
