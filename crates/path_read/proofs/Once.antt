-- What is read is read in one way at most.
use Rattle.std.proofs.Common.{◌≡◌, ℕ, List, ◌∷◌, Option, refl, sym, ap, subst}
use Rattle.path_lex.specs.Spelling.{Piece}
use Rattle.path_decl.specs.Forms.{Form, sequence, selection, braced}
use Rattle.path_decl.specs.Grammar.{IsClosing, by_brace, by_bound}
use Rattle.path_read.specs.Inner.Reading.{ReadsUnit, by_name, by_group, by_braces, ReadsAlt, by_units, ReadsUnits, no_unit, one_unit, ReadsSeq, by_alts, ReadsAlts, no_alt, one_alt}

abbrev pub Same : {X : Type 0} → List Piece → List Piece → X → X → Type 0
Same r r' x x' = (r ≡ r') × (x ≡ x')

pub same_tail : {a : Piece} {r r' : List Piece} → (a ∷ r) ≡ (a ∷ r') → r ≡ r'
same_tail e = cc

pub units_at : {d : ℕ} {s s' : Form} {ts ts' r : List Piece} {t : Form} → ts ≡ ts' → s ≡ s' → ReadsUnits d s' ts' r t → ReadsUnits d s ts r t
units_at {d} {s} {s'} {ts} {ts'} {r} {t} e f m = subst (λ x. ReadsUnits d s x r t) (sym e) (subst (λ x. ReadsUnits d x ts' r t) (sym f) m)

pub alts_at : {d : ℕ} {s s' : Form} {ts ts' r : List Piece} {t : Form} → ts ≡ ts' → s ≡ s' → ReadsAlts d s' ts' r t → ReadsAlts d s ts r t
alts_at {d} {s} {s'} {ts} {ts'} {r} {t} e f m = subst (λ x. ReadsAlts d s x r t) (sym e) (subst (λ x. ReadsAlts d x ts' r t) (sym f) m)

-- what closes braces closes them in one way
pub closing_once : {ts r r' : List Piece} {b b' : Option (List ℕ)} → IsClosing ts r b → IsClosing ts r' b' → Same r r' b b'
closing_once by_brace by_brace = (refl, refl)
closing_once by_bound by_bound = (refl, refl)

pub closing_at : {ts ts' r : List Piece} {b : Option (List ℕ)} → ts ≡ ts' → IsClosing ts' r b → IsClosing ts r b
closing_at {r} {b} e c = subst (λ x. IsClosing x r b) (sym e) c

same_braces : {b b' : Option (List ℕ)} {t t' : Form} → b ≡ b' → t ≡ t' → braced b t ≡ braced b' t'
same_braces e f = cc

mutual
  pub unit_once : {d : ℕ} {ts r r' : List Piece} {t t' : Form} → ReadsUnit d ts r t → ReadsUnit d ts r' t' → Same r r' t t'
  unit_once by_name by_name = (refl, refl)
  unit_once (by_group s) (by_group s') = let e = seq_once s s' in (same_tail e.0, e.1)
  unit_once (by_braces s c) (by_braces s' c') =
      let e = seq_once s s' in
      let f = closing_once c (closing_at e.0 c') in (f.0, same_braces f.1 e.1)

  pub alt_once : {d : ℕ} {ts r r' : List Piece} {t t' : Form} → ReadsAlt d ts r t → ReadsAlt d ts r' t' → Same r r' t t'
  alt_once (by_units u m) (by_units u' m') =
      let e = unit_once u u' in
      units_once m (units_at e.0 e.1 m')

  pub units_once : {d : ℕ} {s : Form} {ts r r' : List Piece} {t t' : Form} → ReadsUnits d s ts r t → ReadsUnits d s ts r' t' → Same r r' t t'
  units_once (no_unit f) (no_unit f') = (refl, refl)
  units_once (no_unit f) (one_unit u m) = absurd (f (_, refl))
  units_once (one_unit u m) (no_unit f) = absurd (f (_, refl))
  units_once {s} (one_unit u m) (one_unit u' m') =
      let e = unit_once u u' in
      units_once m (units_at e.0 (ap (selection s) e.1) m')

  pub seq_once : {d : ℕ} {ts r r' : List Piece} {t t' : Form} → ReadsSeq d ts r t → ReadsSeq d ts r' t' → Same r r' t t'
  seq_once (by_alts u m) (by_alts u' m') =
      let e = alt_once u u' in
      alts_once m (alts_at e.0 e.1 m')

  pub alts_once : {d : ℕ} {s : Form} {ts r r' : List Piece} {t t' : Form} → ReadsAlts d s ts r t → ReadsAlts d s ts r' t' → Same r r' t t'
  alts_once (no_alt f) (no_alt f') = (refl, refl)
  alts_once (no_alt f) (one_alt u m) = absurd (f (_, refl))
  alts_once (one_alt u m) (no_alt f) = absurd (f (_, refl))
  alts_once {s} (one_alt u m) (one_alt u' m') =
      let e = alt_once u u' in
      alts_once m (alts_at e.0 (ap (sequence s) e.1) m')
