-- How far the loops over alternatives and over steps have come.
use Rattle.std.proofs.Common.{◌≡◌, ℕ, List, [], ◌∷◌, ◌++◌, refl, sym, ap, subst}
use Rattle.path_lex.specs.declared.token.Sign.TheVariants as signs
use Rattle.path_lex.specs.Spelling.{Piece, sign}
use Rattle.path_decl.specs.Forms.{Form, sequence, selection}
use Rattle.path_read.specs.Inner.Parts.{a_sequence, a_selection, form_parts}
use Rattle.path_read.specs.Inner.Reading.{Begins, ReadsUnit, ReadsAlt, by_units, ReadsUnits, no_unit, one_unit, ReadsSeq, by_alts, ReadsAlts, no_alt, one_alt}
use Rattle.path_read.specs.Inner.Taking.{Taking, Follows, Adds}
use Rattle.path_read.proofs.Once.{unit_once, alt_once, units_at, alts_at}
use Rattle.path_read.proofs.Following.{follows}

-- the form so far, whose parts were added, and that what is left goes on with it
pub record ReachedAlt (d : ℕ) (ts : List Piece) (old : Taking) (left : List Piece) (out : Taking) : Type 0 where
  pub form : Form
  pub forth : (rest : List Piece) (t : Form) → ReadsUnits d form left rest t → ReadsAlt d ts rest t
  pub back : (rest : List Piece) (t : Form) → ReadsAlt d ts rest t → ReadsUnits d form left rest t
  pub says : Follows (form_parts form) old out

pub record ReachedSeq (d : ℕ) (ts : List Piece) (old : Taking) (left : List Piece) (out : Taking) : Type 0 where
  pub form : Form
  pub forth : (rest : List Piece) (t : Form) → ReadsAlts d form left rest t → ReadsSeq d ts rest t
  pub back : (rest : List Piece) (t : Form) → ReadsSeq d ts rest t → ReadsAlts d form left rest t
  pub says : Follows (form_parts form) old out

first_unit : {d : ℕ} {ts mid rest : List Piece} {s t : Form} → ReadsUnit d ts mid s → ReadsAlt d ts rest t → ReadsUnits d s mid rest t
first_unit u (by_units u' m) = let e = unit_once u u' in units_at e.0 e.1 m

pub first_reached : (d : ℕ) (ts mid : List Piece) (old out : Taking) → Adds form_parts (ReadsUnit d ts mid) old out → ReachedAlt d ts old mid out
first_reached d ts mid old out a = record { form = a.0; forth = λ rest t m. by_units a.1 m; back = λ rest t q. first_unit a.1 q; says = a.2 }

next_unit : {d : ℕ} {ts mid rest : List Piece} {s u t : Form} → ReadsUnit d ts mid u → ReadsUnits d s (sign signs.Comma ∷ ts) rest t → ReadsUnits d (selection s u) mid rest t
next_unit u (no_unit f) = absurd (f (_, refl))
next_unit {s} u (one_unit u' m) = let e = unit_once u u' in units_at e.0 (ap (selection s) e.1) m

pub next_reached : (d : ℕ) (ts left after mid : List Piece) (old before out new : Taking) → left ≡ sign signs.Comma ∷ after → Adds form_parts (ReadsUnit d after mid) before out → Follows (a_selection ∷ []) out new
    → ReachedAlt d ts old left before → ReachedAlt d ts old mid new
next_reached d ts left after mid old before out new e a n r = record {
  form = selection r.form a.0;
  forth = λ rest t m. r.forth rest t (subst (λ x. ReadsUnits d r.form x rest t) (sym e) (one_unit a.1 m));
  back = λ rest t q. next_unit a.1 (subst (λ x. ReadsUnits d r.form x rest t) e (r.back rest t q));
  says = follows (form_parts r.form) (form_parts a.0 ++ a_selection ∷ []) old before new r.says (follows (form_parts a.0) (a_selection ∷ []) before out new a.2 n);
}

stuck_unit : {d : ℕ} {s t : Form} {after rest : List Piece} → ((mid : List Piece) (u : Form) → ReadsUnit d after mid u → ⊥) → ReadsUnits d s (sign signs.Comma ∷ after) rest t → ⊥
stuck_unit none (no_unit f) = f (_, refl)
stuck_unit none (one_unit u m) = none _ _ u

pub no_alt_at : (d : ℕ) (ts left after : List Piece) (old out : Taking) → left ≡ sign signs.Comma ∷ after → ((mid : List Piece) (u : Form) → ReadsUnit d after mid u → ⊥) → ReachedAlt d ts old left out
    → (rest : List Piece) (t : Form) → ReadsAlt d ts rest t → ⊥
no_alt_at d ts left after old out e none r rest t a = stuck_unit none (subst (λ x. ReadsUnits d r.form x rest t) e (r.back rest t a))

first_alt : {d : ℕ} {ts mid rest : List Piece} {s t : Form} → ReadsAlt d ts mid s → ReadsSeq d ts rest t → ReadsAlts d s mid rest t
first_alt u (by_alts u' m) = let e = alt_once u u' in alts_at e.0 e.1 m

pub first_step_reached : (d : ℕ) (ts mid : List Piece) (old out : Taking) → Adds form_parts (ReadsAlt d ts mid) old out → ReachedSeq d ts old mid out
first_step_reached d ts mid old out a = record { form = a.0; forth = λ rest t m. by_alts a.1 m; back = λ rest t q. first_alt a.1 q; says = a.2 }

next_alt : {d : ℕ} {ts mid rest : List Piece} {s u t : Form} → ReadsAlt d ts mid u → ReadsAlts d s (sign signs.Semicolon ∷ ts) rest t → ReadsAlts d (sequence s u) mid rest t
next_alt u (no_alt f) = absurd (f (_, refl))
next_alt {s} u (one_alt u' m) = let e = alt_once u u' in alts_at e.0 (ap (sequence s) e.1) m

pub next_step_reached : (d : ℕ) (ts left after mid : List Piece) (old before out new : Taking) → left ≡ sign signs.Semicolon ∷ after → Adds form_parts (ReadsAlt d after mid) before out → Follows (a_sequence ∷ []) out new
    → ReachedSeq d ts old left before → ReachedSeq d ts old mid new
next_step_reached d ts left after mid old before out new e a n r = record {
  form = sequence r.form a.0;
  forth = λ rest t m. r.forth rest t (subst (λ x. ReadsAlts d r.form x rest t) (sym e) (one_alt a.1 m));
  back = λ rest t q. next_alt a.1 (subst (λ x. ReadsAlts d r.form x rest t) e (r.back rest t q));
  says = follows (form_parts r.form) (form_parts a.0 ++ a_sequence ∷ []) old before new r.says (follows (form_parts a.0) (a_sequence ∷ []) before out new a.2 n);
}

stuck_alt : {d : ℕ} {s t : Form} {after rest : List Piece} → ((mid : List Piece) (u : Form) → ReadsAlt d after mid u → ⊥) → ReadsAlts d s (sign signs.Semicolon ∷ after) rest t → ⊥
stuck_alt none (no_alt f) = f (_, refl)
stuck_alt none (one_alt u m) = none _ _ u

pub no_seq_at : (d : ℕ) (ts left after : List Piece) (old out : Taking) → left ≡ sign signs.Semicolon ∷ after → ((mid : List Piece) (u : Form) → ReadsAlt d after mid u → ⊥) → ReachedSeq d ts old left out
    → (rest : List Piece) (t : Form) → ReadsSeq d ts rest t → ⊥
no_seq_at d ts left after old out e none r rest t a = stuck_alt none (subst (λ x. ReadsAlts d r.form x rest t) e (r.back rest t a))

pub alt_ends : (d : ℕ) (ts left : List Piece) (old out : Taking) → (Begins (sign signs.Comma) left → ⊥) → ReachedAlt d ts old left out → Adds form_parts (ReadsAlt d ts left) old out
alt_ends d ts left old out none r = (r.form, r.forth left r.form (no_unit none), r.says)

pub seq_ends : (d : ℕ) (ts left : List Piece) (old out : Taking) → (Begins (sign signs.Semicolon) left → ⊥) → ReachedSeq d ts old left out → Adds form_parts (ReadsSeq d ts left) old out
seq_ends d ts left old out none r = (r.form, r.forth left r.form (no_alt none), r.says)

-- what is missing at the start
pub no_first_unit : (d : ℕ) (ts : List Piece) → ((rest : List Piece) (f : Form) → ReadsUnit d ts rest f → ⊥) → (rest : List Piece) (f : Form) → ReadsAlt d ts rest f → ⊥
no_first_unit d ts none rest f (by_units u m) = none _ _ u

pub no_first_alt : (d : ℕ) (ts : List Piece) → ((rest : List Piece) (f : Form) → ReadsAlt d ts rest f → ⊥) → (rest : List Piece) (f : Form) → ReadsSeq d ts rest f → ⊥
no_first_alt d ts none rest f (by_alts u m) = none _ _ u
