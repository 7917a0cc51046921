-- How one unit is read.
use Rattle.std.proofs.Common.{◌≡◌, ℕ, suc, ◌-◌, List, [], ◌∷◌, ◌++◌, Option, Some, None, refl, sym, ap, ◌∙◌, subst, arith}
use Rattle.path_lex.specs.declared.token.Sign.TheVariants as signs
use Rattle.path_lex.specs.Spelling.{Piece, sign, name, number}
use Rattle.path_decl.specs.Forms.{Form, once, braced}
use Rattle.path_decl.specs.Grammar.{IsClosing, by_brace, by_bound}
use Rattle.path_read.specs.Inner.Parts.{a_name, an_opening, a_closing, form_parts}
use Rattle.path_read.specs.Inner.Reading.{Begins, ReadsUnit, by_name, by_group, by_braces, ReadsBraces, ReadsSeq}
use Rattle.path_read.specs.Inner.Taking.{Taking, Follows, Adds}
use Rattle.path_read.proofs.Once.{seq_once, closing_at}
use Rattle.path_read.proofs.Following.{follows}

-- no unit begins so
abbrev pub NoUnit : ℕ → List Piece → Type 0
NoUnit d ts = (rest : List Piece) (t : Form) → ReadsUnit d ts rest t → ⊥

abbrev pub NoSeq : ℕ → List Piece → Type 0
NoSeq d ts = (rest : List Piece) (t : Form) → ReadsSeq d ts rest t → ⊥

less : (d : ℕ) → (d ≡ 0 → ⊥) → d ≡ suc (d - 1)
less d h = omega arith

pub name_unit : (d : ℕ) (n : List ℕ) (ts rest : List Piece) (old out : Taking) → ts ≡ name n ∷ rest → Follows (a_name n ∷ []) old out → Adds form_parts (ReadsUnit d ts rest) old out
name_unit d n ts rest old out e f = (once n, subst (λ x. ReadsUnit d x rest (once n)) (sym e) by_name, f)

pub group_unit : (d : ℕ) (ts inside mid rest : List Piece) (old out : Taking) → (d ≡ 0 → ⊥) → ts ≡ sign signs.OpenParen ∷ inside → Adds form_parts (ReadsSeq (d - 1) inside mid) old out → mid ≡ sign signs.CloseParen ∷ rest → Adds form_parts (ReadsUnit d ts rest) old out
group_unit d ts inside mid rest old out h e a f =
    (a.0, subst (λ x. ReadsUnit x ts rest a.0) (sym (less d h)) (subst (λ x. ReadsUnit (suc (d - 1)) x rest a.0) (sym e) (by_group (subst (λ x. ReadsSeq (d - 1) inside x a.0) f a.1))), a.2)

group_inside : {d : ℕ} {inside rest : List Piece} {t : Form} → ReadsUnit (suc d) (sign signs.OpenParen ∷ inside) rest t → ReadsSeq d inside (sign signs.CloseParen ∷ rest) t
group_inside (by_group s) = s

at_group : (d : ℕ) (ts inside : List Piece) → (d ≡ 0 → ⊥) → ts ≡ sign signs.OpenParen ∷ inside → ((rest : List Piece) (t : Form) → ReadsSeq (d - 1) inside (sign signs.CloseParen ∷ rest) t → ⊥) → NoUnit d ts
at_group d ts inside h e none rest t u = none rest t (group_inside (subst (λ x. ReadsUnit x (sign signs.OpenParen ∷ inside) rest t) (less d h) (subst (λ x. ReadsUnit d x rest t) e u)))

pub no_group : (d : ℕ) (ts inside : List Piece) → (d ≡ 0 → ⊥) → ts ≡ sign signs.OpenParen ∷ inside → NoSeq (d - 1) inside → NoUnit d ts
no_group d ts inside h e none = at_group d ts inside h e (λ rest t s. none _ t s)

pub group_open : (d : ℕ) (ts inside mid : List Piece) (old out : Taking) → (d ≡ 0 → ⊥) → ts ≡ sign signs.OpenParen ∷ inside → Adds form_parts (ReadsSeq (d - 1) inside mid) old out → (Begins (sign signs.CloseParen) mid → ⊥) → NoUnit d ts
group_open d ts inside mid old out h e a none = at_group d ts inside h e (λ rest u q. none (rest, (seq_once a.1 q).0))

-- with no parenthesis left to open, none is opened
too_deep_at : {inside rest : List Piece} {t : Form} → ReadsUnit 0 (sign signs.OpenParen ∷ inside) rest t → ⊥
too_deep_at u = elim u [ ]

pub too_deep : (d : ℕ) (ts inside : List Piece) → d ≡ 0 → ts ≡ sign signs.OpenParen ∷ inside → NoUnit d ts
too_deep d ts inside z e rest t u = too_deep_at (subst (λ x. ReadsUnit x (sign signs.OpenParen ∷ inside) rest t) z (subst (λ x. ReadsUnit d x rest t) e u))

-- a unit begins with a name, a brace or a parenthesis
pub none_of : (d : ℕ) (ts : List Piece) → ((n : List ℕ) → Begins (name n) ts → ⊥) → (Begins (sign signs.OpenBrace) ts → ⊥) → (Begins (sign signs.OpenParen) ts → ⊥) → NoUnit d ts
none_of d ts no_name no_braces no_group rest t by_name = no_name _ (_, refl)
none_of d ts no_name no_braces no_group rest t (by_group s) = no_group (_, refl)
none_of d ts no_name no_braces no_group rest t (by_braces s c) = no_braces (_, refl)

-- a unit that begins with a brace
pub braces_unit : (d : ℕ) (ts inside rest : List Piece) (old out : Taking) → ts ≡ sign signs.OpenBrace ∷ inside → Adds form_parts (ReadsBraces d inside rest) old out → Adds form_parts (ReadsUnit d ts rest) old out
braces_unit d ts inside rest old out e a = (a.0, subst (λ x. ReadsUnit d x rest a.0) (sym e) a.1, a.2)

pub no_braces : (d : ℕ) (ts inside : List Piece) → ts ≡ sign signs.OpenBrace ∷ inside → ((rest : List Piece) (t : Form) → ReadsBraces d inside rest t → ⊥) → NoUnit d ts
no_braces d ts inside e none rest t u = none rest t (subst (λ x. ReadsUnit d x rest t) e u)

braces_at : {d : ℕ} {inside rest : List Piece} {t : Form} → ReadsBraces (suc d) inside rest t → (mid : List Piece) × ((s : Form) × ReadsSeq d inside mid s) × ((b : Option (List ℕ)) × IsClosing mid rest b)
braces_at (by_braces {mid} {t} {b} s c) = (mid, (t, s), (b, c))

braces_of : (d : ℕ) (inside rest : List Piece) (t : Form) → (d ≡ 0 → ⊥) → ReadsBraces d inside rest t → (mid : List Piece) × ((s : Form) × ReadsSeq (d - 1) inside mid s) × ((b : Option (List ℕ)) × IsClosing mid rest b)
braces_of d inside rest t h u = braces_at (subst (λ x. ReadsBraces x inside rest t) (less d h) u)

-- with no brace left to open, none is opened
no_depth : {inside rest : List Piece} {t : Form} → ReadsBraces 0 inside rest t → ⊥
no_depth u = elim u [ ]

pub braces_too_deep : (d : ℕ) (inside : List Piece) → d ≡ 0 → (rest : List Piece) (t : Form) → ReadsBraces d inside rest t → ⊥
braces_too_deep d inside z rest t u = no_depth (subst (λ x. ReadsBraces x inside rest t) z u)

pub no_sequence : (d : ℕ) (inside : List Piece) → (d ≡ 0 → ⊥) → NoSeq (d - 1) inside → (rest : List Piece) (t : Form) → ReadsBraces d inside rest t → ⊥
no_sequence d inside h none rest t u = let b = braces_of d inside rest t h u in none b.0 b.1.0 b.1.1

pub braces_open : (d : ℕ) (inside mid : List Piece) (old out : Taking) → (d ≡ 0 → ⊥) → Adds form_parts (ReadsSeq (d - 1) inside mid) old out → ((rest : List Piece) (b : Option (List ℕ)) → IsClosing mid rest b → ⊥)
    → (rest : List Piece) (t : Form) → ReadsBraces d inside rest t → ⊥
braces_open d inside mid old out h a none rest t u =
    let b = braces_of d inside rest t h u in
    none rest b.2.0 (closing_at (seq_once a.1 b.1.1).0 b.2.1)

pub braces_closed : (d : ℕ) (inside mid rest : List Piece) (old begun out new : Taking) → (d ≡ 0 → ⊥) → Follows (an_opening ∷ []) old begun → Adds form_parts (ReadsSeq (d - 1) inside mid) begun out → Adds (λ b. a_closing b ∷ []) (IsClosing mid rest) out new
    → Adds form_parts (ReadsBraces d inside rest) old new
braces_closed d inside mid rest old begun out new h e a c = (
  braced c.0 a.0,
  subst (λ x. ReadsBraces x inside rest (braced c.0 a.0)) (sym (less d h)) (by_braces a.1 c.1),
  follows (an_opening ∷ []) (form_parts a.0 ++ a_closing c.0 ∷ []) old begun new e (follows (form_parts a.0) (a_closing c.0 ∷ []) begun out new a.2 c.2),
)

-- what closes braces
abbrev pub NoClosing : List Piece → Type 0
NoClosing ts = (rest : List Piece) (b : Option (List ℕ)) → IsClosing ts rest b → ⊥

pub plain_closing : (ts rest : List Piece) (old out : Taking) → ts ≡ sign signs.CloseBrace ∷ rest → Follows (a_closing None ∷ []) old out → Adds (λ b. a_closing b ∷ []) (IsClosing ts rest) old out
plain_closing ts rest old out e f = (None, closing_at e by_brace, f)

pub bound_closing : (ts inner last rest : List Piece) (n : List ℕ) (old out : Taking) → ts ≡ sign signs.Colon ∷ inner → inner ≡ number n ∷ last → last ≡ sign signs.CloseBrace ∷ rest → Follows (a_closing (Some n) ∷ []) old out
    → Adds (λ b. a_closing b ∷ []) (IsClosing ts rest) old out
bound_closing ts inner last rest n old out e f g h = (Some n, closing_at (e ∙ ap (λ x. sign signs.Colon ∷ x) (f ∙ ap (λ x. number n ∷ x) g)) by_bound, h)

pub neither : (ts : List Piece) → (Begins (sign signs.Colon) ts → ⊥) → (Begins (sign signs.CloseBrace) ts → ⊥) → NoClosing ts
neither ts no_colon no_brace rest b by_brace = no_brace (_, refl)
neither ts no_colon no_brace rest b by_bound = no_colon (_, refl)

after_colon : {inner rest : List Piece} {b : Option (List ℕ)} → IsClosing (sign signs.Colon ∷ inner) rest b → (n : List ℕ) × (inner ≡ number n ∷ sign signs.CloseBrace ∷ rest)
after_colon (by_bound {n}) = (n, refl)

pub no_number : (ts inner : List Piece) → ts ≡ sign signs.Colon ∷ inner → ((n : List ℕ) → Begins (number n) inner → ⊥) → NoClosing ts
no_number ts inner e none rest b c = let r = after_colon (closing_at (sym e) c) in none r.0 (_, r.1)
