-- Which tokens are a law, and that they are one law.
use Rattle.std.proofs.Common.{◌≡◌, ℕ, List, ◌∷◌, refl, sym, ap, ◌∙◌, subst}
use Rattle.path_lex.specs.declared.token.Reserved.TheVariants as words
use Rattle.path_lex.specs.Spelling.{Piece, reserved, number}
use Rattle.path_decl.specs.Forms.{LawForm, a_cell, a_tally, a_queue}
use Rattle.path_decl.specs.Grammar.{IsLaw, by_cell, by_tally, by_queue}
use Rattle.path_read.specs.Inner.Reading.{Begins}
use Rattle.path_read.proofs.Once.{Same}

pub law_once : {ts r r' : List Piece} {l l' : LawForm} → IsLaw ts r l → IsLaw ts r' l' → Same r r' l l'
law_once by_cell by_cell = (refl, refl)
law_once by_tally by_tally = (refl, refl)
law_once by_queue by_queue = (refl, refl)

pub law_from_there : {ts ts' r : List Piece} {l : LawForm} → ts ≡ ts' → IsLaw ts' r l → IsLaw ts r l
law_from_there {r} {l} e q = subst (λ x. IsLaw x r l) (sym e) q

pub is_cell : (ts rest : List Piece) → ts ≡ reserved words.Cell ∷ rest → IsLaw ts rest a_cell
is_cell ts rest e = law_from_there e by_cell

pub is_tally : (ts rest : List Piece) → ts ≡ reserved words.Tally ∷ rest → IsLaw ts rest a_tally
is_tally ts rest e = law_from_there e by_tally

pub is_queue : (ts sized rest : List Piece) (n : List ℕ) → ts ≡ reserved words.Queue ∷ sized → sized ≡ number n ∷ rest → IsLaw ts rest (a_queue n)
is_queue ts sized rest n e f = law_from_there (e ∙ ap (λ x. reserved words.Queue ∷ x) f) by_queue

-- no law begins so
abbrev pub NoLaw : List Piece → Type 0
NoLaw ts = (rest : List Piece) (l : LawForm) → IsLaw ts rest l → ⊥

pub no_kind : (ts : List Piece) → (Begins (reserved words.Cell) ts → ⊥) → (Begins (reserved words.Tally) ts → ⊥) → (Begins (reserved words.Queue) ts → ⊥) → NoLaw ts
no_kind ts cell tally queue rest l by_cell = cell (_, refl)
no_kind ts cell tally queue rest l by_tally = tally (_, refl)
no_kind ts cell tally queue rest l by_queue = queue (_, refl)

after_queue : {sized rest : List Piece} {l : LawForm} → IsLaw (reserved words.Queue ∷ sized) rest l → (n : List ℕ) × (sized ≡ number n ∷ rest)
after_queue (by_queue {n}) = (n, refl)

pub no_capacity : (ts sized : List Piece) → ts ≡ reserved words.Queue ∷ sized → ((n : List ℕ) → Begins (number n) sized → ⊥) → NoLaw ts
no_capacity ts sized e none rest l q = let r = after_queue (law_from_there (sym e) q) in none r.0 (_, r.1)
