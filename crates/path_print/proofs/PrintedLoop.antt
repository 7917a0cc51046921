-- How far the loop over the resources has come.
use Rattle.std.proofs.Common.{◌≡◌, ℕ, ◌+◌, ◌≤◌, Bool, true, false, List, [], ◌∷◌, ◌++◌, length, drop, nat_lt, Some, slice_get, codes, refl, sym, ap, ◌∙◌, arith, append_assoc, append-nil, if◌then◌else◌}
use Rattle.std.proofs.lemmas.Bool.{lt-ltb}
use Rattle.std.proofs.lemmas.List.{drop_all}
use Rattle.path_model.specs.declared.resource.Law.{Law}
use Rattle.path_model.specs.Declarations.{Resource, Operation, Path, Declaration}
use Rattle.path_lex.specs.Spelling.{Piece, reserved}
use Rattle.path_lex.specs.declared.token.Reserved.TheVariants as words
use Rattle.path_print.specs.Printed.{piece_text, spaced, laid, head_pieces, law_pieces, names_pieces, paths_pieces, resource_pieces}
use Rattle.path_print.specs.Inner.PrintedSteps.{names_here, operations_after, trees_here, paths_after, joined}
use Rattle.path_print.proofs.PrintedBytes.{spaced-append}
use Rattle.path_print.proofs.PrintedWalk.{from_at, walked}

-- the tokens of the resources from that number on, whose operations and paths begin at these places
abbrev pub left_of : Declaration → ℕ → ℕ → ℕ → List Piece
left_of d number op path = walked d.operations number (drop number d.resources) (drop op d.operations) (drop path d.paths)

-- the resources before that number are printed: what is left makes the text whole
pub record Printing (out : List ℕ) (d : Declaration) (number op path : ℕ) : Type 0 where
  pub text : out ++ joined (nat_lt 0 number) (left_of d number op path) ≡ joined false (left_of d 0 0 0)

pub printing_first : (d : Declaration) → Printing [] d 0 0 0
printing_first d = record { text = refl }

joined-head : (b : Bool) (r : Resource) (ps : List Piece) → joined b (head_pieces r ++ ps) ≡ joined b (head_pieces r) ++ spaced ps
joined-head true r ps = spaced-append (head_pieces r) ps
joined-head false r ps = simp (append_assoc, spaced-append) refl

-- what is printed before the names of a resource's operations
pub head_from : (out start a b c next name : List ℕ) (w : Bool) (law : Law) (r : Resource) → start ≡ out ++ (if w then 32 ∷ [] else []) → a ≡ start ++ codes "resource" →
    b ≡ a ++ 32 ∷ name → name ≡ r.name → c ≡ b ++ spaced (law_pieces law) → law ≡ r.law → next ≡ c ++ codes " operation" → next ≡ out ++ joined w (head_pieces r)
head_from out start a b c next name true law r es ea eb en ec el e = rw (e, ec, eb, ea, es, en, el) (simp (append_assoc, spaced-append) refl)
head_from out start a b c next name false law r es ea eb en ec el e = rw (e, ec, eb, ea, es, en, el) (simp (append_assoc, append-nil, spaced-append) refl)

-- what one resource adds
walked_at : (all : List Operation) (k : ℕ) (rs rest : List Resource) (r : Resource) (os later : List Operation) (ps after : List Path) → rs ≡ r ∷ rest → later ≡ operations_after k os → after ≡ paths_after k ps →
    walked all k rs os ps ≡ resource_pieces all r (names_here k os) (trees_here k ps) ++ walked all (k + 1) rest later after
unfolding walked
walked_at all k rs rest r os later ps after e f g = rw (e, f, g) refl

body : (ns ts rest : List Piece) → spaced ((ns ++ (ts ++ reserved words.End ∷ [])) ++ rest) ≡ spaced ns ++ (spaced ts ++ (codes " end" ++ spaced rest))
body ns ts rest = simp (append_assoc, spaced-append) refl

gather : (out a b c d : List ℕ) → ((((out ++ a) ++ b) ++ c) ++ codes " end") ++ d ≡ out ++ (a ++ (b ++ (c ++ (codes " end" ++ d))))
gather out a b c d = simp append_assoc refl

pub printing_more : (d : Declaration) (out a b c next : List ℕ) (number op path later after : ℕ) (r : Resource) → Printing out d number op path → slice_get d.resources number ≡ Some r →
    a ≡ out ++ joined (nat_lt 0 number) (head_pieces r) →
    b ≡ a ++ spaced (names_pieces (names_here number (drop op d.operations))) →
    c ≡ b ++ spaced (paths_pieces d.operations (trees_here number (drop path d.paths))) →
    next ≡ c ++ codes " end" →
    drop later d.operations ≡ operations_after number (drop op d.operations) → drop after d.paths ≡ paths_after number (drop path d.paths) → Printing next d (number + 1) later after
printing_more d out a b c next number op path later after r p at ea eb ec en eo ep =
    let more : nat_lt 0 (number + 1) ≡ true = lt-ltb 0 (number + 1) (omega arith) in
    let w = walked_at d.operations number (drop number d.resources) (drop (number + 1) d.resources) r (drop op d.operations) (drop later d.operations) (drop path d.paths) (drop after d.paths) (from_at d.resources number r at) eo ep in
    let jh : List ℕ = joined (nat_lt 0 number) (head_pieces r) in
    let sn : List ℕ = spaced (names_pieces (names_here number (drop op d.operations))) in
    let sp : List ℕ = spaced (paths_pieces d.operations (trees_here number (drop path d.paths))) in
    let rest : List Piece = left_of d (number + 1) later after in
    let tail = paths_pieces d.operations (trees_here number (drop path d.paths)) in
    let was : joined (nat_lt 0 number) (left_of d number op path) ≡ jh ++ (sn ++ (sp ++ (codes " end" ++ spaced rest))) =
    ap (λ x. joined (nat_lt 0 number) x) (w ∙ append_assoc (head_pieces r) (names_pieces (names_here number (drop op d.operations)) ++ (tail ++ reserved words.End ∷ [])) rest)
    ∙ joined-head (nat_lt 0 number) r ((names_pieces (names_here number (drop op d.operations)) ++ (tail ++ reserved words.End ∷ [])) ++ rest)
    ∙ ap (λ x. jh ++ x) (body (names_pieces (names_here number (drop op d.operations))) tail rest) in
    record { text = rw (more, en, ec, eb, ea) (gather out jh sn sp (spaced rest) ∙ ap (λ x. out ++ x) (sym was) ∙ p.text) }

joined_none : (b : Bool) → joined b [] ≡ []
joined_none true = refl
joined_none false = refl

pub printing_end : (d : Declaration) (out : List ℕ) (number op path : ℕ) → Printing out d number op path → length d.resources ≤ number → out ≡ joined false (left_of d 0 0 0)
unfolding walked
printing_end d out number op path p h =
    let e : left_of d number op path ≡ [] = ap (λ rs. walked d.operations number rs (drop op d.operations) (drop path d.paths)) (drop_all number d.resources h) in
    let f : joined (nat_lt 0 number) (left_of d number op path) ≡ [] = ap (λ l. joined (nat_lt 0 number) l) e ∙ joined_none (nat_lt 0 number) in
    sym (append-nil out) ∙ ap (λ l. out ++ l) (sym f) ∙ p.text

pub laid-joined : (ps : List Piece) → joined false ps ++ 10 ∷ [] ≡ laid ps
laid-joined [] = refl
laid-joined (p ∷ ps) = append_assoc (piece_text p) (spaced ps) (10 ∷ [])
