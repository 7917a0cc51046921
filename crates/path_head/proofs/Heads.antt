-- A text begins with one head.
use Rattle.std.proofs.Common.{◌≡◌, ◌≤◌, ◌-◌, ℕ, List, [], ◌∷◌, ◌++◌, length, take, codes, decimal, Option, Some, None, refl, sym, ap, ◌∙◌, arith, append_assoc, length-append}
use Rattle.std.proofs.Math.Seq.{take-append_seam}
use Rattle.std.proofs.lemmas.List.{append_cancel_left}
use Rattle.hex.specs.Hex.{encode_lower}
use Rattle.sha2.specs.Sha256.{sha256}
use Rattle.path_model.specs.Declarations.{Declaration}
use Rattle.path_decl.specs.Lawful.{AreDistinctNames}
use Rattle.path_lines.specs.LineTexts.{operation_names}
use Rattle.path_head.specs.declared.fact.Fact.{Fact}
use Rattle.path_head.specs.declared.fact.Fact.TheVariants as facts
use Rattle.path_head.specs.declared.hash.Sum.{Sum}
use Rattle.path_head.specs.declared.front.Front.{Front}
use Rattle.path_head.specs.HeadTexts.{room_before, of_before, counts_before, link_rest, link_before, front_before, fact_before, facts_before, lines_before, sum_before, head_before, FrontFits, FactsFit}
use Rattle.path_head.proofs.Facts.{facts_once}
use Rattle.path_head.proofs.Fronts.{front_once}

-- what follows the lines is appended to them
link_append : (print : List ℕ) (link : Option Sum) (x y : List ℕ) → link_rest print link (x ++ y) ≡ link_rest print link x ++ y
link_append print None x y = ap (λ z. codes "-\ndeclares " ++ z) (sym (append_assoc print (10 ∷ x) y))
link_append print (Some sum) x y = sym (append_assoc (encode_lower sum.0) (10 ∷ x) y)

counts_append : (a b c d : List ℕ) (x y : List ℕ)
    → codes "after " ++ (a ++ (codes " lines " ++ (b ++ (codes " starts " ++ (c ++ (codes " workers " ++ (d ++ (codes " files\n" ++ (x ++ y)))))))))
    ≡ (codes "after " ++ (a ++ (codes " lines " ++ (b ++ (codes " starts " ++ (c ++ (codes " workers " ++ (d ++ (codes " files\n" ++ x))))))))) ++ y
counts_append a b c d x y = simp append_assoc

pub front_append : (print : List ℕ) (f : Front) (x y : List ℕ) → front_before print f (x ++ y) ≡ front_before print f x ++ y
front_append print f x y =
    ap (λ z. room_before f.room (of_before print (counts_before f.before (codes "link " ++ z)))) (link_append print f.link x y)
    ∙ ap (λ z. room_before f.room (of_before print z)) (counts_append (decimal f.before.lines) (decimal f.before.starts) (decimal f.before.highest) (decimal f.before.files) (codes "link " ++ link_rest print f.link x) y)
    ∙ ap (λ z. room_before f.room (codes "of " ++ z)) (sym (append_assoc (encode_lower (sha256 print)) (10 ∷ counts_before f.before (link_before print f.link x)) y))
    ∙ ap (λ z. codes "journal 4 room " ++ z) (sym (append_assoc (decimal f.room) (10 ∷ of_before print (counts_before f.before (link_before print f.link x))) y))

fact_append : (d : Declaration) (f : Fact) (x y : List ℕ) → fact_before d f (x ++ y) ≡ fact_before d f x ++ y
fact_append d (facts.Live a) x y = simp append_assoc
fact_append d (facts.Stands s) x y = simp append_assoc
fact_append d (facts.Contains c) x y = simp append_assoc

pub facts_append : (d : Declaration) (fs : List Fact) (x y : List ℕ) → facts_before d fs (x ++ y) ≡ facts_before d fs x ++ y
facts_append d [] x y = refl
facts_append d (f ∷ fs) x y = ap (fact_before d f) (facts_append d fs x y) ∙ fact_append d f (facts_before d fs x) y

pub lines_append : (d : Declaration) (print : List ℕ) (f : Front) (fs : List Fact) (y : List ℕ) → lines_before d print f fs y ≡ lines_before d print f fs [] ++ y
lines_append d print f fs y = ap (front_before print f) (facts_append d fs [] y) ∙ front_append print f (facts_before d fs []) y

-- what was read of a head: its front, its facts, and the last line
module _ (d : Declaration) (print text : List ℕ) (f : Front) (x : List ℕ) (fs : List Fact) (last : List ℕ) (e : text ≡ front_before print f x) (g : x ≡ facts_before d fs last) where
  pub read_lines : text ≡ lines_before d print f fs [] ++ last
  read_lines = e ∙ ap (front_before print f) g ∙ lines_append d print f fs last

  pub last_short : length last ≤ length text
  last_short = omega (arith, ap length read_lines, length-append (lines_before d print f fs []) last)

  pub above_is : (top : List ℕ) → top ≡ take (length text - length last) text → top ≡ lines_before d print f fs []
  above_is top a =
      let n : length text - length last ≡ length (lines_before d print f fs []) = omega (arith, ap length read_lines, length-append (lines_before d print f fs []) last) in
      a ∙ ap (λ k. take k text) n ∙ ap (take (length (lines_before d print f fs []))) read_lines ∙ take-append_seam (lines_before d print f fs []) last

  pub head_is : (top after : List ℕ) → top ≡ take (length text - length last) text → last ≡ codes "sum " ++ (encode_lower (sha256 top) ++ 10 ∷ after) → text ≡ head_before d print f fs after
  head_is top after a s = e ∙ ap (front_before print f) (g ∙ ap (facts_before d fs) (s ∙ ap (λ t. sum_before t after) (above_is top a)))

  -- no other head begins the text
  pub heads_same : AreDistinctNames (operation_names d) → length d.operations ≤ 256 → FrontFits f → FactsFit d fs → (r : List ℕ) → last ≡ codes "sum " ++ r → (top : List ℕ) → top ≡ take (length text - length last) text
      → (h : Front) (hs : List Fact) (rest : List ℕ) → FrontFits h → FactsFit d hs → text ≡ head_before d print h hs rest
      → (h ≡ f) × (hs ≡ fs) × (last ≡ codes "sum " ++ (encode_lower (sha256 top) ++ 10 ∷ rest))
  heads_same names few fit fits r l top a h hs rest k ks j =
      let p = front_once print h f _ x k fit (sym j ∙ e) in
      let q = facts_once d names hs fs _ r few ks fits (p.1 ∙ g ∙ ap (facts_before d fs) l) in
      let s : lines_before d print h hs [] ≡ top = (λ i. lines_before d print (p.0 i) (q.0 i) []) ∙ sym (above_is top a) in
      (p.0, q.0, l ∙ ap (λ z. codes "sum " ++ z) (sym q.1) ∙ ap (λ t. sum_before t rest) s)

pub after_same : (top after rest last : List ℕ) → last ≡ codes "sum " ++ (encode_lower (sha256 top) ++ 10 ∷ after) → last ≡ codes "sum " ++ (encode_lower (sha256 top) ++ 10 ∷ rest) → rest ≡ after
after_same top after rest last e f =
    let q : 10 ∷ rest ≡ 10 ∷ after = append_cancel_left (encode_lower (sha256 top)) _ _ (append_cancel_left (codes "sum ") _ _ (sym f ∙ e)) in
    cc
