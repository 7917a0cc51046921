-- A head that is written piece by piece.
use Rattle.std.proofs.Common.{◌≡◌, ◌<◌, ◌+◌, ℕ, List, [], ◌∷◌, ◌++◌, length, take, get_or, codes, decimal, sym, ap, ◌∙◌, append_assoc}
use Rattle.std.proofs.lemmas.List.{take_more}
use Rattle.hex.specs.Hex.{encode_lower}
use Rattle.sha2.specs.Sha256.{sha256}
use Rattle.path_model.specs.Declarations.{Declaration}
use Rattle.path_head.specs.declared.fact.Fact.{Fact}
use Rattle.path_head.specs.declared.front.Front.{Front}
use Rattle.path_head.specs.HeadTexts.{room_before, counts_before, link_before, front_before, fact_before, facts_before, lines_before, sum_before, head_before}
use Rattle.path_head.proofs.Facts.{facts_more}
use Rattle.path_head.proofs.Heads.{front_append, facts_append, lines_append}

-- the lines of a front, one behind the other
pieces : (old r s a b c d l : List ℕ)
    → ((((old ++ (codes "journal 4 room " ++ (r ++ 10 ∷ []))) ++ codes "of ") ++ (s ++ 10 ∷ []))
    ++ (codes "after " ++ (a ++ (codes " lines " ++ (b ++ (codes " starts " ++ (c ++ (codes " workers " ++ (d ++ (codes " files\n" ++ []))))))))))
    ++ l
    ≡ old ++ (codes "journal 4 room " ++ (r ++ 10 ∷ (codes "of " ++ (s ++ 10 ∷ (codes "after " ++ (a ++ (codes " lines " ++ (b ++ (codes " starts " ++ (c ++ (codes " workers " ++ (d ++ (codes " files\n" ++ l)))))))))))))
pieces old r s a b c d l = simp append_assoc

pub front_written : (print : List ℕ) (f : Front) (old a b s c l : List ℕ) → a ≡ old ++ room_before f.room [] → b ≡ a ++ codes "of " → s ≡ b ++ (encode_lower (sha256 print) ++ 10 ∷ []) → c ≡ s ++ counts_before f.before []
    → l ≡ c ++ link_before print f.link [] → l ≡ old ++ front_before print f []
front_written print f old a b s c l p q r t u =
    u ∙ ap (λ x. x ++ link_before print f.link []) (t ∙ ap (λ x. x ++ counts_before f.before []) (r ∙ ap (λ x. x ++ (encode_lower (sha256 print) ++ 10 ∷ [])) (q ∙ ap (λ x. x ++ codes "of ") p)))
    ∙ pieces old (decimal f.room) (encode_lower (sha256 print)) (decimal f.before.lines) (decimal f.before.starts) (decimal f.before.highest) (decimal f.before.files) (link_before print f.link [])

-- one more fact
pub fact_written : (d : Declaration) (fs : List Fact) (i : ℕ) (e : Fact) (first before after : List ℕ) → i < length fs → after ≡ before ++ fact_before d (get_or fs i e) [] → before ≡ first ++ facts_before d (take i fs) []
    → after ≡ first ++ facts_before d (take (i + 1) fs) []
fact_written d fs i e first before after h p q =
    p ∙ ap (λ x. x ++ fact_before d (get_or fs i e) []) q ∙ append_assoc first (facts_before d (take i fs) []) (fact_before d (get_or fs i e) [])
    ∙ ap (λ x. first ++ x) (sym (facts_append d (take i fs) [] (fact_before d (get_or fs i e) [])) ∙ sym (facts_more d (take i fs) (get_or fs i e) []) ∙ ap (λ gs. facts_before d gs []) (sym (take_more fs i e h)))

-- the last line behind all others
pub head_written : (d : Declaration) (print : List ℕ) (f : Front) (fs : List Fact) (a b c e sum : List ℕ) → a ≡ front_before print f [] → b ≡ a ++ facts_before d fs [] → c ≡ b ++ codes "sum " → e ≡ c ++ (encode_lower sum ++ 10 ∷ []) → sum ≡ sha256 b
    → e ≡ head_before d print f fs []
head_written d print f fs a b c e sum p q r t u =
    let lines : b ≡ lines_before d print f fs [] = q ∙ ap (λ x. x ++ facts_before d fs []) p ∙ sym (front_append print f [] (facts_before d fs [])) in
    let all : e ≡ b ++ sum_before b [] = t ∙ ap (λ x. x ++ (encode_lower sum ++ 10 ∷ [])) r ∙ append_assoc b (codes "sum ") (encode_lower sum ++ 10 ∷ []) ∙ ap (λ s. b ++ (codes "sum " ++ (encode_lower s ++ 10 ∷ []))) u in
    all ∙ ap (λ x. x ++ sum_before x []) lines ∙ sym (lines_append d print f fs (sum_before (lines_before d print f fs []) []))
