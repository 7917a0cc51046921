-- A text begins with one fact.
use Rattle.std.proofs.Common.{◌≡◌, ◌≢◌, ◌<◌, ◌≤◌, ◌^◌, ℕ, List, [], ◌∷◌, ◌++◌, length, codes, decimal, Some, refl, sym, ap, ◌∙◌, subst, arith, length-append}
use Rattle.std.specs.Prelude.{slice_get, Contains}
use Rattle.std.proofs.lemmas.List.{length-map, append_cancel_left}
use Rattle.std.proofs.lemmas.List.Elements.{All-contains}
use Rattle.std.proofs.lemmas.Option.{slice_get_within}
use Rattle.path_model.specs.declared.ids.OpId.{OpId}
use Rattle.path_model.specs.declared.journal.Activation.{Activation}
use Rattle.path_model.specs.Declarations.{Declaration}
use Rattle.path_decl.specs.Lawful.{AreDistinctNames}
use Rattle.path_lex.specs.Names.{IsName}
use Rattle.path_fields.specs.Splits.{HasNone, EndsAt}
use Rattle.path_fields.proofs.CallerLemmas.{until_once}
use Rattle.path_lines.specs.LineTexts.{operation_names, operation_text, name_or_number}
use Rattle.path_lines.proofs.CallerLemmas.{named, name_without, line_feed_outside, operation_once}
use Rattle.path_head.specs.declared.fact.Fact.{Fact}
use Rattle.path_head.specs.declared.fact.Fact.TheVariants as facts
use Rattle.path_head.specs.declared.fact.Stand.{Stand}
use Rattle.path_head.specs.declared.fact.Contained.{Contained}
use Rattle.path_head.specs.HeadTexts.{live_rest, stand_rest, contained_rest, fact_before, facts_before, LiveFits, StandFits, ContainedFits, FactFits, FactsFit}
use Rattle.path_head.proofs.Numbers.{Ends, number_once_before}

-- what ends numbers begins with no digit
pub space_ends : Ends (codes " ")
space_ends rest = λ is. omega (arith, is.0)

pub at_ends : Ends (codes " at ")
at_ends rest = λ is. omega (arith, is.0)

pub path_ends : Ends (codes " of path ")
path_ends rest = λ is. omega (arith, is.0)

pub feed_ends : Ends (codes "\n")
feed_ends rest = λ is. omega (arith, is.0)

-- numbers of 32 bits
pub small : (n : ℕ) → n < 2 ^ 32 → n < 2 ^ 64
small n h = omega (arith, h)

pub named_live : (d : Declaration) (a : OpId) (name : List ℕ) → slice_get (operation_names d) a.0 ≡ Some name → (operation_text d a ≡ name) × (a.0 < length d.operations)
named_live d a name e = (
  ap (λ o. name_or_number o a.0) e,
  omega (arith, slice_get_within (operation_names d) a.0 name e, length-map d.operations (λ o. o.name)),
)

module _ (d : Declaration) (names : AreDistinctNames (operation_names d)) where
  operation_clean : (a : OpId) → a.0 < length d.operations → HasNone 10 (operation_text d a)
  operation_clean a h = name_without 10 (operation_text d a) line_feed_outside (All-contains IsName (operation_names d) (operation_text d a) names.each (named d a h).1).word

  -- what stands up to the line feed is the name
  pub operation_here : (name rest text : List ℕ) (a : OpId) (after : List ℕ) → HasNone 10 name → EndsAt 10 rest → text ≡ name ++ rest → a.0 < length d.operations → text ≡ operation_text d a ++ 10 ∷ after
      → (name ≡ operation_text d a) × (rest ≡ 10 ∷ after)
  operation_here name rest text a after none end parts h e = until_once 10 name (operation_text d a) rest (10 ∷ after) none (operation_clean a h) end refl (sym parts ∙ e)

  pub undeclared_here : (name rest text : List ℕ) (a : OpId) (after : List ℕ) → HasNone 10 name → EndsAt 10 rest → text ≡ name ++ rest → (Contains (operation_names d) name → ⊥) → a.0 < length d.operations → text ≡ operation_text d a ++ 10 ∷ after → ⊥
  undeclared_here name rest text a after none end parts absent h e =
      absent (subst (Contains (operation_names d)) (sym (operation_here name rest text a after none end parts h e).0) (named d a h).1)

  live_once : (a b : Activation) (x y : List ℕ) → length d.operations ≤ 256 → LiveFits d a → LiveFits d b → live_rest d a x ≡ live_rest d b y → (a ≡ b) × (x ≡ y)
  live_once a b x y few h k e =
      let p = number_once_before (codes " ") a.act.0 b.act.0 _ _ space_ends h.0 k.0 e in
      let q = number_once_before (codes " ") a.worker b.worker _ _ space_ends (small a.worker h.1) (small b.worker k.1) p.1 in
      let r = operation_here (operation_text d a.op) (10 ∷ x) _ b.op y (operation_clean a.op h.2) refl refl k.2 q.1 in
      let s = operation_once d a.op b.op names (omega (arith, h.2, few)) (omega (arith, k.2, few)) r.0 in
      let after : x ≡ y = let t = r.1 in cc in
      ((λ i. record { act = record { 0 = p.0 i }; worker = q.0 i; op = s i }), after)

  stand_once : (a b : Stand) (x y : List ℕ) → StandFits a → StandFits b → stand_rest a x ≡ stand_rest b y → (a ≡ b) × (x ≡ y)
  stand_once a b x y h k e =
      let p = number_once_before (codes " at ") a.number b.number _ _ at_ends h.0 k.0 e in
      let q = number_once_before (codes " of path ") a.place b.place _ _ path_ends (small a.place h.1) (small b.place k.1) p.1 in
      let r = number_once_before (codes "\n") a.path.0 b.path.0 x y feed_ends (small a.path.0 h.2) (small b.path.0 k.2) q.1 in
      ((λ i. record { number = p.0 i; place = q.0 i; path = record { 0 = r.0 i } }), r.1)

  contained_once : (a b : Contained) (x y : List ℕ) → ContainedFits a → ContainedFits b → contained_rest a x ≡ contained_rest b y → (a ≡ b) × (x ≡ y)
  contained_once a b x y h k e =
      let p = number_once_before (codes " ") a.resource.0 b.resource.0 _ _ space_ends (small a.resource.0 h.0) (small b.resource.0 k.0) e in
      let q = number_once_before (codes "\n") a.number b.number x y feed_ends h.1 k.1 p.1 in
      ((λ i. record { resource = record { 0 = p.0 i }; number = q.0 i }), q.1)

  same_head : {x y : ℕ} {xs ys : List ℕ} → x ∷ xs ≡ y ∷ ys → x ≡ y
  same_head e = cc

  same_tail : {x y : ℕ} {xs ys : List ℕ} → x ∷ xs ≡ y ∷ ys → xs ≡ ys
  same_tail e = cc

  pub fact_once : (f g : Fact) (x y : List ℕ) → length d.operations ≤ 256 → FactFits d f → FactFits d g → fact_before d f x ≡ fact_before d g y → (f ≡ g) × (x ≡ y)
  fact_once (facts.Live a) (facts.Live b) x y few h k e = let p = live_once a b x y few h k (append_cancel_left (codes "live ") _ _ e) in (ap facts.Live p.0, p.1)
  fact_once (facts.Stands a) (facts.Stands b) x y few h k e = let p = stand_once a b x y h k (append_cancel_left (codes "stands ") _ _ e) in (ap facts.Stands p.0, p.1)
  fact_once (facts.Contains a) (facts.Contains b) x y few h k e = let p = contained_once a b x y h k (append_cancel_left (codes "contains ") _ _ e) in (ap facts.Contains p.0, p.1)
  fact_once f g x y few h k e = let i = same_head e in absurd (omega (arith, i))

  -- no fact begins as the last line does
  pub no_sum : (f : Fact) (x y : List ℕ) → fact_before d f x ≡ codes "sum " ++ y → ⊥
  no_sum (facts.Live a) x y e = let i = same_head e in absurd (omega (arith, i))
  no_sum (facts.Stands a) x y e = let i = same_head (same_tail e) in absurd (omega (arith, i))
  no_sum (facts.Contains a) x y e = let i = same_head e in absurd (omega (arith, i))

  pub facts_once : (fs gs : List Fact) (x y : List ℕ) → length d.operations ≤ 256 → FactsFit d fs → FactsFit d gs → facts_before d fs (codes "sum " ++ x) ≡ facts_before d gs (codes "sum " ++ y) → (fs ≡ gs) × (x ≡ y)
  facts_once [] [] x y few h k e = (refl, append_cancel_left (codes "sum ") x y e)
  facts_once [] (g ∷ gs) x y few h k e = absurd (no_sum g _ x (sym e))
  facts_once (f ∷ fs) [] x y few h k e = absurd (no_sum f _ y e)
  facts_once (f ∷ fs) (g ∷ gs) x y few h k e =
      let p = fact_once f g _ _ few h.0 k.0 e in
      let q = facts_once fs gs x y few h.1 k.1 p.1 in
      let first : f ≡ g = p.0 in
      let rest : fs ≡ gs = q.0 in
      (cc, q.1)

  -- where a line is neither a fact nor the last, no facts have the text
  pub facts_none : (fs gs : List Fact) (rest y : List ℕ) → length d.operations ≤ 256 → FactsFit d fs → ((f : Fact) (x : List ℕ) → FactFits d f → rest ≢ fact_before d f x) → ((x : List ℕ) → rest ≢ codes "sum " ++ x)
      → FactsFit d gs → facts_before d fs rest ≡ facts_before d gs (codes "sum " ++ y) → ⊥
  facts_none [] [] rest y few h n s k e = s y e
  facts_none [] (g ∷ gs) rest y few h n s k e = n g _ k.0 e
  facts_none (f ∷ fs) [] rest y few h n s k e = no_sum f _ y e
  facts_none (f ∷ fs) (g ∷ gs) rest y few h n s k e = facts_none fs gs rest y few h.1 n s k.1 (fact_once f g _ _ few h.0 k.0 e).1

-- one fact more
pub facts_more : (d : Declaration) (fs : List Fact) (f : Fact) (rest : List ℕ) → facts_before d (fs ++ f ∷ []) rest ≡ facts_before d fs (fact_before d f rest)
facts_more d [] f rest = refl
facts_more d (g ∷ fs) f rest = ap (fact_before d g) (facts_more d fs f rest)

pub fits_more : (d : Declaration) (fs : List Fact) (f : Fact) → FactsFit d fs → FactFits d f → FactsFit d (fs ++ f ∷ [])
fits_more d [] f h k = (k, tt)
fits_more d (g ∷ fs) f h k = (h.0, fits_more d fs f h.1 k)

-- a fact has bytes of its own
pub fact_long : (d : Declaration) (f : Fact) (rest : List ℕ) → length rest < length (fact_before d f rest)
fact_long d (facts.Live a) rest = simp length-append (omega arith)
fact_long d (facts.Stands s) rest = simp length-append (omega arith)
fact_long d (facts.Contains c) rest = simp length-append (omega arith)

-- the parts of a line of what is in progress
pub live_is : (d : Declaration) (a : Activation) (text x y name z rest : List ℕ) → text ≡ decimal a.act.0 ++ (codes " " ++ x) → x ≡ decimal a.worker ++ (codes " " ++ y) → y ≡ name ++ z → operation_text d a.op ≡ name → z ≡ 10 ∷ rest
    → text ≡ live_rest d a rest
live_is d a text x y name z rest e f g h k =
    let last : y ≡ operation_text d a.op ++ 10 ∷ rest = g ∙ ap (λ n. n ++ z) (sym h) ∙ ap (λ w. operation_text d a.op ++ w) k in
    e ∙ ap (λ w. decimal a.act.0 ++ (codes " " ++ w)) (f ∙ ap (λ w. decimal a.worker ++ (codes " " ++ w)) last)

pub read_more : (d : Declaration) (text : List ℕ) (fs ms : List Fact) (f : Fact) (rest after : List ℕ) → ms ≡ fs ++ f ∷ [] → rest ≡ fact_before d f after → FactFits d f → text ≡ facts_before d fs rest → FactsFit d fs
    → record { read : text ≡ facts_before d ms after; fits : FactsFit d ms }
read_more d text fs ms f rest after m e h r k = record {
  read = r ∙ ap (facts_before d fs) e ∙ sym (facts_more d fs f after) ∙ ap (λ gs. facts_before d gs after) (sym m);
  fits = subst (FactsFit d) (sym m) (fits_more d fs f k h);
}
