-- Receipts that may follow each other.
use Rattle.std.proofs.Common.{◌≡◌, ◌⊎◌, inl, inr, ℕ, ◌+◌, ◌<◌, List, length, Option, Some, None, IfSome, IfNone, get_or, ap, ◌∙◌, subst, arith, below_more}
use Rattle.std.proofs.lemmas.List.{get_or_default}
use Rattle.path_model.specs.declared.journal.Attempt.TheVariants.{Start}
use Rattle.path_model.specs.declared.journal.Reply.TheVariants.{Finished}
use Rattle.path_model.specs.declared.journal.Line.{Line}
use Rattle.path_workers.specs.declared.answer.Receipt.{Receipt}
use Rattle.path_workers.specs.declared.settle.SettleFault.{SettleFault}
use Rattle.path_workers.specs.declared.settle.SettleFault.TheVariants.{Mismatch}
use Rattle.path_workers.specs.Attempts.{Held}
use Rattle.path_workers.specs.Faults.{IsFault, FewReceipts}
use Rattle.path_workers.specs.Settled.{IsSettled}
use Rattle.path_run.specs.declared.outcome.End.{End}
use Rattle.path_run.specs.Lines.{HasFinish, HasNoFinish, MayFollow, AreInOrderTo, EachIsOrderly, IsFirstDisorder}
use Rattle.path_run.specs.Unsettled.{IsUnsettled}

nothing : Line
nothing = record { worker = 0; attempt = Start (record { 0 = 0 }); reply = Finished }

-- where there is no finish between, a blocked one may not follow a blocked one
pub no_finish : (lines : List Line) (low high : ℕ) → HasNoFinish lines low high → HasFinish lines low high → ⊥
no_finish lines low high none some = none some.0 (nothing) some.1 some.2 some.3 (some.4 (nothing))

-- one more receipt that may follow
pub order_more : (lines : List Line) (rs : List Receipt) (n : ℕ) (d e : Receipt) → n + 1 < length rs → AreInOrderTo n lines rs → MayFollow lines (get_or rs n d) (get_or rs (n + 1) e) → AreInOrderTo (n + 1) lines rs
order_more lines rs n d e within upto here i x low in_range =
    below_more (λ (j : ℕ). (y : Receipt) → j + 1 < length rs → MayFollow lines (get_or rs j y) (get_or rs (j + 1) y)) n (λ j lt y in_range'. upto j y lt in_range')
    (λ y in_range'.
    subst (λ (r : Receipt). MayFollow lines r (get_or rs (n + 1) y)) (get_or_default rs n d y (omega arith))
    (subst (λ (r : Receipt). MayFollow lines (get_or rs n d) r) (get_or_default rs (n + 1) e y within) here)) i low x in_range

-- what holds of a process holds of it whatever stands for those past the end
pub held_at : (P : List Receipt → End → Type 0) (hs : List Held) (es : List End) (i : ℕ) (r : Held) (rs : List Receipt) (f : End) → i < length hs → length hs ≡ length es
    → r ≡ get_or hs i r → rs ≡ r.receipts → P rs (get_or es i f) → (h : Held) (e : End) → P (get_or hs i h).receipts (get_or es i e)
held_at P hs es i r rs f lt same is own holds h e =
    let held : r ≡ get_or hs i h = is ∙ get_or_default hs i r h lt in
    subst (λ (x : End). P (get_or hs i h).receipts x) (get_or_default es i f e (omega arith))
    (subst (λ (xs : List Receipt). P xs (get_or es i f)) (own ∙ ap (λ (x : Held). x.receipts) held) holds)

-- the same of equal lists
pub orderly_of : (ls ls' : List Line) (hs hs' : List Held) (es es' : List End) → ls ≡ ls' → hs ≡ hs' → es ≡ es' → EachIsOrderly ls hs es → EachIsOrderly ls' hs' es'
orderly_of ls ls' hs hs' es es' l h e orderly =
    subst (λ (x : List Line). EachIsOrderly x hs' es') l (subst (λ (x : List Held). EachIsOrderly ls x es') h (subst (λ (x : List End). EachIsOrderly ls hs x) e orderly))

pub disorder_of : (ls ls' : List Line) (hs hs' : List Held) (es es' : List End) (place : ℕ) → ls ≡ ls' → hs ≡ hs' → es ≡ es' → IsFirstDisorder ls hs es place → IsFirstDisorder ls' hs' es' place
disorder_of ls ls' hs hs' es es' place l h e first =
    subst (λ (x : List Line). IsFirstDisorder x hs' es' place) l (subst (λ (x : List Held). IsFirstDisorder ls x es' place) h (subst (λ (x : List End). IsFirstDisorder ls hs x place) e first))

-- where there is no fault, the desk was settled and the receipts are in order
pub orderly_unless : (o f : Option SettleFault) (ls js : List Line) (ks hs : List Held) (ds es : List End) → js ≡ ls → hs ≡ ks → es ≡ ds
    → IfNone o ((f ≡ None) × EachIsOrderly js hs es) → IfNone o (EachIsOrderly ls ks ds)
orderly_unless (Some e) f ls js ks hs ds es l h d told = tt
orderly_unless None f ls js ks hs ds es l h d told = orderly_of js ls hs ks es ds l h d told.1

-- where there is one, it is that of the desk, or the first place out of order of a settled one
pub unsettled_where : (b : ℕ) (o f : Option SettleFault) (ls js : List Line) (ks hs : List Held) (ds es : List End) → js ≡ ls → hs ≡ ks → es ≡ ds
    → IfSome o (λ e. (f ≡ Some e) ⊎ ((f ≡ None) × ((place : ℕ) × (e ≡ Mismatch place) × IsFirstDisorder js hs es place)))
    → IfSome f (λ e. IsFault b ls ks e) → IfSome f (λ e. FewReceipts e) → IfNone f (IsSettled b ls ks) → IfSome o (λ e. IsUnsettled b ls ks ds e)
unsettled_where b None f ls js ks hs ds es l h d told fault few settled = tt
unsettled_where b (Some e) f ls js ks hs ds es l h d told fault few settled = elim told [
  | inl is ↦ inl (subst (λ (x : Option SettleFault). IfSome x (λ y. IsFault b ls ks y)) is fault, subst (λ (x : Option SettleFault). IfSome x (λ y. FewReceipts y)) is few)
  | inr none ↦ inr (none.1.0, none.1.1, subst (λ (x : Option SettleFault). IfNone x (IsSettled b ls ks)) none.0 settled, disorder_of js ls hs ks es ds none.1.0 l h d none.1.2)
]
