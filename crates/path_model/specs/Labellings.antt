-- Labels on the events of a history: which execution each event belongs to.
use Rattle.std.specs.Prelude.{◌≡◌, ◌≢◌, ◌==◌, ◌≤◌, if◌then◌else◌, ℕ, List, [], ◌∷◌, ◌++◌, ◌⊎◌, length}
use Rattle.path_model.specs.declared.history.Event.{Event}
use Rattle.path_model.specs.Trees.{Bound, any, most}

-- a language: which lists of events are its words
abbrev pub Language : Type 1
Language = List Event → Type 0

-- the events of a list of labelled events
abbrev pub events_of : List (ℕ × Event) → List Event
events_of [] = []
events_of (l ∷ ls) = l.1 ∷ events_of ls

-- the events that carry the label, in order
abbrev pub carrying : ℕ → List (ℕ × Event) → List Event
carrying k [] = []
carrying k (l ∷ ls) = if k == l.0 then (l.1 ∷ carrying k ls) else carrying k ls

-- the events of each label that is in use form a word of the language
abbrev pub EachLabel : Language → List (ℕ × Event) → Type 0
EachLabel L ls = (k : ℕ) → carrying k ls ≢ [] → L (carrying k ls)

-- labels can be given, one to each event, so that each label's events form a word
abbrev pub IsShuffle : Language → List Event → Type 0
IsShuffle L w = (ls : List (ℕ × Event)) × (events_of ls ≡ w) × EachLabel L ls

abbrev pub Member : ℕ → List ℕ → Type 0
Member k [] = ⊥
Member k (l ∷ ls) = (k ≡ l) ⊎ Member k ls

abbrev pub NoneTwice : List ℕ → Type 0
NoneTwice [] = Unit {0}
NoneTwice (l ∷ ls) = (Member l ls → ⊥) × NoneTwice ls

-- no more than n numbers meet P
abbrev pub AtMost : ℕ → (ℕ → Type 0) → Type 0
AtMost n P = (ks : List ℕ) → NoneTwice ks → ((k : ℕ) → Member k ks → P k) → length ks ≤ n

-- some of the label's events are in x, and some in y after it
abbrev pub RunsAcross : List (ℕ × Event) → List (ℕ × Event) → ℕ → Type 0
RunsAcross x y k = (carrying k x ≢ []) × (carrying k y ≢ [])

-- at no front are more labels unfinished than the bound allows
abbrev pub WithinBound : Bound → List (ℕ × Event) → Type 0
WithinBound any ls = Unit {0}
WithinBound (most n) ls = (x y : List (ℕ × Event)) → ls ≡ x ++ y → AtMost n (RunsAcross x y)
