-- The lines before those of a controller: it may be opened at the state that they left, and knows no more of them.
use Rattle.std.specs.Prelude.{◌≡◌, List, [], ◌++◌, Option, Some, None, ℕ}
use Rattle.path_model.specs.declared.journal.Line.{Line}
use Rattle.path_model.specs.Declarations.{Declaration}
use Rattle.path_model.specs.Asked.{IsAsked}
use Rattle.path_model.specs.Segments.{joined}
use Rattle.path_state.specs.States.{State, state_behind, WereOwed}
use Rattle.path_system.specs.Accounts.{Account}

-- These lines may have come before, over these opening contents: they were owed, and left the state at which the controller was opened; the
-- devices contained that when the controller took them. Where it was opened at no state there were none.
abbrev pub LeadTo : Declaration → Option State → List (List ℕ) → List (List ℕ) → List Line → Type 0
LeadTo d None taken openings before = (openings ≡ taken) × (before ≡ [])
LeadTo d (Some state) taken openings before =
    WereOwed d openings before × (state_behind d openings before ≡ record state { contents = taken })

-- P holds of all lines that may have come before, with their opening contents
abbrev pub BehindEach : Account → (List (List ℕ) → List Line → Type 0) → Type 0
BehindEach account P =
    (openings : List (List ℕ)) (before : List Line) → LeadTo account.declaration account.opened account.openings openings before
    → P openings before

-- the earlier lines, those before included; and all lines
abbrev pub earlier_behind : List Line → Account → List Line
earlier_behind before account = before ++ joined account.earlier

abbrev pub lines_behind : List Line → Account → List Line
lines_behind before account = earlier_behind before account ++ account.journal

-- a line asked the device of the resource, or may have: of those that led to a state that isn't known
abbrev pub WasAsked : Declaration → Option State → List Line → ℕ → Type 0
WasAsked d None lines r = IsAsked d lines r
WasAsked d (Some state) lines r = Unit {0}
