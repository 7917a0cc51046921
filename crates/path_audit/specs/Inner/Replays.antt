-- The replay of a journal: what one line does to it, and when it agrees with a journal.
use Rattle.std.specs.Prelude.{◌≡◌, ℕ, Bool, true, false, List, []}
use Rattle.path_model.specs.declared.journal.Verb.{Verb}
use Rattle.path_model.specs.declared.journal.Reply.{Reply}
use Rattle.path_model.specs.declared.journal.Reply.TheVariants.{DeviceFailed}
use Rattle.path_model.specs.declared.journal.Line.{Line}
use Rattle.path_model.specs.Declarations.{Declaration, paths_of}
use Rattle.path_gate.specs.Standings.{IsAt}
use Rattle.path_step.specs.Steps.{Present, Answers}
use Rattle.path_step.specs.Presents.{IsPresentOf}
use Rattle.path_audit.specs.Inner.Outcomes.{IsLike}

-- what each resource contains, and whether the device of the next use fails
pub record Held : Type 0 where
  pub contents : List (List ℕ)
  pub fails : Bool

-- the gate and what is live, and the resources
pub record ReplayValue : Type 0 where
  pub present : Present
  pub held : Held

-- whether the reply says that the device failed
abbrev pub says_failed : Reply → Bool
says_failed DeviceFailed = true
says_failed reply = false

-- what is known when a resource was asked
abbrev pub asked : Held → ℕ → Verb → Reply → Held → Type 0
asked old r verb reply new = IsLike old.fails reply

-- the resources before a line: the device fails if the line says so
abbrev pub held_for : Held → Line → Held
held_for held line = record held { fails = says_failed line.reply }

-- the attempt of a line after this number of lines takes one replay to another with this reply
abbrev pub Replays : Declaration → ReplayValue → ℕ → ℕ → Line → Reply → ReplayValue → Type 0
Replays d old room lines line reply new =
    Answers (λ h. h.contents) asked d old.present (held_for old.held line) room lines line.worker line.attempt reply new.present new.held

-- the replay agrees with an honest journal
abbrev pub IsReplayOf : ReplayValue → Declaration → ℕ → List (List ℕ) → List Line → Type 0
IsReplayOf replay d room openings journal = IsPresentOf replay.present replay.held.contents d room openings journal

-- the replay of no lines
pub record IsOpened (replay : ReplayValue) (d : Declaration) (openings : List (List ℕ)) : Type 0 where
  pub paths : replay.present.standing.paths ≡ paths_of d
  pub at : IsAt replay.present.standing []
  pub admitted : replay.present.standing.admitted ≡ 0
  pub register : replay.present.register ≡ record { live = []; begun = 0 }
  pub contents : replay.held.contents ≡ openings
