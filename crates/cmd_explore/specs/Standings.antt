-- Where each process of a script is behind the lines of a schedule, in words.
use Rattle.std.specs.Prelude.{ℕ, ◌+◌, ◌-◌, ◌==◌, List, [], ◌∷◌, ◌++◌, codes, length, Option, Some, None, unwrap_or, if◌then◌else◌}
use Rattle.path_model.specs.declared.journal.Attempt.{Attempt}
use Rattle.path_model.specs.declared.journal.Attempt.TheVariants.{Start}
use Rattle.path_model.specs.declared.journal.Reply.{Reply}
use Rattle.path_model.specs.declared.journal.Reply.TheVariants.{Started, Used, Finished, Blocked}
use Rattle.path_model.specs.declared.journal.Line.{Line}
use Rattle.path_model.specs.Declarations.{Declaration}
use Rattle.path_lines.specs.LineTexts.{operation_text, reply_text}
use Rattle.path_script.specs.Scripts.{Plan}
use Rattle.cmd_explore.specs.declared.standings.Standing.{Standing}
use Rattle.cmd_explore.specs.declared.standings.Standing.TheVariants.{Done, UnderWay, Stalled, Faulted}

-- where a process is after an attempt of its own; none, if its step was taken
abbrev pub told_by : Attempt → Reply → Option Standing
told_by a (Started n) = None
told_by a (Used x) = None
told_by a Finished = None
told_by (Start op) (Blocked path) = Some (Stalled op)
told_by a reply = Some (Faulted reply)

-- where the process of worker w is behind the lines, with so many steps left before them
abbrev pub standing_of : List Line → ℕ → ℕ → Standing
standing_of [] w left = if left == 0 then Done else UnderWay
standing_of (l ∷ ls) w left =
    if l.worker == w then unwrap_or (told_by l.attempt l.reply) (standing_of ls w (left - 1)) else standing_of ls w left

abbrev pub standing_text : Declaration → Standing → List ℕ
standing_text d Done = codes "done"
standing_text d UnderWay = codes "under way"
standing_text d (Stalled op) = codes "stalled " ++ operation_text d op
standing_text d (Faulted reply) = codes "faulted " ++ reply_text reply

-- the line of a process: its name, and where it is
abbrev pub standing_line : Declaration → List ℕ → Standing → List ℕ
standing_line d name standing = name ++ (codes ": " ++ (standing_text d standing ++ 10 ∷ []))

-- the lines of processes, whose workers are numbered from w on
abbrev pub standings_text : Declaration → List Line → ℕ → List Plan → List ℕ
standings_text d lines w [] = []
standings_text d lines w (p ∷ ps) = standing_line d p.name (standing_of lines w (length p.steps)) ++ standings_text d lines (w + 1) ps
