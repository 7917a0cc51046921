use Rattle.std.proofs.Common.{◌≤◌, ◌-◌, length}
use Rattle.path_lex.specs.Spelling.{views}
use Rattle.path_lex.proofs.Cut.{Reached, IsClean}
use Rattle.path_lex.proofs.lex.cut.Given as goal

abbrev pub invariant-loop-at : goal.invariant-loop-at
invariant-loop-at g l = record { within : l.at ≤ length l.text; reached : Reached l.text (views l.tokens.items) l.at; clean : IsClean l.text l.at }

abbrev pub decreases-loop-at : goal.decreases-loop-at
decreases-loop-at g l = length l.initial.text - l.at
