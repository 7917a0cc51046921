-- What one line is: a step, or why it can't follow.
use Rattle.std.proofs.Common.{◌≡◌, ℕ, Some, None, length, List, inl, inr, sym, ap, ◌∙◌, refl, subst, arith, All}
use Rattle.std.specs.Prelude.{slice_get}
use Rattle.std.proofs.lemmas.List.{length-map}
use Rattle.std.proofs.lemmas.List.Elements.{All-contains}
use Rattle.std.proofs.lemmas.Bool.{cases_lt}
use Rattle.std.proofs.lemmas.Option.{slice_get_past}
use Rattle.path_model.specs.declared.ids.OpId.{OpId}
use Rattle.path_model.specs.Declarations.{Declaration}
use Rattle.path_lex.specs.Names.{IsName}
use Rattle.path_lines.specs.LineTexts.{operation_names, name_or_number, operation_text}
use Rattle.path_lines.proofs.CallerLemmas.{named}
use Rattle.path_script.specs.declared.fault.Cause.TheVariants as causes
use Rattle.path_script.specs.declared.fault.Cause.{Cause}
use Rattle.path_script.specs.declared.script.Step.{Step}
use Rattle.path_script.specs.declared.script.Step.TheVariants.{Enter, Apply, Leave}
use Rattle.path_script.specs.ScriptLines.{ScriptLine, enters, line_text, LineFits}
use Rattle.path_script.specs.ScriptTexts.{step_line, StepFits}
use Rattle.path_script.specs.ScriptFaults.{Standing, within, MayStand, Bars, barred, Refuses, no_form, no_rule}
use Rattle.path_script.proofs.LineLemmas.{line_once}

-- a line whose form may not stand here
pub bad_place : (d : Declaration) (s : Standing) (line : List ℕ) (l : ScriptLine) → line ≡ line_text l → LineFits l → (MayStand s l → ⊥) → Refuses d s line causes.Bad
bad_place d s line l is fit none = no_form (λ m h may e. none (subst (MayStand s) (line_once m l h fit (sym e ∙ is)) may))

-- a line that enters a declared name is the line of a step
pub enter_told : (d : Declaration) (line name : List ℕ) (a : OpId) → line ≡ line_text (enters name) → slice_get (operation_names d) a.0 ≡ Some name → (line ≡ line_text (step_line d (Enter a))) × StepFits d (Enter a)
enter_told d line name a is found =
    let same : operation_text d a ≡ name = ap (λ o. name_or_number o a.0) found in
    let spelled : line ≡ line_text (enters (operation_text d a)) = is ∙ ap (λ x. line_text (enters x)) (sym same) in (
      spelled,
      elim (cases_lt a.0 (length d.operations)) [
        | inl lt ↦ lt
        | inr ge ↦
            let count : length (operation_names d) ≡ length d.operations = length-map d.operations (λ o. o.name) in
            let past : slice_get (operation_names d) a.0 ≡ None = slice_get_past (operation_names d) a.0 (omega (arith, count, ge)) in
            let no : Some name ≡ None = sym found ∙ past in absurd cc
      ],
    )

-- the line of a step fits
pub step_fits : (d : Declaration) (s : Step) → All IsName (operation_names d) → StepFits d s → LineFits (step_line d s)
step_fits d (Enter a) names lt = All-contains IsName (operation_names d) (operation_text d a) names (named d a lt).1
step_fits d (Apply v) names fit = fit
step_fits d Leave names fit = fit

-- a step that can't be taken
pub no_step : (d : Declaration) (k n : ℕ) (line : List ℕ) (s : Step) (c : Cause) → All IsName (operation_names d) → line ≡ line_text (step_line d s) → StepFits d s → Bars k n s c → Refuses d (within k n) line c
no_step d k n line s c names is fit bars = no_rule (step_line d s) (step_fits d s names fit) is (barred s fit refl bars)
