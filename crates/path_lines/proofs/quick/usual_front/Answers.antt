-- A line is a worker's number, a space and an attempt.
use Rattle.std.proofs.Common.{◌≡◌, ◌∷◌, ◌++◌, ◌∙◌, ap, decimal, sym}
use Rattle.path_lines.specs.LineTexts.{attempt_text}
use Rattle.path_lines.proofs.EntryLemmas.{number_spaced}
use Rattle.path_lines.proofs.quick.usual_front.Goals as goal

pub returns-clause-text : goal.returns-clause-text
returns-clause-text g c =
    let whole : c.args.text.now ≡ decimal c.in_ok-worker.worker ++ (32 ∷ c.in_ok-rest.rest.now) = let e = c.in_ok-worker.ensures in let cut = c.in_ok-rest.ensures in cc in
    whole ∙ ap (λ v. decimal c.in_ok-worker.worker ++ (32 ∷ v)) c.in_ok-attempt.ensures.text ∙ sym (number_spaced c.in_ok-worker.worker (attempt_text c.args.decl.now.declaration c.in_ok-attempt.attempt) c.in_ok-attempt.rest.now)
