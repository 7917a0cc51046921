-- What is written is the resource at that number.
use Rattle.std.proofs.Common.{◌≡◌, unwrap_or, option_map, ap, ◌∙◌}
use Rattle.path_model.specs.declared.resource.Law.TheVariants.{Cell}
use Rattle.path_print.proofs.PrintedLoop.{head_from}
use Rattle.path_print.proofs.PrintedWalk.{shown_or}
use Rattle.path_print.proofs.printer.put_head.Goals as goal

pub returns : goal.returns
returns g c = λ r at.
    let name : c.unwrap_or.result.now ≡ r.name = ap (λ s. s.now) c.unwrap_or.ensures ∙ shown_or (λ s. s.now) c.resource_name.result _ r.name (c.resource_name.ensures ∙ ap (λ o. option_map (λ q. q.name) o) at) in
    let law : c.unwrap_or-2.result ≡ r.law = c.unwrap_or-2.ensures ∙ ap (λ o. unwrap_or o Cell) (c.law_of.ensures ∙ ap (λ o. option_map (λ q. q.law) o) at) in
    head_from _ _ _ _ _ _ _ _ _ r c.in_ok-put_if.ensures c.in_ok-push_str.ensures.bytes c.in_ok-put.ensures name c.in_ok-put_law.ensures law c.in_ok-push_str-2.ensures.bytes
