-- What the service tells is told.
use Rattle.std.proofs.Common.{◌∙◌, subst}
use Rattle.path_service.specs.Serving.{Serving}
use Rattle.path_c.specs.Calls.{IsRuledBy}
use Rattle.path_c.proofs.ordering.path_c_may_start.Goals as goal

pub returns-in-Some-clause-ruled : goal.returns-in-Some-clause-ruled
returns-in-Some-clause-ruled c = λ live.
    subst (λ (s : Serving). IsRuledBy s.account c.args.waiting.now c.args.running.now
    (record { operation = c.args.operation; priority = c.args.priority; arrived = c.args.arrived; shut_at = 0 }) c.ruled.result)
    (c.deref_mut.ensures.value ∙ c.in-Some.ensures.result.1) (record {
      told = c.may_start-ruling.result;
      answered = c.ruled.ensures;
      ruled = c.may_start-ruling.ensures.ruled;
      door = c.may_start-ruling.ensures.door;
      declared = c.may_start-ruling.ensures.declared;
      unknown = c.may_start-ruling.ensures.unknown;
    })
