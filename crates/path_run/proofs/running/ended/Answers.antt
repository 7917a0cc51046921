-- Where the receipts agree with the journal, and where they don't.
use Rattle.std.proofs.Common.{◌∙◌}
use Rattle.path_run.proofs.Orders.{orderly_unless, unsettled_where}
use Rattle.path_run.proofs.running.ended.Goals as goal

pub returns-clause-orderly : goal.returns-clause-orderly
returns-clause-orderly g c =
    orderly_unless c.fault_of-fault.result c.settle_own-system.result.fault _ c.journal.result.now _ c.as_slice.result.now _ c.as_slice-2.result.now
    c.journal.ensures.value (c.as_slice.ensures.value ∙ c.settle_own-system.ensures.closed_passes.0) c.as_slice-2.ensures.value c.fault_of-fault.ensures.none

pub returns-clause-unsettled : goal.returns-clause-unsettled
returns-clause-unsettled g c =
    let settled = c.settle_own-system.ensures in
    unsettled_where c.args.before c.fault_of-fault.result c.settle_own-system.result.fault _ c.journal.result.now _ c.as_slice.result.now _ c.as_slice-2.result.now
    c.journal.ensures.value (c.as_slice.ensures.value ∙ settled.closed_passes.0) c.as_slice-2.ensures.value c.fault_of-fault.ensures.some settled.fault settled.few settled.settled
