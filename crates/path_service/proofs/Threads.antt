-- A service may go to another thread. Its parts are shown one by one, since the search for all of them at once gives up.
use denote.Param.Send.{IsSend, sendable}
use Rattle.std.proofs.Crossing as heap
use Rattle.path_model.specs.contracts.journal.Line as Line
use Rattle.path_order.proofs.CallerLemmas.{order_send}
use Rattle.path_system.proofs.CallerLemmas.{controller_send}
use Rattle.path_service.specs.contracts.lines.Lines as Lines
use Rattle.path_service.specs.contracts.service.Service as Service

line_send : IsSend Line.the_row
line_send = search sendable depth 20

lines_send : IsSend Lines.the_row
lines_send = search (heap.crosses, sendable, line_send) depth 20

service_whole : IsSend (Service.the_field).row
service_whole = search (heap.crosses, sendable, controller_send, order_send, lines_send) depth 40

pub service_send : IsSend Service.the_row
service_send = let s = service_whole in search sendable
