-- What callers cite.

-- how a command ends that reports a fault or writes a text, and what it wrote
pub use Rattle.tell_base.proofs.FaultLemmas.{told, undeclared}
pub use Rattle.tell_base.proofs.PutLemmas.{appends_more, appends_none, keeps_same}
pub use Rattle.tell_base.proofs.EndLemmas.{ends_so, may_so, ends_written, ends_now, put_all, ends_told, ends_under, may_under, may_undeclared}
-- why texts are refused
pub use Rattle.tell_base.proofs.EndLemmas.{text_so, may_refuse, refuses_attempts, refuses_journal, refuses_opening, never_done, never_unsound}
-- over the program's own devices only the room is refused, and they never fail
pub use Rattle.tell_base.proofs.OwnLemmas.{own_room, unfailing, own_refused, lacks_room, refuses_audit}
