-- What the crates above cite of these proofs, and all that they cite.

-- what may go to another thread
pub use Rattle.path_service.proofs.Threads.{service_send}
