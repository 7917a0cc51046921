-- What callers may cite of reading, besides the contracts.
pub use Rattle.path_read.proofs.FormRules.{BracesFit, KeepsPathRules, PathsKeepRules}
pub use Rattle.path_read.proofs.FromLawful.{resources_called, forms_keep_rules}
pub use Rattle.path_read.proofs.Computed.{is_text}
pub use Rattle.path_read.proofs.Known.{memory_alone}
