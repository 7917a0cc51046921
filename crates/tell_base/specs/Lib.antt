pub mod Statuses
pub mod Refusals
pub mod Writes
pub mod Ends
pub mod Inputs
pub mod Own
pub mod ReportTexts
