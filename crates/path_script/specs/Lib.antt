pub mod Scripts
pub mod Known
pub mod ScriptLines
pub mod ScriptTexts
pub mod ScriptFaults
