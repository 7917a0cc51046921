pub mod Ends
pub mod RunTexts
