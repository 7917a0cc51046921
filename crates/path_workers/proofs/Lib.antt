pub mod MayGet
pub mod Opens
pub mod Rising
pub mod Copies
pub mod Counted
pub mod Later
pub mod CallerLemmas
