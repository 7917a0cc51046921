mod Images
mod Moments
mod NoZeros
mod Left
mod Crash
mod Repairs
mod OneSync
mod Broken
pub mod CallerLemmas
