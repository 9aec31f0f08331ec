pub mod Shown
pub mod Cleared
pub mod Kept
pub mod Uses
pub mod UsesShown
