pub mod Computed
pub mod Rows
pub mod Only
pub mod Kept
pub mod Uses
