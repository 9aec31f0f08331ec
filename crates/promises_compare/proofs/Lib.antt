pub mod Answered
pub mod Kept
pub mod Uses
