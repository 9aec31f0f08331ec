pub mod Beside
pub mod Exactly
pub mod SentTo
pub mod Kept
pub mod Uses
