pub mod Table
pub mod Serves
pub mod Kept
pub mod Uses
