pub mod Recorded
pub mod Columns
