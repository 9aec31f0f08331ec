pub mod Turns
pub mod Rows
pub mod Search
