pub mod Whole
pub mod Held
pub mod Becoming
pub mod Ways
pub mod Joined
pub mod Looks
pub mod Rows
