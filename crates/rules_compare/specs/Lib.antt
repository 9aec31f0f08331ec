pub mod Differences
pub mod Compared
pub mod Plain
