pub mod Facts
pub mod Entries
pub mod Shown
pub mod Pairs
pub mod Octets
pub mod Itself
pub mod Whole
