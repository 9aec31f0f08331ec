pub mod Floats
pub mod Chips
pub mod Bounds
