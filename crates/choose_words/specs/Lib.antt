pub mod Floats
pub mod Held
