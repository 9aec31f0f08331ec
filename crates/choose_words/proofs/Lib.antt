pub mod Floats
pub mod Numbers
