pub mod Lengths
pub mod Register
