pub mod Facts
pub mod Lengths
pub mod Octets
pub mod Plain
