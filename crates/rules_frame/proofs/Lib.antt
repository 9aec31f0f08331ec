pub mod TableP
pub mod Facts
pub mod Begins
pub mod Parity
pub mod Phases
pub mod Sizes
pub mod Headers
