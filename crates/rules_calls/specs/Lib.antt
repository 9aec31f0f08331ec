pub mod Answers
pub mod Writing
pub mod Headers
pub mod Plain
