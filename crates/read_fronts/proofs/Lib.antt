pub mod Preambles
pub mod Whole
pub mod Order
pub mod Sizes
pub mod Behind
