pub mod Frame
pub mod TableP
