pub mod Store
pub mod Plain
pub mod Pieces
