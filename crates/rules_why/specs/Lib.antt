pub mod Why
pub mod Plain
