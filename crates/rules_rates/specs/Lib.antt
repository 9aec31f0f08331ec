pub mod Rates
pub mod Plain
