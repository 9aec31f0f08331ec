pub mod Keys
pub mod Columns
