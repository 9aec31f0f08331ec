pub mod Widths
pub mod Columns
