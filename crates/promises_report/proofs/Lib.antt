pub mod Lead
pub mod Totals
pub mod Kept
pub mod Uses
pub mod UsesText
