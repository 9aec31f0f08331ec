pub mod Totals
pub mod Report
pub mod Shares
pub mod Text
pub mod Said
