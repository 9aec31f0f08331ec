pub mod Yet
pub mod Sections
pub mod Receivers
pub mod Calls
pub mod Histories
