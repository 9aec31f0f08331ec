pub mod Sending
pub mod Line
