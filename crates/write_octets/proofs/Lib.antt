pub mod Run
pub mod Sent
pub mod Barkers
