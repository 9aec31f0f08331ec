pub mod Leads
pub mod Places
pub mod Decoded
pub mod Reading
pub mod Heard
pub mod Guides
