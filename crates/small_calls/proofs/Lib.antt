pub mod Blocks
pub mod OfFront
pub mod Header
pub mod Payload
