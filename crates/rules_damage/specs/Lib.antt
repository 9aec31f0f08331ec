pub mod Damage
pub mod Plain
