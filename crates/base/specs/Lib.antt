pub mod Tables
pub mod Whole
pub mod Over
pub mod Below
pub mod SoMany
