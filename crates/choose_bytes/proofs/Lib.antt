pub mod Units
pub mod Abreast
pub mod Groups
