pub mod Columns
pub mod Firsts
pub mod Gathered
pub mod HardLeads
pub mod Search
pub mod Sixteen
pub mod Units
pub mod Searched
