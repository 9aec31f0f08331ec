pub mod Scores
pub mod Demand3
pub mod Keys
