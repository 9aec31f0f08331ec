pub mod Batches
pub mod Closes
pub mod Firsts
pub mod FrontTells
pub mod Fronting
pub mod NextFronts
pub mod PayloadWays
pub mod Stages
