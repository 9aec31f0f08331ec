pub mod Rows
pub mod Halves
pub mod Comparing
pub mod Chain
pub mod Sfd
