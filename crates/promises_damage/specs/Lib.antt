pub mod Guides
pub mod Promises
