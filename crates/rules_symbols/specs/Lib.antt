pub mod Words
pub mod Choice
