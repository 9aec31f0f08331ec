pub mod Words
pub mod Numbers
pub mod Facts
pub mod Agreement
