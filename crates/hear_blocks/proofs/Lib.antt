pub mod Hears
