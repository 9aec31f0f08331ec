pub mod Bits
pub mod Growths
pub mod Scrambler
pub mod Crc
pub mod Code
