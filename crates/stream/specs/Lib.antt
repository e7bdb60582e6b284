pub mod Stream
pub mod Reads
