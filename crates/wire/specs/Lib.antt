pub mod Choice
pub mod Bytes
pub mod Names
pub mod Frame
