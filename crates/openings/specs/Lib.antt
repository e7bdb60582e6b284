pub mod Opening
pub mod Maker
