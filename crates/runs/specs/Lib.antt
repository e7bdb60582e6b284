pub mod Each
pub mod Run
