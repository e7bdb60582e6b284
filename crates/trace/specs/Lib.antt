pub mod Trace
pub mod Stepped
