pub mod ClosingLines
