pub mod Transcript
pub mod Feeds
pub mod Pieces
