pub mod OpeningLaws
mod TestLaws
pub mod LeastLaws
pub mod MakerLaws
