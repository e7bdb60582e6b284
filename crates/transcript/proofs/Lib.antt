pub mod FedLaws
mod TurnLaws
mod ReachedLaws
pub mod PieceLaws
