mod IndexLaws
mod BesideEndLaws
mod FittingLaws
mod WholeLaws
mod AheadLaws
mod ZeroLaws
mod PassLaws
pub mod UsedLaws
