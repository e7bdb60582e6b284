mod FieldLaws
pub mod ExactLaws
pub mod EverySlotLaws
pub mod IndexLaws
mod BeforeLaws
