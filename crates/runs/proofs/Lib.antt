pub mod EachLaws
pub mod RunLaws
pub mod BesideLaws
pub mod KindLaws
