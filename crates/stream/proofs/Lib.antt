mod StreamLaws
pub mod ReadLaws
