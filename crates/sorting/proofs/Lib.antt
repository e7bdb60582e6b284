pub mod SettleLaws
pub mod SortLaws
pub mod PassLaws
pub mod KeysLaws
