pub mod EmitLaws
