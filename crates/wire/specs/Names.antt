-- All definitions of this crate under one name, for those who use them.
unfoldable pub use Rattle.wire.specs.Choice.{◌and◌, ◌or◌, with_number}
pub use Rattle.wire.specs.Choice.{pick, is_some, is_in}
unfoldable pub use Rattle.wire.specs.Bytes.{same, are_zero, little, number_of, part, field, pieces}
pub use Rattle.wire.specs.Bytes.{Every, Bytes, digest_size, no_digest}
