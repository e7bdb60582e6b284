use Rattle.std.proofs.Common.{ℕ, ap, sym, ◌∙◌, drop, arith}
use Rattle.slots.specs.Version.{version_fits, padded}
use Rattle.datagram.specs.declared.Context.{Context}
use Rattle.datagram.specs.Kind.{kind_by, body, version_part}
use Rattle.datagram.specs.Datagram.{version_from, datagram_of}
use Rattle.datagram.proofs.KindLaws.{part_room}
use Rattle.lifecycle.proofs.end_made.Goals as goal

pub version_from-version-requires : goal.version_from-version-requires
unfolding version_from
version_from-version-requires c =
    let at = c.version_place.ensures in (
      rw at (omega (arith, part_room version_part (body (kind_by c.args.kind)) c.requires.1, c.requires.2)),
      ap (λ (n : ℕ). version_fits (drop n c.args.d.now)) at ∙ c.requires.3.1,
    )

pub returns : goal.returns
unfolding version_from
returns c =
    let d = c.args.d.now in
    c.new_end.ensures (datagram_of _ d) (sym c.order_in-order.ensures)
    (ap (λ (x : Context). x.port) (sym c.context_in-context.ensures))
    (sym (c.version_from-version.ensures ∙ ap (λ (n : ℕ). padded (drop n d)) c.version_place.ensures))
