use Rattle.std.proofs.Common.{rules, ◌≡◌, refl, ℕ, List, sym, ap, ◌∙◌, drop, false, Bool, arith}
use Rattle.std.proofs.Math.Option.{some}
use Rattle.wire.specs.Choice.{◌or◌}
use Rattle.wire.proofs.ChoiceLaws.{clash}
use Rattle.slots.specs.Version.{version_fits, padded}
use Rattle.datagram.specs.Kind.{open_try, version_part, body, has_part, parts_size, size_before, place_of}
use Rattle.datagram.specs.Datagram.{counterparty_from, version_from, datagram_of}
use Rattle.answer.proofs.answer_try.Goals as goal

-- the version is the rest of the datagram
version : (d : List ℕ) (at : ℕ) → at ≡ place_of version_part (some open_try) →
    drop at d ≡ version_from (some open_try) d
unfolding version_from
version d at e = ap (λ (n : ℕ). drop n d) e

fits : (d : List ℕ) (at : ℕ) (r : Bool) → at ≡ place_of version_part (some open_try) → r ≡ version_fits (drop at d) →
    r ≡ version_fits (version_from (some open_try) d)
fits d at r e h = h ∙ ap version_fits (version d at e)

pub order_in-order-requires : goal.order_in-order-requires
unfolding body has_part ◌or◌
order_in-order-requires c = search rules

pub counterparty_port_in-requires : goal.counterparty_port_in-requires
unfolding body parts_size
counterparty_port_in-requires c = search rules

pub counterparty_channel_in-requires : goal.counterparty_channel_in-requires
unfolding body has_part ◌or◌
counterparty_channel_in-requires c = search rules

pub end_verdict_in-v-requires : goal.end_verdict_in-v-requires
unfolding body has_part ◌or◌
end_verdict_in-v-requires c = search rules

pub version_place-at-requires : goal.version_place-at-requires
unfolding body has_part ◌or◌
version_place-at-requires c = search rules

pub version_fits-requires : goal.version_fits-requires
unfolding body size_before parts_size
version_fits-requires c = omega (arith, c.version_place-at.ensures, c.requires.1)

pub version_from-requires : goal.version_from-requires
unfolding body size_before parts_size
version_from-requires c =
    (omega (arith, c.version_place-at.ensures, c.requires.1), sym c.version_fits.ensures ∙ c.if-not-version_fits.false)

pub returns-then-not-version_fits : goal.returns-then-not-version_fits
unfolding counterparty_from body size_before
returns-then-not-version_fits c =
    let d = c.args.datagram.now in
    λ e. c.open_try_row.ensures (datagram_of (some open_try) d) e c.requires.2 (sym c.order_in-order.ensures)
    (λ i. record { port = sym c.counterparty_port_in.ensures i; channel = sym c.counterparty_channel_in.ensures i })
    (sym c.end_verdict_in-v.ensures)
    (sym (fits d _ _ c.version_place-at.ensures c.version_fits.ensures) ∙ c.if-not-version_fits.true)
    (λ h. clash {b = false} h refl)

pub returns : goal.returns
unfolding counterparty_from body size_before
returns c =
    let d = c.args.datagram.now in
    λ e. c.open_try_row-2.ensures (datagram_of (some open_try) d) e c.requires.2 (sym c.order_in-order.ensures)
    (λ i. record { port = sym c.counterparty_port_in.ensures i; channel = sym c.counterparty_channel_in.ensures i })
    (sym c.end_verdict_in-v.ensures)
    (sym (fits d _ _ c.version_place-at.ensures c.version_fits.ensures) ∙ c.if-not-version_fits.false)
    (λ h. sym (c.version_from.ensures ∙ ap padded (version d _ c.version_place-at.ensures)))
