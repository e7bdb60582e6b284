-- Each number by default is zero, and so is each byte of the version.
use Rattle.wire.proofs.Prelude.{◌≡◌, sym, ◌∙◌, ◌<◌, ℕ, replicate, length-replicate, arith}
use Rattle.std.proofs.lemmas.List.{get_or-replicate}
use Rattle.std.proofs.lemmas.Grind.{same_number_lists}
use Rattle.rules.specs.Refusals.{no_channel}
use Rattle.handshake.proofs.no_channel.Goals as goal

pub returns : goal.returns
unfolding no_channel
returns c =
    let d = c.default.ensures in
    let own = d.1.1.0 in
    let counterparty = d.1.1.1.0 in
    let next = d.1.1.1.1.0 in
    let bytes = d.1.1.1.1.1 in
    let version : c.default.result.version ≡ replicate 24 0 =
    same_number_lists c.default.result.version (replicate 24 0) (bytes.long ∙ sym (length-replicate {A = ℕ} 24 0))
    (λ k l. let m : k < 24 = omega (arith, bytes.long) in bytes.at k 0 m ∙ sym (get_or-replicate {A = ℕ} 24 k 0 0 m)) in
    λ i. record {
      state = d.0 i;
      order = d.1.0 i;
      own = record { port = own.0 i; channel = own.1 i };
      counterparty = record { port = counterparty.0 i; channel = counterparty.1 i };
      next = record { send = next.0 i; receive = next.1.0 i; acknowledge = next.1.1 i };
      version = version i;
    }
