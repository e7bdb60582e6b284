-- The kinds of datagrams: their numbers, and the parts of their bodies. A new kind is a constructor and a line of each.
use Rattle.std.specs.Prelude.{◌≡◌, Bool, false, List, [], ◌∷◌, ℕ, ◌+◌, leb, eqb, Result, MatchResult}
use Rattle.std.proofs.Math.Option.{Option, none, some}
use Rattle.wire.specs.Choice.{◌or◌, pick, with_number}
use Rattle.wire.specs.Bytes.{digest_size}
use Rattle.wire.specs.Frame.{frame_size}
use Rattle.slots.specs.Layout.{slot_size}
use Rattle.datagram.specs.declared.kind.Kind as declared
use Rattle.datagram.specs.declared.kind.Kind.TheVariants.{Send, Receive, Write, Acknowledge, TimeOut}
use Rattle.datagram.specs.declared.kind.Kind.TheVariants.{OpenInit, OpenTry, OpenAcknowledge, OpenConfirm}
use Rattle.datagram.specs.declared.kind.Kind.TheVariants.{CloseInit, CloseConfirm, TimeOutOnClose}
use Rattle.datagram.specs.declared.kind.UnknownKind.{UnknownKind}

pub data Kind : Type 0 where
  send receive write acknowledge time_out : Kind
  open_init open_try open_acknowledge open_confirm : Kind
  close_init close_confirm time_out_on_close : Kind

abbrev pub kinds : List Kind
kinds =
    send ∷ receive ∷ write ∷ acknowledge ∷ time_out ∷ open_init ∷ open_try ∷ open_acknowledge ∷ open_confirm ∷
    close_init ∷ close_confirm ∷ time_out_on_close ∷ []

abbrev pub kind_number : Kind → ℕ
kind_number send = 1
kind_number receive = 2
kind_number write = 3
kind_number acknowledge = 4
kind_number time_out = 5
kind_number open_init = 6
kind_number open_try = 7
kind_number open_acknowledge = 8
kind_number open_confirm = 9
kind_number close_init = 10
kind_number close_confirm = 11
kind_number time_out_on_close = 12

-- THE KIND of a number: none where no datagram has it
abbrev pub kind_of : ℕ → Option Kind
kind_of n = with_number kind_number n kinds

-- the kind that the code names, and what it makes of a number: its kind, or an error where no kind has it
abbrev pub kind_by : declared.Kind → Kind
kind_by Send = send
kind_by Receive = receive
kind_by Write = write
kind_by Acknowledge = acknowledge
kind_by TimeOut = time_out
kind_by OpenInit = open_init
kind_by OpenTry = open_try
kind_by OpenAcknowledge = open_acknowledge
kind_by OpenConfirm = open_confirm
kind_by CloseInit = close_init
kind_by CloseConfirm = close_confirm
kind_by TimeOutOnClose = time_out_on_close

abbrev pub Decodes : ℕ → Result declared.Kind UnknownKind → Type 0
Decodes n r = MatchResult r (λ k. kind_of n ≡ some (kind_by k)) (λ e. (e.0 ≡ n) × (kind_of n ≡ none))

-- whether a kind is this one, or one of these; an unknown one is none
abbrev pub is_kind : Kind → Kind → Bool
is_kind j k = eqb (kind_number j) (kind_number k)

abbrev pub is_of : Kind → Option Kind → Bool
is_of j none = false
is_of j (some k) = is_kind j k

unfoldable pub only : List Kind → Option Kind → Bool
only [] k = false
only (j ∷ js) k = is_of j k or only js k

-- SIZES, each stated once
abbrev pub context_size : ℕ
context_size = 40

abbrev pub packet_size : ℕ
packet_size = 68

abbrev pub verdict_size : ℕ
verdict_size = 80

-- claim, height, time, and a channel record
abbrev pub end_verdict_size : ℕ
end_verdict_size = 18 + slot_size

-- THE PARTS of a body. Port and counterparty: the port and the channel of the other end. A version is the rest of the
-- datagram, of any size
pub data Part : Type 0 where
  channel_part sequence_part timeout_part digest_part packet_part verdict_part : Part
  port_part counterparty_part order_part end_verdict_part version_part : Part

abbrev pub part_size : Part → ℕ
part_size channel_part = 4
part_size sequence_part = 8
part_size timeout_part = 16
part_size digest_part = digest_size
part_size packet_part = packet_size
part_size verdict_part = verdict_size
part_size port_part = 2
part_size counterparty_part = 4
part_size order_part = 1
part_size end_verdict_part = end_verdict_size
part_size version_part = 0

-- THE BODY by kind, behind the context
unfoldable pub body : Kind → List Part
body send = channel_part ∷ timeout_part ∷ digest_part ∷ []
body receive = packet_part ∷ verdict_part ∷ []
body write = channel_part ∷ sequence_part ∷ digest_part ∷ []
body acknowledge = packet_part ∷ digest_part ∷ verdict_part ∷ []
body time_out = packet_part ∷ verdict_part ∷ []
body open_init = port_part ∷ order_part ∷ version_part ∷ []
body open_try = port_part ∷ counterparty_part ∷ order_part ∷ end_verdict_part ∷ version_part ∷ []
body open_acknowledge = channel_part ∷ counterparty_part ∷ end_verdict_part ∷ []
body open_confirm = channel_part ∷ end_verdict_part ∷ []
body close_init = channel_part ∷ []
body close_confirm = channel_part ∷ end_verdict_part ∷ []
body time_out_on_close = packet_part ∷ end_verdict_part ∷ verdict_part ∷ []

abbrev pub body_of : Option Kind → List Part
body_of none = []
body_of (some k) = body k

-- parts are told apart by a number
abbrev pub part_number : Part → ℕ
part_number channel_part = 1
part_number sequence_part = 2
part_number timeout_part = 3
part_number digest_part = 4
part_number packet_part = 5
part_number verdict_part = 6
part_number port_part = 7
part_number counterparty_part = 8
part_number order_part = 9
part_number end_verdict_part = 10
part_number version_part = 11

abbrev pub is_part : Part → Part → Bool
is_part p q = eqb (part_number p) (part_number q)

unfoldable pub has_part : Part → List Part → Bool
has_part p [] = false
has_part p (q ∷ qs) = is_part p q or has_part p qs

unfoldable pub parts_size : List Part → ℕ
parts_size [] = 0
parts_size (p ∷ ps) = part_size p + parts_size ps

-- the sizes of the parts before one
unfoldable pub size_before : Part → List Part → ℕ
size_before p [] = 0
size_before p (q ∷ qs) = pick (is_part p q) 0 (part_size q + size_before p qs)

-- where the body lies, where a part of it does, and the size of a whole datagram, without its version
abbrev pub body_from : ℕ
body_from = frame_size + context_size

abbrev pub place_of : Part → Option Kind → ℕ
place_of p k = body_from + size_before p (body_of k)

abbrev pub size_of : Option Kind → ℕ
size_of k = body_from + parts_size (body_of k)

-- a datagram with a version may be longer
unfoldable pub is_sized : Option Kind → (size : ℕ) → Bool
is_sized k n = pick (has_part version_part (body_of k)) (leb (size_of k) n) (eqb n (size_of k))
