-- The numbers of the refusals, and of an answer: 0 for acceptance, else the refusal's.
use Rattle.std.specs.Prelude.{Result, Ok, Err, ℕ}
use Rattle.refusal.specs.declared.VerdictPart.{VerdictPart}
use Rattle.refusal.specs.declared.VerdictPart.TheVariants.{Claim, Port, Channel, Sequence, Timeouts, Digest, Blocks}
use Rattle.refusal.specs.declared.Refusal.{Refusal}
use Rattle.refusal.specs.declared.Refusal.TheVariants.{StoreNotFit, OutputShort, Malformed, GoesBack, NoChannel}
use Rattle.refusal.specs.declared.Refusal.TheVariants.{NotOpen, NotOwner, NoConnection, WrongEnd, NoTimeout, TimeoutPassed}
use Rattle.refusal.specs.declared.Refusal.TheVariants.{TimeoutNotPassed, NoCommitment, Verdict, OutOfOrder}
use Rattle.refusal.specs.declared.Refusal.TheVariants.{AlreadyThere, NotReceived, EmptyAcknowledgement, CounterAtEnd}
use Rattle.refusal.specs.declared.Refusal.TheVariants.{NoFreeRecord, LengthUnfit, OpeningsMalformed, TooManyOpenings, ChannelTwice}
use Rattle.refusal.specs.declared.Refusal.TheVariants.{NoFreeChannel, WrongState, WrongVersion}

abbrev pub part_number : VerdictPart → ℕ
part_number Claim = 140
part_number Port = 141
part_number Channel = 142
part_number Sequence = 143
part_number Timeouts = 144
part_number Digest = 145
part_number Blocks = 146

abbrev pub refusal_number : Refusal → ℕ
refusal_number StoreNotFit = 1
refusal_number OutputShort = 2
refusal_number Malformed = 3
refusal_number GoesBack = 4
refusal_number NoChannel = 5
refusal_number NotOpen = 6
refusal_number NotOwner = 7
refusal_number NoConnection = 8
refusal_number WrongEnd = 9
refusal_number NoTimeout = 10
refusal_number TimeoutPassed = 11
refusal_number TimeoutNotPassed = 12
refusal_number NoCommitment = 13
refusal_number (Verdict p) = part_number p
refusal_number OutOfOrder = 15
refusal_number AlreadyThere = 16
refusal_number NotReceived = 17
refusal_number EmptyAcknowledgement = 18
refusal_number CounterAtEnd = 19
refusal_number NoFreeRecord = 20
refusal_number LengthUnfit = 21
refusal_number OpeningsMalformed = 22
refusal_number TooManyOpenings = 23
refusal_number ChannelTwice = 24
refusal_number NoFreeChannel = 25
refusal_number WrongState = 26
refusal_number WrongVersion = 27

abbrev pub answer_of : {A : Type 0} → Result A Refusal → ℕ
answer_of (Ok x) = 0
answer_of (Err r) = refusal_number r
