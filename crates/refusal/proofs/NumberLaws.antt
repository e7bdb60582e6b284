-- No refusal has the number of acceptance. Assumes nothing.
use Rattle.std.proofs.Common.{◌≡◌, refl, Bool, false, eqb}
use Rattle.refusal.specs.declared.VerdictPart.{VerdictPart}
use Rattle.refusal.specs.declared.VerdictPart.TheVariants.{Claim, Port, Channel, Sequence, Timeouts, Digest, Blocks}
use Rattle.refusal.specs.declared.Refusal.{Refusal}
use Rattle.refusal.specs.declared.Refusal.TheVariants.{StoreNotFit, OutputShort, Malformed, GoesBack, NoChannel, NotOpen}
use Rattle.refusal.specs.declared.Refusal.TheVariants.{NotOwner, NoConnection, WrongEnd, NoTimeout, TimeoutPassed}
use Rattle.refusal.specs.declared.Refusal.TheVariants.{TimeoutNotPassed, NoCommitment, Verdict, OutOfOrder, AlreadyThere}
use Rattle.refusal.specs.declared.Refusal.TheVariants.{NotReceived, EmptyAcknowledgement, CounterAtEnd, NoFreeRecord}
use Rattle.refusal.specs.declared.Refusal.TheVariants.{LengthUnfit, OpeningsMalformed, TooManyOpenings, ChannelTwice}
use Rattle.refusal.specs.declared.Refusal.TheVariants.{NoFreeChannel, WrongState, WrongVersion}
use Rattle.refusal.specs.Number.{part_number, refusal_number}

part_above : (p : VerdictPart) → eqb (part_number p) 0 ≡ false
part_above Claim = refl
part_above Port = refl
part_above Channel = refl
part_above Sequence = refl
part_above Timeouts = refl
part_above Digest = refl
part_above Blocks = refl

pub number_above : (r : Refusal) → eqb (refusal_number r) 0 ≡ false
number_above StoreNotFit = refl
number_above OutputShort = refl
number_above Malformed = refl
number_above GoesBack = refl
number_above NoChannel = refl
number_above NotOpen = refl
number_above NotOwner = refl
number_above NoConnection = refl
number_above WrongEnd = refl
number_above NoTimeout = refl
number_above TimeoutPassed = refl
number_above TimeoutNotPassed = refl
number_above NoCommitment = refl
number_above (Verdict p) = part_above p
number_above OutOfOrder = refl
number_above AlreadyThere = refl
number_above NotReceived = refl
number_above EmptyAcknowledgement = refl
number_above CounterAtEnd = refl
number_above NoFreeRecord = refl
number_above LengthUnfit = refl
number_above OpeningsMalformed = refl
number_above TooManyOpenings = refl
number_above ChannelTwice = refl
number_above NoFreeChannel = refl
number_above WrongState = refl
number_above WrongVersion = refl
