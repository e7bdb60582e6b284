use Rattle.std.proofs.Common.{rules}
use Rattle.wire.specs.Choice.{◌or◌}
use Rattle.datagram.specs.Kind.{body, has_part, parts_size, is_sized}
use Rattle.sound.proofs.is_sized.Goals as goal

pub returns-in-Send : goal.returns-in-Send
unfolding body has_part parts_size is_sized ◌or◌
returns-in-Send c = search rules

pub returns-in-Receive : goal.returns-in-Receive
unfolding body has_part parts_size is_sized ◌or◌
returns-in-Receive c = search rules

pub returns-in-Write : goal.returns-in-Write
unfolding body has_part parts_size is_sized ◌or◌
returns-in-Write c = search rules

pub returns-in-Acknowledge : goal.returns-in-Acknowledge
unfolding body has_part parts_size is_sized ◌or◌
returns-in-Acknowledge c = search rules

pub returns-in-OpenInit : goal.returns-in-OpenInit
unfolding body has_part parts_size is_sized ◌or◌
returns-in-OpenInit c = search rules

pub returns-in-OpenTry : goal.returns-in-OpenTry
unfolding body has_part parts_size is_sized ◌or◌
returns-in-OpenTry c = search rules

pub returns-in-OpenAcknowledge : goal.returns-in-OpenAcknowledge
unfolding body has_part parts_size is_sized ◌or◌
returns-in-OpenAcknowledge c = search rules

pub returns-in-OpenConfirm : goal.returns-in-OpenConfirm
unfolding body has_part parts_size is_sized ◌or◌
returns-in-OpenConfirm c = search rules

pub returns-in-CloseInit : goal.returns-in-CloseInit
unfolding body has_part parts_size is_sized ◌or◌
returns-in-CloseInit c = search rules

pub returns-in-TimeOutOnClose : goal.returns-in-TimeOutOnClose
unfolding body has_part parts_size is_sized ◌or◌
returns-in-TimeOutOnClose c = search rules
