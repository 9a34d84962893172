-- `logs::line::channel_of`: the channels not yet tried are all that it may be. Assumes nothing.
use Rattle.std.proofs.Common.{◌≡◌}
use Rattle.logs.specs.Log.{channel_up_to}
use Rattle.logs.proofs.line.channel_of.Given as goal

abbrev pub invariant-loop-channel : goal.invariant-loop-channel
invariant-loop-channel l = channel_up_to 204 l.line ≡ channel_up_to l.channel l.line
