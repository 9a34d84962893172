-- `channel::layer4::parted` takes a header of 4 or 5 bytes apart. Assumes nothing.
use Rattle.channel.proofs.Headers.{parted_opened}
use Rattle.channel.proofs.layer4.parted.Goals as goal

pub returns : goal.returns
returns c =
    let a = c.args in
    parted_opened a.ext a.h c.where_ext.result c.check.result c.reported.result c.requires c.reported.ensures c.where_ext.ensures.0 c.check.ensures
