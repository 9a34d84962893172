-- `channel::layer4::reported` takes the reported fields of a header of 4 or 5 bytes. Assumes nothing.
use Rattle.channel.proofs.Headers.{taken_opened}
use Rattle.channel.proofs.layer4.reported.Goals as goal

pub returns : goal.returns
returns c =
    let a = c.args in
    taken_opened a.ext a.h c.header_size-size.result c.where_ext-upper.result c.header_size-size.ensures c.where_ext-upper.ensures.0
