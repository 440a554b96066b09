-- The flat row is the frame, and there is no more of it.
use Rattle.newest_frame.proofs.NewestLaws.{replaced}
use Rattle.newest_frame.proofs.replace_newest.Goals as goal

pub returns : goal.returns
returns c = replaced c.args.w c.args.h c.args.raster.now c.args.newest.now c.convert.new.grey c.requires.raster_len.1 c.convert.ensures
