-- The newest frame is copied, the new one converted into its place and copied behind it.
use Rattle.newest_frame.proofs.NewestLaws.{frames-put}
use Rattle.newest_frame.proofs.put_frames.Goals as goal

pub returns : goal.returns
returns c =
    let a = c.args in
    frames-put a.w a.h a.newest.now c.replace_newest.new.newest a.raster.now a.grey.now c.copy_from_slice.new.self c.copy_from_slice-2.new.self
    c.requires.raster_len.1 c.requires.h_bound.1 c.copy_from_slice.ensures.after c.replace_newest.ensures c.copy_from_slice-2.ensures.after
