-- What the front of a stream is, without where it lies in memory.
use Rattle.sfc_frames.specs.Heads as heads
use Rattle.sfc_frames.specs.declared.cut.Cut.{Cut}
use Rattle.sfc_frames.specs.declared.cut.Cut.TheVariants as cuts

abbrev pub as_cut : Cut → heads.Cut
as_cut (cuts.Whole message rest) = heads.Whole message.now rest.now
as_cut cuts.Short = heads.Short
as_cut (cuts.Wrong why) = heads.Wrong why
