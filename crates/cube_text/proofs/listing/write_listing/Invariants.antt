use Rattle.std.proofs.Common.{take, map, get_or, [], ◌-◌}
use Rattle.cube_text.specs.Buffered.{Wrote}
use Rattle.cube_text.specs.Fronts.{IsFrontOf}
use Rattle.dimacs_tokens.specs.Texts.{text_of}
use Rattle.cube_text.specs.Listing.{cube_line}
use Rattle.cube_text.proofs.listing.write_listing.Given as goal

abbrev pub invariant-loop-i : goal.invariant-loop-i
invariant-loop-i g l = record {
  wrote : Wrote (g.K.Sink.shows l.fn.out) (g.K.Sink.shows l.out)
      (text_of (map cube_line (take l.i (g.L.CubeList.cubes l.cubes)))) l.buffer;
  front : IsFrontOf (get_or (g.L.CubeList.cubes l.cubes) (l.i - 1) []) l.line;
}
