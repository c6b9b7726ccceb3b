use Rattle.std.proofs.Common.{map, take}
use Rattle.checkpoint.specs.SavedText.{found_line}
use Rattle.cube_text.specs.Buffered.{HandsIn}
use Rattle.dimacs_tokens.specs.Texts.{text_of}
use Rattle.checkpoint.proofs.saved_text.put_found.Given as goal

abbrev pub invariant-loop-i : goal.invariant-loop-i
invariant-loop-i g l =
    HandsIn g.K.Sink.shows l.fn.out l.fn.buffer l.out l.buffer
    (text_of (map found_line (take l.i (g.L.CubeList.cubes l.found))))
