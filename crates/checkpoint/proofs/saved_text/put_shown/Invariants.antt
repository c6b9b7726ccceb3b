use Rattle.std.proofs.Common.{◌++◌, map, flat_map, take, pos, codes}
use Rattle.cube_text.specs.Buffered.{HandsIn}
use Rattle.cube_text.specs.Lines.{number_word}
use Rattle.checkpoint.proofs.saved_text.put_shown.Given as goal

abbrev pub invariant-loop-variable : goal.invariant-loop-variable
invariant-loop-variable g l =
    HandsIn g.K.Sink.shows l.fn.out l.fn.buffer l.out l.buffer
    (codes "c p show " ++ flat_map number_word (map pos (take l.variable-index l.shown)))
