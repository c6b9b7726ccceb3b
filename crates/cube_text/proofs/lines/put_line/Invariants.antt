use Rattle.std.proofs.Common.{◌++◌, flat_map, take}
use Rattle.cube_text.specs.Buffered.{HandsIn}
use Rattle.cube_text.specs.Lines.{number_word}
use Rattle.cube_text.proofs.lines.put_line.Given as goal

abbrev pub invariant-loop-number : goal.invariant-loop-number
invariant-loop-number g l =
    HandsIn g.K.Sink.shows l.fn.out l.fn.buffer l.out l.buffer
    (l.front ++ flat_map number_word (take l.number-index l.numbers))
