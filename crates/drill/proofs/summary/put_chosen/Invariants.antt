use Rattle.std.proofs.Common.{flat_map, take}
use Rattle.cube_text.specs.Buffered.{HandsIn}
use Rattle.cube_text.specs.Lines.{number_word}
use Rattle.drill.specs.Summaries.{chosen}
use Rattle.drill.proofs.summary.put_chosen.Given as goal

abbrev pub invariant-loop-lit : goal.invariant-loop-lit
invariant-loop-lit g l =
    HandsIn g.K.Sink.shows l.fn.out l.fn.buffer l.out l.buffer
    (flat_map number_word (chosen (g.L.CubeList.cubes l.cubes) (take l.lit-index l.lits)))
