use Rattle.std.proofs.Common.{map, take}
use Rattle.checkpoint.specs.SavedText.{clause_line}
use Rattle.cube_text.specs.Buffered.{HandsIn}
use Rattle.dimacs_tokens.specs.Texts.{text_of}
use Rattle.checkpoint.proofs.saved_text.put_clauses.Given as goal

abbrev pub invariant-loop-clause : goal.invariant-loop-clause
invariant-loop-clause g l =
    HandsIn g.K.Sink.shows l.fn.out l.fn.buffer l.out l.buffer
    (text_of (map clause_line (take l.clause-index l.clauses)))
