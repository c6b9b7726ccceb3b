use Rattle.std.proofs.Common.{◌≡◌, map, take}
use Rattle.checkpoint.specs.SavedText.{open_line}
use Rattle.cube_text.specs.Buffered.{HandsIn}
use Rattle.dimacs_tokens.specs.Texts.{text_of}
use Rattle.checkpoint.proofs.saved_text.put_pending.Given as goal

abbrev pub invariant-loop-i : goal.invariant-loop-i
invariant-loop-i g l = record {
  lines : HandsIn g.K.Sink.shows l.fn.out l.fn.buffer l.out l.buffer
      (text_of (map open_line (take l.i (g.V.SavedView.pending l.fn.view))));
  same : l.view ≡ l.fn.view;
}
