use Rattle.std.proofs.Common.{◌∙◌, sym, ap, length, arith}
use Rattle.dimacs_front.proofs.ShownSteps.{kept_taken, kept_passed, room_taken, too_many}
use Rattle.dimacs_front.proofs.show_lines.ShowLines.shown.Goals.{then-shows+else-len-ge-MOST_SHOWN+in_ok-push, else-shows}
use Rattle.dimacs_front.proofs.show_lines.ShowLines.shown.Goals as goal

pub returns-then-len-ge-MOST_SHOWN : goal.returns-then-len-ge-MOST_SHOWN
returns-then-len-ge-MOST_SHOWN c =
    let shows = sym c.shows.ensures ∙ c.if-shows.true in
    too_many _ _ c.loop-variable.shown.items _ _ c.loop-variable.invariant.kept c.loop-variable-test.true shows
    (omega (arith, c.len.ensures, c.if-len-ge-MOST_SHOWN.true))

pub loop-variable-preserved : goal.loop-variable-preserved
loop-variable-preserved c = elim c.if-shows.branch [
  | then-shows+else-len-ge-MOST_SHOWN+in_ok-push w ↦
      let shows = sym c.shows.ensures ∙ w.if-shows.true in
      let pushed = ap (λ s. s.items) w.shown-is ∙ w.in_ok-push.ensures.items in
      record {
        kept = kept_taken _ _ _ _ _ _ c.loop-variable.invariant.kept c.loop-variable-test.true shows pushed;
        room = room_taken _ _ _ pushed (omega (arith, w.len.ensures, w.if-len-ge-MOST_SHOWN.false));
      }
  | else-shows w ↦
      let shows = sym c.shows.ensures ∙ w.if-shows.false in
      record {
        kept = kept_passed _ _ _ _ _ _ c.loop-variable.invariant.kept c.loop-variable-test.true shows
            (ap (λ s. s.items) w.shown-is);
        room = omega (arith, c.loop-variable.invariant.room, ap (λ s. length s.items) w.shown-is);
      }
]
