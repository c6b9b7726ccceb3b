use Rattle.std.proofs.Common.{◌≡◌, length}
use Rattle.cube_text.specs.Fronts.{IsFrontOf}
use Rattle.cube_text.proofs.line_front.LineFront.extend.Given as goal

abbrev pub invariant-loop-place : goal.invariant-loop-place
invariant-loop-place l = record {
  front : IsFrontOf l.cube l.self;
  count : length l.self.ends ≡ l.place;
}
