use Rattle.std.proofs.Common.{rules, ◌≡◌, ◌<◌, ◌++◌, ◌∷◌, [], length, get_or, pos, ap, sym, ◌∙◌, arith, to_z, of_z, w32, length-append}
use Rattle.cube_text.specs.Lines.{number_word}
use Rattle.cube_text.proofs.Fronts.{front_more}
use Rattle.cube_text.proofs.line_front.LineFront.extend.Goals as goal

pub loop-place-preserved : goal.loop-place-preserved
loop-place-preserved c =
    let cube = c.args.cube.now in
    let front = c.loop-place.self in
    let count = c.loop-place.invariant.count in
    let inside : length front.ends < length cube = omega arith in
    let n = to_z w32 (of_z w32 (get_or cube c.loop-place.place (pos 0))) in
    let same : n ≡ get_or cube c.loop-place.place (pos 0) = search rules in
    let longer = length-append front.ends (length (front.text ++ number_word n) ∷ []) in
    rw c.if-not-push.ensures.pushed (record {
      front = front_more cube front n c.loop-place.invariant.front inside (same ∙ ap (λ i. get_or cube i (pos 0)) (sym count));
      count = omega arith;
    })
