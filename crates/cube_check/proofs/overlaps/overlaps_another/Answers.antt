use Rattle.std.proofs.Common.{◌≡◌, ◌<◌, ℕ, ℤ, List, Option, Some, None, length, get_or, false, sym, ap, subst, ◌∙◌, arith}
use Rattle.sat_terms.specs.Cubes.{apart}
use Rattle.cube_check.specs.Verdicts.{met_at}
use Rattle.cube_check.specs.Runs.{cube_in, TellsNegated}
use Rattle.cube_check.proofs.Apartness.{apart-comm, overlap-comm}
use Rattle.cube_check.proofs.Passing.{passes_branch, passes_itself, walked_all}
use Rattle.cube_check.proofs.overlaps.overlaps_another.Goals as goal

moved : (c d e : List ℤ) (from shared : ℕ) (r : Option ℕ) → d ≡ e → from ≡ shared → TellsNegated c d from r → TellsNegated c e shared r
moved c d e from shared r same at told = subst (λ xs. TellsNegated c xs shared r) same (subst (λ n. TellsNegated c d n r) at told)

pub loop-at-preserved-in-Some : goal.loop-at-preserved-in-Some
loop-at-preserved-in-Some c =
    let met = c.args.met.now in
    let places = c.args.runs.now.places in
    let at : ℕ = c.loop-at.at in
    let cube = (met_at met c.args.place).cube in
    let same : c.cube_at.result.now ≡ cube_in met places at = c.cube_at.ensures.same ∙ ap (λ j. (met_at met j).cube) c.place-other.ensures in
    let inside : at < length places = omega arith in
    let told = moved cube c.cube_at.result.now (cube_in met places at) c.shared.result (get_or c.args.runs.now.shared at 0) (Some c.in-Some.depth) same c.shared.ensures (c.in-Some.ensures cube c.requires.marked) in
    passes_branch met places c.args.runs.now.shared c.args.place at c.in-Some.depth c.behind-at.result c.requires.runs.shared c.loop-at.invariant inside c.behind-at.ensures
    told.1 told.2 (told.3 (c.loop-at.invariant.front inside))

pub loop-at-preserved : goal.loop-at-preserved
loop-at-preserved c =
    let met = c.args.met.now in
    let places = c.args.runs.now.places in
    let at : ℕ = c.loop-at.at in
    let cube = (met_at met c.args.place).cube in
    let same : c.cube_at.result.now ≡ cube_in met places at = c.cube_at.ensures.same ∙ ap (λ j. (met_at met j).cube) c.place-other.ensures in
    let inside : at < length places = omega arith in
    let told = moved cube c.cube_at.result.now (cube_in met places at) c.shared.result (get_or c.args.runs.now.shared at 0) None same c.shared.ensures (c.in-None.ensures cube c.requires.marked) in
    passes_itself met places c.args.runs.now.shared c.args.place at c.requires.runs.shared c.loop-at.invariant inside (sym c.place-other.ensures ∙ c.if-other-place.true) (told (c.loop-at.invariant.front inside))

pub returns-in-None-2 : goal.returns-in-None-2
returns-in-None-2 c =
    let met = c.args.met.now in
    let places = c.args.runs.now.places in
    let at : ℕ = c.loop-at.at in
    let other : ℕ = c.place-other.result in
    let cube = (met_at met c.args.place).cube in
    let same : c.cube_at.result.now ≡ cube_in met places at = c.cube_at.ensures.same ∙ ap (λ j. (met_at met j).cube) c.place-other.ensures in
    let inside : at < length places = omega arith in
    let told = moved cube c.cube_at.result.now (cube_in met places at) c.shared.result (get_or c.args.runs.now.shared at 0) None same c.shared.ensures (c.in-None.ensures cube c.requires.marked) in
    let near : apart (met_at met other).cube cube ≡ false = ap (λ j. apart (met_at met j).cube cube) c.place-other.ensures ∙ told (c.loop-at.invariant.front inside) in
    let low : other < length met = subst (λ j. j < length met) (sym c.place-other.ensures) (c.requires.runs.places.inside at 0 inside) in
    (other, low, c.if-other-place.false, overlap-comm (met_at met other).cube cube (c.requires.named other _ low).rising (c.requires.named c.args.place _ c.requires.inside).rising near)

pub returns : goal.returns
returns c = λ j inside differs.
    let met = c.args.met.now in
    apart-comm (met_at met j).cube (met_at met c.args.place).cube (c.requires.named j _ inside).rising (c.requires.named c.args.place _ c.requires.inside).rising
    (walked_all met c.args.runs.now.places c.args.runs.now.shared c.args.place c.loop-at.at c.requires.runs.places c.loop-at.invariant (omega arith) j inside differs)
