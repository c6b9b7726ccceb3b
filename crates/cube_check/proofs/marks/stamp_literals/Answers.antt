use Rattle.std.proofs.Common.{◌≡◌, ◌<◌, ◌≤◌, ℕ, ℤ, ◌++◌, pos, length, get_or, ap, subst, ◌∙◌, arith, rules}
use mir.Syntax.{w32}
use mir.Val.{SFits}
use Rattle.std.proofs.lemmas.Int.{to_z-of_z}
use Rattle.std.proofs.lemmas.List.{take_all}
use Rattle.std.proofs.lemmas.List.Elements.{All-set}
use Rattle.sat_terms.specs.CubeOrder.{key}
use Rattle.sat_terms.specs.Stamps.{AreStamped}
use Rattle.sat_terms.proofs.Keys.{key-le}
use Rattle.cube_check.proofs.Marking.{stamped_next}
use Rattle.cube_check.proofs.marks.stamp_literals.Goals as goal

pub loop-lit-preserved : goal.loop-lit-preserved
loop-lit-preserved c =
    let i : ℕ = c.loop-lit.lit-index in
    let m : ℤ = get_or c.args.lits.now i (pos 0) in
    let inside : i < length c.args.lits.now = c.loop-lit-test.true in
    let fits : SFits w32 m = search rules in
    let at : c.place_of.result ≡ key m = c.place_of.ensures ∙ ap key (to_z-of_z w32 m fits) in
    let room : c.place_of.result < length c.loop-lit.stamps = (let low = key-le m in let wide = c.requires.places i (pos 0) inside in let same = c.loop-lit.auto.stamps in omega arith) in
    record {
      more = λ held h. stamped_next c.loop-lit.stamps c.args.stamp held c.args.lits.now i c.place_of.result inside at room (c.loop-lit.invariant.more held h);
      older = All-set (λ s. s ≤ c.args.stamp) c.loop-lit.stamps c.place_of.result c.args.stamp (omega arith) c.loop-lit.invariant.older;
    }

pub returns-clause-more : goal.returns-clause-more
returns-clause-more c = λ held h.
    subst (λ xs. AreStamped c.loop-lit.stamps c.args.stamp (held ++ xs)) (take_all c.loop-lit.lit-index c.args.lits.now (omega arith)) (c.loop-lit.invariant.more held h)
