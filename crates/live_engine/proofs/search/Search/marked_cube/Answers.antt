use Rattle.std.proofs.Common.{◌≡◌, ◌++◌, [], ◌∷◌, ◌+◌, ◌<◌, ◌≤◌, ◌^◌, ℕ, true, get_or, take, length, Some, None, Option, ℤ, sym, ap, subst, ◌∙◌, append-nil, option_to_list, filter_map, arith, rules, Vec, Global}
use mir.Syntax.{w32}
use mir.Val.{SFits}
use Rattle.std.specs.List.{All}
use Rattle.std.proofs.lemmas.Int.{to_z-of_z}
use Rattle.std.proofs.lemmas.List.{take_all}
use Rattle.std.proofs.lemmas.List.Elements.{All-weaker}
use Rattle.sat_terms.specs.Literals.{IsLiteral}
use Rattle.sat_terms.specs.Cubes.{rises_above}
use Rattle.search_region.specs.ReadCube.{read_cube}
use Rattle.search_region.proofs.ReadCube.{read_cube_rises, read_cube_literals}
use Rattle.search_job.specs.Same.{is_plain}
use Rattle.live_engine.proofs.Marking.{marks_more, marks_cube}
use Rattle.live_engine.proofs.search.Search.marked_cube.Goals as goal
use Rattle.live_engine.proofs.search.Search.marked_cube.Goals.{in-Some+in_ok-push, in_default}

pub loop-variable-preserved : goal.loop-variable-preserved
loop-variable-preserved c =
    let p = c.args.self.now.shown.items in
    let i : ℕ = c.loop-variable.variable-index in
    let marks = c.args.marks.now in
    let same = c.as_slice-variable-items.ensures.value in
    let more = marks_more marks p i 0 (subst (λ q. i < length q) same c.loop-variable-test.true) in
    let lits = c.loop-variable.lits.items in
    let looked : c.marked.result ≡ get_or marks (get_or p i 0) None = c.marked.ensures ∙ ap (λ q. get_or marks (get_or q i 0) None) same in
    let before = filter_map (λ v. get_or marks v None) (take i p) in
    let step : (new : Vec ℤ Global) → c.match-marked.lits ≡ new → (o : Option ℤ) → c.marked.result ≡ o → new.items ≡ lits ++ option_to_list o → c.match-marked.lits.items ≡ filter_map (λ v. get_or marks v None) (take (i + 1) p)
    = λ new is o e grown. ap (λ (x : Vec ℤ Global). x.items) is ∙ grown ∙ ap (λ xs. xs ++ option_to_list o) c.loop-variable.invariant
    ∙ sym (more ∙ ap (λ (x : Option ℤ). before ++ option_to_list x) (sym looked ∙ e)) in
    elim c.match-marked.branch [
      | in-Some+in_ok-push w ↦
          let fits : SFits w32 w.in-Some.lit = search rules in
          step w.push.new.self w.lits-is (Some w.in-Some.lit) w.in-Some.is
          (w.in_ok-push.ensures.items ∙ ap (λ (z : ℤ). lits ++ z ∷ []) (to_z-of_z w32 w.in-Some.lit fits))
      | in_default w ↦ step c.loop-variable.lits w.lits-is None w.in_default.is (sym (append-nil lits))
    ]

pub from_vec-requires : goal.from_vec-requires
from_vec-requires c =
    let s = c.args.self.now in
    let few = c.requires.ground.small in
    let trail = c.requires.marks.trail in
    let past = subst (λ p. length p ≤ c.loop-variable.variable-index) c.as_slice-variable-items.ensures.value c.loop-variable-test.false in
    let whole : c.loop-variable.lits.items ≡ read_cube is_plain trail s.shown.items = c.loop-variable.invariant ∙ ap (filter_map (λ v. get_or c.args.marks.now v None)) (take_all c.loop-variable.variable-index s.shown.items past)
    ∙ marks_cube s.variables c.args.marks.now trail s.shown.items c.requires.ground.shown.named c.requires.marks.told in
    let named = All-weaker (λ v. (0 < v) × (v ≤ s.variables)) (λ v. (0 < v) × (v < 2 ^ 31)) (λ v k. let low = k.1 in (k.0, omega arith)) s.shown.items c.requires.ground.shown.named in
    record {
      rising = subst (λ lits. rises_above 0 lits ≡ true) (sym whole) (read_cube_rises is_plain trail s.shown.items c.requires.ground.shown.rising
          (All-weaker (λ v. (0 < v) × (v < 2 ^ 31)) (λ v. 0 < v) (λ v k. k.0) s.shown.items named));
      literals = subst (All IsLiteral) (sym whole) (read_cube_literals is_plain trail s.shown.items named);
    }
