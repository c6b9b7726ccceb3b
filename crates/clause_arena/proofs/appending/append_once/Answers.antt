use Rattle.std.proofs.Common.{◌≡◌, ◌+◌, ◌<◌, ◌≤◌, ◌++◌, ◌∷◌, [], ℕ, List, ℤ, pos, length, get_or, take, nat_eq, true, false, refl, sym, ap, subst, ◌∙◌, arith, rules, append-nil, append_assoc, Vec, Global}
use mir.Syntax.{w32}
use mir.Val.{SFits}
use Rattle.std.specs.List.{All}
use Rattle.std.proofs.lemmas.Bool.{eq-eqb, ne_eqb}
use Rattle.std.proofs.lemmas.Int.{to_z-of_z}
use Rattle.std.proofs.lemmas.List.Elements.{All-set}
use Rattle.sat_terms.specs.CubeOrder.{key}
use Rattle.sat_terms.specs.Cubes.{has_literal}
use Rattle.clause_arena.specs.Once.{once}
use Rattle.clause_arena.proofs.Literals.{once_more_old, once_more_new}
use Rattle.clause_arena.proofs.Marks.{Tells, tells_none, tells_old, tells_new, told}
use Rattle.clause_arena.proofs.appending.append_once.Goals as goal
use Rattle.clause_arena.proofs.appending.append_once.Goals.{then-stamps-place+in_ok-push, else-stamps-place}

pub loop-lit-init : goal.loop-lit-init
loop-lit-init c = record {
  kept = sym (append-nil c.args.lits.now.items);
  tells = tells_none c.args.stamps.now c.args.stamp c.args.clause.now c.requires.older;
  stamped = λ k d h. let less = c.requires.older k d h in omega arith;
}

pub loop-lit-preserved : goal.loop-lit-preserved
loop-lit-preserved c =
    let i : ℕ = c.loop-lit.lit-index in
    let clause : List ℤ = c.args.clause.now in
    let m : ℤ = get_or clause i (pos 0) in
    let inside : i < length clause = c.loop-lit-test.true in
    let fits : SFits w32 m = search rules in
    let at : c.place_of-place.result ≡ key m = c.place_of-place.ensures ∙ ap key (to_z-of_z w32 m fits) in
    let room : key m < length c.loop-lit.stamps = (let wide = c.requires.places i (pos 0) inside in let same = c.loop-lit.auto.stamps in omega arith) in
    let tells = c.loop-lit.invariant.tells in
    let asked : nat_eq (get_or c.loop-lit.stamps (key m) 0) c.args.stamp ≡ has_literal (take i clause) m = told c.loop-lit.stamps c.args.stamp clause i m room tells in
    elim c.if-stamps-place.branch [
      | then-stamps-place+in_ok-push w ↦
          let absent : has_literal (take i clause) m ≡ false
          = sym asked ∙ ne_eqb (get_or c.loop-lit.stamps (key m) 0) c.args.stamp (λ e. w.if-stamps-place.true (ap (λ n. get_or c.loop-lit.stamps n 0) at ∙ e)) in
          record {
            kept =
                ap (λ (v : Vec ℤ Global). v.items) w.lits-is
                ∙ w.in_ok-push.ensures.items
                ∙ ap (λ (z : ℤ). c.loop-lit.lits.items ++ z ∷ []) (to_z-of_z w32 m fits)
                ∙ ap (λ (xs : List ℤ). xs ++ m ∷ []) c.loop-lit.invariant.kept
                ∙ append_assoc c.args.lits.now.items (once (take i clause)) (m ∷ [])
                ∙ ap (λ (xs : List ℤ). c.args.lits.now.items ++ xs) (sym (once_more_new clause i inside absent));
            tells = subst (λ (s : List ℕ). Tells s c.args.stamp clause (i + 1)) (sym w.stamps-is) (tells_new c.loop-lit.stamps c.args.stamp clause i m c.place_of-place.result inside refl at room tells);
            stamped = subst (λ (s : List ℕ). All (λ x. x ≤ c.args.stamp) s) (sym w.stamps-is) (All-set (λ x. x ≤ c.args.stamp) c.loop-lit.stamps c.place_of-place.result c.args.stamp (omega arith) c.loop-lit.invariant.stamped);
          }
      | else-stamps-place w ↦
          let stamped : get_or c.loop-lit.stamps (key m) 0 ≡ c.args.stamp = ap (λ n. get_or c.loop-lit.stamps n 0) (sym at) ∙ w.if-stamps-place.false in
          let there : has_literal (take i clause) m ≡ true = sym asked ∙ eq-eqb (get_or c.loop-lit.stamps (key m) 0) c.args.stamp stamped in
          record {
            kept =
                ap (λ (v : Vec ℤ Global). v.items) w.lits-is
                ∙ c.loop-lit.invariant.kept
                ∙ ap (λ (xs : List ℤ). c.args.lits.now.items ++ xs) (sym (once_more_old clause i inside there));
            tells = subst (λ (s : List ℕ). Tells s c.args.stamp clause (i + 1)) (sym w.stamps-is) (tells_old c.loop-lit.stamps c.args.stamp clause i m inside refl stamped tells);
            stamped = subst (λ (s : List ℕ). All (λ x. x ≤ c.args.stamp) s) (sym w.stamps-is) c.loop-lit.invariant.stamped;
          }
    ]
