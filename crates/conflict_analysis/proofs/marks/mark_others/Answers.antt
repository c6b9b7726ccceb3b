use Rattle.std.proofs.Common.{◌≡◌, ℕ, ℤ, pos, true, false, nat_abs, ◌+◌, ◌<◌, length, length-set, get_or, take, sym, ap, subst, ◌∙◌, rules, arith}
use mir.Syntax.{w32}
use mir.Val.{SFits, to_z, of_z}
use Rattle.std.proofs.lemmas.Int.{to_z-of_z}
use Rattle.std.proofs.lemmas.List.{get_or_read}
use Rattle.sat_terms.proofs.Machine.{nat_abs-bits}
use Rattle.conflict_analysis.specs.Marks.{is_marked}
use Rattle.conflict_analysis.proofs.Counts.{AreMarked, count_mark, marks_skip, marks_there, marks_new}
use Rattle.conflict_analysis.proofs.marks.mark_others.Goals as goal
use Rattle.conflict_analysis.proofs.marks.mark_others.Goals.{then-other-lit+then-not-index, else-other-lit, else-other-lit-via-then-other-lit+else-not-index, else-other-lit-via-else-other-lit}

pub loop-other-preserved : goal.loop-other-preserved
loop-other-preserved c =
    let clause = c.args.clause.now in
    let i : ℕ = c.loop-other.other-index in
    let m : ℤ = get_or clause i (pos 0) in
    let l : ℤ = to_z w32 (of_z w32 c.args.lit) in
    let old = c.args.marks.now.items in
    let marks = c.loop-other.marks.items in
    let inside : i < length clause = c.loop-other-test.true in
    let fits : SFits w32 m = search rules in
    let lit_fits : SFits w32 c.args.lit = search rules in
    let before : AreMarked old l (take i clause) marks = c.loop-other.invariant.marked in
    let place : c.unsigned_abs-variable.result ≡ nat_abs m = c.unsigned_abs-variable.ensures.value ∙ nat_abs-bits m fits in
    let named = c.requires.named i (pos 0) inside in
    let within : nat_abs m < length marks = (let low = named.1 in let above = named.0 in let long = c.loop-other.invariant.long in omega arith) in
    let apart = λ (differs : of_z w32 m ≡ of_z w32 c.args.lit → ⊥) (same : m ≡ l). differs (ap (of_z w32) (same ∙ to_z-of_z w32 c.args.lit lit_fits)) in
    elim c.if-other-lit.branch [
      | then-other-lit+then-not-index w ↦
          let read : false ≡ is_marked marks c.unsigned_abs-variable.result = subst (λ x. x ≡ get_or marks c.unsigned_abs-variable.result x) w.if-not-index.true w.index.ensures in
          let off : is_marked marks (nat_abs m) ≡ false = sym (read ∙ ap (is_marked marks) place) in
          rw (w.marks-is, w.left-is, place) (record {
            long = length-set marks (nat_abs m) true ∙ c.loop-other.invariant.long;
            counted = ap (λ k. k + 1) c.loop-other.invariant.counted ∙ sym (count_mark marks (nat_abs m) within off);
            marked = marks_new old l clause i (pos 0) inside marks before (apart w.if-other-lit.true) within;
          })
      | else-other-lit w ↦
          rw (w.marks-is, w.left-is) (record {
            long = c.loop-other.invariant.long;
            counted = c.loop-other.invariant.counted;
            marked = elim w.else-other-lit.branch [
              | else-other-lit-via-then-other-lit+else-not-index u ↦
                  let there : c.unsigned_abs-variable.result < length marks = omega (arith, within, place) in
                  let read = get_or_read marks c.unsigned_abs-variable.result u.index.result.now there u.index.ensures false in
                  marks_there old l clause i (pos 0) inside marks before (apart u.if-other-lit.true) (ap (is_marked marks) (sym place) ∙ sym read ∙ u.if-not-index.false)
              | else-other-lit-via-else-other-lit u ↦
                  marks_skip old l clause i (pos 0) inside marks before (sym (to_z-of_z w32 m fits) ∙ ap (to_z w32) u.if-other-lit.false)
            ];
          })
    ]
