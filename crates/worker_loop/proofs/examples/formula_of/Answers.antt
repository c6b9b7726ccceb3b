use Rattle.std.proofs.Common.{ℕ, ◌≤◌, List, length, All, ℤ, sym, subst, arith, rules}
use Rattle.std.proofs.lemmas.List.Sums.{sum_by-le}
use Rattle.sat_terms.specs.Literals.{IsLiteralOf}
use Rattle.sat_terms.specs.Subjects.{IsFormula}
use Rattle.worker_loop.proofs.examples.formula_of.Goals as goal

small_formula : (n : ℕ) (f : List (List ℤ)) → n ≤ 1000 → length f ≤ 1000 → All (λ c. length c ≤ 1000) f → All (All (IsLiteralOf n)) f → IsFormula n f
small_formula n f low few short named =
    let sum = sum_by-le length 1000 f short in
    record {
      variables = omega arith;
      clauses = omega arith;
      literals = omega arith;
      named = named;
    }

pub returns-clause-formula : goal.returns-clause-formula
returns-clause-formula g c =
    let low : c.args.variables ≤ 1000 = search rules in
    let few : length c.loop-lits.list.items ≤ 1000 = search rules in
    subst (IsFormula c.args.variables) (sym c.from_vec.ensures)
    (small_formula c.args.variables c.loop-lits.list.items low few c.loop-lits.invariant.short c.loop-lits.invariant.named)
