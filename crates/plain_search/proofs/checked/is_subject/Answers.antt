use Rattle.std.proofs.Common.{◌≡◌, ℕ, ◌<◌, ◌≤◌, List, [], ◌∷◌, length, All, refl, sym, ap, ◌∙◌, arith, rules, ℤ, subst}
use Rattle.std.specs.List.Sorted.{IsStrictlyIncreasing}
use Rattle.std.proofs.lemmas.List.Elements.{All-weaker}
use Rattle.std.proofs.lemmas.List.Sums.{sum_by-le}
use Rattle.sat_terms.specs.Literals.{IsLiteralOf}
use Rattle.sat_terms.specs.Subjects.{IsFormula}
use Rattle.plain_search.specs.SmallSubjects.{IsShortClause, IsShortFormula}
use Rattle.plain_search.proofs.checked.is_subject.Goals as goal

formula_from : (n : ℕ) (f : List (List ℤ)) → n ≤ 1000000 → IsShortFormula n f → IsFormula n f
formula_from n f few short =
    let small = short.few in
    let sum = sum_by-le length 1000000 f (All-weaker (IsShortClause n) (λ c. length c ≤ 1000000) (λ c h. h.short) f short.short) in
    record {
      variables = few;
      clauses = omega arith;
      literals = omega arith;
      named = All-weaker (IsShortClause n) (All (IsLiteralOf n)) (λ c h. h.named) f short.short;
    }

nil : (xs : List ℤ) → length xs ≡ 0 → xs ≡ []
nil [] e = refl
nil (x ∷ xs) e = absurd (omega arith)

pub returns : goal.returns
returns c = λ h.
    let s = c.args.subject.now in
    record {
      formula = formula_from s.formula.variables s.formula.clauses c.if-variables-gt1000000.false
          (subst (IsShortFormula s.formula.variables) c.as_slice.ensures (c.is_short_formula.ensures h));
      shown = record {
        rising = subst IsStrictlyIncreasing c.as_slice-shown.ensures (c.is_rising.ensures c.if-not-is_rising.false);
        named = subst (All (λ v. (0 < v) × (v ≤ s.formula.variables))) c.as_slice-shown.ensures (c.are_variables_of.ensures c.if-not-are_variables_of.false);
      };
      under = (let zero : length c.lits.result.now ≡ 0 = search rules in rw (nil s.under (ap length (sym c.lits.ensures.same) ∙ zero)) (record { rising = refl; over = refl }));
    }
