use Rattle.std.proofs.Common.{◌≡◌, List, [], ◌∷◌, ℤ, pos, sym, subst, ◌∙◌, arith}
use Rattle.std.specs.List.{All}
use Rattle.std.proofs.lemmas.List.Elements.{All-nil, All-cons, All-push}
use Rattle.sat_terms.specs.Literals.{IsLiteralOf}
use Rattle.propagation.proofs.tests.two_clauses_cannot_both_hold.Goals as goal

lemma : All (IsLiteralOf 4) (pos 2 ∷ [])
lemma = All-cons (IsLiteralOf 4) (pos 2) [] (omega arith, omega arith) (All-nil (IsLiteralOf 4))

pub learn-requires-clause-clauses : goal.learn-requires-clause-clauses
learn-requires-clause-clauses g c =
    let old : List (List ℤ) = c.in_ok-arena.arena.clauses in
    let four : c.run.new.propagator.variables ≡ 4 = c.run.ensures.own_variables ∙ c.in_ok-propagator.ensures.variables in
    let before : All (All (IsLiteralOf 4)) old = subst (λ n. All (All (IsLiteralOf n)) old) c.in_ok-formula.ensures.variables c.in_ok-arena.ensures in
    subst (λ n. All (All (IsLiteralOf n)) c.add.new.self.clauses) (sym four)
    (subst (All (All (IsLiteralOf 4))) (sym c.in_ok-id.ensures.clauses) (All-push (All (IsLiteralOf 4)) old (pos 2 ∷ []) before lemma))

pub rebuild-requires-clause-clauses : goal.rebuild-requires-clause-clauses
rebuild-requires-clause-clauses g c =
    let old : List (List ℤ) = c.in_ok-arena.arena.clauses in
    let four : c.learn.new.self.variables ≡ 4 = c.in_ok-learn.ensures.variables ∙ c.run.ensures.own_variables ∙ c.in_ok-propagator.ensures.variables in
    let before : All (All (IsLiteralOf 4)) old = subst (λ n. All (All (IsLiteralOf n)) old) c.in_ok-formula.ensures.variables c.in_ok-arena.ensures in
    subst (λ n. All (All (IsLiteralOf n)) c.add.new.self.clauses) (sym four)
    (subst (All (All (IsLiteralOf 4))) (sym c.in_ok-id.ensures.clauses) (All-push (All (IsLiteralOf 4)) old (pos 2 ∷ []) before lemma))
