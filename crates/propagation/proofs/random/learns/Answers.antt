use Rattle.std.proofs.Common.{◌≡◌, List, [], ◌∷◌, take, ℤ, sym, ap, subst, ◌∙◌}
use Rattle.std.specs.List.{All}
use Rattle.std.proofs.lemmas.List.{take_at}
use Rattle.std.proofs.lemmas.List.Elements.{All-push}
use Rattle.sat_terms.specs.Literals.{IsLiteralOf}
use Rattle.propagation.specs.Settled.{IsSettled}
use Rattle.propagation.proofs.random.learns.Goals as goal

pub takes_up-requires-clause-next : goal.takes_up-requires-clause-next
unfolding IsSettled
takes_up-requires-clause-next c = c.in_ok-id.ensures.id ∙ sym c.requires.settled.watches.known

pub takes_up-requires-clause-clauses : goal.takes_up-requires-clause-clauses
takes_up-requires-clause-clauses c =
    subst (All (All (IsLiteralOf 6))) (sym c.in_ok-id.ensures.clauses) (All-push (All (IsLiteralOf 6)) c.args.arena.now.clauses c.args.lits.now c.requires.clauses c.requires.named)

pub takes_up-requires-clause-settled : goal.takes_up-requires-clause-settled
takes_up-requires-clause-settled c =
    let old : List (List ℤ) = c.args.arena.now.clauses in
    let same : take c.in_ok-id.id c.add.new.self.clauses ≡ old =
    ap (take c.in_ok-id.id) c.in_ok-id.ensures.clauses ∙ take_at old (c.args.lits.now ∷ []) c.in_ok-id.id (sym c.in_ok-id.ensures.id) in
    subst (λ cs. IsSettled cs c.args.propagator.now c.args.trail.now) (sym same) c.requires.settled
