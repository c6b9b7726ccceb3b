use Rattle.std.proofs.Common.{◌≡◌, [], get_or, ◌∙◌}
use Rattle.std.proofs.lemmas.List.{get_or_default}
use Rattle.cube_text.proofs.Handing.{Hands-more, Hands-along}
use Rattle.checkpoint.specs.SavedText.{clause_line}
use Rattle.checkpoint.proofs.SavedLines.{Hands-nil, lines_more, lines_all}
use Rattle.checkpoint.proofs.saved_text.put_clauses.Goals as goal

pub loop-clause-init : goal.loop-clause-init
loop-clause-init g c = Hands-nil _ _

pub loop-clause-preserved : goal.loop-clause-preserved
loop-clause-preserved g c =
    let clauses = c.args.clauses.now in
    let i = c.loop-clause.clause-index in
    let inside = c.loop-clause-test.true in
    let same : c.lits.result.now ≡ get_or clauses i [] = c.lits.ensures.same ∙ c.clause-item.is ∙ get_or_default clauses i c.clause-item.result [] inside in
    Hands-along _ _ _ _ _ _ (lines_more clause_line clauses i [] _ inside same)
    (Hands-more _ _ _ _ _ _ _ _ c.loop-clause.invariant c.put_line.ensures)

pub returns : goal.returns
returns g c =
    Hands-along _ _ _ _ _ _ (lines_all clause_line c.args.clauses.now c.loop-clause.clause-index c.loop-clause-test.false) c.loop-clause.invariant
