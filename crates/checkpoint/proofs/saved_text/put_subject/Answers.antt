use Rattle.std.proofs.Common.{map, ap}
use Rattle.dimacs_tokens.specs.Texts.{ended, text_of}
use Rattle.cube_text.proofs.Handing.{Hands-more, Hands-along}
use Rattle.checkpoint.specs.SavedText.{clause_line, shown_line, given_line}
use Rattle.checkpoint.proofs.SavedLines.{subject_is}
use Rattle.checkpoint.proofs.saved_text.put_subject.Goals as goal

pub returns : goal.returns
returns g c =
    let clauses = Hands-along _ _ _ _ _ _ (ap (λ l. text_of (map clause_line l)) c.as_slice.ensures) c.put_clauses.ensures in
    let shown = Hands-along _ _ _ _ _ _ (ap (λ l. ended (shown_line l)) c.as_slice-2.ensures) c.put_shown.ensures in
    let given = Hands-along _ _ _ _ _ _ (ap (λ l. ended (given_line l)) c.lits.ensures.same) c.put_line.ensures in
    let before = Hands-more _ _ _ _ _ _ _ _ (Hands-more _ _ _ _ _ _ _ _ c.put_formula_line.ensures clauses) shown in
    Hands-along _ _ _ _ _ _ (subject_is c.args.subject.now) (Hands-more _ _ _ _ _ _ _ _ before given)
