use Rattle.std.proofs.Common.{ap, length}
use Rattle.std.specs.Fmt.{decimal}
use Rattle.cube_text.proofs.Handing.{Hands-more, Hands-along}
use Rattle.checkpoint.proofs.saved_text.put_formula_line.Goals as goal

pub returns : goal.returns
returns g c =
    let variables = Hands-along _ _ _ _ _ _ (ap decimal c.from.ensures) c.put_number.ensures in
    let clauses = Hands-along _ _ _ _ _ _ (ap (λ l. decimal (length l)) c.as_slice.ensures) c.put_number-2.ensures in
    let parted = Hands-more _ _ _ _ _ _ _ _ (Hands-more _ _ _ _ _ _ _ _ c.put.ensures variables) c.put-2.ensures in
    Hands-more _ _ _ _ _ _ _ _ (Hands-more _ _ _ _ _ _ _ _ parted clauses) c.put-3.ensures
