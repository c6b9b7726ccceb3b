use Rattle.std.proofs.Common.{◌∙◌, ap}
use Rattle.std.specs.Fmt.{decimal}
use Rattle.cube_text.proofs.Handing.{Hands-more, Hands-along}
use Rattle.allsat_run.proofs.notes.put_refusal.Goals as goal

pub returns : goal.returns
returns g c =
    let number = Hands-along _ _ _ _ _ _ (ap decimal (c.from.ensures ∙ c.number.ensures)) c.put_number.ensures in
    let name = Hands-along _ _ _ _ _ _ (c.as_bytes.ensures.value ∙ c.name.ensures) c.put-2.ensures in
    let line = Hands-along _ _ _ _ _ _ (ap decimal c.line.ensures) c.put_number-2.ensures in
    let named = Hands-more _ _ _ _ _ _ _ _ (Hands-more _ _ _ _ _ _ _ _ number c.put.ensures) name in
    let placed = Hands-more _ _ _ _ _ _ _ _ (Hands-more _ _ _ _ _ _ _ _ named c.put-3.ensures) line in
    Hands-more _ _ _ _ _ _ _ _ (Hands-more _ _ _ _ _ _ _ _ placed c.put_counts.ensures) c.put-4.ensures
