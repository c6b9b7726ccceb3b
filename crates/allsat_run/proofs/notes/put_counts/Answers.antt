use Rattle.std.proofs.Common.{sym, ap}
use Rattle.std.specs.Fmt.{decimal}
use Rattle.cube_text.proofs.Handing.{Hands-more, Hands-along}
use Rattle.allsat_run.specs.Status.{counts_of}
use Rattle.allsat_run.proofs.notes.put_counts.Goals as goal

pub returns-in-ClauseCount : goal.returns-in-ClauseCount
returns-in-ClauseCount g c =
    let said = Hands-along _ _ _ _ _ _ (ap decimal c.from.ensures) c.put_number.ensures in
    let found = Hands-along _ _ _ _ _ _ (ap decimal c.from-in-ClauseCount.ensures) c.put_number-in-ClauseCount.ensures in
    let named = Hands-more _ _ _ _ _ _ _ _ (Hands-more _ _ _ _ _ _ _ _ c.put.ensures said) c.put-in-ClauseCount.ensures in
    Hands-along _ _ _ _ _ _ (ap counts_of (sym c.in-ClauseCount.is)) (Hands-more _ _ _ _ _ _ _ _ named found)
