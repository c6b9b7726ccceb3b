use Rattle.cube_text.proofs.Handing.{Hands-more}
use Rattle.allsat_run.proofs.notes.put_number_line.Goals as goal

pub returns : goal.returns
returns g c = Hands-more _ _ _ _ _ _ _ _ c.put_number.ensures c.put.ensures
