use Rattle.cube_text.proofs.Handing.{Hands-more}
use Rattle.cube_check.proofs.verdict_text.put_places.Goals as goal

pub returns : goal.returns
returns g c =
    let first = Hands-more _ _ _ _ _ _ _ _ (Hands-more _ _ _ _ _ _ _ _ c.put.ensures c.put-2.ensures) c.put_place.ensures in
    let second = Hands-more _ _ _ _ _ _ _ _ (Hands-more _ _ _ _ _ _ _ _ first c.put-3.ensures) c.put_place-2.ensures in
    Hands-more _ _ _ _ _ _ _ _ second c.put-4.ensures
