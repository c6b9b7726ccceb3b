use Rattle.cube_text.proofs.Handing.{Hands-keep, Hands-more, Hands-same}
use Rattle.cube_text.proofs.buffered.Buffered.put.Goals as goal

pub returns-then-not-keep-2 : goal.returns-then-not-keep-2
returns-then-not-keep-2 g c =
    Hands-more _ _ _ _ _ _ _ _ (Hands-same _ _ _ _ _ _ c.if-not-keep.ensures.full c.flush.ensures.out)
    (Hands-same _ _ _ _ _ _ c.if-not-keep-2.ensures.full c.pass_on.ensures)

pub returns-else-not-keep-2 : goal.returns-else-not-keep-2
returns-else-not-keep-2 g c =
    Hands-more _ _ _ _ _ _ _ _ (Hands-same _ _ _ _ _ _ c.if-not-keep.ensures.full c.flush.ensures.out)
    (Hands-keep _ _ _ _ c.if-not-keep-2.ensures.kept)
