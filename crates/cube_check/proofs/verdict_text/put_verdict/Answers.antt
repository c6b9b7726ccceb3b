use Rattle.std.proofs.Common.{sym, ap, ◌∙◌}
use Rattle.std.proofs.lemmas.List.{append-nil}
use Rattle.cube_text.proofs.Handing.{Hands-along}
use Rattle.cube_check.specs.VerdictTexts.{verdict_text}
use Rattle.cube_check.proofs.verdict_text.put_verdict.Goals as goal

pub returns-in-Right : goal.returns-in-Right
returns-in-Right g c = Hands-along _ _ _ _ _ _ (sym (ap verdict_text c.in-Right.is)) c.put.ensures

pub returns-in-NotMet : goal.returns-in-NotMet
returns-in-NotMet g c = Hands-along _ _ _ _ _ _ (sym (ap verdict_text c.in-NotMet.is ∙ append-nil _)) c.put_places.ensures

pub returns-in-Overlap : goal.returns-in-Overlap
returns-in-Overlap g c = Hands-along _ _ _ _ _ _ (sym (ap verdict_text c.in-Overlap.is ∙ append-nil _)) c.put_places-in-Overlap.ensures
