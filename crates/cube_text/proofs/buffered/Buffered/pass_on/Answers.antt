use Rattle.std.proofs.Common.{◌++◌, sym, ◌∙◌, ap, List, ℕ}
use Rattle.cube_text.proofs.Handing.{Wrote-put}
use Rattle.cube_text.proofs.buffered.Buffered.pass_on.Goals as goal

pub returns-then-not-self : goal.returns-then-not-self
returns-then-not-self g c start text wrote =
    let view = c.self.view_is in
    let going = sym (ap (λ v. v.failed) view) ∙ c.if-not-self.true in
    let all = sym (ap (λ (l : List ℕ). l ++ c.args.piece.now) c.requires) in
    let empty = ap (λ v. v.kept) view ∙ c.requires in
    Wrote-put _ _ _ _ _ _ _ _ _ going all c.write_whole.ensures empty c.is_err-self-inside.ensures.value wrote
