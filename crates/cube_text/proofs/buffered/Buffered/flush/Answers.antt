use Rattle.std.proofs.Common.{sym, ◌∙◌, ap}
use Rattle.std.proofs.lemmas.List.{append-nil}
use Rattle.cube_text.proofs.Handing.{Wrote-put}
use Rattle.cube_text.proofs.buffered.Buffered.flush.Goals as goal

pub returns-clause-out : goal.returns-clause-out
returns-clause-out g c start text wrote =
    let view = c.self.view_is in
    let going = sym (ap (λ v. v.failed) view) ∙ c.if-self.false in
    let all = c.as_slice.ensures.value ∙ ap (λ v. v.kept) view ∙ sym (append-nil c.args.self.now.kept) in
    Wrote-put _ _ _ _ _ _ _ _ _ going all c.write_whole.ensures c.clear-2.ensures c.is_err-self-inside.ensures.value wrote
