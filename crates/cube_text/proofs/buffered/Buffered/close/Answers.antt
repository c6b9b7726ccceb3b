use Rattle.std.proofs.Common.{sym, ◌∙◌, ap, subst, List, ℕ}
use Rattle.std.proofs.lemmas.List.{append-nil}
use Rattle.fault_io.specs.Sinks.{TakesFront}
use Rattle.cube_text.proofs.Handing.{Wrote-whole, Wrote-front}
use Rattle.cube_text.proofs.buffered.Buffered.close.Goals as goal

pub returns-then-self : goal.returns-then-self
returns-then-self g c start text wrote =
    let fell = sym (ap (λ v. v.failed) c.self.view_is) ∙ c.if-self.true in
    subst (λ (l : List ℕ). TakesFront start (g.K.Sink.shows c.flush.new.out) l) (append-nil text)
    (Wrote-front _ _ _ _ fell (c.flush.ensures.out start text wrote))

pub returns : goal.returns
returns g c start text wrote =
    let going = sym (ap (λ v. v.failed) c.self.view_is) ∙ c.if-self.false in
    Wrote-whole _ _ _ _ c.flush.ensures.empty going (c.flush.ensures.out start text wrote)
