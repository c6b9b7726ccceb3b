use Rattle.std.proofs.Common.{◌≡◌, ◌<◌, ℕ, ◌+◌, ◌++◌, [], ◌∷◌, false, length, sym, ap, ◌∙◌, arith}
use Rattle.std.proofs.lemmas.List.{get_or_read}
use Rattle.sat_terms.specs.Cubes.{is_among}
use Rattle.projected_decide.proofs.Filling.{listed_more, passed_more}
use Rattle.projected_decide.proofs.making.in_order.Goals as goal
use Rattle.projected_decide.proofs.making.in_order.Goals.{then-not-index+in_ok-push, else-not-index}

pub loop-below-preserved : goal.loop-below-preserved
loop-below-preserved c =
    let n : ℕ = c.loop-below.below in
    let shown = c.args.shown.now in
    let marks = c.in_ok-is_shown.is_shown.items in
    let wide = c.in_ok-is_shown.ensures.length in
    let inside : n + 1 < length marks = omega arith in
    let told : c.index.result.now ≡ is_among shown (n + 1) =
    get_or_read marks (n + 1) c.index.result.now inside c.index.ensures false ∙ c.in_ok-is_shown.ensures.marks (n + 1) (omega arith) in
    elim c.if-not-index.branch [
      | then-not-index+in_ok-push w ↦
          rw w.order-is (w.in_ok-push.ensures.items ∙ ap (λ xs. xs ++ (n + 1) ∷ []) c.loop-below.invariant
          ∙ sym (listed_more n shown (n + 1) (omega arith) (sym told ∙ w.if-not-index.true)))
      | else-not-index w ↦
          rw w.order-is (c.loop-below.invariant ∙ sym (passed_more n shown (n + 1) (omega arith) (sym told ∙ w.if-not-index.false)))
    ]
