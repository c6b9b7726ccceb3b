use Rattle.std.proofs.Common.{◌∙◌, ap, sym, rules}
use mir.Syntax.{w32}
use mir.Val.{SFits}
use Rattle.sat_terms.proofs.Machine.{nat_abs-bits, bits_from_same, same_from_bits}
use Rattle.plain_search.specs.Steps.{level_within}
use Rattle.plain_search.proofs.Looks.{unset_counts, false_counts, true_counts}
use Rattle.plain_search.proofs.search.Search.literal_level.Goals as goal

pub returns-in_err-item : goal.returns-in_err-item
returns-in_err-item c =
    let fits : SFits w32 c.args.lit = search rules in
    λ b. unset_counts c.args.subject.now c.args.self.now c.requires.searching c.args.lit c.unsigned_abs.result
    (c.unsigned_abs.ensures.value ∙ nat_abs-bits c.args.lit fits) (sym c.item.ensures ∙ c.in_err-item.was) b
    ∙ ap (level_within b) (sym c.from_residual.ensures)

pub returns-then-item-lit : goal.returns-then-item-lit
returns-then-item-lit c =
    let fits : SFits w32 c.args.lit = search rules in
    let item_fits : SFits w32 c.in_ok-item.item.lit = search rules in
    λ b. true_counts c.args.subject.now c.args.self.now c.requires.searching c.args.lit c.unsigned_abs.result c.in_ok-item.item
    (c.unsigned_abs.ensures.value ∙ nat_abs-bits c.args.lit fits) (sym c.item.ensures ∙ c.in_ok-item.was) b
    (same_from_bits c.in_ok-item.item.lit c.args.lit item_fits fits c.if-item-lit.true)
    ∙ c.needed_level.ensures b

pub returns-else-item-lit : goal.returns-else-item-lit
returns-else-item-lit c =
    let fits : SFits w32 c.args.lit = search rules in
    λ b. false_counts c.args.subject.now c.args.self.now c.requires.searching c.args.lit c.unsigned_abs.result c.in_ok-item.item
    (c.unsigned_abs.ensures.value ∙ nat_abs-bits c.args.lit fits) (sym c.item.ensures ∙ c.in_ok-item.was) b
    (λ same. c.if-item-lit.false (bits_from_same c.in_ok-item.item.lit c.args.lit same))
