use Rattle.std.proofs.Common.{◌≡◌, ℕ, true, take, get_or, sym, ap, subst, ◌∙◌}
use Rattle.std.specs.List.{list_all}
use Rattle.search_region.specs.Model.{keeps_flips}
use Rattle.chrono_trail.specs.Items.{is_upto}
use Rattle.chrono_trail.specs.Pictures.{picture_of}
use Rattle.implicant_shrink.specs.Levels.{marked}
use Rattle.implicant_shrink.proofs.Flips.{nothing, no_flips, flips_by_last}
use Rattle.implicant_shrink.proofs.levels.flips_level.Goals as goal

pub returns-in-None : goal.returns-in-None
returns-in-None c = λ clauses b.
    let shown = marked c.args.shown.now in
    ap (λ xs. keeps_flips shown b (picture_of clauses xs)) (sym c.items-items.ensures.items)
    ∙ no_flips clauses shown c.items-items.result.now c.in-None.ensures b

pub returns-then-are_upto : goal.returns-then-are_upto
returns-then-are_upto c = λ clauses b.
    let shown = marked c.args.shown.now in
    let items = c.items-items.result.now in
    let place : ℕ = c.in-Some.place in
    ap (λ xs. keeps_flips shown b (picture_of clauses xs)) (sym c.items-items.ensures.items)
    ∙ flips_by_last clauses shown items place c.in-Some.ensures
    (subst (λ xs. list_all (is_upto (get_or items place nothing).level) (take place xs) ≡ true) (sym c.items-items.ensures.items) (c.are_upto.ensures c.if-are_upto.true)) b
