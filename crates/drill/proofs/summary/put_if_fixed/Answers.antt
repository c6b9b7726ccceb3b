use Rattle.std.proofs.Common.{rules, ◌≡◌, true, ◌++◌, ◌∙◌, ap, List, ℕ, codes, w32}
use Rattle.std.specs.Fmt.{signed_decimal}
use Rattle.std.specs.List.{list_all}
use Rattle.std.proofs.lemmas.Int.{to_z-of_z}
use Rattle.sat_terms.specs.Cubes.{has_literal}
use Rattle.cube_text.proofs.Handing.{Hands-more, Hands-along}
use Rattle.drill.proofs.Choices.{one_chosen}
use Rattle.drill.proofs.summary.put_if_fixed.Goals as goal

pub returns-then-is_in_each : goal.returns-then-is_in_each
returns-then-is_in_each g c =
    let cubes = g.L.CubeList.cubes c.args.cubes.now in
    let told : list_all (λ d. has_literal d c.args.lit) cubes ≡ true = search rules in
    let digits = c.as_bytes.ensures.value ∙ c.format.ensures.text ∙ ap signed_decimal (to_z-of_z w32 c.args.lit c.ranges.lit) in
    let hands = Hands-more _ _ _ _ _ _ _ _ c.put.ensures c.put-then-is_in_each.ensures in
    Hands-along _ _ _ _ _ _ (ap (λ (l : List ℕ). l ++ codes " ") digits ∙ one_chosen cubes c.args.lit told) hands
