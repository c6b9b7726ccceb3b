use Rattle.std.proofs.Common.{◌++◌, ◌∙◌, ap, List, ℕ, codes, w32}
use Rattle.std.specs.Fmt.{signed_decimal}
use Rattle.std.proofs.lemmas.Int.{to_z-of_z}
use Rattle.cube_text.proofs.Handing.{Hands-more, Hands-along}
use Rattle.cube_text.proofs.lines.put_number.Goals as goal

pub returns : goal.returns
returns g c =
    let digits = c.as_bytes.ensures.value ∙ c.format.ensures.text ∙ ap signed_decimal (to_z-of_z w32 c.args.number c.ranges.number) in
    let hands = Hands-more _ _ _ _ _ _ _ _ c.put.ensures c.put-2.ensures in
    Hands-along _ _ _ _ _ _ (ap (λ (l : List ℕ). l ++ codes " ") digits) hands
