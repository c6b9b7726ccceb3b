use Rattle.std.proofs.Common.{◌≡◌, ◌<◌, ◌^◌, List, get_or, ℤ, pos, neg_ℤ, nat_abs, ap, ◌∙◌, ◌-ℤ◌, arith}
use mir.Syntax.{w32}
use mir.Val.{to_z, of_z}
use Rattle.std.proofs.lemmas.Int.{to_z-of_z, ints}
use Rattle.std.proofs.lemmas.List.{get_or_default}
use Rattle.chrono_trail.specs.declared.item.Item.{Item}
use Rattle.chrono_trail.specs.declared.item.Kind.TheVariants.{Assumed}
use Rattle.chrono_trail.proofs.Back.{place_at}
use Rattle.chrono_trail.proofs.Frees.{fits_below}
use Rattle.propagation.proofs.walking.next_false.Goals as goal

negated : (l : ℤ) → nat_abs l < 2 ^ 31 → to_z w32 (of_z w32 (pos 0 -ℤ to_z w32 (of_z w32 l))) ≡ neg_ℤ l
negated l small = ap (λ z. to_z w32 (of_z w32 (pos 0 -ℤ z))) (to_z-of_z w32 l (fits_below l small)) ∙ omega (arith, ints)

pub returns-clause-next : goal.returns-clause-next
returns-clause-next c d =
    let items : List Item = c.args.trail.now.items in
    let none : Item = record { lit = pos 0; level = 0; kind = Assumed } in
    let trail = c.items.ensures.trail in
    let small = place_at c.args.trail.now.variables (2 ^ 31) items trail.within trail.small c.args.trail.now.seen d c.requires in
    let same : get_or c.items.result.now c.seen.result none ≡ get_or items c.args.trail.now.seen d =
    ap (λ xs. get_or xs c.seen.result none) c.items.ensures.items ∙ ap (λ k. get_or items k none) c.seen.ensures.seen
    ∙ get_or_default items c.args.trail.now.seen none d c.requires in
    ap (λ (i : Item). to_z w32 (of_z w32 (pos 0 -ℤ to_z w32 (of_z w32 i.lit)))) same ∙ negated (get_or items c.args.trail.now.seen d).lit small
