use Rattle.std.proofs.Common.{◌≤◌, ℕ, pos, filter, not, [], ◌∷◌, ◌++◌, sym, ap, subst, ◌∙◌, arith}
use Rattle.sat_terms.specs.Cubes.{within}
use Rattle.chrono_trail.specs.declared.item.Kind.TheVariants.{Assumed}
use Rattle.chrono_trail.specs.declared.item.Item.{Item}
use Rattle.live_engine.specs.Gives.{KeepsWithin}
use Rattle.live_engine.proofs.Handed.{based, level_small, gone_few, given, hands_out}
use Rattle.live_engine.proofs.search.Search.give.Goals as goal

pub keep_within-cubes-requires-clause-few : goal.keep_within-cubes-requires-clause-few
keep_within-cubes-requires-clause-few c = subst (λ (g : ℕ). g ≤ c.args.self.now.leaves) (sym c.leaves_gone-leaves.ensures) (gone_few c.args.self.now c.requires)

pub keep_within-cubes-requires-clause-next : goal.keep_within-cubes-requires-clause-next
keep_within-cubes-requires-clause-next c =
    let s = c.args.self.now in
    let low = based s c.requires in
    let high = level_small s c.requires in
    let small = c.requires.ground.small in
    omega arith

pub returns-clause-gives : goal.returns-clause-gives
returns-clause-gives c =
    let s = c.args.self.now in
    let none : Item = record { lit = pos 0; level = 0; kind = Assumed } in (
      given s c.requires c.in-Some.place c.in-Some.ensures c.kept_place.result c.kept_place.ensures none,
      c.in_ok-kept.kept,
      hands_out s c.requires c.in-Some.place c.in-Some.ensures c.kept_place.result c.kept_place.ensures none
          c.keep_within-cubes.new.self c.in_ok-kept.kept c.leaves_gone-leaves.result c.from_vec.result c.from_vec-2.result
          c.in_ok-kept.ensures c.leaves_gone-leaves.ensures
          (subst (λ q. KeepsWithin s c.keep_within-cubes.new.self q c.leaves_gone-leaves.result) c.in_ok-prefix.ensures c.keep_within-cubes.ensures.keeps)
          (c.from_vec.ensures ∙ c.keep_within-cubes.ensures.cubes ∙ ap (λ q. filter (λ x. not (within x q)) s.found.items) c.in_ok-prefix.ensures)
          (c.from_vec-2.ensures ∙ c.push_reserved.ensures.items ∙ ap (λ xs. xs ++ c.in_ok-other_side.field-0 ∷ []) c.in_ok-rest.ensures.items
          ∙ ap (λ x. x ∷ []) (c.in_ok-other_side.ensures none)),
    )
