use Rattle.std.proofs.Common.{◌≡◌, ◌<◌, ◌++◌, ◌∷◌, [], nat_abs, sym, subst, ap, ◌∙◌}
use Rattle.std.specs.List.{All}
use mir.Syntax.{w32}
use Rattle.std.proofs.lemmas.Int.{to_z-of_z}
use Rattle.std.proofs.lemmas.List.Elements.{All-push}
use Rattle.sat_terms.specs.Literals.{IsLiteral}
use Rattle.sat_terms.specs.Cubes.{rises_above, last_variable}
use Rattle.sat_terms.proofs.Machine.{nat_abs-bits}
use Rattle.dimacs_front.proofs.SavedSteps.{last_pushed, rises_pushed}
use Rattle.dimacs_front.proofs.saved_lines.RisingLits.add.Goals as goal

pub invariant_of-self-2 : goal.invariant_of-self-2
invariant_of-self-2 c =
    let pushed : c.push.new.self.items ≡ c.self.inside.lits.items ++ c.args.literal ∷ [] =
    c.in_ok-push.ensures.items ∙ ap (λ l. c.self.inside.lits.items ++ l ∷ []) (to_z-of_z w32 c.args.literal c.ranges.literal) in
    let lower : last_variable 0 c.self.inside.lits.items < nat_abs c.args.literal =
    subst (λ ls. last_variable 0 ls < nat_abs c.args.literal) (sym c.self.view_is) c.requires.rises in (
      ap (last_variable 0) pushed ∙ last_pushed 0 c.self.inside.lits.items c.args.literal
          ∙ sym (c.unsigned_abs-self-inside.ensures.value ∙ nat_abs-bits c.args.literal c.ranges.literal),
      (
        ap (rises_above 0) pushed ∙ rises_pushed 0 c.self.inside.lits.items c.args.literal c.self.invariant.1.0 lower,
        subst (All IsLiteral) (sym pushed) (All-push IsLiteral c.self.inside.lits.items c.args.literal c.self.invariant.1.1 c.requires.literal),
      ),
    )
