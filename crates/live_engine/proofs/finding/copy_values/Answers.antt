use Rattle.std.proofs.Common.{◌∙◌, pos, int_lt, nat_abs, get_or, length-set, ap, subst, rules, arith}
use mir.Syntax.{w32}
use mir.Val.{SFits, to_z, of_z}
use Rattle.std.proofs.lemmas.Int.{to_z-of_z}
use Rattle.chrono_trail.specs.declared.item.Kind.TheVariants.{Assumed}
use Rattle.chrono_trail.specs.declared.item.Item.{Item}
use Rattle.live_engine.specs.Values.{AreCopied}
use Rattle.live_engine.proofs.Copies.{copied_next}
use Rattle.live_engine.proofs.finding.copy_values.Goals as goal

pub loop-place-preserved : goal.loop-place-preserved
loop-place-preserved c =
    let none : Item = record { lit = pos 0; level = 0; kind = Assumed } in
    let i : Item = get_or c.args.items.now c.loop-place.place none in
    let fits : SFits w32 i.lit = search rules in
    let same = to_z-of_z w32 i.lit fits in
    let at = c.unsigned_abs.ensures.value ∙ ap nat_abs same in
    let place = c.requires.places c.loop-place.place none c.loop-place-test.true in
    let long = c.loop-place.invariant.long in
    record {
      long = length-set c.loop-place.values.items c.unsigned_abs.result (int_lt (pos 0) (to_z w32 (of_z w32 i.lit))) ∙ c.loop-place.invariant.long;
      copied = copied_next c.args.items.now c.loop-place.place none c.loop-place.values.items c.unsigned_abs.result (int_lt (pos 0) (to_z w32 (of_z w32 i.lit)))
          c.loop-place-test.true c.requires.distinct at (omega arith) (ap (int_lt (pos 0)) same) c.loop-place.invariant.copied;
    }

pub returns-clause-copied : goal.returns-clause-copied
returns-clause-copied c =
    let within = c.loop-place.invariant.copied.within in
    let past = c.loop-place-test.false in
    subst (λ n. AreCopied c.args.items.now n c.loop-place.values.items) (omega arith) c.loop-place.invariant.copied
