use Rattle.std.proofs.Common.{◌<◌, ℕ, length, get_or, None, pos, ◌∙◌, arith, length-set}
use mir.Syntax.{w32}
use mir.Val.{SFits}
use Rattle.sat_terms.proofs.Machine.{nat_abs-bits}
use Rattle.chrono_trail.specs.declared.item.Item.{Item}
use Rattle.chrono_trail.specs.declared.item.Kind.TheVariants.{Assumed}
use Rattle.chrono_trail.proofs.Frees.{freed, kept, fits_below}
use Rattle.chrono_trail.proofs.trail.free.Goals as goal
use Rattle.chrono_trail.proofs.trail.free.Goals.{then-item-least, else-item-least}

pub loop-item-preserved : goal.loop-item-preserved
loop-item-preserved c =
    let items = c.args.items.now in
    let i : ℕ = c.loop-item.item-index in
    let nothing : Item = record { lit = pos 0; level = 0; kind = Assumed } in
    let inside : i < length items = c.loop-item-test.true in
    let fits : SFits w32 (get_or items i nothing).lit = fits_below (get_or items i nothing).lit (let has = c.requires.places i nothing inside in let small = c.requires.small in omega arith) in
    elim c.if-item-least.branch [
      | then-item-least w ↦
          let place = w.unsigned_abs.ensures.value ∙ nat_abs-bits (get_or items i nothing).lit fits in
          rw (w.given-is, w.empty.ensures) (record {
            long = length-set c.loop-item.given w.unsigned_abs.result None ∙ c.loop-item.invariant.long;
            places = freed c.args.least items c.args.given.now c.loop-item.given w.unsigned_abs.result i nothing inside place (c.requires.places i nothing inside) c.loop-item.invariant.long w.if-item-least.true c.loop-item.invariant.places;
          })
      | else-item-least w ↦
          rw w.given-is (record {
            long = c.loop-item.invariant.long;
            places = kept c.args.least items c.args.given.now c.loop-item.given i nothing inside w.if-item-least.false c.loop-item.invariant.places;
          })
    ]
