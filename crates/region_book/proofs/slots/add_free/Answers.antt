use Rattle.std.proofs.Common.{◌++◌, ◌∷◌, [], length, sym, ap, ◌∙◌, add-one, arith}
use Rattle.std.proofs.lemmas.List.{append_assoc, length-append}
use Rattle.region_book.specs.declared.slot.Slot.{Slot}
use Rattle.region_book.specs.declared.slot.Standing.TheVariants.{Free}
use Rattle.region_book.specs.Slots.{free_slots}
use Rattle.region_book.proofs.Rising.{free_more, length-free}
use Rattle.region_book.proofs.slots.add_free.Goals as goal

pub push_reserved-requires : goal.push_reserved-requires
push_reserved-requires c =
    let same = ap length c.loop-index.invariant.same ∙ length-append c.args.slots.now.items (free_slots c.args.place 0 c.loop-index.index) in
    let long = length-free c.args.place 0 c.loop-index.index in
    let here = c.loop-index.slots.ok.0 in
    let room = c.loop-index.invariant.room in
    let given = c.requires.room in
    let inside = c.loop-index-test.true in
    omega arith

pub loop-index-preserved : goal.loop-index-preserved
loop-index-preserved c =
    let old = c.args.slots.now.items in
    let j = c.args.place in
    let i = c.loop-index.index in
    let one : Slot = record { number = record { place = j; index = i }; standing = Free } in
    record {
      same = c.push_reserved.ensures.items
          ∙ ap (λ x. x ++ one ∷ []) c.loop-index.invariant.same
          ∙ append_assoc old (free_slots j 0 i) (one ∷ [])
          ∙ ap (λ x. old ++ x) (sym (free_more j 0 i i (omega arith)) ∙ ap (free_slots j 0) (sym (add-one i)));
      room = c.push_reserved.ensures.capacity ∙ c.loop-index.invariant.room;
    }
