use Rattle.std.proofs.Common.{length, ap, ◌∙◌, arith}
use Rattle.std.proofs.lemmas.List.{length-append}
use Rattle.region_book.specs.Slots.{free_slots}
use Rattle.region_book.proofs.Rising.{length-free}
use Rattle.region_book.proofs.slots.add_slots.Goals as goal

pub push_reserved-requires : goal.push_reserved-requires
push_reserved-requires c =
    let rest = length c.as_slice-rest.result.now in
    let same = ap length c.add_free.ensures.slots ∙ length-append c.args.slots.now.items (free_slots c.args.place 0 rest) in
    let new = length-free c.args.place 0 rest in
    let here = c.add_free.new.slots.ok.0 in
    let room = c.requires.room in
    let kept = c.add_free.ensures.room in
    let told = ap length c.as_slice-rest.ensures in
    omega arith
