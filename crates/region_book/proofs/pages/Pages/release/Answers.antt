use Rattle.std.proofs.Common.{refl, arith}
use Rattle.region_book.specs.declared.pages.Pages.{Pages}
use Rattle.region_book.proofs.Paged.{enters_release, some_room, any_slot}
use Rattle.region_book.proofs.pages.Pages.release.Goals as goal

pub push_reserved-requires : goal.push_reserved-requires
push_reserved-requires c =
    let less = some_room c.args.self.now c.args.pass c.args.number c.in-Some.at c.in-Some.ensures in
    let room = c.requires.pages.room in
    let long = c.args.self.now.journal.ok.0 in
    omega arith

pub returns : goal.returns
returns c =
    let old = c.args.self.now in
    let new : Pages = record { journal = c.push_reserved.new.self; published = old.published; slots = c.set_standing.new.self; spent = old.spent } in
    enters_release old new c.args.pass c.args.number c.in-Some.at any_slot c.requires.pages c.set_standing.ensures.are
    c.in-Some.ensures c.push_reserved.ensures.items refl (c.set_standing.ensures.slots any_slot) refl
    (let same = c.push_reserved.ensures.capacity in omega arith)
