use Rattle.std.proofs.Common.{◌∷◌, [], ◌++◌, length, get_or, set, Some, refl, sym, ap, ◌∙◌, arith}
use Rattle.region_book.specs.declared.event.Event.TheVariants.{Take}
use Rattle.region_book.specs.declared.pages.Pages.{Pages}
use Rattle.region_book.specs.declared.slot.Standing.TheVariants.{Held}
use Rattle.region_book.specs.Machine.{is_free}
use Rattle.region_book.specs.Pages.{prefix_of}
use Rattle.region_book.specs.Prefixes.{prefix_at}
use Rattle.region_book.specs.Slots.{is_free_slot}
use Rattle.region_book.proofs.Live.{mirrors_free, find_live, none_live}
use Rattle.region_book.proofs.Paged.{enters_take, any_slot}
use Rattle.region_book.proofs.Rising.{number_found}
use Rattle.region_book.proofs.pages.Pages.take.Goals as goal

pub returns-in_default-clause-takes : goal.returns-in_default-clause-takes
returns-in_default-clause-takes c =
    let prefixes = prefix_at c.args.subject.now c.args.saved.now c.args.self.now.journal.items in
    let n = c.args.number in
    (refl, none_live prefixes (is_free_slot n) (is_free n) (mirrors_free prefixes n) c.args.self.now.slots.slots.items c.in_default.ensures)

pub returns-clause-takes : goal.returns-clause-takes
returns-clause-takes c =
    let old = c.args.self.now in
    let roomy = c.make_room.new.self in
    let new : Pages = record { journal = c.push_reserved.new.self; published = roomy.published; slots = c.set_standing.new.self; spent = roomy.spent } in
    let n = c.args.number in
    let at = c.in-Some.at in
    let others = c.make_room.ensures.others in
    let same_journal = c.make_room.ensures.same.journal in
    let same_slots = ap (λ (x : Pages). x.slots) others in
    let prefixes = prefix_at c.args.subject.now c.args.saved.now old.journal.items in
    let slots = old.slots.slots.items in
    let found = find_live prefixes (is_free_slot n) (is_free n) (mirrors_free prefixes n) slots at any_slot c.in-Some.ensures in (
      enters_take old new c.args.pass n at any_slot c.requires c.set_standing.ensures.are c.in-Some.ensures
          (c.push_reserved.ensures.items ∙ ap (λ x. x ++ Take c.args.pass n ∷ []) same_journal)
          (ap (λ (x : Pages). x.published) others)
          (c.set_standing.ensures.slots any_slot ∙ ap (λ x. set x at (record (get_or x at any_slot) { standing = Held c.args.pass })) (ap (λ x. x.slots.items) same_slots))
          (ap (λ (x : Pages). x.spent) others)
          (let room = c.in_ok-make_room.ensures.room in
          let one = ap length same_journal in
          let two = ap (λ x. length x.slots.items) same_slots in
          let three = c.push_reserved.ensures.capacity in
          omega arith),
      ap prefix_of found ∙ ap (λ x. Some x) (ap prefixes (number_found n slots at any_slot c.in-Some.ensures) ∙ ap (λ x. prefix_at c.args.subject.now c.args.saved.now x n) (sym c.deref.ensures.value) ∙ sym c.in_ok-prefix.ensures),
    )
