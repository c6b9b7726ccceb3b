use Rattle.std.proofs.Common.{rules, length, sym, ap, subst, ◌∙◌}
use Rattle.std.proofs.lemmas.Fn.{always_returns_same}
use Rattle.std.specs.Bool.{then_some}
use Rattle.std.proofs.lemmas.Bool.{ltb-true}
use Rattle.prefix_jobs.specs.Numbers.{is_before}
use Rattle.region_book.specs.Slots.{has_slot_number, Finds}
use Rattle.region_book.proofs.Rising.{halves, told_at, told_past}
use Rattle.region_book.proofs.slots.place_of.Goals as goal

pub returns : goal.returns
returns c =
    let slots = c.args.slots.now in
    let n = c.args.number in
    let at = c.partition_point-at.result in
    let point = c.partition_point-at.ensures.partitioned (λ s. is_before s.number n) (always_returns_same _ _ _ (λ a r f h. (search rules, search rules))) (halves slots n c.requires) in
    subst (Finds (has_slot_number n) slots) (ap (λ b. then_some b at) (sym c.has_number.ensures) ∙ sym c.then_some.ensures)
    (told_at slots n at c.in_ok-slot.slot.now c.requires point (ltb-true at (length slots) (sym c.in_ok-slot.ensures.lookup.0)) c.in_ok-slot.ensures.lookup.1)

pub returns-in_err-slot : goal.returns-in_err-slot
returns-in_err-slot c =
    let slots = c.args.slots.now in
    let n = c.args.number in
    let at = c.partition_point-at.result in
    let point = c.partition_point-at.ensures.partitioned (λ s. is_before s.number n) (always_returns_same _ _ _ (λ a r f h. (search rules, search rules))) (halves slots n c.requires) in
    subst (Finds (has_slot_number n) slots) (sym c.from_residual.ensures) (told_past slots n at c.requires point c.in_err-slot.ensures.lookup.3)
