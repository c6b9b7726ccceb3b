use Rattle.std.proofs.Common.{subst, ◌∙◌}
use Rattle.std.specs.List.Sorted.{IsPermutation, IsSorted}
use Rattle.cube_merge.specs.Names.{name_order}
use Rattle.region_book.specs.Found.{cube_at}
use Rattle.region_book.specs.Prefixes.{prefix_at}
use Rattle.region_book.proofs.Booked.{arranges}
use Rattle.region_book.proofs.book.Book.arrange.Goals as goal

pub invariant_of-result : goal.invariant_of-result
invariant_of-result c =
    let b = c.self.inside in
    let journal = b.pages.journal.items in
    arranges b.subject b.saved b.passes b.pages c.arrange-published.result.items c.put_in_order.new.names.items c.self.invariant
    c.arrange-published.ensures.same
    (subst (λ xs. IsSorted (name_order (cube_at b.saved xs)) c.arrange-published.result.items) c.deref.ensures.value c.arrange-published.ensures.sorted)
    (subst (λ xs. IsPermutation xs c.put_in_order.new.names.items) (c.into_vec-pending.ensures ∙ c.squeeze.ensures.live) c.put_in_order.ensures.same)
    (subst (λ xs. IsSorted (name_order (λ s. prefix_at b.subject b.saved xs s.number)) c.put_in_order.new.names.items) c.deref.ensures.value c.put_in_order.ensures.sorted)

pub returns-clause-arranged : goal.returns-clause-arranged
returns-clause-arranged c = (invariant_of-result c).arranged
