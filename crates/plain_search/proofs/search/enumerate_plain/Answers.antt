use Rattle.std.proofs.Common.{[], refl, map, is_lt, subst, rules}
use Rattle.std.specs.Cmp.{IsStrictWeakOrder}
use Rattle.std.specs.Cmp.Lexicographic.{nat_list_cmp_total}
use Rattle.std.proofs.lemmas.List.Sorted.{answers_always, ranks_by}
use Rattle.sat_terms.specs.CubeOrder.{key, cube_order}
use Rattle.search_region.proofs.Right.{closed_is_right}
use Rattle.plain_search.specs.Searching.{Advances}
use Rattle.plain_search.proofs.search.enumerate_plain.Goals as goal

order_ranks : IsStrictWeakOrder (λ c d. is_lt (cube_order c d))
order_ranks = ranks_by nat_list_cmp_total (map key)

pub returns : goal.returns
returns c =
    let s = c.args.subject.now in
    let done = subst (Advances s c.loop-search.search c.step.new.self) c.if-branch.false c.in_ok-step.ensures in
    let sorted = c.sort_unstable_by.ensures.sorted _ order_ranks (answers_always _ _ _ (λ f a r g h. search rules)) in
    closed_is_right s.formula.clauses s.shown [] c.step.new.self.found.items c.sort_unstable_by.new.self.items
    c.requires.shown.rising record { rising = refl; over = refl } done.closed done.cubes c.sort_unstable_by.ensures.permutation sorted
