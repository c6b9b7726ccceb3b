use Rattle.std.proofs.Common.{◌≡◌, ◌+◌, take, set, length-set, sym, ap, refl, subst, ◌∙◌, arith}
use Rattle.std.specs.List.Sorted.{IsPermutation, IsSorted}
use Rattle.std.proofs.lemmas.List.{length-map, take_all, take_more_set}
use Rattle.std.proofs.lemmas.List.Elements.{All-push}
use Rattle.std.proofs.lemmas.List.Sorted.{IsPermutation-trans}
use Rattle.cube_merge.specs.Names.{name_order}
use Rattle.cube_merge.specs.Parts.{part_lists, all_names, AreInOrder}
use Rattle.cube_merge.proofs.Gathered.{same_gathered, lists_set, list_at}
use Rattle.cube_merge.proofs.merging.put_parts_in_order.Goals as goal

pub loop-at-preserved : goal.loop-at-preserved
loop-at-preserved g c =
    let cube_of = g.S.Shelf.cube_of c.args.shelf.now in
    let parts = c.loop-at.parts.items in
    let at = c.loop-at.at in
    let part = c.put_in_order.new.names in
    let inside = c.loop-at-test.true in
    let long = c.loop-at.invariant.long in
    let all = length-map parts (λ x. x.items) in
    let now : part_lists (set parts at part) ≡ set (part_lists parts) at part.items = lists_set parts at part part.items refl in
    let old = list_at parts at c.index_mut.result.now (omega arith) ∙ ap (λ x. x.items) (sym c.index_mut.ensures.value) in
    record {
      long = length-set parts at part ∙ long;
      same = subst (λ x. IsPermutation (all_names (part_lists c.args.parts.now.items)) (all_names x)) (sym now)
          (IsPermutation-trans (all_names (part_lists c.args.parts.now.items)) (all_names (part_lists parts)) (all_names (set (part_lists parts) at part.items)) c.loop-at.invariant.same
          (same_gathered (part_lists parts) at part.items (omega arith) (subst (λ x. IsPermutation x part.items) (sym old) c.put_in_order.ensures.same)));
      sorted = subst (AreInOrder cube_of) (sym (ap (take (at + 1)) now ∙ take_more_set (part_lists parts) at part.items (omega arith)))
          (All-push (IsSorted (name_order cube_of)) (take at (part_lists parts)) part.items c.loop-at.invariant.sorted c.put_in_order.ensures.sorted);
    }

pub returns-clause-sorted : goal.returns-clause-sorted
returns-clause-sorted g c =
    let cube_of = g.S.Shelf.cube_of c.args.shelf.now in
    let parts = c.loop-at.parts.items in
    let all = length-map parts (λ x. x.items) in
    let long = c.loop-at.invariant.long in
    let over = c.loop-at-test.false in
    subst (AreInOrder cube_of) (take_all c.loop-at.at (part_lists parts) (omega arith)) c.loop-at.invariant.sorted
