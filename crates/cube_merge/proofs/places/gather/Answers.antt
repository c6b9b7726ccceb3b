use Rattle.std.proofs.Common.{◌++◌, take, length, ap, sym, ◌∙◌, arith}
use Rattle.std.proofs.lemmas.List.{append_assoc, length-append, length-map, take_all}
use Rattle.cube_merge.specs.Parts.{part_lists, all_names}
use Rattle.cube_merge.proofs.Gathered.{gathered_more, part_fits, list_at}
use Rattle.cube_merge.proofs.places.gather.Goals as goal

pub add_copies-requires : goal.add_copies-requires
add_copies-requires c =
    let parts = part_lists c.args.parts.now in
    let at = c.loop-at.at in
    let inside = c.loop-at-test.true in
    let count = length-map c.args.parts.now (λ x. x.items) in
    let long = ap length c.loop-at.invariant.same ∙ length-append c.args.all.now.items (all_names (take at parts)) in
    let fits = part_fits parts at (omega arith) in
    let part = ap length (list_at c.args.parts.now at c.index-parts-at.result inside ∙ ap (λ x. x.items) (sym c.index-parts-at.is)) in
    let room = c.requires in
    let same = c.loop-at.invariant.capacity in
    omega arith

pub loop-at-preserved : goal.loop-at-preserved
loop-at-preserved c =
    let parts = part_lists c.args.parts.now in
    let old = c.args.all.now.items in
    let at = c.loop-at.at in
    let inside = c.loop-at-test.true in
    let count = length-map c.args.parts.now (λ x. x.items) in
    let part = list_at c.args.parts.now at c.index-parts-at.result inside ∙ ap (λ x. x.items) (sym c.index-parts-at.is) in
    record {
      same = c.add_copies.ensures.added
          ∙ ap (λ x. c.loop-at.all.items ++ x) c.deref.ensures.value
          ∙ ap (λ x. x ++ c.index-parts-at.result.items) c.loop-at.invariant.same
          ∙ append_assoc old (all_names (take at parts)) c.index-parts-at.result.items
          ∙ ap (λ x. old ++ x) (ap (λ x. all_names (take at parts) ++ x) (sym part) ∙ sym (gathered_more parts at (omega arith)));
      capacity = c.add_copies.ensures.capacity ∙ c.loop-at.invariant.capacity;
    }

pub returns-clause-gathered : goal.returns-clause-gathered
returns-clause-gathered c =
    let parts = part_lists c.args.parts.now in
    let over = c.loop-at-test.false in
    let count = length-map c.args.parts.now (λ x. x.items) in
    c.loop-at.invariant.same ∙ ap (λ x. c.args.all.now.items ++ all_names x) (take_all c.loop-at.at parts (omega arith))
