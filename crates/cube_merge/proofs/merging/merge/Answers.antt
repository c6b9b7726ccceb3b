use Rattle.std.proofs.Common.{length, Some, sym, ap, subst, subst₂, ◌∙◌, arith}
use Rattle.std.proofs.lemmas.List.{length_push}
use Rattle.cube_merge.specs.Parts.{part_lists, all_names, IsGreatestLast}
use Rattle.cube_merge.proofs.Gathered.{one_less}
use Rattle.cube_merge.proofs.Merged.{Merges, merges_more, merges_end}
use Rattle.cube_merge.proofs.merging.merge.Goals as goal

pub push_reserved-requires : goal.push_reserved-requires
push_reserved-requires g c =
    let leads = subst (λ xs. IsGreatestLast (g.S.Shelf.cube_of c.args.shelf.now) xs (Some c.in-Some.at)) (ap part_lists c.deref.ensures.value) c.in-Some.ensures in
    let less = one_less (part_lists c.loop-at.parts.items) c.in-Some.at c.take_last.ensures.0 c.take_last.result leads.1.inside c.take_last.ensures.1 in
    let room = c.loop-at.invariant.room in
    let long = c.loop-at.merged.ok.0 in
    omega arith

pub loop-at-smaller : goal.loop-at-smaller
loop-at-smaller g c =
    let leads = subst (λ xs. IsGreatestLast (g.S.Shelf.cube_of c.args.shelf.now) xs (Some c.in-Some.at)) (ap part_lists c.deref.ensures.value) c.in-Some.ensures in
    let less = one_less (part_lists c.loop-at.parts.items) c.in-Some.at c.take_last.ensures.0 c.take_last.result leads.1.inside c.take_last.ensures.1 in
    let now = ap (λ x. length (all_names x)) c.take_last.ensures.2 in
    omega arith

pub loop-at-preserved : goal.loop-at-preserved
loop-at-preserved g c =
    let cube_of = g.S.Shelf.cube_of c.args.shelf.now in
    let parts = part_lists c.loop-at.parts.items in
    let at = c.in-Some.at in
    let name = c.take_last.result in
    let front = c.take_last.ensures.0 in
    let leads = subst (λ xs. IsGreatestLast cube_of xs (Some at)) (ap part_lists c.deref.ensures.value) c.in-Some.ensures in
    let less = one_less parts at front name leads.1.inside c.take_last.ensures.1 in
    record {
      merges = subst₂ (Merges cube_of (part_lists c.args.parts.now.items)) (sym c.take_last.ensures.2) (sym c.push_reserved.ensures.items)
          (merges_more cube_of (part_lists c.args.parts.now.items) parts c.loop-at.merged.items front at name leads.0 c.loop-at.invariant.merges leads.1 c.take_last.ensures.1);
      room = (let room = c.loop-at.invariant.room in
          let now = ap (λ x. length (all_names x)) c.take_last.ensures.2 in
          let one = ap length c.push_reserved.ensures.items ∙ length_push c.loop-at.merged.items name in
          let same = c.push_reserved.ensures.capacity in
          omega arith);
    }

pub returns-clause-same : goal.returns-clause-same
returns-clause-same g c =
    let cube_of = g.S.Shelf.cube_of c.args.shelf.now in
    merges_end cube_of (part_lists c.args.parts.now.items) (part_lists c.loop-at.parts.items) c.loop-at.merged.items c.loop-at.invariant.merges
    (subst₂ (IsGreatestLast cube_of) (ap part_lists c.deref.ensures.value) c.in_default.is c.greatest_last.ensures)
