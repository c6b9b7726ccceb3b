use Rattle.std.proofs.Common.{◌∷◌, [], ◌++◌, take, get_or, length, ap, sym, ◌∙◌, arith}
use Rattle.std.proofs.lemmas.List.{append_assoc, length-append, length-take-le, take_all, take_more}
use Rattle.cube_merge.specs.declared.name.CubeName.{CubeName}
use Rattle.cube_merge.proofs.places.add_copies.Goals as goal

pub push_reserved-requires : goal.push_reserved-requires
push_reserved-requires c =
    let names = c.args.names.now in
    let long = ap length c.loop-at.invariant.same ∙ length-append c.args.all.now.items (take c.loop-at.at names) in
    let inside = c.loop-at-test.true in
    let here = length-take-le c.loop-at.at names (omega arith) in
    let all = c.loop-at.all.ok.0 in
    let room = c.requires in
    let same = c.loop-at.invariant.capacity in
    omega arith

pub loop-at-preserved : goal.loop-at-preserved
loop-at-preserved c =
    let names = c.args.names.now in
    let old = c.args.all.now.items in
    let at = c.loop-at.at in
    let none : CubeName = record { place = 0; index = 0 } in
    let one = get_or names at none in
    record {
      same = c.push_reserved.ensures.items
          ∙ ap (λ x. x ++ one ∷ []) c.loop-at.invariant.same
          ∙ append_assoc old (take at names) (one ∷ [])
          ∙ ap (λ x. old ++ x) (sym (take_more names at none c.loop-at-test.true));
      capacity = c.push_reserved.ensures.capacity ∙ c.loop-at.invariant.capacity;
    }

pub returns-clause-added : goal.returns-clause-added
returns-clause-added c =
    let over = c.loop-at-test.false in
    c.loop-at.invariant.same ∙ ap (λ x. c.args.all.now.items ++ x) (take_all c.loop-at.at c.args.names.now (omega arith))
