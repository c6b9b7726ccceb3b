use Rattle.std.proofs.Common.{◌≡◌, [], ◌++◌, length, get_or, set, sym, ap, ◌∙◌, arith}
use Rattle.std.proofs.lemmas.List.{length-map}
use Rattle.cube_merge.specs.Names.{names_from}
use Rattle.cube_merge.specs.Parts.{all_names, part_lists}
use Rattle.cube_merge.proofs.Gathered.{lists_set, list_read, lists_kept, gathered_set, inside_lists}
use Rattle.cube_merge.proofs.Named.{length-names}
use Rattle.cube_merge.proofs.runs.Runs.add.Goals as goal

pub invariant_of-self-in-Err : goal.invariant_of-self-in-Err
invariant_of-self-in-Err c =
    let parts = c.self.inside.parts.items in
    let same = lists_kept parts c.args.part c.index_mut-names.result.now c.reserve-2.new.self (inside_lists parts c.args.self.now c.args.part c.self.view_is c.requires) c.index_mut-names.ensures.value c.reserve-2.ensures.items in
    record {
      empty = c.reserve.ensures.items ∙ c.self.invariant.empty;
      counted = ap (λ x. length (all_names x)) same ∙ c.self.invariant.counted;
      all = (let was = c.self.invariant.all in let more = c.reserve.ensures.capacity in omega arith);
    }

pub returns-in-Err-clause-unchanged : goal.returns-in-Err-clause-unchanged
returns-in-Err-clause-unchanged c =
    let parts = c.self.inside.parts.items in
    lists_kept parts c.args.part c.index_mut-names.result.now c.reserve-2.new.self (inside_lists parts c.args.self.now c.args.part c.self.view_is c.requires) c.index_mut-names.ensures.value c.reserve-2.ensures.items ∙ c.self.view_is

pub invariant_of-self-2 : goal.invariant_of-self-2
invariant_of-self-2 c =
    let parts = c.self.inside.parts.items in
    let part = c.args.part in
    let inside = inside_lists parts c.args.self.now part c.self.view_is c.requires in
    let more = names_from c.args.place 0 c.args.count in
    let now : part_lists (set parts part c.add_names.new.names) ≡ set (part_lists parts) part (get_or (part_lists parts) part [] ++ more) = lists_set parts part c.add_names.new.names (get_or (part_lists parts) part [] ++ more) (c.add_names.ensures ∙ ap (λ x. x ++ more) (c.reserve-2.ensures.items ∙ sym (list_read parts part c.index_mut-names.result.now inside c.index_mut-names.ensures.value))) in
    record {
      empty = c.reserve.ensures.items ∙ c.self.invariant.empty;
      counted =
          (let long = length-map parts (λ x. x.items) in
          let all = ap (λ x. length (all_names x)) now ∙ gathered_set (part_lists parts) part more (omega arith) in
          let new = length-names c.args.place 0 c.args.count in
          let old = c.self.invariant.counted in
          omega arith);
      all =
          (let room = c.in_ok-reserve.ensures.ok in
          let sum = c.saturating_add.ensures in
          let small = c.reserve.new.self.ok in
          omega arith);
    }

pub returns-clause-added : goal.returns-clause-added
returns-clause-added c =
    let parts = c.self.inside.parts.items in
    let part = c.args.part in
    let inside = inside_lists parts c.args.self.now part c.self.view_is c.requires in
    let more = names_from c.args.place 0 c.args.count in
    lists_set parts part c.add_names.new.names (get_or (part_lists parts) part [] ++ more) (c.add_names.ensures ∙ ap (λ x. x ++ more) (c.reserve-2.ensures.items ∙ sym (list_read parts part c.index_mut-names.result.now inside c.index_mut-names.ensures.value)))
    ∙ ap (λ x. set x part (get_or x part [] ++ more)) c.self.view_is
