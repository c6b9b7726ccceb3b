use Rattle.std.proofs.Common.{◌≡◌, ◌++◌, ◌+◌, ◌≤◌, List, [], length, length-set, get_or, replicate, set, refl, sym, ap, subst, subst₂, ◌∙◌, arith}
use Rattle.std.specs.List.{All}
use Rattle.std.specs.List.Sorted.{IsPermutation}
use Rattle.std.proofs.lemmas.List.{length-replicate}
use Rattle.std.proofs.lemmas.List.Sorted.{All-permutation}
use Rattle.cube_merge.specs.declared.name.CubeName.{CubeName}
use Rattle.cube_merge.specs.Names.{names_from}
use Rattle.cube_merge.specs.Parts.{all_names}
use Rattle.cube_merge.proofs.Gathered.{names_added, none_named}
use Rattle.region_book.specs.Found.{AreEntered}
use Rattle.region_book.specs.Slots.{NumbersRise, free_slots}
use Rattle.region_book.specs.Pages.{held_slots}
use Rattle.region_book.proofs.Rising.{free_rise, free_placed, free_not_held}
use Rattle.region_book.proofs.Named.{names_entered}
use Rattle.region_book.proofs.pages.Pages.with.Goals as goal

pub from_vec-requires : goal.from_vec-requires
from_vec-requires c =
    subst NumbersRise (sym (c.add_free.ensures.slots ∙ ap (λ x. x ++ free_slots 0 0 c.args.prefixes) c.in_ok-slots.ensures.items)) (free_rise 0 0 c.args.prefixes)

pub returns : goal.returns
returns c =
    let slots = c.from_vec.ensures.same ∙ c.add_free.ensures.slots ∙ ap (λ x. x ++ free_slots 0 0 c.args.prefixes) c.in_ok-slots.ensures.items in
    let parts : List (List CubeName) = replicate (c.args.passes + 1) [] in
    let names = names_from 0 0 c.args.cubes in
    let filled = c.in_ok-add.ensures.added ∙ ap (λ x. set x c.args.passes (get_or x c.args.passes [] ++ names)) c.in_ok-published.ensures in
    let inside : length parts ≡ c.args.passes + 1 = length-replicate (c.args.passes + 1) [] in
    let published = subst₂ IsPermutation (ap (λ x. x ++ names) (none_named (c.args.passes + 1))) (ap all_names (sym filled)) (names_added parts c.args.passes names (omega arith)) in
    let none = c.new.ensures.items in
    record {
      journal = none;
      parts = ap length filled ∙ length-set parts c.args.passes (get_or parts c.args.passes [] ++ names) ∙ inside;
      published = published;
      slots = slots;
      spent = refl;
      pages = record {
        slots = c.from_vec.ensures.are;
        placed = subst (All (λ s. s.number.place ≤ length c.new.result.items)) (sym slots) (λ i d inside. (let one = free_placed 0 c.args.prefixes i d inside in omega arith));
        entered = subst (λ m. AreEntered m (all_names c.add.new.self)) (sym (ap length none))
            (All-permutation (λ a. a.place ≤ 0) names (all_names c.add.new.self) published (names_entered 0 0 0 c.args.cubes (omega arith)));
        room = (let empty = ap length none in let held = ap held_slots slots ∙ free_not_held 0 0 c.args.prefixes in omega arith);
      };
    }
