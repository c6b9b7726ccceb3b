use Rattle.std.proofs.Common.{◌≡◌, ℕ, suc, ◌+◌, ◌≤◌, [], ◌++◌, filter, length, length-set, get_or, set, is_some, List, ℤ, Option, Some, None, refl, sym, ap, ap₂, subst, subst₂, ◌∙◌, arith}
use Rattle.std.specs.List.{All}
use Rattle.std.specs.List.Sorted.{IsPermutation}
use Rattle.std.specs.Bool.{then_some}
use Rattle.prefix_jobs.specs.declared.number.Number.{Number}
use Rattle.prefix_jobs.specs.declared.outcome.Outcome.{Outcome}
use Rattle.region_book.specs.declared.answers.Reported.{Reported}
use Rattle.region_book.specs.declared.pages.Pages.{Pages}
use Rattle.region_book.specs.declared.slot.Standing.TheVariants.{Gone}
use Rattle.cube_merge.specs.Names.{names_from}
use Rattle.cube_merge.specs.Parts.{all_names}
use Rattle.cube_merge.proofs.Gathered.{names_added}
use Rattle.region_book.specs.Pages.{kept_number, report_answer}
use Rattle.region_book.specs.Slots.{is_live, slots_of}
use Rattle.region_book.proofs.Paged.{enters_report, any_slot, placed_set}
use Rattle.region_book.proofs.pages.Pages.report.Goals as goal

abbrev pub number_of : ℕ → ℕ → Number
number_of j i = record { place = j; index = i }

abbrev pub answer_of : ℕ → ℕ → Option Number → Reported
answer_of j spent kept = record { place = j; kept = kept; spent = spent }

kept_told : (j : ℕ) (o : Outcome) (kept : Option (List ℤ)) → then_some (is_some kept) (number_of j (length o.rest)) ≡ kept_number j o kept
kept_told j o None = refl
kept_told j o (Some c) = refl

-- what is left has no later places
left_placed : (c : goal.After-outcome-1) → All (λ s. s.number.place ≤ length c.args.self.now.journal.items) c.squeeze_if_sparse.new.self.slots.items
left_placed c =
    let old = c.args.self.now in
    let slots = old.slots.slots.items in
    let m = length old.journal.items in
    c.squeeze_if_sparse.ensures.placed m
    (subst (All (λ s. s.number.place ≤ m)) (sym (c.set_standing.ensures.slots any_slot)) (placed_set m slots c.in-Some.at any_slot Gone c.in-Some.ensures.inside c.requires.pages.placed))

pub append-requires-clause-older : goal.append-requires-clause-older
append-requires-clause-older c k d inside =
    let one = left_placed c k d inside in
    let len = c.len-place.ensures in
    let long = c.args.self.now.journal.ok.0 in
    omega arith

pub returns-clause-reports : goal.returns-clause-reports
returns-clause-reports c =
    let old = c.args.self.now in
    let o = c.args.outcome in
    let new : Pages = record { journal = c.push_reserved.new.self; published = c.add.new.self; slots = c.append.new.self; spent = c.more_spent-self.result } in
    let slots = old.slots.slots.items in
    let at = c.in-Some.at in
    let left = c.squeeze_if_sparse.new.self.slots.items in
    let m = length old.journal.items in
    let place : c.len-place.result + 1 ≡ suc m = (let one = c.len-place.ensures in let two = old.journal.ok.0 in omega arith) in
    let room = c.requires.room in
    let more = names_from (c.len-place.result + 1) 0 (length c.as_slice-cubes.result.now) in
    let added : c.add.new.self ≡ set old.published c.args.pass (get_or old.published c.args.pass [] ++ more) = c.in_default-add.ensures.added in
    record {
      enters = enters_report old new c.args.pass c.args.number at any_slot c.requires.pages c.append.ensures.are o left c.in-Some.ensures
          c.push_reserved.ensures.items
          (ap length added ∙ length-set old.published c.args.pass (get_or old.published c.args.pass [] ++ more))
          (subst₂ (λ xs ys. IsPermutation (all_names old.published ++ xs) ys) (ap₂ (λ j n. names_from j 0 n) place (ap length c.as_slice-cubes.ensures)) (ap all_names (sym added)) (names_added old.published c.args.pass more c.requires.part))
          (c.squeeze_if_sparse.ensures.live ∙ ap (filter is_live) (c.set_standing.ensures.slots any_slot))
          (c.squeeze_if_sparse.ensures.placed m
          (subst (All (λ s. s.number.place ≤ m)) (sym (c.set_standing.ensures.slots any_slot)) (placed_set m slots at any_slot Gone c.in-Some.ensures.inside c.requires.pages.placed)))
          (c.append.ensures.slots ∙ ap (λ j. left ++ slots_of j c.args.pass o) place)
          c.more_spent-self.ensures
          (let event = room.room in let same = c.push_reserved.ensures.capacity in omega arith);
      answers =
          (let kept : c.then_some.result ≡ kept_number (c.len-place.result + 1) o o.kept =
          c.then_some.ensures
          ∙ ap (λ b. then_some b (number_of (c.len-place.result + 1) (length c.as_slice.result.now))) c.is_some-keeps.ensures
          ∙ ap (λ i. then_some (is_some o.kept) (number_of (c.len-place.result + 1) i)) (ap length c.as_slice.ensures)
          ∙ kept_told (c.len-place.result + 1) o o.kept in
          ap (answer_of (c.len-place.result + 1) c.more_spent-self.result) kept ∙ ap (λ j. report_answer j o c.more_spent-self.result) place);
    }
