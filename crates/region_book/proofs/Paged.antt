-- What each call writes on the pages is what its event does.
use Rattle.std.proofs.Common.{◌≡◌, ◌≢◌, ℕ, suc, ◌+◌, ◌<◌, ◌≤◌, ◌^◌, min, List, [], ◌∷◌, ◌++◌, filter, map, length, length-set, get_or, set, ℤ, Option, Some, None, vec_capacity, refl, sym, ap, ap₂, subst, subst₂, ◌∙◌, arith}
use Rattle.std.specs.List.{All, find}
use Rattle.std.proofs.lemmas.List.{length_push, append-nil}
use Rattle.std.specs.List.Sorted.{IsPermutation}
use Rattle.std.proofs.lemmas.List.Elements.{All-weaker, All-append, All-set}
use Rattle.std.proofs.lemmas.List.Sorted.{IsPermutation-refl, All-permutation}
use Rattle.prefix_jobs.specs.declared.number.Number.{Number}
use Rattle.prefix_jobs.specs.declared.outcome.Outcome.{Outcome}
use Rattle.region_book.specs.declared.event.Event.TheVariants.{Take, Report, Release}
use Rattle.region_book.specs.declared.pages.Pages.{Pages}
use Rattle.region_book.specs.declared.slot.Slot.{Slot}
use Rattle.region_book.specs.declared.slot.Standing.{Standing}
use Rattle.region_book.specs.declared.slot.Standing.TheVariants.{Free, Held, Gone}
use Rattle.region_book.specs.Machine.{BookState, Pending, is_free, is_held_by, edit_first, taken_by, let_go, taken_out, parts_of, step}
use Rattle.cube_merge.specs.Names.{names_from}
use Rattle.cube_merge.specs.Parts.{all_names}
use Rattle.region_book.specs.Found.{AreEntered}
use Rattle.region_book.specs.Prefixes.{NamesLeft, left_by}
use Rattle.region_book.specs.Slots.{AreSlots, is_free_slot, is_held_slot, is_live, live_of, pending_of, slots_of, StandsAt}
use Rattle.region_book.specs.Pages.{state_with, held_count, held_slots, HasReleaseRoom, ArePages, Enters}
use Rattle.region_book.proofs.Holders.{held_few, held_released, held_reported}
use Rattle.region_book.proofs.Left.{number_at, left_parts}
use Rattle.region_book.proofs.Live.{find_live, edit_live, live-append, mirrors_free, mirrors_held, held_live, live_few}
use Rattle.region_book.proofs.Named.{entered_more}
use Rattle.region_book.proofs.Rising.{slots_placed}

abbrev pub book_state : List (List ℤ) → List Pending → ℕ → BookState
book_state published pending spent = record { published = published; pending = pending; spent = spent }

same_state : (a b : List (List ℤ)) (ps rs : List Pending) (m n : ℕ) → a ≡ b → ps ≡ rs → m ≡ n → book_state a ps m ≡ book_state b rs n
same_state a b ps rs m n same_published same_pending same_spent =
    ap (λ x. book_state x ps m) same_published ∙ ap₂ (λ y z. book_state b y z) same_pending same_spent

-- the numbers do not matter to how many are held
abbrev nothing : Number → List ℤ
nothing n = []

abbrev pub standing_at : List Slot → ℕ → Slot → Standing → Slot
standing_at slots at d standing = record (get_or slots at d) { standing = standing }

pub placed_set : (m : ℕ) (slots : List Slot) (at : ℕ) (d : Slot) (standing : Standing) → at < length slots → All (λ s. s.number.place ≤ m) slots → All (λ s. s.number.place ≤ m) (set slots at (standing_at slots at d standing))
placed_set m slots at d standing inside placed = All-set (λ s. s.number.place ≤ m) slots at (standing_at slots at d standing) (placed at d inside) placed

later_placed : (m : ℕ) (slots : List Slot) → All (λ s. s.number.place ≤ m) slots → All (λ s. s.number.place ≤ suc m) slots
later_placed m slots placed = All-weaker (λ s. s.number.place ≤ m) (λ s. s.number.place ≤ suc m) (λ s low. omega arith) slots placed

module _ (old new : Pages) (k : ℕ) (n : Number) (at : ℕ) (d : Slot) (pages : ArePages old) (are : AreSlots new.slots) where
  abbrev slots : List Slot
  slots = old.slots.slots.items

  -- what one event more leaves of what pages keep
  keeps : (long : length new.journal.items ≡ suc (length old.journal.items)) → All (λ s. s.number.place ≤ suc (length old.journal.items)) new.slots.slots.items →
      AreEntered (suc (length old.journal.items)) (all_names new.published) → HasReleaseRoom new → ArePages new
  keeps long placed entered room = record {
    slots = are;
    placed = subst (λ m. All (λ s. s.number.place ≤ m) new.slots.slots.items) (sym long) placed;
    entered = subst (λ m. AreEntered m (all_names new.published)) (sym long) entered;
    room = room;
  }

  -- an event that brings no cube leaves the names as they are
  abbrev Adds : ℕ → Type 0
  Adds count = IsPermutation (all_names old.published ++ names_from (suc (length old.journal.items)) 0 count) (all_names new.published)

  adds_none : new.published ≡ old.published → Adds 0
  adds_none same =
      subst₂ IsPermutation (sym (append-nil (all_names old.published))) (ap all_names (sym same)) (IsPermutation-refl (all_names old.published))

  adds_entered : (count : ℕ) → Adds count → AreEntered (suc (length old.journal.items)) (all_names new.published)
  adds_entered count adds =
      All-permutation (λ a. a.place ≤ suc (length old.journal.items)) (all_names old.published ++ names_from (suc (length old.journal.items)) 0 count) (all_names new.published) adds
      (entered_more (length old.journal.items) count (all_names old.published) pages.entered)

  pub enters_take :
      StandsAt (is_free_slot n) slots at →
      new.journal.items ≡ old.journal.items ++ Take k n ∷ [] →
      new.published ≡ old.published →
      new.slots.slots.items ≡ set slots at (standing_at slots at d (Held k)) →
      new.spent ≡ old.spent →
      length old.journal.items + (length slots + 1) ≤ vec_capacity new.journal →
      Enters (Take k n) old new
  enters_take stands journal published same spent room =
      let long = ap length journal ∙ length_push old.journal.items (Take k n) in
      let one : length new.journal.items ≡ suc (length old.journal.items) = omega arith in
      record {
        journal = journal;
        parts = ap length published;
        published = adds_none published;
        state = λ prefixes cubes names. same_state (cubes ++ []) cubes (live_of prefixes new.slots.slots.items) (edit_first (is_free n) (taken_by k) (live_of prefixes slots)) new.spent old.spent
            (append-nil cubes) (edit prefixes) spent;
        pages = keeps one
            (subst (All (λ s. s.number.place ≤ suc (length old.journal.items))) (sym same) (later_placed (length old.journal.items) (set slots at (standing_at slots at d (Held k))) (placed_set (length old.journal.items) slots at d (Held k) stands.inside pages.placed)))
            (adds_entered 0 (adds_none published))
            (let few = held_few (live_of nothing new.slots.slots.items) in
            let held = held_live nothing new.slots.slots.items in
            let live = live_few nothing new.slots.slots.items in
            let all = ap length same ∙ length-set slots at (standing_at slots at d (Held k)) in
            omega arith);
      }
    where
      edit : (prefixes : Number → List ℤ) → live_of prefixes new.slots.slots.items ≡ edit_first (is_free n) (taken_by k) (live_of prefixes slots)
      edit prefixes = ap (live_of prefixes) same ∙ edit_live prefixes (is_free_slot n) (is_free n) (mirrors_free prefixes n) (taken_by k) slots at d (standing_at slots at d (Held k)) stands refl

  -- the pass holds a prefix
  pub some_held : (prefixes : Number → List ℤ) → StandsAt (is_held_slot k n) slots at → find (is_held_by k n) (live_of prefixes slots) ≢ None
  some_held prefixes stands none =
      (let some : Some (pending_of prefixes (get_or slots at d)) ≡ None = sym (find_live prefixes (is_held_slot k n) (is_held_by k n) (mirrors_held prefixes k n) slots at d stands) ∙ none in cc)

  pub enters_release :
      StandsAt (is_held_slot k n) slots at →
      new.journal.items ≡ old.journal.items ++ Release k n ∷ [] →
      new.published ≡ old.published →
      new.slots.slots.items ≡ set slots at (standing_at slots at d Free) →
      new.spent ≡ old.spent →
      vec_capacity old.journal ≤ vec_capacity new.journal →
      Enters (Release k n) old new
  enters_release stands journal published same spent more =
      let long = ap length journal ∙ length_push old.journal.items (Release k n) in
      let one : length new.journal.items ≡ suc (length old.journal.items) = omega arith in
      record {
        journal = journal;
        parts = ap length published;
        published = adds_none published;
        state = λ prefixes cubes names. same_state (cubes ++ []) cubes (live_of prefixes new.slots.slots.items) (edit_first (is_held_by k n) let_go (live_of prefixes slots)) new.spent old.spent
            (append-nil cubes) (edit prefixes) spent;
        pages = keeps one
            (subst (All (λ s. s.number.place ≤ suc (length old.journal.items))) (sym same) (later_placed (length old.journal.items) (set slots at (standing_at slots at d Free)) (placed_set (length old.journal.items) slots at d Free stands.inside pages.placed)))
            (adds_entered 0 (adds_none published))
            (let less = held_released k n (live_of nothing slots) (some_held nothing stands) in
            let held = held_live nothing slots in
            let now = ap held_count (edit nothing) in
            let held_now = held_live nothing new.slots.slots.items in
            let room = pages.room in
            omega arith);
      }
    where
      edit : (prefixes : Number → List ℤ) → live_of prefixes new.slots.slots.items ≡ edit_first (is_held_by k n) let_go (live_of prefixes slots)
      edit prefixes = ap (live_of prefixes) same ∙ edit_live prefixes (is_held_slot k n) (is_held_by k n) (mirrors_held prefixes k n) let_go slots at d (standing_at slots at d Free) stands refl

  pub enters_report : (o : Outcome) (left : List Slot) →
      StandsAt (is_held_slot k n) slots at →
      new.journal.items ≡ old.journal.items ++ Report k n o ∷ [] →
      length new.published ≡ length old.published →
      Adds (length o.cubes) →
      filter is_live left ≡ filter is_live (set slots at (standing_at slots at d Gone)) →
      All (λ s. s.number.place ≤ length old.journal.items) left →
      new.slots.slots.items ≡ left ++ slots_of (suc (length old.journal.items)) k o →
      new.spent ≡ min (old.spent + o.leaves) (2 ^ 62) →
      length old.journal.items + (length slots + 1) ≤ vec_capacity new.journal →
      Enters (Report k n o) old new
  enters_report o left stands journal parts published squeezed placed same spent room =
      let long = ap length journal ∙ length_push old.journal.items (Report k n o) in
      let one : length new.journal.items ≡ suc (length old.journal.items) = omega arith in
      record {
        journal = journal;
        parts = parts;
        published = published;
        state = λ prefixes cubes names. by_found prefixes cubes names (find (is_held_by k n) (live_of prefixes slots)) refl;
        pages = keeps one
            (subst (All (λ s. s.number.place ≤ suc j)) (sym same) (All-append (λ s. s.number.place ≤ suc j) left (slots_of (suc j) k o) (later_placed j left placed)
            (All-weaker (λ s. s.number.place ≡ suc j) (λ s. s.number.place ≤ suc j) (λ s e. omega arith) (slots_of (suc j) k o) (slots_placed (suc j) k o))))
            (adds_entered (length o.cubes) published)
            (let few = held_reported k n (live_of own slots) (suc j) o (some_held own stands) in
            let now = ap held_count (edit own own_names) in
            let held_now = held_live own new.slots.slots.items in
            let all = live_few own slots in
            omega arith);
      }
    where
      j : ℕ
      j = length old.journal.items

      own : Number → List ℤ
      own m = get_or (left_by (Report k n o)) m.index []

      own_names : NamesLeft own (suc j) (Report k n o)
      own_names i inside = refl

      edit : (prefixes : Number → List ℤ) → NamesLeft prefixes (suc j) (Report k n o) → live_of prefixes new.slots.slots.items ≡ edit_first (is_held_by k n) taken_out (live_of prefixes slots) ++ parts_of (suc j) k o
      edit prefixes names =
          ap (live_of prefixes) same
          ∙ live-append prefixes left (slots_of (suc j) k o)
          ∙ ap₂ (λ x y. x ++ y)
          (ap (map (pending_of prefixes)) squeezed ∙ edit_live prefixes (is_held_slot k n) (is_held_by k n) (mirrors_held prefixes k n) taken_out slots at d (standing_at slots at d Gone) stands refl)
          (left_parts prefixes (suc j) k n o names)

      by_found : (prefixes : Number → List ℤ) (cubes : List (List ℤ)) → NamesLeft prefixes (suc j) (Report k n o) → (found : Option Pending) → find (is_held_by k n) (live_of prefixes slots) ≡ found →
          state_with prefixes (cubes ++ o.cubes) new ≡ step (suc j) (Report k n o) (state_with prefixes cubes old)
      by_found prefixes cubes names None e = absurd (some_held prefixes stands e)
      by_found prefixes cubes names (Some q) e =
          rw e (same_state (cubes ++ o.cubes) (cubes ++ o.cubes) (live_of prefixes new.slots.slots.items) (edit_first (is_held_by k n) taken_out (live_of prefixes slots) ++ parts_of (suc j) k o) new.spent (min (old.spent + o.leaves) (2 ^ 62)) refl (edit prefixes names) spent)

-- a slot, where one is asked for that no list has
abbrev pub any_slot : Slot
any_slot = record { number = number_at 0 0; standing = Gone }

-- who holds a prefix has room to release it
pub some_room : (old : Pages) (k : ℕ) (n : Number) (at : ℕ) → StandsAt (is_held_slot k n) old.slots.slots.items at → 0 < held_slots old.slots.slots.items
some_room old k n at stands =
    let slots = old.slots.slots.items in
    let less = held_released k n (live_of nothing slots) (some_held_in slots k n at stands) in
    let held = held_live nothing slots in
    omega arith
  where
    some_held_in : (slots : List Slot) (k : ℕ) (n : Number) (at : ℕ) → StandsAt (is_held_slot k n) slots at → find (is_held_by k n) (live_of nothing slots) ≢ None
    some_held_in slots k n at stands none =
        (let some : Some (pending_of nothing (get_or slots at any_slot)) ≡ None = sym (find_live nothing (is_held_slot k n) (is_held_by k n) (mirrors_held nothing k n) slots at any_slot stands) ∙ none in cc)
