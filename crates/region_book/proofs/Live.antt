-- The slots that live are the pending prefixes: what is found and edited among the one is found and
-- edited among the other.
use Rattle.std.proofs.Common.{◌≡◌, ℕ, zero, suc, ◌≤◌, Bool, true, false, ◌&&◌, is_some, is_none, List, [], ◌∷◌, ◌++◌, filter, length, map, get_or, set, ℤ, Option, Some, None, refl, sym, ap, ap₂, ◌∙◌, inl, inr, arith}
use Rattle.std.specs.List.{All, find}
use Rattle.std.proofs.lemmas.Bool.{cases_Bool, both_ways, and_parts}
use Rattle.std.proofs.lemmas.List.{map-append}
use Rattle.std.proofs.lemmas.List.Elements.{All-nil, All-cons, All-head, All-tail, filter-append}
use Rattle.prefix_jobs.specs.declared.number.Number.{Number}
use Rattle.region_book.specs.declared.slot.Slot.{Slot}
use Rattle.region_book.specs.declared.slot.Standing.{Standing}
use Rattle.region_book.specs.declared.slot.Standing.TheVariants.{Free, Held, Gone}
use Rattle.region_book.specs.Machine.{Pending, is_pass, is_free, is_held_by, edit_first}
use Rattle.region_book.specs.Slots.{standing_lives, holder_of, is_free_standing, is_held_standing, is_standing_for, is_live, stands_free, stands_held, has_slot_number, is_free_slot, is_held_slot, pending_of, live_of, StandsAt}
use Rattle.region_book.specs.Pages.{held_count, held_slots}

and_false : (a b : Bool) → (a && b) ≡ false → a ≡ true → b ≡ false
and_false true b h e = h
and_false false b h e = absurd (both_ways false refl e)

pub stands_rest : (test : Slot → Bool) (s : Slot) (slots : List Slot) (at : ℕ) → StandsAt test (s ∷ slots) (suc at) → StandsAt test slots at
stands_rest test s slots at stands = record {
  inside = (let low = stands.inside in omega arith);
  passes = stands.passes;
  before = λ k d low. stands.before (suc k) d (omega arith);
}

module _ (prefixes : Number → List ℤ) where
  abbrev pub live : List Slot → List Pending
  live slots = live_of prefixes slots

  pub live-append : (ss ts : List Slot) → live (ss ++ ts) ≡ live ss ++ live ts
  live-append ss ts = ap (map (pending_of prefixes)) (filter-append is_live ss ts) ∙ map-append (pending_of prefixes) (filter is_live ss) (filter is_live ts)

  -- a test of slots is that of the prefixes of those that live
  abbrev pub Mirrors : (Slot → Bool) → (Pending → Bool) → Type 0
  Mirrors p test = (s : Slot) → p s ≡ (is_live s && test (pending_of prefixes s))

  module _ (p : Slot → Bool) (test : Pending → Bool) (mirrors : Mirrors p test) where
    pub passes_both : (s : Slot) → p s ≡ true → (is_live s ≡ true) × (test (pending_of prefixes s) ≡ true)
    passes_both s h = and_parts (is_live s) (test (pending_of prefixes s)) (sym (mirrors s) ∙ h)

    pub fails_live : (s : Slot) → p s ≡ false → is_live s ≡ true → test (pending_of prefixes s) ≡ false
    fails_live s h lives = and_false (is_live s) (test (pending_of prefixes s)) (sym (mirrors s) ∙ h) lives

    pub find_live : (slots : List Slot) (at : ℕ) (d : Slot) → StandsAt p slots at → find test (live slots) ≡ Some (pending_of prefixes (get_or slots at d))
    find_live [] at d stands = absurd (let low = stands.inside in omega arith)
    find_live (s ∷ slots) zero d stands = let (lives, passes) = passes_both s (stands.passes s) in rw (lives, passes) refl
    find_live (s ∷ slots) (suc at) d stands =
        let rest = find_live slots at d (stands_rest p s slots at stands) in
        elim (cases_Bool (is_live s)) [
          | inl lives ↦ rw (lives, fails_live s (stands.before zero s (omega arith)) lives) rest
          | inr gone ↦ rw gone rest
        ]

    pub none_live : (slots : List Slot) → All (λ s. p s ≡ false) slots → find test (live slots) ≡ None
    none_live [] none = refl
    none_live (s ∷ slots) none =
        let rest = none_live slots (All-tail (λ x. p x ≡ false) s slots none) in
        elim (cases_Bool (is_live s)) [
          | inl lives ↦ rw (lives, fails_live s (All-head (λ x. p x ≡ false) s slots none) lives) rest
          | inr gone ↦ rw gone rest
        ]

    pub none_passes : (slots : List Slot) → All (λ s. p s ≡ false) slots → All (λ q. test q ≡ false) (live slots)
    none_passes [] none = All-nil (λ q. test q ≡ false)
    none_passes (s ∷ slots) none =
        let rest = none_passes slots (All-tail (λ x. p x ≡ false) s slots none) in
        elim (cases_Bool (is_live s)) [
          | inl lives ↦ rw lives (All-cons (λ q. test q ≡ false) (pending_of prefixes s) (live slots) (fails_live s (All-head (λ x. p x ≡ false) s slots none) lives) rest)
          | inr gone ↦ rw gone rest
        ]

    pub edit_live : (change : Pending → List Pending) (slots : List Slot) (at : ℕ) (d new : Slot) → StandsAt p slots at → live (new ∷ []) ≡ change (pending_of prefixes (get_or slots at d)) →
        live (set slots at new) ≡ edit_first test change (live slots)
    edit_live change [] at d new stands changed = absurd (let low = stands.inside in omega arith)
    edit_live change (s ∷ slots) zero d new stands changed =
        let (lives, passes) = passes_both s (stands.passes s) in
        live-append (new ∷ []) slots ∙ ap (λ x. x ++ live slots) changed ∙ rw (lives, passes) refl
    edit_live change (s ∷ slots) (suc at) d new stands changed =
        let rest = edit_live change slots at d new (stands_rest p s slots at stands) changed in
        elim (cases_Bool (is_live s)) [
          | inl lives ↦ rw (lives, fails_live s (stands.before zero s (omega arith)) lives) (ap (λ x. pending_of prefixes s ∷ x) rest)
          | inr gone ↦ rw gone rest
        ]

  -- ---- the tests of the machine

  standing_free : (b : Bool) (x : Standing) → (b && is_free_standing x) ≡ (standing_lives x && (b && is_none (holder_of x)))
  standing_free true Free = refl
  standing_free true (Held k) = refl
  standing_free true Gone = refl
  standing_free false Free = refl
  standing_free false (Held k) = refl
  standing_free false Gone = refl

  standing_held : (k : ℕ) (b : Bool) (x : Standing) → (b && is_standing_for k x) ≡ (standing_lives x && (b && is_pass k (holder_of x)))
  standing_held k true Free = refl
  standing_held k true (Held h) = refl
  standing_held k true Gone = refl
  standing_held k false Free = refl
  standing_held k false (Held h) = refl
  standing_held k false Gone = refl

  pub mirrors_free : (n : Number) → Mirrors (is_free_slot n) (is_free n)
  mirrors_free n s = standing_free (has_slot_number n s) s.standing

  pub mirrors_held : (k : ℕ) (n : Number) → Mirrors (is_held_slot k n) (is_held_by k n)
  mirrors_held k n s = standing_held k (has_slot_number n s) s.standing

  any_free : (x : Standing) → is_free_standing x ≡ (standing_lives x && is_none (holder_of x))
  any_free Free = refl
  any_free (Held k) = refl
  any_free Gone = refl

  any_held : (x : Standing) → is_held_standing x ≡ (standing_lives x && is_some (holder_of x))
  any_held Free = refl
  any_held (Held k) = refl
  any_held Gone = refl

  pub mirrors_any_free : Mirrors stands_free (λ q. is_none q.holder)
  mirrors_any_free s = any_free s.standing

  pub mirrors_any_held : Mirrors stands_held (λ q. is_some q.holder)
  mirrors_any_held s = any_held s.standing

  -- how many are held
  pub held_live : (slots : List Slot) → held_count (live slots) ≡ held_slots slots
  held_live [] = refl
  held_live (s ∷ slots) = by_standing (held_live slots) s.standing refl
    where
      by_standing : held_count (live slots) ≡ held_slots slots → (x : Standing) → s.standing ≡ x → held_count (live (s ∷ slots)) ≡ held_slots (s ∷ slots)
      by_standing rest Free e = rw e rest
      by_standing rest (Held k) e = rw e (ap suc rest)
      by_standing rest Gone e = rw e rest

  pub live_few : (slots : List Slot) → length (live slots) ≤ length slots
  live_few [] = omega arith
  live_few (s ∷ slots) =
      let rest = live_few slots in
      elim (cases_Bool (is_live s)) [
        | inl lives ↦ rw lives (omega arith)
        | inr gone ↦ rw gone (omega arith)
      ]

-- slots of the same prefixes are the same list
pub live_same : (one other : Number → List ℤ) (slots : List Slot) → All (λ s. one s.number ≡ other s.number) slots → live_of one slots ≡ live_of other slots
live_same one other [] same = refl
live_same one other (s ∷ slots) same =
    let head : pending_of one s ≡ pending_of other s = ap (λ x. pending_with s.number x (holder_of s.standing)) (All-head (λ t. one t.number ≡ other t.number) s slots same) in
    let rest = live_same one other slots (All-tail (λ t. one t.number ≡ other t.number) s slots same) in
    elim (cases_Bool (is_live s)) [
      | inl lives ↦ rw lives (ap₂ (λ q qs. q ∷ qs) head rest)
      | inr gone ↦ rw gone rest
    ]
  where
    pending_with : Number → List ℤ → Option ℕ → Pending
    pending_with n c h = record { number = n; prefix = c; holder = h }
