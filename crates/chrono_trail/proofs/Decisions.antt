-- The places of the decisions of a trail.
use Rattle.std.proofs.Common.{◌≡◌, ℕ, zero, suc, ◌+◌, ◌-◌, ◌<◌, ◌≤◌, true, false, cond, ◌&&◌, nat_eq, nat_le, List, [], ◌∷◌, ◌++◌, length, get_or, take, filter, refl, ap, ◌∙◌, inl, inr, arith}
use Rattle.std.specs.List.{list_all}
use Rattle.std.proofs.lemmas.Bool.{and_parts, and_from, and_right, cases_Bool, cases_eq, eq-eqb, eqb-true, ne_eqb, leb-true, le-leb, lt-leb}
use Rattle.chrono_trail.specs.declared.item.Item.{Item}
use Rattle.chrono_trail.specs.Items.{is_decision, decides, level_after, depth_from, may_stand, may_all_stand, is_upto, decisions_from, IsDecisionAt, IsAboveAt}
use Rattle.chrono_trail.proofs.Back.{level_rises}
use Rattle.chrono_trail.proofs.Levels.{opened}

-- an appended item
pub decisions-push : (n : ℕ) (items : List Item) (e : Item) → decisions_from n (items ++ e ∷ []) ≡ decisions_from n items ++ cond (is_decision e.kind) ((n + length items) ∷ []) []
decisions-push n [] e =
    elim (cases_Bool (is_decision e.kind)) [
      | inl deciding ↦ rw deciding (ap (λ k. k ∷ []) (omega arith))
      | inr other ↦ rw other refl
    ]
decisions-push n (i ∷ later) e =
    let more = decisions-push (suc n) later e in
    let same : suc n + length later ≡ n + suc (length later) = omega arith in
    elim (cases_Bool (is_decision i.kind)) [
      | inl deciding ↦ rw deciding (ap (λ xs. n ∷ xs) (more ∙ ap (λ k. decisions_from (suc n) later ++ cond (is_decision e.kind) (k ∷ []) []) same))
      | inr other ↦ rw other (more ∙ ap (λ k. decisions_from (suc n) later ++ cond (is_decision e.kind) (k ∷ []) []) same)
    ]

-- there is one for each level
pub decisions_count : (k n : ℕ) (items : List Item) → may_all_stand k items ≡ true → k + length (decisions_from n items) ≡ depth_from k items
decisions_count k n [] h = omega arith
decisions_count k n (i ∷ later) h =
    let (now, rest) = and_parts (may_stand k i) (may_all_stand (level_after k i) later) h in
    let more = decisions_count (level_after k i) (suc n) later rest in
    elim (cases_Bool (is_decision i.kind)) [
      | inl deciding ↦
          let level = opened k i now deciding in
          let after : level_after k i ≡ i.level = rw deciding refl in
          let long : length (decisions_from n (i ∷ later)) ≡ suc (length (decisions_from (suc n) later)) = rw deciding refl in
          omega arith
      | inr other ↦
          let after : level_after k i ≡ k = rw other refl in
          let long : length (decisions_from n (i ∷ later)) ≡ length (decisions_from (suc n) later) = rw other refl in
          omega arith
    ]

-- where the place of the decision of level j is told
pub record Told (k j n : ℕ) (items : List Item) : Type 0 where
  pub place : ℕ
  pub told : get_or (decisions_from n items) (j - suc k) 0 ≡ n + place
  pub decision : IsDecisionAt j items place

-- one item more before the decision
told_after : (k m j n : ℕ) (i : Item) (later : List Item) → decides j i ≡ false → is_upto (j - 1) i ≡ true →
    get_or (decisions_from n (i ∷ later)) (j - suc k) 0 ≡ get_or (decisions_from (suc n) later) (j - suc m) 0 →
    Told m j (suc n) later → Told k j n (i ∷ later)
told_after k m j n i later other low same h =
    let told = h.told in
    record {
      place = suc h.place;
      told = same ∙ told ∙ (omega arith);
      decision = record {
        inside = let within = h.decision.inside in omega arith;
        opens = h.decision.opens;
        found = rw other h.decision.found;
        low = and_from (is_upto (j - 1) i) (list_all (is_upto (j - 1)) (take h.place later)) low h.decision.low;
      };
    }

pub decision_told : (k j n : ℕ) (items : List Item) → may_all_stand k items ≡ true → k < j → j ≤ depth_from k items → Told k j n items
decision_told k j n [] h above low = absurd (omega arith)
decision_told k j n (i ∷ later) h above low =
    let (now, rest) = and_parts (may_stand k i) (may_all_stand (level_after k i) later) h in
    elim (cases_Bool (is_decision i.kind)) [
      | inl deciding ↦
          let level = opened k i now deciding in
          let after : level_after k i ≡ i.level = rw deciding refl in
          elim (cases_eq i.level j) [
            | inl same ↦
                let decides_here : decides j i ≡ true = and_from (is_decision i.kind) (nat_eq i.level j) deciding (eq-eqb i.level j same) in
                let first : j - suc k ≡ 0 = omega arith in
                record {
                  place = 0;
                  told = rw (deciding, first) (omega arith);
                  decision = record { inside = omega arith; opens = λ d. decides_here; found = rw decides_here refl; low = refl };
                }
            | inr differs ↦
                let other : decides j i ≡ false = and_right (is_decision i.kind) (nat_eq i.level j) (ne_eqb i.level j differs) in
                let next : j - suc k ≡ suc (j - suc i.level) = omega (arith, differs) in
                told_after k (level_after k i) j n i later other (le-leb i.level (j - 1) (omega (arith, differs)))
                (rw (deciding, next) refl)
                (decision_told (level_after k i) j (suc n) later rest (omega (arith, differs)) low)
          ]
      | inr not_deciding ↦
          let after : level_after k i ≡ k = rw not_deciding refl in
          let other : decides j i ≡ false = ap (λ b. b && nat_eq i.level j) not_deciding in
          let under : nat_le i.level k ≡ true = rw not_deciding at now in
          let le = leb-true i.level k under in
          told_after k (level_after k i) j n i later other (le-leb i.level (j - 1) (omega arith))
          (rw not_deciding refl)
          (decision_told (level_after k i) j (suc n) later rest (omega arith) low)
    ]

-- the item at that place is above the level before
pub decision_above : (k : ℕ) (items : List Item) (n : ℕ) → IsDecisionAt (k + 1) items n → IsAboveAt k items n
decision_above k items n h d inside =
    let (deciding, same) = and_parts (is_decision (get_or items n d).kind) (nat_eq (get_or items n d).level (k + 1)) (h.opens d) in
    let level = eqb-true (get_or items n d).level (k + 1) same in
    lt-leb (get_or items n d).level k (omega arith)

-- no decision stays above a level that was open before
none_left : (k m n : ℕ) (items : List Item) → may_all_stand k items ≡ true → m ≤ k → decisions_from n (filter (is_upto m) items) ≡ []
none_left k m n [] h low = refl
none_left k m n (i ∷ later) h low =
    let (now, rest) = and_parts (may_stand k i) (may_all_stand (level_after k i) later) h in
    let rises = level_rises k i now in
    elim (cases_Bool (is_decision i.kind)) [
      | inl deciding ↦
          let level = opened k i now deciding in
          let gone : nat_le i.level m ≡ false = lt-leb i.level m (omega arith) in
          rw gone (none_left (level_after k i) m n later rest (omega arith))
      | inr other ↦
          elim (cases_Bool (nat_le i.level m)) [
            | inl stays ↦ rw (stays, other) (none_left (level_after k i) m (suc n) later rest (omega arith))
            | inr leaves ↦ rw leaves (none_left (level_after k i) m n later rest (omega arith))
          ]
    ]

-- the places of those that stay, where j levels stay
pub decisions_back : (k m j n : ℕ) (items : List Item) → may_all_stand k items ≡ true → k + j ≡ m → decisions_from n (filter (is_upto m) items) ≡ take j (decisions_from n items)
decisions_back k m zero n items h sum = none_left k m n items h (omega arith)
decisions_back k m (suc j) n [] h sum = refl
decisions_back k m (suc j) n (i ∷ later) h sum =
    let (now, rest) = and_parts (may_stand k i) (may_all_stand (level_after k i) later) h in
    elim (cases_Bool (is_decision i.kind)) [
      | inl deciding ↦
          let level = opened k i now deciding in
          let after : level_after k i ≡ i.level = rw deciding refl in
          let stays : nat_le i.level m ≡ true = le-leb i.level m (omega arith) in
          rw (stays, deciding) (ap (λ xs. n ∷ xs) (decisions_back (level_after k i) m j (suc n) later rest (omega arith)))
      | inr other ↦
          let after : level_after k i ≡ k = rw other refl in
          let under : nat_le i.level k ≡ true = rw other at now in
          let le = leb-true i.level k under in
          let stays : nat_le i.level m ≡ true = le-leb i.level m (omega arith) in
          rw (stays, other) (decisions_back (level_after k i) m (suc j) (suc n) later rest (omega arith))
    ]
