-- The laws of levels: one decision for each, in their order, and no item above the level that is
-- current where it stands.
use Rattle.std.proofs.Common.{◌≡◌, ℕ, suc, ◌+◌, ◌-◌, ◌<◌, ◌≤◌, Bool, true, false, ◌&&◌, nat_eq, List, [], ◌∷◌, ◌++◌, refl, sym, ap, ◌∙◌, inl, inr, arith}
use Rattle.std.specs.List.{list_any, range_with_len}
use Rattle.std.proofs.lemmas.Bool.{and_parts, and_from, and_right, or_from, cases_Bool, cases_eq, eqb-true, eq-eqb, ne_eqb}
use Rattle.chrono_trail.specs.declared.item.Item.{Item}
use Rattle.chrono_trail.specs.Items.{is_decision, decides, level_after, depth_from, may_stand, may_all_stand}
use Rattle.chrono_trail.specs.Laws.{decision_levels, HasOneDecision}
use Rattle.chrono_trail.proofs.Items.{depth_from-append}
use Rattle.chrono_trail.proofs.Back.{level_rises, depth_rises, low_item}

-- a decision opens the next level
pub opened : (k : ℕ) (i : Item) → may_stand k i ≡ true → is_decision i.kind ≡ true → i.level ≡ suc k
opened k i stands deciding =
    let same : nat_eq i.level (suc k) ≡ true = rw deciding at stands in
    eqb-true i.level (suc k) same

-- no later item is a decision of a level that was current before
none_later : (k j : ℕ) (items : List Item) → may_all_stand k items ≡ true → j ≤ k →
    list_any (decides j) items ≡ false
none_later k j [] h low = refl
none_later k j (i ∷ later) h low =
    let rises = level_rises k i parts.0 in
    let after = none_later (level_after k i) j later parts.1 (omega arith) in
    or_from (decides j i) (list_any (decides j) later) here after
  where
    parts : (may_stand k i ≡ true) × (may_all_stand (level_after k i) later ≡ true)
    parts = and_parts (may_stand k i) (may_all_stand (level_after k i) later) h

    here : decides j i ≡ false
    here = elim (cases_Bool (is_decision i.kind)) [
      | inl deciding ↦
          let level = opened k i parts.0 deciding in
          let other = ne_eqb i.level j (λ same. omega arith) in
          and_right (is_decision i.kind) (nat_eq i.level j) other
      | inr other_kind ↦ ap (λ b. b && nat_eq i.level j) other_kind
    ]

-- one item more before the decision
after_another : (i : Item) (later : List Item) (j : ℕ) → decides j i ≡ false →
    HasOneDecision later j → HasOneDecision (i ∷ later) j
after_another i later j other h = record {
  before = i ∷ h.before;
  decision = h.decision;
  after = h.after;
  parts = ap (λ xs. i ∷ xs) h.parts;
  opens = h.opens;
  none_before = or_from (decides j i) (list_any (decides j) h.before) other h.none_before;
  none_after = h.none_after;
}

pub one_decision : (k j : ℕ) (items : List Item) → may_all_stand k items ≡ true →
    k < j → j ≤ depth_from k items → HasOneDecision items j
one_decision k j [] h above low = absurd (omega arith)
one_decision k j (i ∷ later) h above low =
    let (now, rest) = and_parts (may_stand k i) (may_all_stand (level_after k i) later) h in
    elim (cases_Bool (is_decision i.kind)) [
      | inl deciding ↦
          let level = opened k i now deciding in
          let after : level_after k i ≡ i.level = rw deciding refl in
          elim (cases_eq i.level j) [
            | inl same ↦
                let equal = eq-eqb i.level j same in
                record {
                  before = [];
                  decision = i;
                  after = later;
                  parts = refl;
                  opens = and_from (is_decision i.kind) (nat_eq i.level j) deciding equal;
                  none_before = refl;
                  none_after = none_later (level_after k i) j later rest (omega arith);
                }
            | inr other ↦
                let away = ne_eqb i.level j other in
                after_another i later j (and_right (is_decision i.kind) (nat_eq i.level j) away)
                (one_decision (level_after k i) j later rest (omega (arith, other)) low)
          ]
      | inr other_kind ↦
          let after : level_after k i ≡ k = rw other_kind refl in
          after_another i later j (ap (λ b. b && nat_eq i.level j) other_kind)
          (one_decision (level_after k i) j later rest (omega arith) low)
    ]

-- the levels of the decisions, where k was current before them
pub levels_rise : (k : ℕ) (items : List Item) → may_all_stand k items ≡ true →
    decision_levels items ≡ range_with_len (suc k) (depth_from k items - k)
levels_rise k [] h = let none : k - k ≡ 0 = omega arith in sym (ap (range_with_len (suc k)) none)
levels_rise k (i ∷ later) h =
    let more = levels_rise (level_after k i) later parts.1 in
    elim (cases_Bool (is_decision i.kind)) [
      | inl deciding ↦
          let level = opened k i parts.0 deciding in
          let now : level_after k i ≡ i.level = rw deciding refl in
          let top : suc k ≤ deepest = (let rises = depth_rises (level_after k i) later parts.1 in omega arith) in
          let count : deepest - k ≡ suc (deepest - suc k) = omega arith in
          let next : suc (suc k) ≡ suc k + 1 = omega arith in
          let first : decision_levels (i ∷ later) ≡ i.level ∷ decision_levels later = rw deciding refl in
          first
          ∙ ap (λ l. l ∷ decision_levels later) level
          ∙ ap (λ ls. suc k ∷ ls) (more ∙ from (now ∙ level) ∙ ap (λ m. range_with_len m (deepest - suc k)) next)
          ∙ sym (ap (range_with_len (suc k)) count)
      | inr other_kind ↦
          let same : decision_levels (i ∷ later) ≡ decision_levels later = rw other_kind refl in
          same ∙ more ∙ from (rw other_kind refl)
    ]
  where
    parts : (may_stand k i ≡ true) × (may_all_stand (level_after k i) later ≡ true)
    parts = and_parts (may_stand k i) (may_all_stand (level_after k i) later) h

    deepest : ℕ
    deepest = depth_from (level_after k i) later

    from : {m : ℕ} → level_after k i ≡ m →
        range_with_len (suc (level_after k i)) (deepest - level_after k i) ≡ range_with_len (suc m) (deepest - m)
    from e = ap (λ m. range_with_len (suc m) (deepest - m)) e

-- an item within the list may stand where it does
stand_at : (k : ℕ) (before : List Item) (i : Item) (after : List Item) →
    may_all_stand k (before ++ i ∷ after) ≡ true → may_stand (depth_from k before) i ≡ true
stand_at k [] i after h = (and_parts (may_stand k i) (may_all_stand (level_after k i) after) h).0
stand_at k (j ∷ before) i after h =
    let rest : Bool = may_all_stand (level_after k j) (before ++ i ∷ after) in
    stand_at (level_after k j) before i after (and_parts (may_stand k j) rest h).1

pub none_above : (k : ℕ) (before : List Item) (i : Item) (after : List Item) →
    may_all_stand k (before ++ i ∷ after) ≡ true → i.level ≤ depth_from k (before ++ i ∷ [])
none_above k before i after h =
    let here = depth_from-append k before (i ∷ []) in
    let stands = stand_at k before i after h in
    low_item (depth_from k before) (depth_from k (before ++ i ∷ [])) i stands (omega arith)
