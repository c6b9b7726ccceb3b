-- The decision of a level within the items, and what taking its level back frees.
use Rattle.std.proofs.Common.{◌≡◌, ◌+◌, ◌-◌, ◌≤◌, Bool, true, false, ◌&&◌, nat_eq, nat_lt, nat_le, List, [], ◌∷◌, ◌++◌, find, Some, nat_abs, refl, sym, ap, subst, ◌∙◌, append_assoc, inl, inr, arith}
use Rattle.std.specs.List.{list_all, list_any}
use Rattle.std.proofs.lemmas.Bool.{and_parts, and_from, or_left, or_right, cases_Bool, eq-eqb, eqb-true, le-leb, leb-true, ltb-true}
use Rattle.chrono_trail.specs.declared.item.Kind.{Kind}
use Rattle.chrono_trail.specs.declared.item.Kind.TheVariants.{Assumed, Decided, Flipped, Turned, Implied}
use Rattle.chrono_trail.specs.declared.item.Item.{Item}
use Rattle.chrono_trail.specs.Items.{is_within, is_decision, decides, goes}
use Rattle.chrono_trail.specs.Pictures.{picture_of, pictured}
use Rattle.chrono_trail.specs.Laws.{DecisionsAreFound, DecisionsAreWithin, DecisionsSplitThePicture, BacktrackingFreesTheDecision}
use Rattle.chrono_trail.proofs.Pictures.{picture-append}
use Rattle.chrono_trail.proofs.Back.{tells_back}
use Rattle.chrono_trail.proofs.Levels.{one_decision}

decided_is : (k : Kind) → is_decision k ≡ true → k ≡ Decided
decided_is Assumed h = cc
decided_is Decided h = refl
decided_is Flipped h = cc
decided_is (Turned id) h = cc
decided_is (Implied id) h = cc

-- the found item passes, and stands within the list
pub record Found (p : Item → Bool) (items : List Item) (d : Item) : Type 0 where
  pub before : List Item
  pub after : List Item
  pub parts : items ≡ before ++ d ∷ after
  pub passes : p d ≡ true

pub found_parts : (p : Item → Bool) (items : List Item) (d : Item) → find p items ≡ Some d → Found p items d
found_parts p [] d h = cc
found_parts p (i ∷ later) d h =
    elim (cases_Bool (p i)) [
      | inl here ↦
          let some : Some i ≡ Some d = rw here at h in
          let same : i ≡ d = cc in
          record { before = []; after = later; parts = ap (λ j. j ∷ later) same; passes = subst (λ j. p j ≡ true) same here }
      | inr other ↦
          let rest : find p later ≡ Some d = rw other at h in
          let more = found_parts p later d rest in
          record { before = i ∷ more.before; after = more.after; parts = ap (λ xs. i ∷ xs) more.parts; passes = more.passes }
    ]

-- what holds of each item holds of the found one
pub found_is : (p q : Item → Bool) (items : List Item) (d : Item) → find p items ≡ Some d → list_all q items ≡ true → q d ≡ true
found_is p q [] d h all = cc
found_is p q (i ∷ later) d h all =
    let (now, rest) = and_parts (q i) (list_all q later) all in
    elim (cases_Bool (p i)) [
      | inl here ↦
          let some : Some i ≡ Some d = rw here at h in
          let same : i ≡ d = cc in
          subst (λ j. q j ≡ true) same now
      | inr other ↦ let more : find p later ≡ Some d = rw other at h in found_is p q later d more rest
    ]

-- a found item that passes another test too
found_any : (p q : Item → Bool) (items : List Item) (d : Item) → find p items ≡ Some d → q d ≡ true → list_any q items ≡ true
found_any p q [] d h pass = cc
found_any p q (i ∷ later) d h pass =
    elim (cases_Bool (p i)) [
      | inl here ↦
          let some : Some i ≡ Some d = rw here at h in
          let same : d ≡ i = cc in
          or_left (q i) (list_any q later) (subst (λ j. q j ≡ true) same pass)
      | inr other ↦ let more : find p later ≡ Some d = rw other at h in or_right (q i) (list_any q later) (found_any p q later d more pass)
    ]

-- the first that passes stands behind those that do not
found_after : (p : Item → Bool) (before : List Item) (d : Item) (after : List Item) → list_any p before ≡ false → p d ≡ true → find p (before ++ d ∷ after) ≡ Some d
found_after p [] d after none pass = rw pass refl
found_after p (i ∷ before) d after none pass =
    elim (cases_Bool (p i)) [
      | inl here ↦ let clash : true ≡ false = rw here at none in cc
      | inr other ↦ let rest : list_any p before ≡ false = rw other at none in rw other (found_after p before d after rest pass)
    ]

pub decisions_are_found : DecisionsAreFound
decisions_are_found n items level k t above below =
    let one = one_decision 0 k items t.stands above (subst (λ m. k ≤ m) t.current below) in
    (one.decision, subst (λ xs. find (decides k) xs ≡ Some one.decision) (sym one.parts) (found_after (decides k) one.before one.decision one.after one.none_before one.opens))

pub decisions_split : DecisionsSplitThePicture
decisions_split clauses items k d h =
    let found = found_parts (decides k) items d h in
    let (deciding, same) = and_parts (is_decision d.kind) (nat_eq d.level k) found.passes in
    record {
      before = found.before;
      after = found.after;
      parts = found.parts;
      kind = decided_is d.kind deciding;
      level = eqb-true d.level k same;
      picture = ap (picture_of clauses) found.parts ∙ picture-append clauses found.before (d ∷ found.after)
          ∙ append_assoc (picture_of clauses found.after) (pictured clauses d ∷ []) (picture_of clauses found.before);
    }

pub decisions_are_within : DecisionsAreWithin
decisions_are_within n items level k d t h =
    let (above, below) = and_parts (nat_lt 0 (nat_abs d.lit)) (nat_le (nat_abs d.lit) n) (found_is (decides k) (is_within n) items d h t.within) in
    (ltb-true 0 (nat_abs d.lit) above, leb-true (nat_abs d.lit) n below)

pub backtracking_frees : BacktrackingFreesTheDecision
backtracking_frees n items level k d t above h =
    let found = found_parts (decides k) items d h in
    let (deciding, same) = and_parts (is_decision d.kind) (nat_eq d.level k) found.passes in
    let at = eqb-true d.level k same in
    let top : k - 1 + 1 ≡ k = omega arith in
    let variable : nat_eq (nat_abs d.lit) (nat_abs d.lit) ≡ true = eq-eqb (nat_abs d.lit) (nat_abs d.lit) refl in
    let high : nat_le (k - 1 + 1) d.level ≡ true = le-leb (k - 1 + 1) d.level (omega arith) in
    let gone : goes (k - 1 + 1) items (nat_abs d.lit) ≡ true = found_any (decides k) (λ i. nat_eq (nat_abs d.lit) (nat_abs i.lit) && nat_le (k - 1 + 1) i.level) items d h (and_from (nat_eq (nat_abs d.lit) (nat_abs d.lit)) (nat_le (k - 1 + 1) d.level) variable high) in
    tells_back (k - 1) items (nat_abs d.lit) t.distinct ∙ rw gone refl
