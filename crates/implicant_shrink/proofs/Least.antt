-- The level as the walk over the clauses goes on.
use Rattle.std.proofs.Common.{◌≡◌, ℕ, ◌+◌, ◌<◌, ◌≤◌, Bool, true, false, ◌&&◌, ◌||◌, nat_le, max, List, [], length, get_or, take, ℤ, refl, sym, ap, ◌∙◌, inl, inr, arith, length-take}
use Rattle.std.specs.List.{list_any, list_all}
use Rattle.std.proofs.lemmas.Bool.{and_left, or_left, or_right, cases_lt, le-leb, lt-leb}
use Rattle.std.proofs.lemmas.List.{get_or-take}
use Rattle.std.proofs.lemmas.List.Folds.{list_all_more, list_any_more}
use Rattle.sat_terms.specs.Cubes.{has_pair}
use Rattle.search_region.specs.Model.{is_met, keeps_flips}
use Rattle.chrono_trail.specs.declared.item.Item.{Item}
use Rattle.chrono_trail.specs.Items.{are_distinct}
use Rattle.chrono_trail.specs.Clauses.{is_false_clause}
use Rattle.chrono_trail.specs.Pictures.{picture_of}
use Rattle.implicant_shrink.specs.Levels.{is_met_at}
use Rattle.implicant_shrink.specs.Shrinking.{IsLeastFrom}
use Rattle.implicant_shrink.proofs.Kept.{met_at, within_both}

regroup : (a b c d : Bool) → (a && (b && (c && d))) ≡ ((a && (b && c)) && d)
regroup true true true d = refl
regroup true true false d = refl
regroup true false c d = refl
regroup false b c d = refl

and_all : (a b : Bool) → (a && (b && true)) ≡ (a && b)
and_all true true = refl
and_all true false = refl
and_all false b = refl

-- before the first clause
pub least_start : (base flips : ℕ) (shown : ℕ → Bool) (clauses : List (List ℤ)) (items : List Item) →
    ((b : ℕ) → keeps_flips shown b (picture_of clauses items) ≡ nat_le flips b) →
    IsLeastFrom base shown (picture_of clauses items) [] (max base flips)
least_start base flips shown clauses items keeps = λ m.
    and_all (nat_le base m) (keeps_flips shown m (picture_of clauses items)) ∙ ap (λ x. nat_le base m && x) (keeps m) ∙ within_both base m flips

-- one clause more, which the level is enough for just from a higher one on
pub least_more : (base level higher : ℕ) (shown : ℕ → Bool) (clauses : List (List ℤ)) (items : List Item) (f : List (List ℤ)) (id : ℕ) →
    id < length f → level ≤ higher →
    ((m : ℕ) → level ≤ m → is_met shown m (picture_of clauses items) (get_or f id []) ≡ nat_le higher m) →
    IsLeastFrom base shown (picture_of clauses items) (take id f) level →
    IsLeastFrom base shown (picture_of clauses items) (take (id + 1) f) higher
least_more base level higher shown clauses items f id inside low met before = λ m.
    let P = picture_of clauses items in
    ap (λ x. nat_le base m && (keeps_flips shown m P && x)) (list_all_more (is_met shown m P) f id [] inside)
    ∙ regroup (nat_le base m) (keeps_flips shown m P) (list_all (is_met shown m P) (take id f)) (is_met shown m P (get_or f id []))
    ∙ ap (λ x. x && is_met shown m P (get_or f id [])) (before m)
    ∙ elim (cases_lt m level) [
      | inl below ↦ and_left (nat_le level m) (is_met shown m P (get_or f id [])) (lt-leb level m below) ∙ sym (lt-leb higher m (omega arith))
      | inr high ↦ ap (λ x. x && is_met shown m P (get_or f id [])) (le-leb level m high) ∙ met m high
    ]

module _ (shown : ℕ → Bool) (clauses : List (List ℤ)) (items : List Item) (distinct : are_distinct items ≡ true) (c : List ℤ) (level : ℕ) where
  -- the clause holds a pair
  pub met_pair : has_pair c ≡ true → (m : ℕ) → level ≤ m → is_met shown m (picture_of clauses items) c ≡ nat_le level m
  met_pair pair m low = met_at clauses shown m items c distinct ∙ or_left (has_pair c) (is_met_at shown m items c) pair ∙ sym (le-leb level m low)

  -- it is met at the level
  pub met_low : (k : ℕ) → k ≤ level → ((b : ℕ) → level ≤ b → is_met_at shown b items c ≡ nat_le k b) →
      (m : ℕ) → level ≤ m → is_met shown m (picture_of clauses items) c ≡ nat_le level m
  met_low k within same m low =
      met_at clauses shown m items c distinct
      ∙ or_right (has_pair c) (is_met_at shown m items c) (same m low ∙ le-leb k m (omega arith)) ∙ sym (le-leb level m low)

  -- it is met from a higher one on
  pub met_high : (k : ℕ) → has_pair c ≡ false → ((b : ℕ) → level ≤ b → is_met_at shown b items c ≡ nat_le k b) →
      (m : ℕ) → level ≤ m → is_met shown m (picture_of clauses items) c ≡ nat_le k m
  met_high k plain same m low = met_at clauses shown m items c distinct ∙ ap (λ x. x || is_met_at shown m items c) plain ∙ same m low

-- the clause of a number, as the formula has it
pub in_formula : (clauses : List (List ℤ)) (base id : ℕ) (c : List ℤ) → id < base → base ≤ length clauses → c ≡ get_or clauses id [] →
    (id < length (take base clauses)) × (c ≡ get_or (take base clauses) id [])
in_formula clauses base id c inside within at =
    (let size = length-take base clauses in omega arith, at ∙ sym (get_or-take base clauses id [] inside))

-- none is false up to one clause more
pub none_false : (items : List Item) (f : List (List ℤ)) (id : ℕ) → id < length f → list_any (is_false_clause items) (take id f) ≡ false →
    is_false_clause items (get_or f id []) ≡ false → list_any (is_false_clause items) (take (id + 1) f) ≡ false
none_false items f id inside before now =
    list_any_more (is_false_clause items) f id [] inside ∙ ap (λ x. x || is_false_clause items (get_or f id [])) before ∙ now
