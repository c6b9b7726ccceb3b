-- The drill has a model: the first literal of each clause is true in it.
use Rattle.std.proofs.Common.{◌≡◌, ℕ, zero, suc, ◌%◌, Bool, true, false, ◌&&◌, cond, ◌==◌, nat_lt, map, refl, ap₂, ◌∙◌, inl, inr}
use Rattle.std.proofs.lemmas.Bool.{cases_Bool}
use Rattle.std.proofs.lemmas.List.Folds.{list_all-append}
use Rattle.sat_terms.specs.Truth.{sat, sat_clause}
use Rattle.drill.specs.Drills.{drill_row, drill_rows, first_variables, DrillsAreGood}

-- the rows 0 and 1 modulo 4 begin with a variable, and the others with its negation
abbrev begins_plain : ℕ → Bool
begins_plain i = cond (i % 4 == 1) true (cond (i % 4 == 2) false (cond (i % 4 == 3) false true))

module _ (t : ℕ → Bool) (k m : ℕ) (told : t (suc m) ≡ begins_plain (suc m)) where
  row_true : sat (drill_row k (suc m)) t ≡ true
  row_true = elim (cases_Bool (suc m % 4 == 1)) [
    | inl one ↦
        let value : t (suc m) ≡ true = told ∙ (rw one refl) in
        rw one (elim (cases_Bool (nat_lt (suc m) k)) [
          | inl below ↦ rw (below, value) refl
          | inr last ↦ rw last refl
        ])
    | inr no_one ↦ elim (cases_Bool (suc m % 4 == 2)) [
      | inl two ↦
          let value : t (suc m) ≡ false = told ∙ (rw (no_one, two) refl) in
          rw (no_one, two, value) refl
      | inr no_two ↦ elim (cases_Bool (suc m % 4 == 3)) [
        | inl three ↦
            let value : t (suc m) ≡ false = told ∙ (rw (no_one, no_two, three) refl) in
            rw (no_one, no_two, three, value) refl
        | inr no_three ↦
            let value : t (suc m) ≡ true = told ∙ (rw (no_one, no_two, no_three) refl) in
            rw (no_one, no_two, no_three, value) refl
      ]
    ]
  ]

rows_true : (k i : ℕ) → sat (drill_rows k i) begins_plain ≡ true
rows_true k zero = refl
rows_true k (suc i) =
    list_all-append (sat_clause begins_plain) (drill_rows k i) (drill_row k (suc i))
    ∙ ap₂ (λ x y. x && y) (rows_true k i) (row_true begins_plain k i refl)

pub drills_are_good : DrillsAreGood
drills_are_good k = (map begins_plain (first_variables k), record { model = begins_plain; meets = rows_true k k; projects = refl })
