-- The drill of a size: a formula made from a number, of which it is known what all models share.
use Rattle.std.specs.Prelude.{ℕ, zero, suc, ◌+◌, ◌%◌, ◌≤◌, Bool, cond, ◌==◌, nat_lt, List, [], ◌∷◌, ◌++◌, ℤ, pos, neg_ℤ}
use Rattle.sat_terms.specs.Assignments.{IsGood}
use Rattle.sat_terms.specs.Subjects.{IsSubject}
use Rattle.sat_terms.specs.declared.subject.Subject.{Subject}

-- The clauses of the row i, for the size k. The rows 3 modulo 4 make their variable false, and the
-- rows 0 modulo 4 true. Of the variables of a row 1 modulo 4 and of the row behind it one is true;
-- the rows 2 modulo 4 leave theirs free.
abbrev pub drill_row : ℕ → ℕ → List (List ℤ)
drill_row k i =
    cond (i % 4 == 1) (cond (nat_lt i k) ((pos i ∷ pos (i + 1) ∷ []) ∷ []) [])
    (cond (i % 4 == 2) ((neg_ℤ (pos i) ∷ pos (k + i) ∷ []) ∷ [])
    (cond (i % 4 == 3)
    ((neg_ℤ (pos i) ∷ pos (k + i) ∷ []) ∷ (neg_ℤ (pos i) ∷ neg_ℤ (pos (k + i)) ∷ []) ∷ [])
    ((pos i ∷ pos (k + i) ∷ []) ∷ (pos i ∷ neg_ℤ (pos (k + i)) ∷ []) ∷ [])))

-- The rows 1 to i.
abbrev pub drill_rows : ℕ → ℕ → List (List ℤ)
drill_rows k zero = []
drill_rows k (suc i) = drill_rows k i ++ drill_row k (suc i)

-- The variables 1 to i.
abbrev pub first_variables : ℕ → List ℕ
first_variables zero = []
first_variables (suc i) = first_variables i ++ suc i ∷ []

-- The drill: its rows, of which the variables 1 to the size are shown.
abbrev pub drill : ℕ → Subject
drill k = record {
  formula = record { variables = k + k; clauses = drill_rows k k };
  shown = first_variables k;
  under = [];
}

-- The drill of each size has a good assignment.
abbrev pub DrillsAreGood : Type 0
DrillsAreGood =
    (k : ℕ) → (a : List Bool) × IsGood (drill k).formula.clauses (drill k).shown a

-- Up to the size 48 it is a formula as every search takes it.
abbrev pub DrillsAreSubjects : Type 0
DrillsAreSubjects =
    (k : ℕ) → k ≤ 48 → let s = drill k in
    IsSubject s.formula.variables s.formula.clauses s.shown s.under
