-- Each variable of the show lines is kept once, so there are few of them.
use Rattle.std.proofs.Common.{◌≡◌, ℕ, ◌+◌, ◌<◌, ◌≤◌, Bool, true, false, cond, ◌||◌, inl, inr, eqb, List, [], ◌∷◌, ◌++◌, map, length, refl, sym, subst, ap, ◌∙◌, arith}
use Rattle.std.specs.List.{list_any, IsDistinct}
use Rattle.std.proofs.Math.Bool.{or-false}
use Rattle.std.proofs.lemmas.Bool.{eqb-true, ne_eqb, or_cases, or_from}
use Rattle.std.proofs.lemmas.Cmp.{nat_eq_equiv}
use Rattle.std.proofs.lemmas.List.{map-append, length-map}
use Rattle.std.proofs.lemmas.List.Folds.{list_any-append}
use Rattle.std.proofs.lemmas.Map.Keys.{IsDistinct-push}
use Rattle.std.proofs.lemmas.Map.Steps.{length-le_from_distinct_below}
use Rattle.dimacs_front.specs.declared.show_lines.Named.{Named}
use Rattle.dimacs_front.specs.Limits.{most_variables}
use Rattle.dimacs_front.specs.Machine.{is_named, name_once}

-- 0, which no show line names, and the variables in their order
abbrev pub numbers : List Named → List ℕ
numbers ms = 0 ∷ map (λ m. m.variable) ms

-- no two are of one variable, and all are within the limit
pub record AreFew (ms : List Named) : Type 0 where
  pub distinct : IsDistinct eqb (numbers ms)
  pub within : (v : ℕ) → list_any (eqb v) (numbers ms) ≡ true → v < most_variables + 1

same_number : (v w : ℕ) → (eqb v w || false) ≡ true → v ≡ w
same_number v w h = eqb-true v w (sym (or-false (eqb v w)) ∙ h)

pub none_few : AreFew []
unfolding IsDistinct
none_few = record { distinct = (tt, tt); within = λ v h. omega (arith, same_number v 0 h) }

numbers_named : (ms : List Named) (v : ℕ) →
    list_any (eqb v) (map (λ (m : Named). m.variable) ms) ≡ is_named ms v
numbers_named [] v = refl
numbers_named (m ∷ ms) v =
    let rest : Bool = list_any (eqb v) (map (λ (k : Named). k.variable) ms) in
    ap (λ b. b || rest) (nat_eq_equiv.symm v m.variable)
    ∙ ap (λ b. eqb m.variable v || b) (numbers_named ms v)

number_pushed : (ms : List Named) (m : Named) →
    numbers (ms ++ m ∷ []) ≡ numbers ms ++ m.variable ∷ []
number_pushed ms m =
    ap (λ (vs : List ℕ). 0 ∷ vs) (map-append (λ (k : Named). k.variable) ms (m ∷ []))

below_pushed : (vs : List ℕ) (w n : ℕ) → w < n → ((v : ℕ) → list_any (eqb v) vs ≡ true → v < n) →
    (v : ℕ) → list_any (eqb v) (vs ++ w ∷ []) ≡ true → v < n
below_pushed vs w n lt h v e =
    let parts : (list_any (eqb v) vs || (eqb v w || false)) ≡ true = sym (list_any-append (eqb v) vs (w ∷ [])) ∙ e in
    elim (or_cases (list_any (eqb v) vs) (eqb v w || false) parts) [
      | inl old ↦ h v old
      | inr new ↦ omega (arith, same_number v w new)
    ]

push_few : (ms : List Named) (m : Named) → (m.variable ≡ 0 → ⊥) → m.variable ≤ most_variables →
    is_named ms m.variable ≡ false → AreFew ms → AreFew (ms ++ m ∷ [])
push_few ms m some le new h =
    let v : ℕ = m.variable in
    let pushed : numbers (ms ++ m ∷ []) ≡ numbers ms ++ v ∷ [] = number_pushed ms m in
    let apart : list_any (eqb v) (numbers ms) ≡ false =
    or_from (eqb v 0) _ (ne_eqb v 0 some) (numbers_named ms v ∙ new) in
    let distinct : IsDistinct eqb (numbers ms ++ v ∷ []) =
    IsDistinct-push nat_eq_equiv (numbers ms) v h.distinct apart in
    record {
      distinct = subst (IsDistinct eqb) (sym pushed) distinct;
      within = λ w e. below_pushed (numbers ms) v (most_variables + 1) (omega arith) h.within w
          (ap (list_any (eqb w)) (sym pushed) ∙ e);
    }

once_few-at : (q : Bool) (ms : List Named) (m : Named) → is_named ms m.variable ≡ q →
    (m.variable ≡ 0 → ⊥) → m.variable ≤ most_variables → AreFew ms →
    AreFew (cond q ms (ms ++ m ∷ []))
once_few-at true ms m e some le h = h
once_few-at false ms m e some le h = push_few ms m some le e h

pub once_few : (ms : List Named) (m : Named) → (m.variable ≡ 0 → ⊥) → m.variable ≤ most_variables →
    AreFew ms → AreFew (name_once ms m)
once_few ms m some le h = once_few-at (is_named ms m.variable) ms m refl some le h

pub few_length : (ms : List Named) → AreFew ms → length ms ≤ most_variables
few_length ms h =
    let le : length (numbers ms) ≤ most_variables + 1 =
    length-le_from_distinct_below (numbers ms) (most_variables + 1) h.distinct h.within in
    omega (arith, le, length-map ms (λ (m : Named). m.variable))
