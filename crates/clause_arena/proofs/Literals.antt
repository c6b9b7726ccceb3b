-- Each literal once: one more literal at the end, and the law.
use Rattle.std.proofs.Common.{◌≡◌, ◌≢◌, ℕ, ◌+◌, ◌<◌, ◌≤◌, Bool, true, false, not, cond, ◌||◌, List, [], ◌∷◌, ◌++◌, length, take, get_or, ℤ, pos, refl, sym, ap, ◌∙◌, inl, inr, arith, append-nil}
use Rattle.std.specs.List.{list_any}
use Rattle.std.specs.Ordering.{int_eq}
use Rattle.std.proofs.lemmas.Bool.{both_ways, or_cases, or_parts, cases_Bool, not-true}
use Rattle.std.proofs.lemmas.Bool.Decides.{Decides-int_eq}
use Rattle.std.proofs.lemmas.List.{take_more}
use Rattle.std.proofs.lemmas.List.Elements.{filter-append, filter_passes, All-weaker}
use Rattle.std.proofs.lemmas.List.Filters.{length-filter_both}
use Rattle.std.proofs.lemmas.List.Kept.{AllPairs-cons, AllPairs-filter}
use Rattle.sat_terms.specs.Cubes.{has_literal}
use Rattle.clause_arena.specs.Once.{without, once, HasEachOnce, KeepsEachOnce}

-- a literal that was not there joins at the end, and one that was does not
pub once-push_new : (c : List ℤ) (l : ℤ) → has_literal c l ≡ false → once (c ++ l ∷ []) ≡ once c ++ l ∷ []
once-push_new [] l h = refl
once-push_new (m ∷ c) l h =
    let (other, absent) = or_parts (int_eq l m) (has_literal c l) h in
    ap (λ d. m ∷ without m d) (once-push_new c l absent)
    ∙ ap (λ d. m ∷ d) (filter-append (λ x. not (int_eq x m)) (once c) (l ∷ []) ∙ ap (λ (b : Bool). without m (once c) ++ cond (not b) (l ∷ []) []) other)

pub once-push_old : (c : List ℤ) (l : ℤ) → has_literal c l ≡ true → once (c ++ l ∷ []) ≡ once c
once-push_old [] l h = cc
once-push_old (m ∷ c) l h =
    elim (cases_Bool (has_literal c l)) [
      | inl there ↦ ap (λ d. m ∷ without m d) (once-push_old c l there)
      | inr absent ↦ elim (or_cases (int_eq l m) (has_literal c l) h) [
        | inl same ↦
            ap (λ d. m ∷ without m d) (once-push_new c l absent)
            ∙ ap (λ d. m ∷ d) (filter-append (λ x. not (int_eq x m)) (once c) (l ∷ []) ∙ ap (λ (b : Bool). without m (once c) ++ cond (not b) (l ∷ []) []) same ∙ append-nil (without m (once c)))
        | inr there ↦ absurd (both_ways (has_literal c l) absent there)
      ]
    ]

pub length-once : (c : List ℤ) → length (once c) ≤ length c
length-once [] = omega arith
length-once (l ∷ c) =
    let parts = length-filter_both (λ m. not (int_eq m l)) (λ m. int_eq m l) (λ m. twice (int_eq m l)) (once c) in
    let rest = length-once c in
    omega arith
  where
    twice : (b : Bool) → b ≡ not (not b)
    twice true = refl
    twice false = refl

has_literal-without : (m l : ℤ) → int_eq l m ≡ false → (c : List ℤ) → has_literal (without m c) l ≡ has_literal c l
has_literal-without m l other [] = refl
has_literal-without m l other (x ∷ c) =
    elim (cases_Bool (int_eq x m)) [
      | inl same ↦
          let e : x ≡ m = (Decides-int_eq x m).0 same in
          ap (λ (b : Bool). list_any (int_eq l) (cond (not b) (x ∷ without m c) (without m c))) same
          ∙ has_literal-without m l other c
          ∙ ap (λ (b : Bool). b || has_literal c l) (sym (ap (int_eq l) e ∙ other))
      | inr differs ↦
          ap (λ (b : Bool). list_any (int_eq l) (cond (not b) (x ∷ without m c) (without m c))) differs
          ∙ ap (λ (b : Bool). int_eq l x || b) (has_literal-without m l other c)
    ]

pub has_literal-once : (c : List ℤ) (l : ℤ) → has_literal (once c) l ≡ has_literal c l
has_literal-once [] l = refl
has_literal-once (m ∷ c) l =
    elim (cases_Bool (int_eq l m)) [
      | inl same ↦ ap (λ (b : Bool). b || has_literal (without m (once c)) l) same ∙ sym (ap (λ (b : Bool). b || has_literal c l) same)
      | inr other ↦ ap (λ (b : Bool). int_eq l m || b) (has_literal-without m l other (once c) ∙ has_literal-once c l)
    ]

pub once-distinct : (c : List ℤ) → HasEachOnce (once c)
once-distinct [] = λ i j d before inside. absurd (omega arith)
once-distinct (m ∷ c) =
    AllPairs-cons (λ l x. l ≢ x) m (without m (once c))
    (All-weaker (λ x. not (int_eq x m) ≡ true) (λ x. m ≢ x) differs (without m (once c)) (filter_passes (λ x. not (int_eq x m)) (once c)))
    (AllPairs-filter (λ l x. l ≢ x) (λ x. not (int_eq x m)) (once c) (once-distinct c))
  where
    differs : (x : ℤ) → not (int_eq x m) ≡ true → m ≢ x
    differs x h same = both_ways (int_eq x m) (not-true (int_eq x m) h) ((Decides-int_eq x m).1 (sym same))

pub keeps_each_once : (c : List ℤ) → KeepsEachOnce c
keeps_each_once c = record { same = has_literal-once c; distinct = once-distinct c }

-- the same at the place of a walk
pub once_more_old : (c : List ℤ) (i : ℕ) → i < length c → has_literal (take i c) (get_or c i (pos 0)) ≡ true → once (take (i + 1) c) ≡ once (take i c)
once_more_old c i inside there = ap once (take_more c i (pos 0) inside) ∙ once-push_old (take i c) (get_or c i (pos 0)) there

pub once_more_new : (c : List ℤ) (i : ℕ) → i < length c → has_literal (take i c) (get_or c i (pos 0)) ≡ false → once (take (i + 1) c) ≡ once (take i c) ++ get_or c i (pos 0) ∷ []
once_more_new c i inside absent = ap once (take_more c i (pos 0) inside) ∙ once-push_new (take i c) (get_or c i (pos 0)) absent
