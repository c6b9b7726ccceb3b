-- Marks that come and go, and their number.
use Rattle.std.proofs.Common.{◌≡◌, ℕ, zero, suc, ◌+◌, ◌<◌, Bool, true, false, cond, not, ◌&&◌, ◌||◌, nat_eq, ℤ, nat_abs, List, [], ◌∷◌, length, get_or, set, take, refl, sym, ap, subst, ◌∙◌, inl, inr, arith}
use Rattle.std.specs.Ordering.{int_eq}
use Rattle.std.proofs.lemmas.Bool.{cases_Bool, or_right, both_ways, eqb-true, eqb-false}
use Rattle.std.proofs.lemmas.List.{get_or-set_same, get_or-set_other}
use Rattle.std.proofs.lemmas.List.Sums.{sum_by-set, sum_by-cons}
use Rattle.std.proofs.lemmas.List.Folds.{list_any_more}
use Rattle.sat_terms.proofs.CubeLemmas.{int_eq-other}
use Rattle.search_region.proofs.Literals.{test_from_same}
use Rattle.conflict_analysis.specs.Marks.{is_marked, mark_count, names_beside}

pub or_none : (a b : Bool) → b ≡ false → (a || b) ≡ a
or_none true b h = refl
or_none false b h = h

or_assoc : (a b c : Bool) → (a || (b || c)) ≡ ((a || b) || c)
or_assoc true b c = refl
or_assoc false b c = refl

-- one mark more or fewer
pub count_mark : (marks : List Bool) (v : ℕ) → v < length marks → is_marked marks v ≡ false → mark_count (set marks v true) ≡ mark_count marks + 1
count_mark marks v inside off =
    let more : mark_count (set marks v true) + 0 ≡ mark_count marks + 1 =
    subst (λ b. mark_count (set marks v true) + cond b 1 0 ≡ mark_count marks + 1) off (sum_by-set (λ (b : Bool). cond b 1 0) marks v true false inside) in
    omega arith

pub count_unmark : (marks : List Bool) (v : ℕ) → v < length marks → is_marked marks v ≡ true → mark_count marks ≡ mark_count (set marks v false) + 1
count_unmark marks v inside on =
    let more : mark_count (set marks v false) + 1 ≡ mark_count marks + 0 =
    subst (λ b. mark_count (set marks v false) + cond b 1 0 ≡ mark_count marks + 0) on (sum_by-set (λ (b : Bool). cond b 1 0) marks v false false inside) in
    omega arith

pub marked_more : (marks : List Bool) (v u : ℕ) → v < length marks → is_marked (set marks v true) u ≡ (is_marked marks u || nat_eq u v)
marked_more marks v u inside =
    elim (cases_Bool (nat_eq u v)) [
      | inl same ↦ ap (λ k. get_or (set marks v true) k false) (eqb-true u v same) ∙ get_or-set_same marks v true false inside ∙ sym (or_right (is_marked marks u) (nat_eq u v) same)
      | inr other ↦ get_or-set_other marks v u true false (eqb-false u v other) ∙ sym (or_none (is_marked marks u) (nat_eq u v) other)
    ]

pub marked_fewer : (marks : List Bool) (v u : ℕ) → v < length marks → is_marked (set marks v false) u ≡ cond (nat_eq u v) false (is_marked marks u)
marked_fewer marks v u inside =
    elim (cases_Bool (nat_eq u v)) [
      | inl same ↦ rw same (ap (λ k. get_or (set marks v false) k false) (eqb-true u v same) ∙ get_or-set_same marks v false false inside)
      | inr other ↦ rw other (get_or-set_other marks v u false false (eqb-false u v other))
    ]

-- where marks are left, there is one
pub some_mark : (marks : List Bool) → 0 < mark_count marks → (v : ℕ) × (is_marked marks v ≡ true)
some_mark [] h = absurd (omega arith)
some_mark (true ∷ marks) h = (0, refl)
some_mark (false ∷ marks) h =
    let count : mark_count (false ∷ marks) ≡ 0 + mark_count marks = sum_by-cons (λ (b : Bool). cond b 1 0) false marks in
    let (v, on) = some_mark marks (omega arith) in
    (suc v, on)

-- a mark counts
pub mark_counts : (marks : List Bool) (v : ℕ) → is_marked marks v ≡ true → 0 < mark_count marks
mark_counts [] v h = absurd (both_ways false refl h)
mark_counts (true ∷ marks) v h = let count : mark_count (true ∷ marks) ≡ 1 + mark_count marks = sum_by-cons (λ (b : Bool). cond b 1 0) true marks in omega arith
mark_counts (false ∷ marks) zero h = absurd (both_ways false refl h)
mark_counts (false ∷ marks) (suc v) h =
    let count : mark_count (false ∷ marks) ≡ 0 + mark_count marks = sum_by-cons (λ (b : Bool). cond b 1 0) false marks in
    let more = mark_counts marks v h in
    omega arith

-- the marks once the variables of some literals of a clause beside l are marked
abbrev pub AreMarked : List Bool → ℤ → List ℤ → List Bool → Type 0
AreMarked old l c marks = (v : ℕ) → is_marked marks v ≡ (is_marked old v || names_beside l c v)

module _ (old : List Bool) (l : ℤ) (c : List ℤ) (i : ℕ) (d : ℤ) (inside : i < length c) (marks : List Bool) (before : AreMarked old l (take i c) marks) where
  -- the literal at this place says that its variable is to be marked
  says : ℕ → Bool
  says v = not (int_eq (get_or c i d) l) && nat_eq v (nat_abs (get_or c i d))

  next : (new : List Bool) → ((v : ℕ) → is_marked new v ≡ (is_marked marks v || (not (int_eq (get_or c i d) l) && nat_eq v (nat_abs (get_or c i d))))) → AreMarked old l (take (i + 1) c) new
  next new h v =
      let x : Bool = not (int_eq (get_or c i d) l) && nat_eq v (nat_abs (get_or c i d)) in
      h v ∙ ap (λ b. b || x) (before v) ∙ sym (or_assoc (is_marked old v) (names_beside l (take i c) v) x)
      ∙ ap (λ b. is_marked old v || b) (sym (list_any_more (λ m. not (int_eq m l) && nat_eq v (nat_abs m)) c i d inside))

  pub marks_skip : get_or c i d ≡ l → AreMarked old l (take (i + 1) c) marks
  marks_skip same = next marks (λ v. sym (or_none (is_marked marks v) (not (int_eq (get_or c i d) l) && nat_eq v (nat_abs (get_or c i d)))
      (ap (λ b. not b && nat_eq v (nat_abs (get_or c i d))) (test_from_same (get_or c i d) l same))))

  pub marks_there : (get_or c i d ≡ l → ⊥) → is_marked marks (nat_abs (get_or c i d)) ≡ true → AreMarked old l (take (i + 1) c) marks
  marks_there other on = next marks (λ v. rw (int_eq-other (get_or c i d) l other) (here v))
    where
      here : (v : ℕ) → is_marked marks v ≡ (is_marked marks v || nat_eq v (nat_abs (get_or c i d)))
      here v = elim (cases_Bool (nat_eq v (nat_abs (get_or c i d)))) [
        | inl same ↦ ap (is_marked marks) (eqb-true v (nat_abs (get_or c i d)) same) ∙ on ∙ sym (or_right (is_marked marks v) (nat_eq v (nat_abs (get_or c i d))) same)
        | inr away ↦ sym (or_none (is_marked marks v) (nat_eq v (nat_abs (get_or c i d))) away)
      ]

  pub marks_new : (get_or c i d ≡ l → ⊥) → nat_abs (get_or c i d) < length marks → AreMarked old l (take (i + 1) c) (set marks (nat_abs (get_or c i d)) true)
  marks_new other within = next (set marks (nat_abs (get_or c i d)) true) (λ v. rw (int_eq-other (get_or c i d) l other) (marked_more marks (nat_abs (get_or c i d)) v within))
