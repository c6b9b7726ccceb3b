-- The walk begins with the false clause, and ends with no mark.
use Rattle.std.proofs.Common.{◌≡◌, ℕ, zero, suc, ◌<◌, Bool, true, false, ◌||◌, ℤ, pos, nat_abs, List, [], ◌∷◌, length, get_or, take, is_some, refl, sym, ap, subst, ◌∙◌, inl, inr, arith}
use Rattle.std.specs.List.{list_all}
use Rattle.std.specs.Ordering.{int_eq}
use Rattle.std.proofs.lemmas.Bool.{cases_Bool, and_parts, or_cases, or_right, both_ways}
use Rattle.std.proofs.lemmas.List.Elements.{All-nil}
use Rattle.sat_terms.specs.Literals.{IsLiteralOf}
use Rattle.sat_terms.specs.Truth.{sat_clause}
use Rattle.search_region.proofs.Literals.{all_weaker}
use Rattle.chrono_trail.specs.declared.item.Item.{Item}
use Rattle.chrono_trail.specs.Items.{item_of}
use Rattle.chrono_trail.specs.Clauses.{is_false, is_false_clause}
use Rattle.std.proofs.Math.Seq.{take-length}
use Rattle.conflict_analysis.specs.Lemmas.{IsResolvent, negates_branch}
use Rattle.conflict_analysis.specs.Marks.{is_marked, mark_count, names_beside}
use Rattle.conflict_analysis.specs.Walks.{IsWalkable, IsWalk, is_amiss}
use Rattle.conflict_analysis.proofs.Counts.{AreMarked, some_mark, mark_counts}
use Rattle.conflict_analysis.proofs.Amiss.{clause_amiss, none_amiss, named_some, named_held}
use Rattle.conflict_analysis.proofs.Visits.{clause_at}

-- what holds of all literals holds of the one at a place
all_at : (p : ℤ → Bool) (c : List ℤ) (k : ℕ) (d : ℤ) → k < length c → list_all p c ≡ true → p (get_or c k d) ≡ true
all_at p [] k d h e = absurd (omega arith)
all_at p (m ∷ c) zero d h e = (and_parts (p m) (list_all p c) e).0
all_at p (m ∷ c) (suc k) d h e = all_at p c k d (omega arith) (and_parts (p m) (list_all p c) e).1

-- without marks no variable is marked
none_marked : (marks : List Bool) → mark_count marks ≡ 0 → (v : ℕ) → is_marked marks v ≡ false
none_marked marks clean v =
    elim (cases_Bool (is_marked marks v)) [
      | inl on ↦ let some = mark_counts marks v on in absurd (omega arith)
      | inr off ↦ off
    ]

pub begins : (clauses : List (List ℤ)) (n : ℕ) (items : List Item) (level id : ℕ) (old marks : List Bool) (left : ℕ) → IsWalkable clauses n items level →
    id < length clauses → is_false_clause items (get_or clauses id []) ≡ true → mark_count old ≡ 0 →
    AreMarked old (pos 0) (get_or clauses id []) marks → left ≡ mark_count marks →
    IsWalk clauses n items id (length items) marks [] left
begins clauses n items level id old marks left w inside wrong clean marked count = record {
  inside = omega arith;
  counted = count;
  room = omega arith;
  placed = λ v mark. subst (λ xs. is_some (item_of xs v) ≡ true) (sym (take-length items)) (named_some items (pos 0) (get_or clauses id []) v all_wrong (says v mark));
  apart = λ v b. refl;
  explains = λ t s. subst (λ xs. is_amiss t (is_marked marks) xs ≡ true) (sym (take-length items))
      (clause_amiss t (is_marked marks) items (pos 0) n (get_or clauses id []) (w.named id [] inside)
      (λ m above on same. let zero_is : nat_abs m ≡ 0 = ap nat_abs same in absurd (omega arith))
      all_wrong (λ v named. marked v ∙ or_right (is_marked old v) (names_beside (pos 0) (get_or clauses id []) v) named)
      (clause_at t clauses id inside s));
  named = All-nil (IsLiteralOf n);
  distinct = λ i j d below short. absurd (omega arith);
  negated = refl;
  traced = λ s trace v mark. named_held s (pos 0) (get_or clauses id []) v trace.start (says v mark);
  reached = λ s trace. refl;
}
  where
    all_wrong : list_all (λ m. int_eq m (pos 0) || is_false items m) (get_or clauses id []) ≡ true
    all_wrong = all_weaker (is_false items) (λ m. int_eq m (pos 0) || is_false items m) (λ m e. or_right (int_eq m (pos 0)) (is_false items m) e) (get_or clauses id []) wrong

    says : (v : ℕ) → is_marked marks v ≡ true → names_beside (pos 0) (get_or clauses id []) v ≡ true
    says v mark = elim (or_cases (is_marked old v) (names_beside (pos 0) (get_or clauses id []) v) (sym (marked v) ∙ mark)) [
      | inl was ↦ absurd (both_ways (is_marked old v) (none_marked old clean v) was)
      | inr named ↦ named
    ]

-- while a mark is left, so is an item
pub some_left : (clauses : List (List ℤ)) (n : ℕ) (items : List Item) (id at : ℕ) (marks : List Bool) (lits : List ℤ) (left : ℕ) → IsWalk clauses n items id at marks lits left → 0 < left → 0 < at
some_left clauses n items id zero marks lits left h more =
    let counted = h.counted in
    let (v, on) = some_mark marks (omega arith) in
    absurd (both_ways false refl (h.placed v on))
some_left clauses n items id (suc at) marks lits left h more = omega arith

-- with none left, the literals written down are the clause
pub ends : (clauses : List (List ℤ)) (n : ℕ) (items : List Item) (id at : ℕ) (marks : List Bool) (lits : List ℤ) (left : ℕ) → IsWalk clauses n items id at marks lits left → left ≡ 0 →
    (mark_count marks ≡ 0) × IsResolvent clauses n items id lits
ends clauses n items id at marks lits left h none =
    let clean : mark_count marks ≡ 0 = sym h.counted ∙ none in (
      clean,
      record {
        follows = λ t s. elim (or_cases (sat_clause t lits) (is_amiss t (is_marked marks) (take at items)) (h.explains t s)) [
          | inl on ↦ on
          | inr amiss ↦ absurd (none_amiss t (is_marked marks) (take at items) (none_marked marks clean) amiss)
        ];
        named = h.named;
        distinct = h.distinct;
        negated = λ k d below. all_at (negates_branch items) lits k d below h.negated;
        reached = λ k d below s trace. all_at (λ l. s (nat_abs l)) lits k d below (h.reached s trace);
      },
    )
