-- One item more is visited.
use Rattle.std.proofs.Common.{◌≡◌, ◌≢◌, ℕ, zero, suc, ◌+◌, ◌-◌, ◌<◌, ◌≤◌, Bool, true, false, cond, not, ◌&&◌, ◌||◌, nat_eq, ℤ, nat_abs, neg_ℤ, List, [], ◌∷◌, ◌++◌, length, get_or, set, take, Some, None, is_none, is_some, refl, sym, ap, subst, ◌∙◌, inl, inr, arith, length-append}
use Rattle.std.specs.List.{list_all, list_any}
use Rattle.std.specs.Ordering.{int_eq}
use Rattle.std.proofs.lemmas.Bool.{cases_Bool, and_parts, and_from, or_cases, or_left, or_right, or_from, both_ways, eqb-true, eq-eqb}
use Rattle.std.proofs.lemmas.List.{take_more}
use Rattle.std.proofs.lemmas.List.Elements.{All-push, Contains-get_or}
use Rattle.std.proofs.lemmas.List.Folds.{list_any-append, list_all-append, list_any_at}
use Rattle.std.proofs.lemmas.List.Quantifiers.{all_pairs_push}
use Rattle.sat_terms.specs.Literals.{IsLiteralOf, lit_true}
use Rattle.sat_terms.specs.Truth.{sat, sat_clause}
use Rattle.sat_terms.proofs.CubeLemmas.{nat_abs-neg, int_eq-same}
use Rattle.sat_terms.proofs.Disjoint.{lit_true-neg}
use Rattle.chrono_trail.specs.declared.item.Item.{Item}
use Rattle.chrono_trail.specs.Items.{item_of, reason_id}
use Rattle.conflict_analysis.specs.Lemmas.{negates_branch}
use Rattle.conflict_analysis.specs.Marks.{is_marked, mark_count, names_beside}
use Rattle.conflict_analysis.specs.Walks.{IsWalkable, IsWalk, is_amiss, stands_before, has_variable}
use Rattle.conflict_analysis.proofs.Counts.{count_unmark, marked_fewer, AreMarked}
use Rattle.conflict_analysis.proofs.Places.{none_before, reason_at, within_at, reason_false, some_more, some_fewer, some_here}
use Rattle.conflict_analysis.proofs.Amiss.{not_true, clause_amiss, amiss_kept, named_some, named_held}

-- what holds of all clauses holds of the one at a place
pub clause_at : (t : ℕ → Bool) (clauses : List (List ℤ)) (r : ℕ) → r < length clauses → sat clauses t ≡ true → sat_clause t (get_or clauses r []) ≡ true
clause_at t [] r h s = absurd (omega arith)
clause_at t (c ∷ clauses) zero h s = (and_parts (sat_clause t c) (sat clauses t) s).0
clause_at t (c ∷ clauses) (suc r) h s = clause_at t clauses r (omega arith) (and_parts (sat_clause t c) (sat clauses t) s).1

-- a literal's variable is one of the clause
variable_at : (c : List ℤ) (k : ℕ) (d : ℤ) → k < length c → has_variable c (nat_abs (get_or c k d)) ≡ true
variable_at c k d h = list_any_at (λ l. nat_eq (nat_abs (get_or c k d)) (nat_abs l)) c k d h (eq-eqb (nat_abs (get_or c k d)) (nat_abs (get_or c k d)) refl)

all_push : {X : Type 0} (p : X → Bool) (xs : List X) (x : X) → list_all p xs ≡ true → p x ≡ true → list_all p (xs ++ x ∷ []) ≡ true
all_push p xs x h here = list_all-append p xs (x ∷ []) ∙ and_from (list_all p xs) (p x && true) h (and_from (p x) true here refl)

module _ (clauses : List (List ℤ)) (n : ℕ) (items : List Item) (level id at : ℕ) (w : IsWalkable clauses n items level) (marks : List Bool) (lits : List ℤ) (left : ℕ) (h : IsWalk clauses n items id (at + 1) marks lits left) (d : Item) where
  inside : at < length items
  inside = let within = h.inside in omega arith

  grown : take (at + 1) items ≡ take at items ++ get_or items at d ∷ []
  grown = take_more items at d inside

  free : item_of (take at items) (nat_abs (get_or items at d).lit) ≡ None
  free = none_before items at d inside w.trail.distinct

  pub named_here : IsLiteralOf n (get_or items at d).lit
  named_here = within_at n items at d inside w.trail.within

  before_more : (u : ℕ) → stands_before items at u ≡ true → stands_before items (at + 1) u ≡ true
  before_more u b = subst (λ xs. is_some (item_of xs u) ≡ true) (sym grown) (some_more (take at items) (get_or items at d) u free b)

  before_fewer : (u : ℕ) → nat_eq u (nat_abs (get_or items at d).lit) ≡ false → stands_before items (at + 1) u ≡ true → stands_before items at u ≡ true
  before_fewer u other b = some_fewer (take at items) (get_or items at d) u free other (subst (λ xs. is_some (item_of xs u) ≡ true) grown b)

  before_here : stands_before items (at + 1) (nat_abs (get_or items at d).lit) ≡ true
  before_here = subst (λ xs. is_some (item_of xs (nat_abs (get_or items at d).lit)) ≡ true) (sym grown) (some_here (take at items) (get_or items at d) free)

  -- a literal written down is true still, or a marked item false, where one is if this item is
  explained : (t : ℕ → Bool) (new_lits : List ℤ) (new : ℕ → Bool) → sat clauses t ≡ true →
      (sat_clause t lits ≡ true → sat_clause t new_lits ≡ true) →
      ((u : ℕ) → nat_eq u (nat_abs (get_or items at d).lit) ≡ false → is_marked marks u ≡ true → new u ≡ true) →
      (is_marked marks (nat_abs (get_or items at d).lit) ≡ true → lit_true t (get_or items at d).lit ≡ false → (sat_clause t new_lits || is_amiss t new (take at items)) ≡ true) →
      (sat_clause t new_lits || is_amiss t new (take at items)) ≡ true
  explained t new_lits new s more keep this =
      let p : Item → Bool = λ i. is_marked marks (nat_abs i.lit) && not (lit_true t i.lit) in
      elim (or_cases (sat_clause t lits) (is_amiss t (is_marked marks) (take (at + 1) items)) (h.explains t s)) [
        | inl on ↦ or_left (sat_clause t new_lits) (is_amiss t new (take at items)) (more on)
        | inr amiss ↦
            let parts : (list_any p (take at items) || (p (get_or items at d) || false)) ≡ true = sym (list_any-append p (take at items) (get_or items at d ∷ [])) ∙ ap (list_any p) (sym grown) ∙ amiss in
            elim (or_cases (list_any p (take at items)) (p (get_or items at d) || false) parts) [
              | inl old ↦ or_right (sat_clause t new_lits) (is_amiss t new (take at items)) (amiss_kept t (is_marked marks) new (nat_abs (get_or items at d).lit) (take at items) free keep old)
              | inr last ↦ elim (or_cases (p (get_or items at d)) false last) [
                | inl it ↦
                    let (mark, off) = and_parts (is_marked marks (nat_abs (get_or items at d).lit)) (not (lit_true t (get_or items at d).lit)) it in
                    this mark (not_true (lit_true t (get_or items at d).lit) off)
                | inr none ↦ absurd (both_ways false refl none)
              ]
            ]
      ]

  -- an item whose variable is not marked is passed over
  pub skips : is_marked marks (nat_abs (get_or items at d).lit) ≡ false → IsWalk clauses n items id at marks lits left
  skips off = record {
    inside = omega (arith, inside);
    counted = h.counted;
    room = let room = h.room in omega arith;
    placed = λ u mark. before_fewer u (elim (cases_Bool (nat_eq u (nat_abs (get_or items at d).lit))) [
      | inl same ↦ absurd (both_ways (is_marked marks u) (ap (is_marked marks) (eqb-true u (nat_abs (get_or items at d).lit) same) ∙ off) mark)
      | inr other ↦ other
    ]) (h.placed u mark);
    apart = λ u b. h.apart u (before_more u b);
    explains = λ t s. explained t lits (is_marked marks) s (λ on. on) (λ u other mark. mark) (λ mark wrong. absurd (both_ways (is_marked marks (nat_abs (get_or items at d).lit)) off mark));
    named = h.named;
    distinct = h.distinct;
    negated = h.negated;
    traced = h.traced;
    reached = h.reached;
  }

  -- the mark of the item goes
  module _ (long : length marks ≡ n + 1) (on : is_marked marks (nat_abs (get_or items at d).lit) ≡ true) where
    pub within : nat_abs (get_or items at d).lit < length marks
    within = let low = named_here.1 in omega (arith, low, long)

    fewer : (u : ℕ) → is_marked (set marks (nat_abs (get_or items at d).lit) false) u ≡ cond (nat_eq u (nat_abs (get_or items at d).lit)) false (is_marked marks u)
    fewer u = marked_fewer marks (nat_abs (get_or items at d).lit) u within

    -- what is still marked was so, and is of another variable
    still : (u : ℕ) → is_marked (set marks (nat_abs (get_or items at d).lit) false) u ≡ true → (nat_eq u (nat_abs (get_or items at d).lit) ≡ false) × (is_marked marks u ≡ true)
    still u mark = elim (cases_Bool (nat_eq u (nat_abs (get_or items at d).lit))) [
      | inl same ↦ absurd (both_ways (is_marked (set marks (nat_abs (get_or items at d).lit) false) u) (fewer u ∙ rw same refl) mark)
      | inr other ↦ (other, sym (fewer u ∙ rw other refl) ∙ mark)
    ]

    kept : (u : ℕ) → nat_eq u (nat_abs (get_or items at d).lit) ≡ false → is_marked marks u ≡ true → is_marked (set marks (nat_abs (get_or items at d).lit) false) u ≡ true
    kept u other mark = fewer u ∙ rw other mark

    pub fewer_left : left - 1 ≡ mark_count (set marks (nat_abs (get_or items at d).lit) false)
    fewer_left =
        let count = count_unmark marks (nat_abs (get_or items at d).lit) within on in
        let counted = h.counted in
        omega arith

    -- the other literals of its reason are marked in its place
    pub resolves : (r : ℕ) (new : List Bool) (rest : ℕ) → reason_id (get_or items at d).kind ≡ Some r →
        AreMarked (set marks (nat_abs (get_or items at d).lit) false) (get_or items at d).lit (get_or clauses r []) new →
        rest ≡ mark_count new → IsWalk clauses n items id at new lits rest
    resolves r new rest stands marked count =
        let at_reason = reason_at clauses [] items at d inside w.reasoned r stands in
        let wrong = reason_false (take at items) (get_or items at d) (get_or clauses r []) at_reason.reason in
        let clause_named = w.named r [] at_reason.inside in
        record {
          inside = omega (arith, inside);
          counted = count;
          room = let room = h.room in omega arith;
          placed = λ u mark. elim (or_cases (is_marked (set marks (nat_abs (get_or items at d).lit) false) u) (names_beside (get_or items at d).lit (get_or clauses r []) u) (sym (marked u) ∙ mark)) [
            | inl old ↦ let (other, was) = still u old in before_fewer u other (h.placed u was)
            | inr says ↦ named_some (take at items) (get_or items at d).lit (get_or clauses r []) u wrong says
          ];
          apart = λ u b. h.apart u (before_more u b);
          explains = λ t s. explained t lits (is_marked new) s (λ yes_on. yes_on)
              (λ u other mark. marked u ∙ or_left (is_marked (set marks (nat_abs (get_or items at d).lit) false) u) (names_beside (get_or items at d).lit (get_or clauses r []) u) (kept u other mark))
              (λ mark off. or_right (sat_clause t lits) (is_amiss t (is_marked new) (take at items))
              (clause_amiss t (is_marked new) (take at items) (get_or items at d).lit n (get_or clauses r []) clause_named
              (λ m above true_here same. both_ways (lit_true t m) (ap (lit_true t) same ∙ off) true_here)
              wrong
              (λ u says. marked u ∙ or_right (is_marked (set marks (nat_abs (get_or items at d).lit) false) u) (names_beside (get_or items at d).lit (get_or clauses r []) u) says)
              (clause_at t clauses r at_reason.inside s)));
          named = h.named;
          distinct = h.distinct;
          negated = h.negated;
          traced = λ s trace u mark. elim (or_cases (is_marked (set marks (nat_abs (get_or items at d).lit) false) u) (names_beside (get_or items at d).lit (get_or clauses r []) u) (sym (marked u) ∙ mark)) [
            | inl old ↦ h.traced s trace u (still u old).1
            | inr says ↦ named_held s (get_or items at d).lit (get_or clauses r []) u
                (trace.back (get_or items at d) r (Contains-get_or items at d inside) stands (h.traced s trace (nat_abs (get_or items at d).lit) on)) says
          ];
          reached = h.reached;
        }

    -- the negation of an item without one is written down
    pub writes : reason_id (get_or items at d).kind ≡ None →
        IsWalk clauses n items id at (set marks (nat_abs (get_or items at d).lit) false) (lits ++ neg_ℤ (get_or items at d).lit ∷ []) (left - 1)
    writes stands = record {
      inside = omega (arith, inside);
      counted = fewer_left;
      room = let room = h.room in omega (arith, length-append lits (neg_ℤ (get_or items at d).lit ∷ []));
      placed = λ u mark. let (other, was) = still u mark in before_fewer u other (h.placed u was);
      apart = λ u b. list_any-append (λ l. nat_eq u (nat_abs l)) lits (neg_ℤ (get_or items at d).lit ∷ [])
          ∙ or_from (has_variable lits u) (nat_eq u (nat_abs (neg_ℤ (get_or items at d).lit)) || false) (h.apart u (before_more u b))
          (or_from (nat_eq u (nat_abs (neg_ℤ (get_or items at d).lit))) false (elsewhere u b) refl);
      explains = λ t s. explained t (lits ++ neg_ℤ (get_or items at d).lit ∷ []) (is_marked (set marks (nat_abs (get_or items at d).lit) false)) s
          (λ true_before. list_any-append (lit_true t) lits (neg_ℤ (get_or items at d).lit ∷ []) ∙ or_left (sat_clause t lits) (lit_true t (neg_ℤ (get_or items at d).lit) || false) true_before)
          kept
          (λ mark off. or_left (sat_clause t (lits ++ neg_ℤ (get_or items at d).lit ∷ [])) (is_amiss t (is_marked (set marks (nat_abs (get_or items at d).lit) false)) (take at items))
          (list_any-append (lit_true t) lits (neg_ℤ (get_or items at d).lit ∷ [])
          ∙ or_right (sat_clause t lits) (lit_true t (neg_ℤ (get_or items at d).lit) || false)
          (or_left (lit_true t (neg_ℤ (get_or items at d).lit)) false (lit_true-neg t (get_or items at d).lit named_here.0 ∙ ap not off))));
      named = All-push (IsLiteralOf n) lits (neg_ℤ (get_or items at d).lit) h.named (subst (λ k. (0 < k) × (k ≤ n)) (sym (nat_abs-neg (get_or items at d).lit)) named_here);
      distinct = all_pairs_push (λ l m. nat_abs l ≢ nat_abs m) lits (neg_ℤ (get_or items at d).lit) h.distinct
          (λ k e below same. both_ways (has_variable lits (nat_abs (get_or lits k e)))
          (ap (has_variable lits) (same ∙ nat_abs-neg (get_or items at d).lit) ∙ h.apart (nat_abs (get_or items at d).lit) before_here)
          (variable_at lits k e below));
      negated = all_push (negates_branch items) lits (neg_ℤ (get_or items at d).lit) h.negated
          (list_any_at (λ i. int_eq (neg_ℤ (get_or items at d).lit) (neg_ℤ i.lit) && is_none (reason_id i.kind)) items at d inside
          (and_from (int_eq (neg_ℤ (get_or items at d).lit) (neg_ℤ (get_or items at d).lit)) (is_none (reason_id (get_or items at d).kind)) (int_eq-same (neg_ℤ (get_or items at d).lit)) (ap is_none stands)));
      traced = λ s trace u mark. h.traced s trace u (still u mark).1;
      reached = λ s trace. all_push (λ l. s (nat_abs l)) lits (neg_ℤ (get_or items at d).lit) (h.reached s trace)
          (ap s (nat_abs-neg (get_or items at d).lit) ∙ h.traced s trace (nat_abs (get_or items at d).lit) on);
    }
      where
        elsewhere : (u : ℕ) → stands_before items at u ≡ true → nat_eq u (nat_abs (neg_ℤ (get_or items at d).lit)) ≡ false
        elsewhere u b = elim (cases_Bool (nat_eq u (nat_abs (neg_ℤ (get_or items at d).lit)))) [
          | inl same ↦
              let equal : u ≡ nat_abs (get_or items at d).lit = eqb-true u (nat_abs (neg_ℤ (get_or items at d).lit)) same ∙ nat_abs-neg (get_or items at d).lit in
              absurd (both_ways (stands_before items at u) (ap is_some (ap (item_of (take at items)) equal ∙ free)) b)
          | inr other ↦ other
        ]
