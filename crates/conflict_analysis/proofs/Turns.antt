-- The literals in the order in which they are to be watched.
use Rattle.std.proofs.Common.{◌≡◌, ◌≢◌, ℕ, ◌+◌, ◌-◌, ◌<◌, ◌≤◌, true, ℤ, nat_abs, List, ◌++◌, length, get_or, take, drop, reverse, sym, ap, subst, ◌∙◌, inl, inr, arith, length-append, length-drop}
use Rattle.std.specs.List.{AllPairs}
use Rattle.std.specs.List.Sorted.{IsPermutation}
use Rattle.std.proofs.lemmas.Bool.{cases_lt}
use Rattle.std.proofs.lemmas.List.{get_or-take, get_or-drop, get_or-reverse, length-reverse, length-take, take-append-drop, get_or_append_left, get_or-append_right}
use Rattle.std.proofs.lemmas.List.Sorted.{IsPermutation-append, IsPermutation-refl, IsPermutation-reverse, All-permutation, list_any-IsPermutation}
use Rattle.sat_terms.specs.Literals.{IsLiteralOf, lit_true}
use Rattle.chrono_trail.specs.declared.item.Item.{Item}
use Rattle.conflict_analysis.specs.Lemmas.{IsResolvent, IsReached, negates_branch}
use Rattle.conflict_analysis.specs.Walks.{turned_round}

module _ {X : Type 0} (m : ℕ) (xs : List X) where
  long : length (take m xs ++ reverse (drop m xs)) ≡ length xs
  long =
      let both = length-append (take m xs) (reverse (drop m xs)) in
      let back = length-reverse (drop m xs) in
      let front = length-take m xs in
      let rest = length-drop m xs in
      omega arith

  pub permutes : IsPermutation xs (take m xs ++ reverse (drop m xs))
  permutes = subst (λ ys. IsPermutation ys (take m xs ++ reverse (drop m xs))) (take-append-drop m xs)
      (IsPermutation-append (take m xs) (take m xs) (drop m xs) (reverse (drop m xs)) (IsPermutation-refl (take m xs)) (IsPermutation-reverse (drop m xs)))

  front_at : (k : ℕ) (d : X) → k < m → k < length xs → get_or (take m xs ++ reverse (drop m xs)) k d ≡ get_or xs k d
  front_at k d low inside =
      let short = length-take m xs in
      get_or_append_left (take m xs) (reverse (drop m xs)) d k (omega arith) ∙ get_or-take m xs k d low

  back_at : (k : ℕ) (d : X) → m ≤ k → k < length xs → get_or (take m xs ++ reverse (drop m xs)) k d ≡ get_or xs (length xs + m - 1 - k) d
  back_at k d high inside =
      let short = length-take m xs in
      let front : length (take m xs) ≡ m = omega arith in
      let rest = length-drop m xs in
      let place : m + (length (drop m xs) - 1 - (k - m)) ≡ length xs + m - 1 - k = omega arith in
      get_or-append_right (take m xs) (reverse (drop m xs)) m k d front high
      ∙ get_or-reverse (drop m xs) (k - m) d (omega arith)
      ∙ get_or-drop m xs (length (drop m xs) - 1 - (k - m)) d
      ∙ ap (λ i. get_or xs i d) place

  pub pairs_turned : (R : X → X → Type 0) → ((x y : X) → R x y → R y x) → AllPairs R xs → AllPairs R (take m xs ++ reverse (drop m xs))
  pairs_turned R turns h i j d below short =
      let inside : j < length xs = (let same = long in omega arith) in
      elim (cases_lt j m) [
        | inl front ↦ subst (λ x. R x (get_or (take m xs ++ reverse (drop m xs)) j d)) (sym (front_at i d (omega arith) (omega arith)))
            (subst (R (get_or xs i d)) (sym (front_at j d front inside)) (h i j d below inside))
        | inr back ↦ elim (cases_lt i m) [
          | inl front ↦ subst (λ x. R x (get_or (take m xs ++ reverse (drop m xs)) j d)) (sym (front_at i d front (omega arith)))
              (subst (R (get_or xs i d)) (sym (back_at j d back inside)) (h i (length xs + m - 1 - j) d (omega arith) (omega arith)))
          | inr both ↦ subst (λ x. R x (get_or (take m xs ++ reverse (drop m xs)) j d)) (sym (back_at i d both (omega arith)))
              (subst (R (get_or xs (length xs + m - 1 - i) d)) (sym (back_at j d back inside))
              (turns (get_or xs (length xs + m - 1 - j) d) (get_or xs (length xs + m - 1 - i) d) (h (length xs + m - 1 - j) (length xs + m - 1 - i) d (omega arith) (omega arith))))
        ]
      ]

pub resolvent_turned : (clauses : List (List ℤ)) (n : ℕ) (items : List Item) (id : ℕ) (lits : List ℤ) → IsResolvent clauses n items id lits → IsResolvent clauses n items id (turned_round lits)
resolvent_turned clauses n items id lits h =
    let moved : IsPermutation lits (turned_round lits) = permutes 2 lits in
    record {
      follows = λ t s. sym (list_any-IsPermutation (lit_true t) lits (turned_round lits) moved) ∙ h.follows t s;
      named = All-permutation (IsLiteralOf n) lits (turned_round lits) moved h.named;
      distinct = pairs_turned 2 lits (λ l m. nat_abs l ≢ nat_abs m) (λ l m apart same. apart (sym same)) h.distinct;
      negated = All-permutation (λ l. negates_branch items l ≡ true) lits (turned_round lits) moved h.negated;
      reached = All-permutation (λ l. IsReached clauses items id (nat_abs l)) lits (turned_round lits) moved h.reached;
    }
