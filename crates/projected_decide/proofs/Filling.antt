-- The tables of an order, as they are filled.
use Rattle.std.proofs.Common.{◌≡◌, ℕ, suc, ◌+◌, ◌<◌, ◌≤◌, true, false, not, List, [], ◌∷◌, ◌++◌, length, filter, refl, sym, ap, ◌∙◌, append_assoc, append-nil, arith, length-append}
use Rattle.std.specs.List.{All, range_with_len}
use Rattle.std.proofs.lemmas.List.Elements.{filter-append, All-append, All-weaker, All-filter}
use Rattle.std.proofs.lemmas.List.FromFn.{get_or-range_with_len, length-range_with_len}
use Rattle.std.proofs.lemmas.List.Sums.{length-filter, count_by-le-length}
use Rattle.std.proofs.lemmas.Map.Keys.{sorted_from_strictly_increasing}
use Rattle.std.proofs.lemmas.Map.Views.{length-le_from_below}
use Rattle.sat_terms.specs.Subjects.{IsShown}
use Rattle.sat_terms.specs.Cubes.{is_among}
use Rattle.projected_decide.specs.Orders.{order_of}
use Rattle.projected_decide.proofs.Variables.{range_more}

-- one variable more is looked at
pub listed_more : (n : ℕ) (shown : List ℕ) (v : ℕ) → v ≡ n + 1 → is_among shown v ≡ false → order_of (n + 1) shown ≡ order_of n shown ++ v ∷ []
listed_more n shown v at hides =
    let e : 1 + n ≡ v = omega arith in
    ap (λ xs. shown ++ filter (λ u. not (is_among shown u)) xs) (range_more 1 n ∙ ap (λ m. range_with_len 1 n ++ m ∷ []) e)
    ∙ ap (λ xs. shown ++ xs) (filter-append (λ u. not (is_among shown u)) (range_with_len 1 n) (v ∷ []) ∙ rw hides refl)
    ∙ sym (append_assoc shown (filter (λ u. not (is_among shown u)) (range_with_len 1 n)) (v ∷ []))

pub passed_more : (n : ℕ) (shown : List ℕ) (v : ℕ) → v ≡ n + 1 → is_among shown v ≡ true → order_of (n + 1) shown ≡ order_of n shown
passed_more n shown v at shows =
    let e : 1 + n ≡ v = omega arith in
    ap (λ xs. shown ++ filter (λ u. not (is_among shown u)) xs) (range_more 1 n ∙ ap (λ m. range_with_len 1 n ++ m ∷ []) e)
    ∙ ap (λ xs. shown ++ xs) (filter-append (λ u. not (is_among shown u)) (range_with_len 1 n) (v ∷ []) ∙ rw shows (append-nil (filter (λ u. not (is_among shown u)) (range_with_len 1 n))))

-- ---- what is listed

pub order_within : (n : ℕ) (shown : List ℕ) → IsShown n shown → All (λ v. v ≤ n) (order_of n shown)
order_within n shown s =
    All-append (λ v. v ≤ n) shown (filter (λ u. not (is_among shown u)) (range_with_len 1 n))
    (All-weaker (λ v. (0 < v) × (v ≤ n)) (λ v. v ≤ n) (λ v h. h.1) shown s.named)
    (All-filter (λ u. not (is_among shown u)) (λ v. v ≤ n) (range_with_len 1 n)
    (λ k d inside. let size = length-range_with_len 1 n in let at = get_or-range_with_len 1 n k d (omega arith) in omega arith))

pub order_named : (n : ℕ) (shown : List ℕ) → IsShown n shown → All (λ v. 0 < v) (order_of n shown)
order_named n shown s =
    All-append (λ v. 0 < v) shown (filter (λ u. not (is_among shown u)) (range_with_len 1 n))
    (All-weaker (λ v. (0 < v) × (v ≤ n)) (λ v. 0 < v) (λ v h. h.0) shown s.named)
    (All-filter (λ u. not (is_among shown u)) (λ v. 0 < v) (range_with_len 1 n)
    (λ k d inside. let size = length-range_with_len 1 n in let at = get_or-range_with_len 1 n k d (omega arith) in omega arith))

pub order_short : (n : ℕ) (shown : List ℕ) → IsShown n shown → length (order_of n shown) ≤ suc n + n
order_short n shown s =
    let rest = filter (λ u. not (is_among shown u)) (range_with_len 1 n) in
    let first = length-le_from_below (suc n) shown (sorted_from_strictly_increasing shown s.rising)
    (All-weaker (λ v. (0 < v) × (v ≤ n)) (λ v. v < suc n) (λ v h. (let low = h.1 in omega arith)) shown s.named) in
    let count = length-filter (λ u. not (is_among shown u)) (range_with_len 1 n) in
    let few = count_by-le-length (λ u. not (is_among shown u)) (range_with_len 1 n) in
    let size = length-range_with_len 1 n in
    let both = length-append shown rest in
    omega arith
