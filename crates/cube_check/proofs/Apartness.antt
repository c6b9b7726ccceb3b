-- Whether two cubes are apart, by the literals that both begin with.
use Rattle.std.proofs.Common.{◌≡◌, ℕ, ◌+◌, ◌<◌, ◌≤◌, Bool, true, false, ◌||◌, List, length, take, drop, get_or, ℤ, pos, neg_ℤ, refl, sym, ap, ◌∙◌, arith}
use Rattle.std.specs.List.{list_any}
use Rattle.std.proofs.lemmas.Bool.{both_ways, false_from_ne_true}
use Rattle.std.proofs.lemmas.List.{take-append-drop, take-take, get_or-take, length-take}
use Rattle.std.proofs.lemmas.List.Folds.{list_any-append, list_any_at}
use Rattle.sat_terms.specs.Cubes.{rises_above, has_literal, apart}
use Rattle.sat_terms.proofs.Disjoint.{apart-disjoint, apart-from_disjoint}

-- to be apart goes both ways
pub apart-comm : (c d : List ℤ) → rises_above 0 c ≡ true → rises_above 0 d ≡ true → apart c d ≡ true → apart d c ≡ true
apart-comm c d rises_c rises_d h = apart-from_disjoint d c rises_d rises_c (λ t in_d in_c. apart-disjoint t 0 c d rises_c h in_c in_d)

pub overlap-comm : (c d : List ℤ) → rises_above 0 c ≡ true → rises_above 0 d ≡ true → apart c d ≡ false → apart d c ≡ false
overlap-comm c d rises_c rises_d h = false_from_ne_true (apart d c) (λ e. both_ways (apart c d) h (apart-comm d c rises_d rises_c e))

front_false : (a b : Bool) → (a || b) ≡ false → a ≡ false
front_false true b h = cc
front_false false b h = refl

-- a front of a list passes no test that the list does not
pub none_in_front : {X : Type 0} (p : X → Bool) (xs : List X) (s : ℕ) → list_any p xs ≡ false → list_any p (take s xs) ≡ false
none_in_front p xs s none = front_false (list_any p (take s xs)) (list_any p (drop s xs)) (sym (list_any-append p (take s xs) (drop s xs)) ∙ ap (list_any p) (take-append-drop s xs) ∙ none)

pub none_in_shorter : {X : Type 0} (p : X → Bool) (xs : List X) (s k : ℕ) → s ≤ k → list_any p (take k xs) ≡ false → list_any p (take s xs) ≡ false
none_in_shorter p xs s k few none = ap (list_any p) (sym (take-take s k xs few)) ∙ none_in_front p (take k xs) s none

pub same_shorter : {X : Type 0} (xs ys : List X) (s k : ℕ) → s ≤ k → take k xs ≡ take k ys → take s xs ≡ take s ys
same_shorter xs ys s k few same = sym (take-take s k xs few) ∙ ap (take s) same ∙ take-take s k ys few

-- what begins with a literal that c negates is apart from c
pub apart_by_front : (c d e : List ℤ) (k : ℕ) → k < length e → take (k + 1) d ≡ take (k + 1) e → has_literal c (neg_ℤ (get_or e k (pos 0))) ≡ true → apart d c ≡ true
apart_by_front c d e k inside same negated =
    let less : k < k + 1 = omega arith in
    let literal : get_or d k (pos 0) ≡ get_or e k (pos 0) = sym (get_or-take (k + 1) d k (pos 0) less) ∙ ap (λ xs. get_or xs k (pos 0)) same ∙ get_or-take (k + 1) e k (pos 0) less in
    let long : k < length d = omega (arith, length-take (k + 1) d, length-take (k + 1) e, ap length same) in
    list_any_at (λ l. has_literal c (neg_ℤ l)) d k (pos 0) long (ap (λ l. has_literal c (neg_ℤ l)) literal ∙ negated)
