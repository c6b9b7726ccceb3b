-- Each step of a deque keeps its rule.
use Rattle.std.proofs.Common.{◌≡◌, ℕ, zero, suc, ◌+◌, List, [], ◌∷◌, ◌++◌, set, refl, sym, ap, arith}
use mathlib.Core.Option.{some, some-injective, some-ne-none}
use lib.ListN.{get_elem?}
use Rattle.crossbeam_deque.specs.Tasks.{Pushes, Takes, Pops, Forks}
use Rattle.prefix_jobs.specs.declared.number.Token.{Token}
use Rattle.steal_pool.specs.declared.rule.Hand.{Hand}
use Rattle.steal_pool.specs.Rule.{sum_over, Balanced, empty_hand, hand_with_put, hand_with_taken}

sum-append : {A : Type 0} (f : A → ℕ) (xs ys : List A) →
    sum_over f (xs ++ ys) ≡ sum_over f xs + sum_over f ys
sum-append f [] ys = omega arith
sum-append f (x ∷ xs) ys = let e = sum-append f xs ys in omega arith

sum-set : {A : Type 0} (f : A → ℕ) (xs : List A) (k : ℕ) (x y : A) → get_elem? xs k ≡ some x →
    sum_over f (set xs k y) + f x ≡ sum_over f xs + f y
sum-set f [] k x y e = absurd (some-ne-none x (sym e))
sum-set f (z ∷ xs) zero x y e = let d = ap f (some-injective z x e) in omega arith
sum-set f (z ∷ xs) (suc k) x y e = let d = sum-set f xs k x y e in omega arith

abbrev put_of : (Token → ℕ) → Hand → ℕ
put_of h v = sum_over h v.put

abbrev taken_of : (Token → ℕ) → Hand → ℕ
taken_of h v = sum_over h v.taken

-- What the hand v becomes keeps the rule, where what it puts less what it takes is what comes.
moves : (items others : List Token) (hands : List Hand) (k : ℕ) (v w : Hand) →
    Balanced items hands → get_elem? hands k ≡ some v →
    ((h : Token → ℕ) → put_of h w + taken_of h v + sum_over h items
    ≡ put_of h v + taken_of h w + sum_over h others) →
    Balanced others (set hands k w)
moves items others hands k v w old at step h =
    let p = sum-set (put_of h) hands k v w at in
    let t = sum-set (taken_of h) hands k v w at in
    let b = old h in
    let s = step h in
    omega arith

pub begins : Balanced [] (empty_hand ∷ [])
begins h = refl

pub puts : (port : ℕ) (v : Hand) (xs : List Token) →
    Pushes Balanced port v xs (λ w. w ≡ hand_with_put v xs)
puts port v xs items hands old at = (
  hand_with_put v xs,
  moves items (items ++ xs) hands port v (hand_with_put v xs) old at (λ h.
      let a = sum-append h v.put xs in
      let b = sum-append h items xs in
      omega arith),
  refl,
)

pub takes : (port : ℕ) (v : Hand) → Takes Balanced port v 1 (λ xs w. w ≡ hand_with_taken v xs)
takes port v xs items hands _ _ old at = (
  hand_with_taken v xs,
  moves (xs ++ items) items hands port v (hand_with_taken v xs) old at (λ h.
      let a = sum-append h v.taken xs in
      let b = sum-append h xs items in
      omega arith),
  refl,
)

pub pops : (port : ℕ) (v : Hand) → Pops Balanced port v (λ xs w. w ≡ hand_with_taken v xs)
pops port v x items hands old at = (
  hand_with_taken v (x ∷ []),
  moves (items ++ x ∷ []) items hands port v (hand_with_taken v (x ∷ [])) old at (λ h.
      let a = sum-append h v.taken (x ∷ []) in
      let b = sum-append h items (x ∷ []) in
      omega arith),
  refl,
)

pub forks : (port : ℕ) (v : Hand) → Forks Balanced port v v empty_hand
forks port v items hands old at h =
    let p = sum-set (put_of h) hands port v v at in
    let t = sum-set (taken_of h) hands port v v at in
    let a = sum-append (put_of h) (set hands port v) (empty_hand ∷ []) in
    let b = sum-append (taken_of h) (set hands port v) (empty_hand ∷ []) in
    let c = old h in
    omega arith
