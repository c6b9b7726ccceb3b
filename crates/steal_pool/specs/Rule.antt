-- The rule of a deque: each token that was put is taken once or is left.
use Rattle.std.specs.Prelude.{◌≡◌, ℕ, ◌+◌, List, [], ◌∷◌, ◌++◌}
use Rattle.prefix_jobs.specs.declared.number.Token.{Token}
use Rattle.steal_pool.specs.declared.rule.Hand.{Hand}

-- f of each element, added up
abbrev pub sum_over : {A : Type 0} → (A → ℕ) → List A → ℕ
sum_over f [] = 0
sum_over f (x ∷ xs) = f x + sum_over f xs

-- However tokens are counted, those that were put are as many as those that were taken and those
-- that the deque holds.
abbrev pub Balanced : List Token → List Hand → Type 0
Balanced items hands = (h : Token → ℕ) →
    sum_over (λ v. sum_over h v.put) hands
    ≡ sum_over (λ v. sum_over h v.taken) hands + sum_over h items

abbrev pub empty_hand : Hand
empty_hand = record { put = []; taken = [] }

-- the hand once these tokens are put, and once they are taken
abbrev pub hand_with_put : Hand → List Token → Hand
hand_with_put v xs = record { put = v.put ++ xs; taken = v.taken }

abbrev pub hand_with_taken : Hand → List Token → Hand
hand_with_taken v xs = record { put = v.put; taken = v.taken ++ xs }
