-- The trail of a search: what is assigned, on which level, and why. A trail is a list with the
-- newest item first.
use Rattle.std.specs.Prelude.{ℕ, zero, Bool, true, false, not, ◌&&◌, ◌||◌, cond, ℤ, neg_ℤ, nat_abs, List, [], ◌∷◌, ◌++◌, filter, nat_eq, nat_le}
use Rattle.std.specs.List.{list_any, list_all}
use Rattle.std.specs.Ordering.{int_eq}
use Rattle.sat_terms.specs.Literals.{lit_true}

-- Why a literal is on the trail: it is one of the job's prefix, was decided, is a decision turned
-- over, or follows by a clause (Turned, where this turned a decision over).
pub data Kind : Type 0 where
  Assumed : Kind
  Decided : Kind
  Flipped : Kind
  Turned : List ℤ → Kind
  Implied : List ℤ → Kind

-- One literal of the trail with its level and its kind.
pub record Item : Type 0 where
  pub lit : ℤ
  pub level : ℕ
  pub kind : Kind

-- It was decided.
abbrev pub is_decided : Kind → Bool
is_decided Assumed = false
is_decided Decided = true
is_decided Flipped = false
is_decided (Turned c) = false
is_decided (Implied c) = false

-- It is a decision turned over without a clause.
abbrev pub is_flipped : Kind → Bool
is_flipped Assumed = false
is_flipped Decided = false
is_flipped Flipped = true
is_flipped (Turned c) = false
is_flipped (Implied c) = false

-- It was chosen: assumed or decided.
abbrev pub is_chosen : Kind → Bool
is_chosen Assumed = true
is_chosen Decided = true
is_chosen Flipped = false
is_chosen (Turned c) = false
is_chosen (Implied c) = false

-- It stands by no clause: chosen or flipped.
abbrev pub is_branch : Kind → Bool
is_branch Assumed = true
is_branch Decided = true
is_branch Flipped = true
is_branch (Turned c) = false
is_branch (Implied c) = false

-- It follows by unit propagation.
abbrev pub is_implied : Kind → Bool
is_implied Assumed = false
is_implied Decided = false
is_implied Flipped = false
is_implied (Turned c) = false
is_implied (Implied c) = true

-- The current level: that of the newest decision, or 0.
abbrev pub depth : List Item → ℕ
depth [] = zero
depth (i ∷ older) = cond (is_decided i.kind) i.level (depth older)

-- A variable has a literal on the trail.
abbrev pub is_assigned : ℕ → List Item → Bool
is_assigned v trail = list_any (λ i. nat_eq v (nat_abs i.lit)) trail

-- The item's variable is a shown one.
abbrev pub seen : (ℕ → Bool) → Item → Bool
seen shown i = shown (nat_abs i.lit)

-- The item is of level at most k.
abbrev pub upto : ℕ → Item → Bool
upto k i = nat_le i.level k

-- The item is assumed or decided, of level at most k.
abbrev pub chosen_upto : ℕ → Item → Bool
chosen_upto k i = is_chosen i.kind && nat_le i.level k

-- The item stands by no clause.
abbrev pub branches : Item → Bool
branches i = is_branch i.kind

-- The item is a shown one of level at most k.
abbrev pub seen_upto : (ℕ → Bool) → ℕ → Item → Bool
seen_upto shown k i = shown (nat_abs i.lit) && nat_le i.level k

-- A literal is false by an item of level at most k.
abbrev pub false_by : ℕ → List Item → ℤ → Bool
false_by k trail l = list_any (λ j. int_eq l (neg_ℤ j.lit) && nat_le j.level k) trail

-- Each literal of the clause but the item's own is false by an older item of at most the item's
-- level.
abbrev pub is_reason : List ℤ → Item → List Item → Bool
is_reason c i older = list_all (λ l. int_eq l i.lit || false_by i.level older l) c

-- What stays of a trail when the levels above k are taken back.
abbrev pub back : ℕ → List Item → List Item
back k trail = filter (λ i. nat_le i.level k) trail

-- The assignment makes each picked literal of the trail true.
abbrev pub agrees : (Item → Bool) → (ℕ → Bool) → List Item → Bool
agrees pick t trail = list_all (λ i. not (pick i) || lit_true t i.lit) trail

-- A decision turned over, on the given level.
abbrev pub flip : ℕ → Item → Item
flip k d = record { lit = neg_ℤ d.lit; level = k; kind = Flipped }

-- The trail newer ++ d ∷ older after the item e took the place of its decision d: what is of
-- older levels stays, and e joins it.
abbrev pub turn_with : Item → List Item → Item → List Item → List Item
turn_with e newer d older = e ∷ back (depth older) (newer ++ d ∷ older)

-- The same with the negation of d in its place: the decision is turned over.
abbrev pub turn_over : List Item → Item → List Item → List Item
turn_over newer d older = turn_with (flip (depth older) d) newer d older
