-- Literals in the machine, and the decision of a level.
use Rattle.std.proofs.Common.{◌≡◌, ℕ, zero, suc, ◌<◌, ◌≤◌, ◌^◌, Bool, true, ℤ, pos, negsuc, neg_ℤ, nat_abs, ◌-ℤ◌, List, [], ◌∷◌, length, get_or, Some, find, nat_lt, nat_le, sym, ap, subst, ◌∙◌, arith}
use Rattle.std.specs.List.{list_all}
use mir.Syntax.{w32}
use mir.Val.{SFits, to_z, of_z}
use Rattle.std.proofs.lemmas.Bool.{and_parts, leb-true}
use Rattle.std.proofs.lemmas.Int.{ints, to_z-of_z}
use Rattle.std.proofs.lemmas.Option.{slice_get-get_or}
use Rattle.sat_terms.proofs.CubeLemmas.{nat_abs-neg}
use Rattle.chrono_trail.specs.declared.item.Item.{Item}
use Rattle.chrono_trail.specs.Items.{decides, is_within, IsDecisionAt}
use Rattle.chrono_trail.specs.Trails.{TrailView, IsTrail}
use Rattle.chrono_trail.proofs.Splits.{found_is}

pub literal_fits : (l : ℤ) → nat_abs l < 2 ^ 31 → SFits w32 l
literal_fits (pos n) few = record { sfits = few }
literal_fits (negsuc n) few = record { sfits = omega arith }

pub negated : (l : ℤ) → nat_abs l < 2 ^ 31 → to_z w32 (of_z w32 (pos 0 -ℤ to_z w32 (of_z w32 l))) ≡ neg_ℤ l
negated l small = ap (λ z. to_z w32 (of_z w32 (pos 0 -ℤ z))) (to_z-of_z w32 l (literal_fits l small)) ∙ omega (arith, ints)

pub negation_fits : (l : ℤ) → nat_abs l < 2 ^ 31 → SFits w32 (pos 0 -ℤ to_z w32 (of_z w32 l))
negation_fits l small = subst (λ (z : ℤ). SFits w32 (pos 0 -ℤ z)) (sym (to_z-of_z w32 l (literal_fits l small)))
    (subst (SFits w32) (sym (minus l)) (literal_fits (neg_ℤ l) (rw (nat_abs-neg l) small)))
  where
    minus : (m : ℤ) → pos 0 -ℤ m ≡ neg_ℤ m
    minus m = omega (arith, ints)

-- the decision of a level is found, and its literal is one of a variable
pub decision_at : (t : TrailView) (xs : List Item) (level place : ℕ) (d : Item) → IsTrail t.variables t.items t.level →
    IsDecisionAt level t.items place → xs ≡ t.items →
    (find (decides level) t.items ≡ Some (get_or xs place d)) × (nat_abs (get_or xs place d).lit < 2 ^ 31)
decision_at t xs level place d trail there same =
    let decided = there.found ∙ slice_get-get_or t.items place d there.inside ∙ ap (λ ys. Some (get_or ys place d)) (sym same) in
    let named = found_is (decides level) (is_within t.variables) t.items (get_or xs place d) decided trail.within in
    let low = leb-true (nat_abs (get_or xs place d).lit) t.variables
    (and_parts (nat_lt 0 (nat_abs (get_or xs place d).lit)) (nat_le (nat_abs (get_or xs place d).lit) t.variables) named).1 in
    let few = trail.small in
    (decided, omega arith)

-- ---- items of a trail

all_at : (test : Item → Bool) (items : List Item) (i : ℕ) (d : Item) → list_all test items ≡ true → i < length items →
    test (get_or items i d) ≡ true
all_at test [] i d h inside = absurd (omega arith)
all_at test (x ∷ items) zero d h inside = (and_parts (test x) (list_all test items) h).0
all_at test (x ∷ items) (suc i) d h inside = all_at test items i d (and_parts (test x) (list_all test items) h).1 (omega arith)

pub item_low : (n : ℕ) (items : List Item) (level i : ℕ) (d : Item) → IsTrail n items level → i < length items →
    nat_abs (get_or items i d).lit ≤ n
item_low n items level i d t inside =
    let (above, below) = and_parts (nat_lt 0 (nat_abs (get_or items i d).lit)) (nat_le (nat_abs (get_or items i d).lit) n) (all_at (is_within n) items i d t.within inside) in
    leb-true (nat_abs (get_or items i d).lit) n below

-- the literal of an item is one
pub item_small : (n : ℕ) (items : List Item) (level i : ℕ) (d : Item) → IsTrail n items level → i < length items →
    nat_abs (get_or items i d).lit < 2 ^ 31
item_small n items level i d t inside =
    let (above, below) = and_parts (nat_lt 0 (nat_abs (get_or items i d).lit)) (nat_le (nat_abs (get_or items i d).lit) n) (all_at (is_within n) items i d t.within inside) in
    let low = leb-true (nat_abs (get_or items i d).lit) n below in
    let few = t.small in
    omega arith
