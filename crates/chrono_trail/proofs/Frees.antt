-- The places of a table that were emptied so far.
use Rattle.std.proofs.Common.{◌≡◌, ℕ, ◌+◌, ◌<◌, ◌≤◌, Bool, true, false, cond, ◌&&◌, ◌||◌, nat_eq, nat_le, List, [], ◌∷◌, length, get_or, set, take, Option, None, ℤ, pos, negsuc, ◌^◌, nat_abs, refl, sym, ap, ◌∙◌, inl, inr, arith}
use mir.Syntax.{w32}
use mir.Val.{SFits}
use Rattle.std.proofs.lemmas.Bool.{and_right, cases_Bool, eqb-true, eqb-false, le-leb, lt-leb}
use Rattle.std.proofs.lemmas.List.{take_more, get_or-set_same, get_or-set_other}
use Rattle.std.proofs.lemmas.List.Folds.{list_any-append}
use Rattle.chrono_trail.specs.declared.item.Item.{Item}
use Rattle.chrono_trail.specs.Items.{goes, HasPlace}

-- a literal of a small variable is one of the machine's numbers
pub fits_below : (l : ℤ) → nat_abs l < 2 ^ 31 → SFits w32 l
fits_below (pos n) h = record { sfits = omega arith }
fits_below (negsuc n) h = record { sfits = omega arith }

-- one item more
goes_more : (least : ℕ) (items : List Item) (i : ℕ) (d : Item) (v : ℕ) → i < length items → goes least (take (i + 1) items) v ≡ (goes least (take i items) v || ((nat_eq v (nat_abs (get_or items i d).lit) && nat_le least (get_or items i d).level) || false))
goes_more least items i d v h =
    ap (λ xs. goes least xs v) (take_more items i d h) ∙ list_any-append (λ e. nat_eq v (nat_abs e.lit) && nat_le least e.level) (take i items) (get_or items i d ∷ [])

or_none : (b : Bool) → (b || (false || false)) ≡ b
or_none true = refl
or_none false = refl

or_all : (b : Bool) → (b || (true || false)) ≡ true
or_all true = refl
or_all false = refl

pub kept : (least : ℕ) (items : List Item) (old now : List (Option Item)) (i : ℕ) (d : Item) → i < length items → (get_or items i d).level < least → ((v : ℕ) → get_or now v None ≡ cond (goes least (take i items) v) None (get_or old v None)) → (v : ℕ) → get_or now v None ≡ cond (goes least (take (i + 1) items) v) None (get_or old v None)
kept least items old now i d h low before v =
    rw (goes_more least items i d v h, and_right (nat_eq v (nat_abs (get_or items i d).lit)) (nat_le least (get_or items i d).level) (lt-leb least (get_or items i d).level low), or_none (goes least (take i items) v)) (before v)

pub freed : (least : ℕ) (items : List Item) (old now : List (Option Item)) (place i : ℕ) (d : Item) → i < length items → place ≡ nat_abs (get_or items i d).lit → HasPlace (length old) (get_or items i d) → length now ≡ length old → least ≤ (get_or items i d).level → ((v : ℕ) → get_or now v None ≡ cond (goes least (take i items) v) None (get_or old v None)) → (v : ℕ) → get_or (set now place None) v None ≡ cond (goes least (take (i + 1) items) v) None (get_or old v None)
freed least items old now place i d h same room long high before v =
    let all : nat_le least (get_or items i d).level ≡ true = le-leb least (get_or items i d).level high in
    elim (cases_Bool (nat_eq v (nat_abs (get_or items i d).lit))) [
      | inl here ↦
          let equal : v ≡ place = eqb-true v (nat_abs (get_or items i d).lit) here ∙ sym same in
          rw (goes_more least items i d v h, here, all, or_all (goes least (take i items) v)) (rw equal (get_or-set_same now place None None (omega arith)))
      | inr other ↦
          rw (goes_more least items i d v h, other, or_none (goes least (take i items) v)) (get_or-set_other now place v None None (λ k. eqb-false v (nat_abs (get_or items i d).lit) other (k ∙ same)) ∙ before v)
    ]
