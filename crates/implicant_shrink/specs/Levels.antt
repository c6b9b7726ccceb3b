-- From which level on a literal, a clause and the flips of a trail are met.
use Rattle.std.specs.Prelude.{◌≡◌, ℕ, ◌+◌, ◌<◌, ◌≤◌, Bool, true, false, ◌&&◌, cond, nat_le, nat_abs, List, length, slice_index_or, ℤ, Option, Some, None}
use Rattle.std.specs.List.{list_any}
use Rattle.std.specs.Ordering.{int_eq}
use Rattle.chrono_trail.specs.declared.item.Kind.{Kind}
use Rattle.chrono_trail.specs.declared.item.Kind.TheVariants.{Assumed, Decided, Flipped, Turned, Implied}
use Rattle.chrono_trail.specs.declared.item.Item.{Item}
use Rattle.chrono_trail.specs.Items.{item_of}
use Rattle.implicant_shrink.specs.declared.levels.Met.{Met}

-- The table says that the variable is shown.
abbrev pub marked : List Bool → ℕ → Bool
marked shown v = slice_index_or shown v false

-- There is a level, and it is at most b.
abbrev pub is_at_most : ℕ → Option ℕ → Bool
is_at_most b None = false
is_at_most b (Some level) = nat_le level b

-- The level from which on a literal is kept, where its variable has this item: that of a true shown
-- one, and 0 of a true hidden one.
abbrev pub level_by : (ℕ → Bool) → ℤ → Option Item → Option ℕ
level_by shown l None = None
level_by shown l (Some i) = cond (int_eq l i.lit) (Some (cond (shown (nat_abs l)) i.level 0)) None

-- The literal is kept at the level b.
abbrev pub is_kept_at : (ℕ → Bool) → ℕ → List Item → ℤ → Bool
is_kept_at shown b items l = is_at_most b (level_by shown l (item_of items (nat_abs l)))

-- Some literal of the clause is kept at the level b.
abbrev pub is_met_at : (ℕ → Bool) → ℕ → List Item → List ℤ → Bool
is_met_at shown b items c = list_any (is_kept_at shown b items) c

-- The level of what was found, where something was.
abbrev pub met_level : Option Met → Option ℕ
met_level None = None
met_level (Some met) = Some met.level

-- A decision turned over without a lemma.
abbrev pub is_flip : Kind → Bool
is_flip Assumed = false
is_flip Decided = false
is_flip Flipped = true
is_flip (Turned id) = false
is_flip (Implied id) = false

-- The item is a shown decision turned over without a lemma.
abbrev pub is_flip_of_shown : (ℕ → Bool) → Item → Bool
is_flip_of_shown shown i = is_flip i.kind && shown (nat_abs i.lit)

-- No item from this place on is one.
abbrev pub AreNoFlips : (ℕ → Bool) → List Item → ℕ → Type 0
AreNoFlips shown items from = (j : ℕ) (d : Item) → from ≤ j → j < length items →
    is_flip_of_shown shown (slice_index_or items j d) ≡ false

-- The last one stands at this place.
pub record IsLastFlip (shown : ℕ → Bool) (items : List Item) (place : ℕ) : Type 0 where
  pub inside : place < length items
  pub here : (d : Item) → is_flip_of_shown shown (slice_index_or items place d) ≡ true
  pub after : AreNoFlips shown items (place + 1)
