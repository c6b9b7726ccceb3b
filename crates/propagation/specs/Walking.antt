-- What the parts of propagation answer: the clauses of no or one literal, a visit of a watch, and a
-- walk over the list of a literal.
use Rattle.std.specs.Prelude.{◌≡◌, ◌≢◌, ℕ, ◌*◌, ◌+◌, ◌<◌, ◌≤◌, Bool, ◌||◌, nat_eq, nat_abs, true, false, List, [], ◌∷◌, length, slice_index_or, ℤ, neg_ℤ, ◌⊎◌}
use Rattle.std.specs.List.{All, list_any}
use Rattle.sat_terms.specs.CubeOrder.{key}
use Rattle.sat_terms.specs.Cubes.{has_literal}
use Rattle.sat_terms.specs.Literals.{IsLiteralOf}
use Rattle.chrono_trail.specs.declared.item.Item.{Item}
use Rattle.chrono_trail.specs.Trails.{TrailView, IsTrail}
use Rattle.chrono_trail.specs.Clauses.{is_true, is_false}
use Rattle.watch_lists.specs.Views.{ListsView, Stands, lit_of, partner, moved}
use Rattle.watch_lists.specs.Watching.{IsWatching}
use Rattle.propagation.specs.declared.short.Short.{Short}
use Rattle.propagation.specs.declared.short.Short.TheVariants.{Held, Met, Wrong}
use Rattle.propagation.specs.Settled.{AreEased, AreHeld, is_held, IsEasedBy}
use Rattle.propagation.specs.Steps.{IsFalseOf}

-- A clause may watch the literal in place of a false one: it is one of its literals, not the other
-- watched one, and not false.
pub record MayWatch (items : List Item) (c : List ℤ) (other l : ℤ) : Type 0 where
  pub among : has_literal c l ≡ true
  pub differs : l ≢ other
  pub not_false : is_false items l ≡ false

-- The lists and the trail fit the clauses, and what the marked items ask for is done.
pub record IsReady (clauses : List (List ℤ)) (lists : ListsView) (trail : TrailView) : Type 0 where
  pub stands : IsTrail trail.variables trail.items trail.level
  pub named : All (All (IsLiteralOf trail.variables)) clauses
  pub count : length lists.lists ≡ 2 * (trail.variables + 1)
  pub watching : IsWatching lists clauses
  pub marked : trail.seen ≤ length trail.items
  pub eased : AreEased lists trail

-- Two trails differ in their items alone.
pub record IsSameBut (old new : TrailView) : Type 0 where
  pub variables : new.variables ≡ old.variables
  pub level : new.level ≡ old.level
  pub seen : new.seen ≡ old.seen

-- After its visit a watch stays, and the other watched literal of its clause is true, or it left
-- its list.
abbrev pub IsVisited : ListsView → ListsView → List Item → ℕ → Type 0
IsVisited old new items n =
    ((new ≡ old) × (is_true items (lit_of old (partner n)) ≡ true))
    ⊎ ((l : ℤ) × ((key l ≢ key (lit_of old n)) × (new ≡ moved old n l)))

-- The literal is the negation of the first item without a mark.
abbrev pub IsNextFalse : TrailView → ℤ → Type 0
IsNextFalse trail l = (d : Item) → l ≡ neg_ℤ (slice_index_or trail.items trail.seen d).lit

-- Each clause that still watches the literal has its other watched one true.
abbrev pub IsPassed : ListsView → List Item → ℤ → Type 0
IsPassed lists items l = (n : ℕ) → Stands lists n → lit_of lists n ≡ l →
    is_true items (lit_of lists (partner n)) ≡ true

-- Each clause of no or one literal has a true one.
abbrev pub AreMet : List (List ℤ) → List Item → Type 0
AreMet clauses items = (id : ℕ) → id < length clauses →
    length (slice_index_or clauses id []) < 2 →
    list_any (is_true items) (slice_index_or clauses id []) ≡ true

-- What the clauses of no or one literal came to.
abbrev pub AreShort : List (List ℤ) → List Item → Short → Type 0
AreShort clauses items Held = AreHeld clauses items
AreShort clauses items Met = AreMet clauses items
AreShort clauses items (Wrong id) = IsFalseOf clauses items id

-- How many items stay marked after them.
abbrev pub marks_after : Short → ℕ → ℕ
marks_after Held n = n
marks_after Met n = 0
marks_after (Wrong id) n = n

-- What one of them came to.
abbrev pub IsShort : List (List ℤ) → List Item → ℕ → Short → Type 0
IsShort clauses items id Held = is_held items (slice_index_or clauses id []) ≡ true
IsShort clauses items id Met = list_any (is_true items) (slice_index_or clauses id []) ≡ true
IsShort clauses items id (Wrong wrong) = IsFalseOf clauses items wrong

-- The item is of one of the two variables.
abbrev pub is_of_either : ℕ → ℕ → Item → Bool
is_of_either one other i = nat_eq (nat_abs i.lit) one || nat_eq (nat_abs i.lit) other

-- The marked items ask nothing of a clause that watches its first two literals. Where it has not so
-- many, none is marked.
abbrev pub IsUnseenFor : TrailView → List ℤ → Type 0
IsUnseenFor trail (l ∷ m ∷ c) = IsEasedBy trail l m × IsEasedBy trail m l
IsUnseenFor trail c = trail.seen ≡ 0
