-- The items of the code as the trail of the picture, which has the newest item first and clauses in
-- place of their numbers.
use Rattle.std.specs.Prelude.{◌≡◌, ℕ, List, [], ◌∷◌, ◌++◌, ℤ, slice_index_or}
use Rattle.search_region.specs.Trail as picture
use Rattle.chrono_trail.specs.declared.item.Kind.{Kind}
use Rattle.chrono_trail.specs.declared.item.Kind.TheVariants.{Assumed, Decided, Flipped, Turned, Implied}
use Rattle.chrono_trail.specs.declared.item.Item.{Item}

-- A kind with the clause of its number.
abbrev pub kind_of : List (List ℤ) → Kind → picture.Kind
kind_of clauses Assumed = picture.Assumed
kind_of clauses Decided = picture.Decided
kind_of clauses Flipped = picture.Flipped
kind_of clauses (Turned id) = picture.Turned (slice_index_or clauses id [])
kind_of clauses (Implied id) = picture.Implied (slice_index_or clauses id [])

abbrev pub pictured : List (List ℤ) → Item → picture.Item
pictured clauses i = record { lit = i.lit; level = i.level; kind = kind_of clauses i.kind }

-- The trail of the picture.
abbrev pub picture_of : List (List ℤ) → List Item → List picture.Item
picture_of clauses [] = []
picture_of clauses (i ∷ later) = picture_of clauses later ++ pictured clauses i ∷ []

-- The decision d of level k parts the items into those before it and those after it, and the
-- picture in the same way.
pub record Splits (clauses : List (List ℤ)) (items : List Item) (k : ℕ) (d : Item) : Type 0 where
  pub before : List Item
  pub after : List Item
  pub parts : items ≡ before ++ d ∷ after
  pub kind : d.kind ≡ Decided
  pub level : d.level ≡ k
  pub picture : picture_of clauses items
      ≡ picture_of clauses after ++ pictured clauses d ∷ picture_of clauses before
