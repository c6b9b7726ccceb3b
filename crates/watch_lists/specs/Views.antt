-- What contracts see of the lists, and what the moves make of it.
use Rattle.std.specs.Prelude.{◌≡◌, ℕ, ◌+◌, ◌-◌, ◌%◌, ◌<◌, true, false, cond, nat_eq, List, [], ◌∷◌, ◌++◌, length, map, replicate, slice_set, slice_index_or, ℤ, pos, Option, Some, None}
use Rattle.sat_terms.specs.CubeOrder.{key}
use Rattle.watch_lists.specs.declared.watch.Watch.{Watch}
use Rattle.watch_lists.specs.Places.{has, AreApart, delete}

-- The places of each list, by the key of its literal, and the literal of each place.
pub record ListsView : Type 0 where
  pub lists : List (List ℕ)
  pub lits : List ℤ

-- The places of list k, the last one put in first.
abbrev pub list_of : ListsView → ℕ → List ℕ
list_of v k = slice_index_or v.lists k []

-- The literal that a place watches.
abbrev pub lit_of : ListsView → ℕ → ℤ
lit_of v n = slice_index_or v.lits n (pos 0)

-- A place is in the list of its literal.
abbrev pub Stands : ListsView → ℕ → Type 0
Stands v n = has n (list_of v (key (lit_of v n))) ≡ true

-- A place is in no list.
abbrev pub IsFree : ListsView → ℕ → Type 0
IsFree v n = (k : ℕ) → has n (list_of v k) ≡ false

-- Each list has each of its places once, and only places that there are, which watch its literal.
pub record IsPlaced (v : ListsView) : Type 0 where
  pub apart : (k : ℕ) → AreApart (list_of v k)
  pub inside : (k n : ℕ) → has n (list_of v k) ≡ true → n < length v.lits
  pub key : (k n : ℕ) → has n (list_of v k) ≡ true → key (lit_of v n) ≡ k

-- A place is out of its list.
abbrev pub taken : ListsView → ℕ → ListsView
taken v n = record v { lists = map (delete n) v.lists }

-- A place watches l, at the head of its list.
abbrev pub pushed : ListsView → ℕ → ℤ → ListsView
pushed v n l = record {
  lists = slice_set v.lists (key l) (n ∷ list_of v (key l));
  lits = slice_set v.lits n l;
}

-- A place that watched a literal watches l.
abbrev pub moved : ListsView → ℕ → ℤ → ListsView
moved v n l = pushed (taken v n) n l

-- So many places at least. The new ones are in no list.
abbrev pub with_places : ℕ → ListsView → ListsView
with_places m v = record v { lits = v.lits ++ replicate (m - length v.lits) (pos 0) }

-- Two places, from p on, watch the first two literals of a clause, if it has so many.
abbrev pub watched : ListsView → ℕ → List ℤ → ListsView
watched v p (a ∷ b ∷ c) = pushed (pushed v p a) (p + 1) b
watched v p c = v

-- The other place of the same clause.
abbrev pub partner : ℕ → ℕ
partner n = cond (nat_eq (n % 2) 0) (n + 1) (n - 1)

-- The first watch of a list, if there is one.
abbrev pub head_of : List ℕ → Option Watch
head_of [] = None
head_of (x ∷ xs) = Some (record { place = x })

-- The watch after the place n, if one follows.
abbrev pub follower : List ℕ → ℕ → Option Watch
follower [] n = None
follower (x ∷ xs) n = cond (nat_eq n x) (head_of xs) (follower xs n)
