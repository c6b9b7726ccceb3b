-- What holds of linked lists, and what the moves make of them.
use Rattle.std.specs.Prelude.{◌≡◌, ℕ, ◌<◌, ◌≤◌, true, List, length, slice_index_or}
use Rattle.sat_terms.specs.CubeOrder.{key}
use Rattle.watch_lists.specs.declared.nodes.Node.{Node}
use Rattle.watch_lists.specs.Places.{has, AreApart, first_or, next_in, prev_in}
use Rattle.watch_lists.specs.Nodes.{stop, node_at, list_at}

-- The place n is in the list xs, whose literals have the key k, as its node says.
pub record IsMember (nodes : List Node) (k : ℕ) (xs : List ℕ) (n : ℕ) : Type 0 where
  pub inside : n < length nodes
  pub next : (node_at nodes n).next ≡ next_in stop xs n
  pub prev : (node_at nodes n).prev ≡ prev_in stop xs n
  pub key : key (node_at nodes n).lit ≡ k

-- The nodes from this head on make the list xs, whose literals have the key k.
pub record IsList (nodes : List Node) (head k : ℕ) (xs : List ℕ) : Type 0 where
  pub apart : AreApart xs
  pub first : head ≡ first_or stop xs
  pub members : (n : ℕ) → has n xs ≡ true → IsMember nodes k xs n

-- Each list is one of places with its literal, without a repeat, linked both ways.
pub record IsLinked (nodes : List Node) (heads : List ℕ) : Type 0 where
  pub few : length nodes ≤ stop
  pub lists : (k : ℕ) → IsList nodes (slice_index_or heads k stop) k (list_at nodes heads k)
