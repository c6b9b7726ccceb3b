-- Lists of places in memory: a node for each place, and the first place of each list.
use Rattle.std.specs.Prelude.{ℕ, suc, cond, nat_eq, nat_lt, List, [], ◌∷◌, length, map, slice_set, slice_index_or, pos}
use Rattle.watch_lists.specs.declared.nodes.Node.{Node}
use Rattle.watch_lists.specs.Views.{ListsView}

-- The end of a list.
abbrev pub stop : ℕ
stop = 4294967295

-- A node in no list.
abbrev pub idle : Node
idle = record { next = stop; prev = stop; lit = pos 0 }

abbrev pub node_at : List Node → ℕ → Node
node_at nodes n = slice_index_or nodes n idle

-- Where another place follows n, stands before n, or is first in list k. Outside the nodes nothing
-- is written.
abbrev pub put_next : List Node → ℕ → ℕ → List Node
put_next nodes n next = slice_set nodes n (record (node_at nodes n) { next = next })

abbrev pub put_prev : List Node → ℕ → ℕ → List Node
put_prev nodes n prev = slice_set nodes n (record (node_at nodes n) { prev = prev })

-- The head of list k is another one where n is the end.
abbrev pub put_head : List ℕ → ℕ → ℕ → ℕ → List ℕ
put_head heads k n next = cond (nat_eq n stop) (slice_set heads k next) heads

-- The places from one on, at most so many.
abbrev pub walk : List Node → ℕ → ℕ → List ℕ
walk nodes (suc fuel) at =
    cond (nat_lt at (length nodes)) (at ∷ walk nodes fuel (node_at nodes at).next) []
walk nodes fuel at = []

-- The places of each list.
unfoldable pub lists_of : List Node → List ℕ → List (List ℕ)
lists_of nodes heads = map (walk nodes (length nodes)) heads

-- The places of list k.
abbrev pub list_at : List Node → List ℕ → ℕ → List ℕ
list_at nodes heads k = slice_index_or (lists_of nodes heads) k []

abbrev pub lists_view : List Node → List ℕ → ListsView
lists_view nodes heads = record {
  lists = lists_of nodes heads;
  lits = map (λ node. node.lit) nodes;
}
