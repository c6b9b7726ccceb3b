-- All lists: what a place out of its list, and one at the head of a list, make of them.
use Rattle.std.proofs.Common.{◌≡◌, ◌≢◌, ℕ, ◌<◌, ◌≤◌, true, false, List, [], ◌∷◌, length, get_or, refl, sym, ap, ap₂, subst, ◌∙◌, inl, inr, arith}
use Rattle.std.proofs.Common.{map}
use Rattle.std.specs.Prelude.{pos}
use Rattle.std.proofs.lemmas.List.{ext_get_or, length-map}
use Rattle.std.proofs.Math.ListN.{get_or-map}
use Rattle.std.proofs.lemmas.Bool.{eq-eqb, ne_eqb, cases_Bool}
use Rattle.sat_terms.specs.CubeOrder.{key}
use Rattle.watch_lists.specs.declared.nodes.Node.{Node}
use Rattle.watch_lists.specs.Places.{has, first_or}
use Rattle.watch_lists.specs.Nodes.{stop, idle, node_at, walk, lists_of, list_at, lists_view}
use Rattle.watch_lists.specs.Views.{ListsView, list_of, lit_of, Stands}
use Rattle.watch_lists.specs.Linked.{IsList, IsLinked}
use Rattle.watch_lists.proofs.Places.{differs, prev_has, next_has, has_later}
use Rattle.watch_lists.proofs.OneList.{walk_is, listed}

-- lists that fit the nodes are those that the walks give
pub lists_are : (nodes : List Node) (heads : List ℕ) (ys : ℕ → List ℕ) → length nodes ≤ stop →
    ((k : ℕ) → IsList nodes (get_or heads k stop) k (ys k)) → (k : ℕ) → list_at nodes heads k ≡ ys k
unfolding lists_of
lists_are nodes heads ys few fit k =
    subst (λ d. get_or (map (walk nodes (length nodes)) heads) k d ≡ walk nodes (length nodes) (get_or heads k stop)) none
    (get_or-map (walk nodes (length nodes)) heads k stop)
    ∙ listed nodes (get_or heads k stop) k (ys k) few (fit k)
  where
    none : walk nodes (length nodes) stop ≡ []
    none = walk_is nodes (length nodes) stop [] few tt refl (λ n h. grind arith) (omega arith)

pub count_is : (nodes : List Node) (heads : List ℕ) → length (lists_of nodes heads) ≡ length heads
unfolding lists_of
count_is nodes heads = length-map heads (walk nodes (length nodes))

pub lit_is : (nodes : List Node) (n : ℕ) → get_or (map (λ m. m.lit) nodes) n (pos 0) ≡ (node_at nodes n).lit
lit_is nodes n = get_or-map (λ (m : Node). m.lit) nodes n idle

-- a place that stands, in its node's words
pub stands_at : (nodes : List Node) (heads : List ℕ) (n : ℕ) → Stands (lists_view nodes heads) n →
    has n (list_at nodes heads (key (node_at nodes n).lit)) ≡ true
stands_at nodes heads n h = subst (λ l. has n (list_at nodes heads (key l)) ≡ true) (lit_is nodes n) h

pub same_view : (v w : ListsView) → length v.lists ≡ length w.lists → length v.lits ≡ length w.lits →
    ((k : ℕ) → k < length v.lists → list_of v k ≡ list_of w k) →
    ((n : ℕ) → n < length v.lits → lit_of v n ≡ lit_of w n) → v ≡ w
same_view v w count places lists lits =
    ap₂ (λ a b. record { lists = a; lits = b })
    (ext_get_or [] v.lists w.lists count lists) (ext_get_or (pos 0) v.lits w.lits places lits)

pub linked_is : (nodes : List Node) (heads : List ℕ) (ys : ℕ → List ℕ) → length nodes ≤ stop →
    ((k : ℕ) → IsList nodes (get_or heads k stop) k (ys k)) → IsLinked nodes heads
linked_is nodes heads ys few fit = record {
  few = few;
  lists = λ k. subst (IsList nodes (get_or heads k stop) k) (sym (lists_are nodes heads ys few fit k)) (fit k);
}

-- a place is in no list but that of its literal
pub elsewhere : (nodes : List Node) (heads : List ℕ) (k n : ℕ) → IsLinked nodes heads →
    k ≢ key (node_at nodes n).lit → has n (list_at nodes heads k) ≡ false
elsewhere nodes heads k n linked other =
    elim (cases_Bool (has n (list_at nodes heads k))) [
      | inl h ↦ absurd (other (sym ((linked.lists k).members n h).key))
      | inr h ↦ h
    ]

-- the end is in no list
pub no_end : (nodes : List Node) (head k : ℕ) (xs : List ℕ) → length nodes ≤ stop → IsList nodes head k xs →
    has stop xs ≡ false
no_end nodes head k xs few l =
    elim (cases_Bool (has stop xs)) [
      | inl h ↦ let m = (l.members stop h).inside in absurd (omega arith)
      | inr h ↦ h
    ]

pub first_has : (xs : List ℕ) → has (first_or stop xs) (stop ∷ xs) ≡ true
first_has [] = rw (eq-eqb stop stop refl) refl
first_has (x ∷ xs) = grind arith

-- the neighbours of a place are in its list, or the end
pub near : (nodes : List Node) (heads : List ℕ) (k n m : ℕ) → IsLinked nodes heads →
    has m (stop ∷ list_at nodes heads k) ≡ true → has n (list_at nodes heads k) ≡ false → n < length nodes →
    n ≢ m
near nodes heads k n m linked h out inside same =
    let few = linked.few in
    let below : n ≢ stop = omega arith in
    let missing : has n (stop ∷ list_at nodes heads k) ≡ false = rw (ne_eqb n stop below) out in
    differs m n (stop ∷ list_at nodes heads k) h missing (sym same)

-- a neighbour that is not the end has a node
pub near_inside : (nodes : List Node) (heads : List ℕ) (k m : ℕ) → IsLinked nodes heads →
    has m (stop ∷ list_at nodes heads k) ≡ true → m < stop → m < length nodes
near_inside nodes heads k m linked h below =
    let other : m ≢ stop = omega arith in
    ((linked.lists k).members m (has_later m stop (list_at nodes heads k) other h)).inside

pub before_inside : (nodes : List Node) (heads : List ℕ) (n : ℕ) → IsLinked nodes heads →
    has n (list_at nodes heads (key (node_at nodes n).lit)) ≡ true →
    (node_at nodes n).prev < stop → (node_at nodes n).prev < length nodes
before_inside nodes heads n linked h =
    let xs = list_at nodes heads (key (node_at nodes n).lit) in
    let m = (linked.lists (key (node_at nodes n).lit)).members n h in
    near_inside nodes heads (key (node_at nodes n).lit) (node_at nodes n).prev linked
    (ap (λ p. has p (stop ∷ xs)) m.prev ∙ prev_has stop n xs h)

pub after_inside : (nodes : List Node) (heads : List ℕ) (n : ℕ) → IsLinked nodes heads →
    has n (list_at nodes heads (key (node_at nodes n).lit)) ≡ true →
    (node_at nodes n).next < stop → (node_at nodes n).next < length nodes
after_inside nodes heads n linked h =
    let xs = list_at nodes heads (key (node_at nodes n).lit) in
    let m = (linked.lists (key (node_at nodes n).lit)).members n h in
    near_inside nodes heads (key (node_at nodes n).lit) (node_at nodes n).next linked
    (ap (λ p. has p (stop ∷ xs)) m.next ∙ next_has stop n xs h)

pub head_inside : (nodes : List Node) (heads : List ℕ) (k : ℕ) → IsLinked nodes heads →
    get_or heads k stop < stop → get_or heads k stop < length nodes
head_inside nodes heads k linked =
    near_inside nodes heads k (get_or heads k stop) linked
    (ap (λ p. has p (stop ∷ list_at nodes heads k)) (linked.lists k).first ∙ first_has (list_at nodes heads k))
