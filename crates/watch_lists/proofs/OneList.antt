-- One list in the nodes: what a write changes, and that a walk gives it.
use Rattle.std.proofs.Common.{◌≡◌, ◌≢◌, ℕ, suc, ◌<◌, ◌≤◌, Bool, true, false, cond, nat_eq, List, [], ◌∷◌, length, set, get_or, refl, sym, ap, ap₂, ◌∙◌, inl, inr, arith, get_or-set_other}
use Rattle.std.proofs.lemmas.Bool.{cases_eq, cases_lt, eq-eqb, ne_eqb, lt-ltb, le-ltb}
use Rattle.std.proofs.lemmas.List.{set_past}
use Rattle.std.proofs.lemmas.Grind.{get_or-set_at}
use Rattle.watch_lists.specs.declared.nodes.Node.{Node}
use Rattle.watch_lists.specs.Places.{has, AreApart, first_or, next_in}
use Rattle.watch_lists.specs.Nodes.{stop, idle, node_at, put_next, put_prev, walk}
use Rattle.watch_lists.specs.Linked.{IsList}
use Rattle.watch_lists.proofs.Places.{few_places, differs}

pub set_at : {A : Type 0} → (xs : List A) (a n : ℕ) (v d : A) → n < length xs →
    get_or (set xs a v) n d ≡ cond (nat_eq n a) v (get_or xs n d)
set_at xs a n v d inside =
    elim (cases_eq n a) [
      | inl same ↦ rw (eq-eqb n a same) (get_or-set_at xs a n v d same (omega arith))
      | inr other ↦ rw (ne_eqb n a other) (get_or-set_other xs a n v d other)
    ]

-- a field that a write leaves
pub set_field : {B : Type 0} → (f : Node → B) (nodes : List Node) (a n : ℕ) (v : Node) →
    f v ≡ f (node_at nodes a) → f (node_at (set nodes a v) n) ≡ f (node_at nodes n)
set_field f nodes a n v same =
    elim (cases_eq n a) [
      | inl here ↦ elim (cases_lt a (length nodes)) [
        | inl inside ↦
            ap f (get_or-set_at nodes a n v idle here inside) ∙ same ∙ ap (λ k. f (node_at nodes k)) (sym here)
        | inr past ↦ ap (λ xs. f (node_at xs n)) (set_past nodes a v past)
      ]
      | inr other ↦ ap f (get_or-set_other nodes a n v idle other)
    ]

pub cond_ap : {A B : Type 0} → (f : A → B) (b : Bool) (x y : A) → f (cond b x y) ≡ cond b (f x) (f y)
cond_ap f true x y = refl
cond_ap f false x y = refl

-- the fields after a write
pub next_put : (nodes : List Node) (a v n : ℕ) → n < length nodes →
    (node_at (put_next nodes a v) n).next ≡ cond (nat_eq n a) v (node_at nodes n).next
next_put nodes a v n inside =
    ap (λ m. m.next) (set_at nodes a n (record (node_at nodes a) { next = v }) idle inside)
    ∙ cond_ap (λ m. m.next) (nat_eq n a) (record (node_at nodes a) { next = v }) (node_at nodes n)

pub prev_put : (nodes : List Node) (a v n : ℕ) → n < length nodes →
    (node_at (put_prev nodes a v) n).prev ≡ cond (nat_eq n a) v (node_at nodes n).prev
prev_put nodes a v n inside =
    ap (λ m. m.prev) (set_at nodes a n (record (node_at nodes a) { prev = v }) idle inside)
    ∙ cond_ap (λ m. m.prev) (nat_eq n a) (record (node_at nodes a) { prev = v }) (node_at nodes n)

pub walk_is : (nodes : List Node) (fuel at : ℕ) (xs : List ℕ) → length nodes ≤ stop → AreApart xs →
    at ≡ first_or stop xs →
    ((n : ℕ) → has n xs ≡ true → (n < length nodes) × ((node_at nodes n).next ≡ next_in stop xs n)) →
    length xs ≤ fuel → walk nodes fuel at ≡ xs
walk_is nodes (suc fuel) at [] few apart first links short =
    let past : length nodes ≤ at = omega arith in rw (le-ltb at (length nodes) past) refl
walk_is nodes (suc fuel) at (x ∷ xs) few apart first links short =
    let here = links x (rw (eq-eqb x x refl) refl) in
    let inside : at < length nodes = omega (arith, here.0) in
    let after : (node_at nodes at).next ≡ first_or stop xs =
    ap (λ n. (node_at nodes n).next) first ∙ here.1 ∙ rw (eq-eqb x x refl) refl in
    let later : (n : ℕ) → has n xs ≡ true → (n < length nodes) × ((node_at nodes n).next ≡ next_in stop xs n) =
    λ n h. let other : n ≢ x = differs n x xs h apart.0 in
    let same = links n (rw (ne_eqb n x other) h) in
    (same.0, same.1 ∙ rw (ne_eqb n x other) refl) in
    rw (lt-ltb at (length nodes) inside)
    (ap₂ (λ n ns. n ∷ ns) first (walk_is nodes fuel (node_at nodes at).next xs few apart.1 after later (omega arith)))
walk_is nodes fuel at [] few apart first links short = refl
walk_is nodes fuel at (x ∷ xs) few apart first links short = absurd (omega arith)

-- the walk from the head gives the list
pub listed : (nodes : List Node) (head k : ℕ) (xs : List ℕ) → length nodes ≤ stop → IsList nodes head k xs →
    walk nodes (length nodes) head ≡ xs
listed nodes head k xs few l =
    walk_is nodes (length nodes) head xs few l.apart l.first
    (λ n h. let m = l.members n h in (m.inside, m.next))
    (few_places (length nodes) xs l.apart (λ q h. (l.members q h).inside))
