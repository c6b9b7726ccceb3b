-- A place taken out of its list.
use Rattle.std.proofs.Common.{◌≡◌, ◌≢◌, ℕ, ◌<◌, ◌≤◌, true, false, cond, nat_eq, List, [], ◌∷◌, length, get_or, refl, sym, ap, ap₂, subst, ◌∙◌, inl, inr, arith, get_or-set_other, length-set}
use Rattle.std.proofs.lemmas.List.{length-map}
use Rattle.std.proofs.lemmas.Bool.{cases_eq, cases_lt, eq-eqb, ne_eqb, cases_Bool}
use Rattle.std.proofs.lemmas.Grind.{get_or-set_at}
use Rattle.std.proofs.Math.ListN.{get_or-eq_default, get_or-map}
use Rattle.sat_terms.specs.CubeOrder.{key}
use Rattle.watch_lists.specs.declared.nodes.Node.{Node}
use Rattle.watch_lists.specs.Places.{has, first_or, next_in, prev_in, delete}
use Rattle.watch_lists.specs.Views.{Stands}
use Rattle.watch_lists.specs.Views as views
use Rattle.watch_lists.specs.Nodes.{lists_view, stop, node_at, put_next, put_prev, put_head, lists_of, list_at}
use Rattle.watch_lists.specs.Linked.{IsList, IsLinked}
use Rattle.watch_lists.proofs.Places.{differs, prev_has, next_has, delete_absent, delete_has, delete_gone, delete_apart, first_delete, next_delete, prev_delete}
use Rattle.watch_lists.proofs.OneList.{set_field, next_put, prev_put}
use Rattle.watch_lists.proofs.AllLists.{lists_are, linked_is, count_is, lit_is, stands_at, same_view, elsewhere, no_end, near}

-- a list that is not empty has a place in the table
pub has_head : (nodes : List Node) (heads : List ℕ) (k n : ℕ) → IsLinked nodes heads →
    has n (list_at nodes heads k) ≡ true → k < length heads
has_head nodes heads k n linked h =
    elim (cases_lt k (length heads)) [
      | inl inside ↦ inside
      | inr past ↦ absurd (nothing (list_at nodes heads k) (linked.lists k) h (sym (get_or-eq_default heads stop past) ∙ (linked.lists k).first))
    ]
  where
    nothing : (xs : List ℕ) → IsList nodes (get_or heads k stop) k xs → has n xs ≡ true → stop ≡ first_or stop xs → ⊥
    nothing [] l h e = grind arith
    nothing (x ∷ xs) l h e =
        let few = linked.few in
        let m = (l.members x (rw (eq-eqb x x refl) refl)).inside in
        let same : stop ≡ x = e in
        omega arith

record Taken (nodes : List Node) (heads : List ℕ) (x k at next : ℕ) : Type 0 where
  few : length nodes ≤ stop
  linked : IsLinked nodes heads
  is : k ≡ key (node_at nodes x).lit
  stands : has x (list_at nodes heads k) ≡ true
  before : at ≡ prev_in stop (list_at nodes heads k) x
  after : next ≡ next_in stop (list_at nodes heads k) x

taken_nodes : List Node → ℕ → ℕ → List Node
taken_nodes nodes at next = put_prev (put_next nodes at next) next at

next_now : (nodes : List Node) (at next n : ℕ) → n < length nodes →
    (node_at (taken_nodes nodes at next) n).next ≡ cond (nat_eq n at) next (node_at nodes n).next
unfolding taken_nodes
next_now nodes at next n inside =
    set_field (λ m. m.next) (put_next nodes at next) next n (record (node_at (put_next nodes at next) next) { prev = at }) refl
    ∙ next_put nodes at next n inside

prev_now : (nodes : List Node) (at next n : ℕ) → n < length nodes →
    (node_at (taken_nodes nodes at next) n).prev ≡ cond (nat_eq n next) at (node_at nodes n).prev
unfolding taken_nodes
prev_now nodes at next n inside =
    prev_put (put_next nodes at next) next at n (omega (arith, length-set nodes at (record (node_at nodes at) { next = next })))
    ∙ ap (λ v. cond (nat_eq n next) at v) (set_field (λ m. m.prev) nodes at n (record (node_at nodes at) { next = next }) refl)

lit_now : (nodes : List Node) (at next n : ℕ) →
    (node_at (taken_nodes nodes at next) n).lit ≡ (node_at nodes n).lit
unfolding taken_nodes
lit_now nodes at next n =
    set_field (λ m. m.lit) (put_next nodes at next) next n (record (node_at (put_next nodes at next) next) { prev = at }) refl
    ∙ set_field (λ m. m.lit) nodes at n (record (node_at nodes at) { next = next }) refl

long_now : (nodes : List Node) (at next : ℕ) → length (taken_nodes nodes at next) ≡ length nodes
unfolding taken_nodes
long_now nodes at next =
    length-set (put_next nodes at next) next (record (node_at (put_next nodes at next) next) { prev = at })
    ∙ length-set nodes at (record (node_at nodes at) { next = next })

-- the list of the place
own : (nodes : List Node) (heads : List ℕ) (x k at next : ℕ) → Taken nodes heads x k at next →
    IsList (taken_nodes nodes at next) (get_or (put_head heads k at next) k stop) k (delete x (list_at nodes heads k))
own nodes heads x k at next t =
    let xs = list_at nodes heads k in
    let l = t.linked.lists k in
    let out : has stop xs ≡ false = no_end nodes (get_or heads k stop) k xs t.few l in
    record {
      apart = delete_apart x xs l.apart;
      first = elim (cases_eq at stop) [
        | inl start ↦
            rw (eq-eqb at stop start) (get_or-set_at heads k k next stop refl (has_head nodes heads k x t.linked t.stands)
            ∙ t.after
            ∙ sym (first_delete stop stop x xs out l.apart t.stands
            ∙ ap (λ b. cond b (next_in stop xs x) (first_or stop xs)) (eq-eqb stop (prev_in stop xs x) (sym start ∙ t.before))))
        | inr inner ↦
            rw (ne_eqb at stop inner) (l.first
            ∙ sym (first_delete stop stop x xs out l.apart t.stands
            ∙ ap (λ b. cond b (next_in stop xs x) (first_or stop xs)) (ne_eqb stop (prev_in stop xs x) (λ e. inner (t.before ∙ sym e)))))
      ];
      members = λ n h.
          let other : n ≢ x = λ e. differs n x (delete x xs) h (delete_gone x xs l.apart) e in
          let here : has n xs ≡ true = sym (delete_has x n xs other) ∙ h in
          let m = l.members n here in
          record {
            inside = subst (λ s. n < s) (sym (long_now nodes at next)) m.inside;
            next = next_now nodes at next n m.inside
                ∙ ap₂ (λ a b. cond (nat_eq n a) b (node_at nodes n).next) t.before t.after
                ∙ ap (λ v. cond (nat_eq n (prev_in stop xs x)) (next_in stop xs x) v) m.next
                ∙ sym (next_delete stop stop x n xs l.apart out t.stands here other);
            prev = prev_now nodes at next n m.inside
                ∙ ap₂ (λ a b. cond (nat_eq n a) b (node_at nodes n).prev) t.after t.before
                ∙ ap (λ v. cond (nat_eq n (next_in stop xs x)) (prev_in stop xs x) v) m.prev
                ∙ sym (prev_delete stop stop x n xs l.apart out t.stands here other);
            key = ap key (lit_now nodes at next n) ∙ m.key;
          };
    }

-- another list
others : (nodes : List Node) (heads : List ℕ) (x k at next j : ℕ) → Taken nodes heads x k at next → j ≢ k →
    IsList (taken_nodes nodes at next) (get_or (put_head heads k at next) j stop) j (list_at nodes heads j)
others nodes heads x k at next j t other =
    let xs = list_at nodes heads j in
    let l = t.linked.lists j in
    record {
      apart = l.apart;
      first = elim (cases_eq at stop) [
        | inl start ↦ rw (eq-eqb at stop start) (get_or-set_other heads k j next stop other ∙ l.first)
        | inr inner ↦ rw (ne_eqb at stop inner) l.first
      ];
      members = λ n h.
          let m = l.members n h in
          let away : has n (list_at nodes heads k) ≡ false =
          elsewhere nodes heads k n t.linked (λ e. other (sym m.key ∙ sym e)) in
          let not_before : n ≢ at = λ e. near nodes heads k n (prev_in stop (list_at nodes heads k) x) t.linked
          (prev_has stop x (list_at nodes heads k) t.stands) away m.inside (e ∙ t.before) in
          let not_after : n ≢ next = λ e. near nodes heads k n (next_in stop (list_at nodes heads k) x) t.linked
          (next_has stop x (list_at nodes heads k) t.stands) away m.inside (e ∙ t.after) in
          record {
            inside = subst (λ s. n < s) (sym (long_now nodes at next)) m.inside;
            next = next_now nodes at next n m.inside
                ∙ ap (λ b. cond b next (node_at nodes n).next) (ne_eqb n at not_before) ∙ m.next;
            prev = prev_now nodes at next n m.inside
                ∙ ap (λ b. cond b at (node_at nodes n).prev) (ne_eqb n next not_after) ∙ m.prev;
            key = ap key (lit_now nodes at next n) ∙ m.key;
          };
    }

fits : (nodes : List Node) (heads : List ℕ) (x k at next : ℕ) → Taken nodes heads x k at next →
    (j : ℕ) → IsList (taken_nodes nodes at next) (get_or (put_head heads k at next) j stop) j (delete x (list_at nodes heads j))
fits nodes heads x k at next t j =
    elim (cases_eq j k) [
      | inl same ↦ subst (λ i. IsList (taken_nodes nodes at next) (get_or (put_head heads k at next) i stop) i (delete x (list_at nodes heads i))) (sym same) (own nodes heads x k at next t)
      | inr other ↦
          subst (IsList (taken_nodes nodes at next) (get_or (put_head heads k at next) j stop) j)
          (sym (delete_absent x (list_at nodes heads j) (elsewhere nodes heads j x t.linked (λ e. other (e ∙ sym t.is)))))
          (others nodes heads x k at next j t other)
    ]

taken : (nodes : List Node) (heads : List ℕ) (x : ℕ) → IsLinked nodes heads →
    has x (list_at nodes heads (key (node_at nodes x).lit)) ≡ true →
    Taken nodes heads x (key (node_at nodes x).lit) (node_at nodes x).prev (node_at nodes x).next
taken nodes heads x linked h =
    let m = (linked.lists (key (node_at nodes x).lit)).members x h in
    record { few = linked.few; linked = linked; is = refl; stands = h; before = m.prev; after = m.next }

pub record Leaves (nodes : List Node) (heads : List ℕ) (x : ℕ) (after : List Node) (heads' : List ℕ) : Type 0 where
  pub linked : IsLinked after heads'
  pub taken : lists_view after heads' ≡ views.taken (lists_view nodes heads) x

leaves : (nodes : List Node) (heads : List ℕ) (x : ℕ) → IsLinked nodes heads →
    has x (list_at nodes heads (key (node_at nodes x).lit)) ≡ true →
    Leaves nodes heads x
    (put_prev (put_next nodes (node_at nodes x).prev (node_at nodes x).next) (node_at nodes x).next (node_at nodes x).prev)
    (put_head heads (key (node_at nodes x).lit) (node_at nodes x).prev (node_at nodes x).next)
unfolding taken_nodes
leaves nodes heads x linked h =
    let at = (node_at nodes x).prev in
    let next = (node_at nodes x).next in
    let k = key (node_at nodes x).lit in
    let after = taken_nodes nodes at next in
    let heads' = put_head heads k at next in
    let t = taken nodes heads x linked h in
    let long = long_now nodes at next in
    let few : length after ≤ stop = subst (λ s. s ≤ stop) (sym long) linked.few in
    let ys : ℕ → List ℕ = λ j. delete x (list_at nodes heads j) in
    let count : length heads' ≡ length heads = elim (cases_Bool (nat_eq at stop)) [
      | inl b ↦ rw b (length-set heads k next)
      | inr b ↦ rw b refl
    ] in
    record {
      linked = linked_is after heads' ys few (fits nodes heads x k at next t);
      taken = same_view (lists_view after heads') (views.taken (lists_view nodes heads) x)
          (count_is after heads' ∙ count ∙ sym (length-map (lists_of nodes heads) (delete x) ∙ count_is nodes heads))
          (length-map after (λ (m : Node). m.lit) ∙ long ∙ sym (length-map nodes (λ (m : Node). m.lit)))
          (λ j inside. lists_are after heads' ys few (fits nodes heads x k at next t) j ∙ sym (get_or-map (delete x) (lists_of nodes heads) j []))
          (λ n inside. lit_is after n ∙ lit_now nodes at next n ∙ sym (lit_is nodes n));
    }

pub leaves_from : (nodes : List Node) (heads : List ℕ) (x : ℕ) (node : Node) (k : ℕ) (middle after : List Node) (heads' : List ℕ) →
    IsLinked nodes heads → Stands (lists_view nodes heads) x →
    node ≡ node_at nodes x → k ≡ key node.lit →
    middle ≡ put_next nodes node.prev node.next → heads' ≡ put_head heads k node.prev node.next →
    after ≡ put_prev middle node.next node.prev → Leaves nodes heads x after heads'
leaves_from nodes heads x node k middle after heads' linked h is list written table behind =
    let nodes_are = behind ∙ ap₂ (λ xs m. put_prev xs m.next m.prev) (written ∙ ap (λ m. put_next nodes m.prev m.next) is) is in
    let heads_are = table ∙ ap (λ j. put_head heads j node.prev node.next) list ∙ ap (λ m. put_head heads (key m.lit) m.prev m.next) is in
    subst (λ hs. Leaves nodes heads x after hs) (sym heads_are)
    (subst (λ ns. Leaves nodes heads x ns (put_head heads (key (node_at nodes x).lit) (node_at nodes x).prev (node_at nodes x).next)) (sym nodes_are)
    (leaves nodes heads x linked (stands_at nodes heads x h)))
