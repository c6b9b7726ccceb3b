-- A place put at the head of a list.
use Rattle.std.proofs.Common.{◌≡◌, ◌≢◌, ℕ, ◌<◌, ◌≤◌, true, false, cond, nat_eq, List, [], ◌∷◌, length, set, get_or, ℤ, pos, refl, sym, ap, ap₂, subst, ◌∙◌, inl, inr, arith, get_or-set_other, length-set, map}
use Rattle.std.proofs.lemmas.List.{length-map}
use Rattle.std.proofs.lemmas.Bool.{cases_eq, eq-eqb, ne_eqb}
use Rattle.std.proofs.lemmas.Grind.{get_or-set_at}
use Rattle.sat_terms.specs.CubeOrder.{key}
use Rattle.watch_lists.specs.declared.nodes.Node.{Node}
use Rattle.watch_lists.specs.Places.{has, first_or, next_in, prev_in}
use Rattle.watch_lists.specs.Views.{IsFree, pushed}
use Rattle.watch_lists.specs.Nodes.{lists_view, stop, idle, node_at, put_prev, lists_of, list_at}
use Rattle.watch_lists.specs.Linked.{IsList, IsLinked}
use Rattle.watch_lists.proofs.Places.{differs, prev_front, has_later}
use Rattle.watch_lists.proofs.OneList.{set_at, set_field, prev_put, cond_ap}
use Rattle.watch_lists.proofs.AllLists.{lists_are, linked_is, count_is, lit_is, same_view, elsewhere, near, first_has}

record Goes (nodes : List Node) (heads : List ℕ) (x : ℕ) (l : ℤ) : Type 0 where
  linked : IsLinked nodes heads
  idle : IsFree (lists_view nodes heads) x
  inside : x < length nodes
  list : key l < length heads

node_of : List ℕ → ℤ → Node
node_of heads l = record { next = get_or heads (key l) stop; prev = stop; lit = l }

pushed_nodes : List Node → List ℕ → ℕ → ℤ → List Node
pushed_nodes nodes heads x l = put_prev (set nodes x (node_of heads l)) (get_or heads (key l) stop) x

-- a place in no list is not the head of one
not_head : (nodes : List Node) (heads : List ℕ) (k n : ℕ) → IsLinked nodes heads → n < length nodes →
    has n (list_at nodes heads k) ≡ false → n ≢ get_or heads k stop
not_head nodes heads k n linked inside out e =
    near nodes heads k n (first_or stop (list_at nodes heads k)) linked (first_has (list_at nodes heads k)) out inside
    (e ∙ (linked.lists k).first)

long_now : (nodes : List Node) (heads : List ℕ) (x : ℕ) (l : ℤ) → length (pushed_nodes nodes heads x l) ≡ length nodes
unfolding pushed_nodes
long_now nodes heads x l =
    length-set (set nodes x (node_of heads l)) (get_or heads (key l) stop)
    (record (node_at (set nodes x (node_of heads l)) (get_or heads (key l) stop)) { prev = x })
    ∙ length-set nodes x (node_of heads l)

next_now : (nodes : List Node) (heads : List ℕ) (x : ℕ) (l : ℤ) (n : ℕ) → n < length nodes →
    (node_at (pushed_nodes nodes heads x l) n).next ≡ cond (nat_eq n x) (get_or heads (key l) stop) (node_at nodes n).next
unfolding pushed_nodes node_of
next_now nodes heads x l n inside =
    set_field (λ m. m.next) (set nodes x (node_of heads l)) (get_or heads (key l) stop) n
    (record (node_at (set nodes x (node_of heads l)) (get_or heads (key l) stop)) { prev = x }) refl
    ∙ ap (λ m. m.next) (set_at nodes x n (node_of heads l) idle inside)
    ∙ cond_ap (λ m. m.next) (nat_eq n x) (node_of heads l) (node_at nodes n)

prev_now : (nodes : List Node) (heads : List ℕ) (x : ℕ) (l : ℤ) (n : ℕ) → n < length nodes →
    (node_at (pushed_nodes nodes heads x l) n).prev
    ≡ cond (nat_eq n (get_or heads (key l) stop)) x (cond (nat_eq n x) stop (node_at nodes n).prev)
unfolding pushed_nodes node_of
prev_now nodes heads x l n inside =
    prev_put (set nodes x (node_of heads l)) (get_or heads (key l) stop) x n (omega (arith, length-set nodes x (node_of heads l)))
    ∙ ap (λ v. cond (nat_eq n (get_or heads (key l) stop)) x v)
    (ap (λ m. m.prev) (set_at nodes x n (node_of heads l) idle inside)
    ∙ cond_ap (λ m. m.prev) (nat_eq n x) (node_of heads l) (node_at nodes n))

lit_now : (nodes : List Node) (heads : List ℕ) (x : ℕ) (l : ℤ) (n : ℕ) → x < length nodes →
    (node_at (pushed_nodes nodes heads x l) n).lit ≡ cond (nat_eq n x) l (node_at nodes n).lit
unfolding pushed_nodes node_of
lit_now nodes heads x l n inside =
    set_field (λ m. m.lit) (set nodes x (node_of heads l)) (get_or heads (key l) stop) n
    (record (node_at (set nodes x (node_of heads l)) (get_or heads (key l) stop)) { prev = x }) refl
    ∙ elim (cases_eq n x) [
      | inl same ↦ rw (eq-eqb n x same) (ap (λ m. m.lit) (get_or-set_at nodes x n (node_of heads l) idle same inside))
      | inr other ↦ rw (ne_eqb n x other) (ap (λ m. m.lit) (get_or-set_other nodes x n (node_of heads l) idle other))
    ]

-- the list of the literal
own : (nodes : List Node) (heads : List ℕ) (x : ℕ) (l : ℤ) → Goes nodes heads x l →
    IsList (pushed_nodes nodes heads x l) (get_or (set heads (key l) x) (key l) stop) (key l) (x ∷ list_at nodes heads (key l))
own nodes heads x l g =
    let k = key l in
    let xs = list_at nodes heads k in
    let old = g.linked.lists k in
    let head = get_or heads k stop in
    record {
      apart = (g.idle k, old.apart);
      first = get_or-set_at heads k k x stop refl g.list;
      members = λ n h. elim (cases_eq n x) [
        | inl same ↦
            let below : n < length nodes = omega (arith, g.inside) in
            let out : has n xs ≡ false = ap (λ m. has m xs) same ∙ g.idle k in
            record {
              inside = subst (λ s. n < s) (sym (long_now nodes heads x l)) below;
              next = next_now nodes heads x l n below
                  ∙ ap (λ b. cond b head (node_at nodes n).next) (eq-eqb n x same) ∙ old.first
                  ∙ sym (ap (λ b. cond b (first_or stop xs) (next_in stop xs n)) (eq-eqb n x same));
              prev = prev_now nodes heads x l n below
                  ∙ ap (λ b. cond b x (cond (nat_eq n x) stop (node_at nodes n).prev)) (ne_eqb n head (not_head nodes heads k n g.linked below out))
                  ∙ ap (λ b. cond b stop (node_at nodes n).prev) (eq-eqb n x same)
                  ∙ sym (ap (λ b. cond b stop (prev_in x xs n)) (eq-eqb n x same));
              key = ap key (lit_now nodes heads x l n g.inside ∙ ap (λ b. cond b l (node_at nodes n).lit) (eq-eqb n x same));
            }
        | inr other ↦
            let here : has n xs ≡ true = has_later n x xs other h in
            let m = old.members n here in
            record {
              inside = subst (λ s. n < s) (sym (long_now nodes heads x l)) m.inside;
              next = next_now nodes heads x l n m.inside
                  ∙ ap (λ b. cond b head (node_at nodes n).next) (ne_eqb n x other) ∙ m.next
                  ∙ sym (ap (λ b. cond b (first_or stop xs) (next_in stop xs n)) (ne_eqb n x other));
              prev = prev_now nodes heads x l n m.inside
                  ∙ ap (λ b. cond (nat_eq n head) x (cond b stop (node_at nodes n).prev)) (ne_eqb n x other)
                  ∙ ap₂ (λ a v. cond (nat_eq n a) x v) old.first m.prev
                  ∙ sym (prev_front stop stop x n xs old.apart here)
                  ∙ sym (ap (λ b. cond b stop (prev_in x xs n)) (ne_eqb n x other));
              key = ap key (lit_now nodes heads x l n g.inside ∙ ap (λ b. cond b l (node_at nodes n).lit) (ne_eqb n x other)) ∙ m.key;
            }
      ];
    }

-- another list
others : (nodes : List Node) (heads : List ℕ) (x : ℕ) (l : ℤ) (j : ℕ) → Goes nodes heads x l → j ≢ key l →
    IsList (pushed_nodes nodes heads x l) (get_or (set heads (key l) x) j stop) j (list_at nodes heads j)
others nodes heads x l j g other =
    let old = g.linked.lists j in
    record {
      apart = old.apart;
      first = get_or-set_other heads (key l) j x stop other ∙ old.first;
      members = λ n h.
          let m = old.members n h in
          let away : has n (list_at nodes heads (key l)) ≡ false =
          elsewhere nodes heads (key l) n g.linked (λ e. other (sym m.key ∙ sym e)) in
          let not_x : n ≢ x = differs n x (list_at nodes heads j) h (g.idle j) in
          let not_first = not_head nodes heads (key l) n g.linked m.inside away in
          record {
            inside = subst (λ s. n < s) (sym (long_now nodes heads x l)) m.inside;
            next = next_now nodes heads x l n m.inside
                ∙ ap (λ b. cond b (get_or heads (key l) stop) (node_at nodes n).next) (ne_eqb n x not_x) ∙ m.next;
            prev = prev_now nodes heads x l n m.inside
                ∙ ap₂ (λ a b. cond a x (cond b stop (node_at nodes n).prev)) (ne_eqb n (get_or heads (key l) stop) not_first) (ne_eqb n x not_x)
                ∙ m.prev;
            key = ap key (lit_now nodes heads x l n g.inside ∙ ap (λ b. cond b l (node_at nodes n).lit) (ne_eqb n x not_x)) ∙ m.key;
          };
    }

fits : (nodes : List Node) (heads : List ℕ) (x : ℕ) (l : ℤ) → Goes nodes heads x l → (j : ℕ) →
    IsList (pushed_nodes nodes heads x l) (get_or (set heads (key l) x) j stop) j
    (cond (nat_eq j (key l)) (x ∷ list_at nodes heads (key l)) (list_at nodes heads j))
fits nodes heads x l g j =
    elim (cases_eq j (key l)) [
      | inl same ↦
          rw (eq-eqb j (key l) same)
          (subst (λ i. IsList (pushed_nodes nodes heads x l) (get_or (set heads (key l) x) i stop) i (x ∷ list_at nodes heads (key l))) (sym same) (own nodes heads x l g))
      | inr other ↦ rw (ne_eqb j (key l) other) (others nodes heads x l j g other)
    ]

pub record Enters (nodes : List Node) (heads : List ℕ) (x : ℕ) (l : ℤ) (after : List Node) (heads' : List ℕ) : Type 0 where
  pub linked : IsLinked after heads'
  pub pushed : lists_view after heads' ≡ pushed (lists_view nodes heads) x l

enters : (nodes : List Node) (heads : List ℕ) (x : ℕ) (l : ℤ) → IsLinked nodes heads → IsFree (lists_view nodes heads) x →
    x < length nodes → key l < length heads →
    Enters nodes heads x l
    (put_prev (set nodes x (record { next = get_or heads (key l) stop; prev = stop; lit = l })) (get_or heads (key l) stop) x)
    (set heads (key l) x)
unfolding pushed_nodes node_of
enters nodes heads x l linked free inside list =
    let g : Goes nodes heads x l = record { linked = linked; idle = free; inside = inside; list = list } in
    let k = key l in
    let after = pushed_nodes nodes heads x l in
    let heads' = set heads k x in
    let ls = lists_of nodes heads in
    let ts = map (λ (m : Node). m.lit) nodes in
    let ys : ℕ → List ℕ = λ j. cond (nat_eq j k) (x ∷ list_at nodes heads k) (list_at nodes heads j) in
    let long = long_now nodes heads x l in
    let few : length after ≤ stop = subst (λ s. s ≤ stop) (sym long) linked.few in
    let count = count_is after heads' ∙ length-set heads k x ∙ sym (count_is nodes heads) in
    let places = length-map after (λ (m : Node). m.lit) ∙ long ∙ sym (length-map nodes (λ (m : Node). m.lit)) in
    record {
      linked = linked_is after heads' ys few (fits nodes heads x l g);
      pushed = same_view (lists_view after heads') (pushed (lists_view nodes heads) x l)
          (count ∙ sym (length-set ls k (x ∷ list_at nodes heads k)))
          (places ∙ sym (length-set ts x l))
          (λ j below. lists_are after heads' ys few (fits nodes heads x l g) j
          ∙ sym (set_at ls k j (x ∷ list_at nodes heads k) [] (subst (λ m. j < m) count below)))
          (λ n below. lit_is after n ∙ lit_now nodes heads x l n inside
          ∙ ap (λ t. cond (nat_eq n x) l t) (sym (lit_is nodes n))
          ∙ sym (set_at ts x n l (pos 0) (subst (λ m. n < m) places below)));
    }

pub enters_from : (nodes : List Node) (heads : List ℕ) (x : ℕ) (l : ℤ) (k head : ℕ) (middle after : List Node) (heads' : List ℕ) →
    IsLinked nodes heads → IsFree (lists_view nodes heads) x → x < length nodes → key l < length heads →
    k ≡ key l → head ≡ get_or heads (key l) stop →
    middle ≡ set nodes x (record { next = head; prev = stop; lit = l }) →
    after ≡ put_prev middle head x → heads' ≡ set heads k x → Enters nodes heads x l after heads'
enters_from nodes heads x l k head middle after heads' linked free inside list is first written behind table =
    let nodes_are = behind ∙ ap₂ (λ xs h. put_prev xs h x) (written ∙ ap (λ h. set nodes x (record { next = h; prev = stop; lit = l })) first) first in
    subst (λ hs. Enters nodes heads x l after hs) (sym (table ∙ ap (λ j. set heads j x) is))
    (subst (λ ns. Enters nodes heads x l ns (set heads (key l) x)) (sym nodes_are) (enters nodes heads x l linked free inside list))
