-- What the moves make of the view.
use Rattle.std.proofs.Common.{◌≡◌, ◌≢◌, ℕ, zero, suc, ◌+◌, ◌-◌, map, ◌<◌, ◌≤◌, true, false, cond, nat_eq, List, [], ◌∷◌, ◌++◌, length, get_or, ℤ, pos, refl, sym, ap, subst, ◌∙◌, inl, inr, arith, ◌||◌, Option, Some, None}
use Rattle.std.specs.Prelude.{IfSome}
use Rattle.std.proofs.lemmas.Bool.{cases_eq, cases_Bool, cases_lt, eq-eqb, ne_eqb}
use Rattle.std.proofs.Common.{set, replicate, length-set, length-append}
use Rattle.std.proofs.lemmas.List.{ext_get_or, get_or-replicate, length-map, length-replicate, map-append, get_or_append_left, get_or_default}
use Rattle.std.proofs.Math.ListN.{get_or-eq_default, get_or-map}
use Rattle.sat_terms.specs.CubeOrder.{key}
use Rattle.watch_lists.specs.declared.nodes.Node.{Node}
use Rattle.watch_lists.specs.declared.watch.Watch.{Watch}
use Rattle.watch_lists.specs.Places.{has, AreApart, first_or, next_in, delete}
use Rattle.watch_lists.specs.Nodes.{stop, idle, node_at, lists_view, lists_of, list_at}
use Rattle.watch_lists.specs.Views.{ListsView, list_of, lit_of, IsFree, IsPlaced, Stands, taken, pushed, moved, with_places, watched, head_of, follower}
use Rattle.watch_lists.specs.Linked.{IsList, IsLinked}
use Rattle.watch_lists.proofs.Places.{delete_gone, has_later}
use Rattle.watch_lists.proofs.AllLists.{lists_are, linked_is, count_is, lit_is, no_end, same_view}
use Rattle.watch_lists.proofs.OneList.{set_at}

pub watched_two : (v : ListsView) (p : ℕ) (c : List ℤ) → 2 ≤ length c →
    watched v p c ≡ pushed (pushed v p (get_or c 0 (pos 0))) (p + 1) (get_or c 1 (pos 0))
watched_two v p [] long = absurd (omega arith)
watched_two v p (a ∷ []) long = absurd (omega arith)
watched_two v p (a ∷ b ∷ c) long = refl

pub watched_few : (v : ListsView) (p : ℕ) (c : List ℤ) → length c < 2 → watched v p c ≡ v
watched_few v p [] short = refl
watched_few v p (a ∷ []) short = refl
watched_few v p (a ∷ b ∷ c) short = absurd (omega arith)

-- a place that no list had is in none but the one that it was put in
pub free_pushed : (v : ListsView) (m n : ℕ) (l : ℤ) → IsFree v m → m ≢ n → IsFree (pushed v n l) m
free_pushed v m n l free other k =
    elim (cases_lt k (length v.lists)) [
      | inl inside ↦
          ap (λ xs. has m xs) (set_at v.lists (key l) k (n ∷ list_of v (key l)) [] inside)
          ∙ elim (cases_Bool (nat_eq k (key l))) [
            | inl here ↦ rw here (rw (ne_eqb m n other) (free (key l)))
            | inr there ↦ rw there (free k)
          ]
      | inr past ↦ ap (λ xs. has m xs) (get_or-eq_default (set v.lists (key l) (n ∷ list_of v (key l))) [] (omega (arith, length-set v.lists (key l) (n ∷ list_of v (key l)))))
    ]

-- a place taken out of its list is in none
pub free_taken : (v : ListsView) (n : ℕ) → ((k : ℕ) → AreApart (list_of v k)) → IsFree (taken v n) n
free_taken v n apart k = ap (λ xs. has n xs) (get_or-map (delete n) v.lists k []) ∙ delete_gone n (list_of v k) (apart k)

pub placed_is : (nodes : List Node) (heads : List ℕ) → IsLinked nodes heads → IsPlaced (lists_view nodes heads)
placed_is nodes heads linked = record {
  apart = λ k. (linked.lists k).apart;
  inside = λ k n h. subst (λ m. n < m) (sym (length-map nodes (λ (m : Node). m.lit))) ((linked.lists k).members n h).inside;
  key = λ k n h. ap key (lit_is nodes n) ∙ ((linked.lists k).members n h).key;
}

-- a place beyond the nodes is in no list
pub free_beyond : (v : ListsView) (n : ℕ) → IsPlaced v → length v.lits ≤ n → IsFree v n
free_beyond v n placed past k =
    elim (cases_Bool (has n (list_of v k))) [
      | inl h ↦ let below = placed.inside k n h in absurd (omega arith)
      | inr h ↦ h
    ]

not_first : (x : ℕ) (xs : List ℕ) → has stop (x ∷ xs) ≡ false → stop ≢ x
not_first x xs out e = let bad = sym (eq-eqb stop x e) in grind arith

out_later : (n x : ℕ) (xs : List ℕ) → has n (x ∷ xs) ≡ false → has n xs ≡ false
out_later n x xs out = grind arith

pub first_seen : (xs : List ℕ) → has stop xs ≡ false →
    cond (nat_eq (first_or stop xs) stop) None (Some (record { place = first_or stop xs })) ≡ head_of xs
first_seen [] out = ap (λ b. cond b None (Some (record { place = stop }))) (eq-eqb stop stop refl)
first_seen (x ∷ xs) out =
    ap (λ b. cond b None (Some (record { place = x }))) (ne_eqb x stop (λ e. not_first x xs out (sym e)))

pub after_seen : (xs : List ℕ) (n : ℕ) → has n xs ≡ true → has stop xs ≡ false →
    cond (nat_eq (next_in stop xs n) stop) None (Some (record { place = next_in stop xs n })) ≡ follower xs n
after_seen [] n h out = grind arith
after_seen (x ∷ xs) n h out =
    elim (cases_eq n x) [
      | inl same ↦ rw (eq-eqb n x same) (first_seen xs (out_later stop x xs out))
      | inr other ↦ rw (ne_eqb n x other) (after_seen xs n (has_later n x xs other h) (out_later stop x xs out))
    ]

-- more places change no list
pub record Grows (nodes more : List Node) (heads : List ℕ) (m : ℕ) : Type 0 where
  pub linked : IsLinked more heads
  pub grown : lists_view more heads ≡ with_places m (lists_view nodes heads)

idle_lits : (k : ℕ) → map (λ (m : Node). m.lit) (replicate k idle) ≡ replicate k (pos 0)
idle_lits zero = refl
idle_lits (suc k) = ap (λ xs. pos 0 ∷ xs) (idle_lits k)

grows : (nodes : List Node) (heads : List ℕ) (m : ℕ) → IsLinked nodes heads → m ≤ stop →
    Grows nodes (nodes ++ replicate (m - length nodes) idle) heads m
grows nodes heads m linked room =
    let new = replicate (m - length nodes) idle in
    let more = nodes ++ new in
    let long = length-append nodes new in
    let many = length-replicate (m - length nodes) idle in
    let old_few = linked.few in
    let few : length more ≤ stop = omega arith in
    let ys : ℕ → List ℕ = list_at nodes heads in
    let lits : map (λ (n : Node). n.lit) more ≡ map (λ (n : Node). n.lit) nodes ++ replicate (m - length (map (λ (n : Node). n.lit) nodes)) (pos 0) =
    map-append (λ (n : Node). n.lit) nodes new ∙ ap (λ xs. map (λ (n : Node). n.lit) nodes ++ xs) (idle_lits (m - length nodes) ∙ ap (λ k. replicate (m - k) (pos 0)) (sym (length-map nodes (λ (n : Node). n.lit)))) in
    let fit : (k : ℕ) → IsList more (get_or heads k stop) k (ys k) = λ k.
    let old = linked.lists k in
    record {
      apart = old.apart;
      first = old.first;
      members = λ n h.
          let m = old.members n h in
          let same : node_at more n ≡ node_at nodes n = get_or_append_left nodes new idle n m.inside in
          record {
            inside = omega (arith, m.inside);
            next = ap (λ x. x.next) same ∙ m.next;
            prev = ap (λ x. x.prev) same ∙ m.prev;
            key = ap (λ x. key x.lit) same ∙ m.key;
          };
    } in
    record {
      linked = linked_is more heads ys few fit;
      grown = same_view (lists_view more heads) (with_places m (lists_view nodes heads))
          (count_is more heads ∙ sym (count_is nodes heads))
          (ap (λ ts. length ts) lits)
          (λ k inside. lists_are more heads ys few fit k)
          (λ n inside. ap (λ ts. get_or ts n (pos 0)) lits);
    }

pub grows_from : (nodes more : List Node) (heads : List ℕ) (m : ℕ) → IsLinked nodes heads → m ≤ stop →
    more ≡ nodes ++ replicate (m - length nodes) idle → Grows nodes more heads m
grows_from nodes more heads m linked room is = subst (λ ns. Grows nodes ns heads m) (sym is) (grows nodes heads m linked room)

-- lists without a place
pub record Begins (nodes : List Node) (heads : List ℕ) (n : ℕ) : Type 0 where
  pub linked : IsLinked nodes heads
  pub lists : lists_of nodes heads ≡ replicate n []

begins : (nodes : List Node) (n : ℕ) → length nodes ≤ stop → Begins nodes (replicate n stop) n
begins nodes n few =
    let heads = replicate n stop in
    let none : (k : ℕ) → get_or heads k stop ≡ stop = λ k. elim (cases_lt k n) [
      | inl inside ↦ get_or-replicate n k stop stop inside
      | inr past ↦ get_or-eq_default heads stop (omega (arith, length-replicate n stop))
    ] in
    let fit : (k : ℕ) → IsList nodes (get_or heads k stop) k [] = λ k. record {
      apart = tt;
      first = none k;
      members = λ j h. grind arith;
    } in
    let same = count_is nodes heads ∙ length-replicate n stop ∙ sym (length-replicate {A = List ℕ} n []) in
    record {
      linked = linked_is nodes heads (λ k. []) few fit;
      lists = ext_get_or [] (lists_of nodes heads) (replicate n []) same
          (λ k inside. lists_are nodes heads (λ j. []) few fit k ∙ sym (get_or-replicate n k [] [] (omega (arith, same, length-replicate {A = List ℕ} n []))));
    }

pub begins_from : (nodes : List Node) (heads : List ℕ) (n : ℕ) → length nodes ≤ stop → heads ≡ replicate n stop → Begins nodes heads n
begins_from nodes heads n few all = subst (λ hs. Begins nodes hs n) (sym all) (begins nodes n few)

pub nothing_stands : (lists : List (List ℕ)) (n k m : ℕ) → lists ≡ replicate n [] → has m (get_or lists k []) ≡ false
nothing_stands lists n k m is =
    elim (cases_lt k n) [
      | inl inside ↦ ap (λ xs. has m xs) (ap (λ ls. get_or ls k []) is ∙ get_or-replicate n k [] [] inside)
      | inr past ↦ ap (λ xs. has m xs) (ap (λ ls. get_or ls k []) is ∙ get_or-eq_default (replicate n []) [] (omega (arith, length-replicate {A = List ℕ} n [])))
    ]

pub end_is_none : (nodes : List Node) (heads : List ℕ) (k : ℕ) → IsLinked nodes heads → has stop (list_at nodes heads k) ≡ false
end_is_none nodes heads k linked = no_end nodes (get_or heads k stop) k (list_at nodes heads k) linked.few (linked.lists k)

pub first_is : (nodes : List Node) (heads : List ℕ) (k head : ℕ) → IsLinked nodes heads → head ≡ get_or heads k stop →
    cond (nat_eq head stop) None (Some (record { place = head })) ≡ head_of (list_at nodes heads k)
first_is nodes heads k head linked is =
    ap (λ n. cond (nat_eq n stop) None (Some (record { place = n }))) (is ∙ (linked.lists k).first)
    ∙ first_seen (list_at nodes heads k) (end_is_none nodes heads k linked)

pub after_is : (nodes : List Node) (heads : List ℕ) (n : ℕ) (node : Node) → IsLinked nodes heads → Stands (lists_view nodes heads) n →
    node ≡ get_or nodes n node →
    cond (nat_eq node.next stop) None (Some (record { place = node.next }))
    ≡ follower (list_at nodes heads (key (lit_of (lists_view nodes heads) n))) n
after_is nodes heads n node linked h is =
    let k = key (lit_of (lists_view nodes heads) n) in
    let m = (linked.lists k).members n h in
    let same : node ≡ node_at nodes n = is ∙ get_or_default nodes n node idle m.inside in
    ap (λ p. cond (nat_eq p stop) None (Some (record { place = p }))) (ap (λ x. x.next) same ∙ m.next)
    ∙ after_seen (list_at nodes heads k) n h (end_is_none nodes heads k linked)

-- a place that stands has a node
pub stands_inside : (v : ListsView) (n : ℕ) → IsPlaced v → Stands v n → n < length v.lits
stands_inside v n placed h = placed.inside (key (lit_of v n)) n h

pub pushed_count : (v w : ListsView) (n : ℕ) (l : ℤ) → w ≡ pushed v n l → length w.lists ≡ length v.lists
pushed_count v w n l is = ap (λ (u : ListsView). length u.lists) is ∙ length-set v.lists (key l) (n ∷ list_of v (key l))

pub watched_lits : (v : ListsView) (p : ℕ) (c : List ℤ) → length (watched v p c).lits ≡ length v.lits
watched_lits v p [] = refl
watched_lits v p (a ∷ []) = refl
watched_lits v p (a ∷ b ∷ c) = length-set (set v.lits p a) (p + 1) b ∙ length-set v.lits p a

pub watched_lists : (v : ListsView) (p : ℕ) (c : List ℤ) → length (watched v p c).lists ≡ length v.lists
watched_lists v p [] = refl
watched_lists v p (a ∷ []) = refl
watched_lists v p (a ∷ b ∷ c) =
    pushed_count (pushed v p a) (pushed (pushed v p a) (p + 1) b) (p + 1) b refl
    ∙ pushed_count v (pushed v p a) p a refl

pub moved_count : (v w : ListsView) (n : ℕ) (l : ℤ) → w ≡ moved v n l → length w.lists ≡ length v.lists
moved_count v w n l is = pushed_count (taken v n) w n l is ∙ length-map v.lists (delete n)

-- a member of a list stands
pub member_stands : (v : ListsView) (k n : ℕ) → IsPlaced v → has n (list_of v k) ≡ true → Stands v n
member_stands v k n placed h = subst (λ j. has n (list_of v j) ≡ true) (sym (placed.key k n h)) h

head_has : (xs : List ℕ) → IfSome (head_of xs) (λ w. has w.place xs ≡ true)
head_has [] = tt
head_has (x ∷ xs) = ap (λ b. b || has x xs) (eq-eqb x x refl)

later_has : (x : ℕ) (xs : List ℕ) (r : Option Watch) → IfSome r (λ w. has w.place xs ≡ true) → IfSome r (λ w. has w.place (x ∷ xs) ≡ true)
later_has x xs None h = h
later_has x xs (Some w) h = grind arith

follower_has : (xs : List ℕ) (n : ℕ) → IfSome (follower xs n) (λ w. has w.place xs ≡ true)
follower_has [] n = tt
follower_has (x ∷ xs) n =
    elim (cases_eq n x) [
      | inl same ↦ rw (eq-eqb n x same) (later_has x xs (head_of xs) (head_has xs))
      | inr other ↦ rw (ne_eqb n x other) (later_has x xs (follower xs n) (follower_has xs n))
    ]

stands_some : (v : ListsView) (k : ℕ) (r : Option Watch) → IsPlaced v → IfSome r (λ w. has w.place (list_of v k) ≡ true) → IfSome r (λ w. Stands v w.place)
stands_some v k None placed h = h
stands_some v k (Some w) placed h = member_stands v k w.place placed h

pub first_stands : (v : ListsView) (k : ℕ) (r : Option Watch) → IsPlaced v → r ≡ head_of (list_of v k) → IfSome r (λ w. Stands v w.place)
first_stands v k r placed is = stands_some v k r placed (subst (λ q. IfSome q (λ w. has w.place (list_of v k) ≡ true)) (sym is) (head_has (list_of v k)))

pub after_stands : (v : ListsView) (k n : ℕ) (r : Option Watch) → IsPlaced v → r ≡ follower (list_of v k) n → IfSome r (λ w. Stands v w.place)
after_stands v k n r placed is = stands_some v k r placed (subst (λ q. IfSome q (λ w. has w.place (list_of v k) ≡ true)) (sym is) (follower_has (list_of v k) n))
