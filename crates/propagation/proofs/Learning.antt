-- What a lemma that joins asks of the marks.
use Rattle.std.proofs.Common.{◌≡◌, ◌≢◌, ℕ, ◌+◌, ◌*◌, ◌/◌, ◌<◌, ◌≤◌, Bool, true, false, not, nat_eq, List, [], ◌∷◌, length, get_or, take, length-set, ℤ, pos, neg_ℤ, nat_abs, refl, sym, ap, subst, ◌∙◌, inl, inr, ◌⊎◌, arith}
use Rattle.std.specs.List.{list_any}
use Rattle.std.specs.Ordering.{int_eq}
use Rattle.std.proofs.lemmas.Bool.{both_ways, or_parts, or_from, cases_eq, false_from_ne_true, eq-eqb}
use Rattle.std.proofs.lemmas.List.{take-take}
use Rattle.sat_terms.proofs.CubeLemmas.{int_eq-true, nat_abs-neg}
use Rattle.chrono_trail.specs.declared.item.Item.{Item}
use Rattle.chrono_trail.specs.Trails.{TrailView}
use Rattle.chrono_trail.specs.Clauses.{is_false}
use Rattle.watch_lists.specs.Views.{ListsView, Stands, lit_of, partner, watched, with_places, pushed}
use Rattle.watch_lists.specs.Watching.{IsWatching, attached}
use Rattle.watch_lists.proofs.Watching.{Keeps, keeps_trans, wider_keeps, wider_room, watched_keeps, pushed_keeps, lit_here, stands_kept, partner_of_first, partner_of_second}
use Rattle.propagation.specs.Settled.{IsEasedBy, AreEased}
use Rattle.propagation.specs.Walking.{IsUnseenFor, is_of_either}
use Rattle.propagation.proofs.Truths.{false_front}
use Rattle.propagation.proofs.Watched.{two_of, partner_back}
use Rattle.propagation.proofs.Easing.{eased_less}

pub not_of_false : (b : Bool) → not b ≡ false → b ≡ true
not_of_false true h = refl
not_of_false false h = cc

-- no item of the literal's variable makes it false
none_of : (xs : List Item) (l : ℤ) (a b : ℕ) → (nat_abs l ≡ a) ⊎ (nat_abs l ≡ b) → list_any (is_of_either a b) xs ≡ false → is_false xs l ≡ false
none_of [] l a b which h = refl
none_of (i ∷ later) l a b which h =
    let (here, rest) = or_parts (is_of_either a b i) (list_any (is_of_either a b) later) h in
    let (not_a, not_b) = or_parts (nat_eq (nat_abs i.lit) a) (nat_eq (nat_abs i.lit) b) here in
    or_from (int_eq l (neg_ℤ i.lit)) (is_false later l)
    (false_from_ne_true (int_eq l (neg_ℤ i.lit)) (λ same.
    let size : nat_abs i.lit ≡ nat_abs l = sym (nat_abs-neg i.lit) ∙ ap nat_abs (sym (int_eq-true l (neg_ℤ i.lit) same)) in
    elim which [
      | inl is_a ↦ both_ways (nat_eq (nat_abs i.lit) a) not_a (eq-eqb (nat_abs i.lit) a (size ∙ is_a))
      | inr is_b ↦ both_ways (nat_eq (nat_abs i.lit) b) not_b (eq-eqb (nat_abs i.lit) b (size ∙ is_b))
    ]))
    (none_of later l a b which rest)

-- the marks that are left make neither of the two literals false
pub eased_unseen : (trail : TrailView) (place k a b : ℕ) (l m : ℤ) → (nat_abs l ≡ a) ⊎ (nat_abs l ≡ b) → list_any (is_of_either a b) (take place trail.items) ≡ false → k ≤ place →
    IsEasedBy (record trail { seen = k }) l m
eased_unseen trail place k a b l m which none fewer = record {
  not_both = λ off. absurd (both_ways (is_false (take k trail.items) l) not_off off);
  lowest = λ low off. absurd (both_ways (is_false (take k trail.items) l) not_off off);
}
  where
    not_off : is_false (take k trail.items) l ≡ false
    not_off = false_from_ne_true (is_false (take k trail.items) l) (λ off.
        both_ways (is_false (take place trail.items) l) (none_of (take place trail.items) l a b which none)
        (false_front (take place trail.items) k l (subst (λ xs. is_false xs l ≡ true) (sym (take-take k place trail.items fewer)) off)))

pub unseen_from : (trail : TrailView) (c : List ℤ) → 2 ≤ length c → IsEasedBy trail (get_or c 0 (pos 0)) (get_or c 1 (pos 0)) → IsEasedBy trail (get_or c 1 (pos 0)) (get_or c 0 (pos 0)) → IsUnseenFor trail c
unseen_from trail [] long to back = absurd (omega arith)
unseen_from trail (l ∷ []) long to back = absurd (omega arith)
unseen_from trail (l ∷ m ∷ c) long to back = (to, back)

unseen_two : (trail : TrailView) (c : List ℤ) → 2 ≤ length c → IsUnseenFor trail c → IsEasedBy trail (get_or c 0 (pos 0)) (get_or c 1 (pos 0)) × IsEasedBy trail (get_or c 1 (pos 0)) (get_or c 0 (pos 0))
unseen_two trail [] long h = absurd (omega arith)
unseen_two trail (l ∷ []) long h = absurd (omega arith)
unseen_two trail (l ∷ m ∷ c) long h = h

-- the literals that a new clause watches
new_lits : (v : ListsView) (p : ℕ) (c : List ℤ) → 2 ≤ length c → p + 1 < length v.lits →
    (lit_of (watched v p c) p ≡ get_or c 0 (pos 0)) × (lit_of (watched v p c) (p + 1) ≡ get_or c 1 (pos 0))
new_lits v p [] long room = absurd (omega arith)
new_lits v p (l ∷ []) long room = absurd (omega arith)
new_lits v p (l ∷ m ∷ c) long room =
    let mid = pushed v p l in
    let next : p ≢ p + 1 = omega arith in
    let first_in : p < length v.lits = omega arith in
    let second_in : p + 1 < length mid.lits = omega (arith, length-set v.lits p l) in
    ((pushed_keeps mid (p + 1) p m next).lit ∙ lit_here v p l first_in, lit_here mid (p + 1) m second_in)

module _ (clauses : List (List ℤ)) (id : ℕ) (v w : ListsView) (c : List ℤ) (old new : TrailView) (is : c ≡ get_or clauses id [])
    (watching : IsWatching w clauses) (joined : w ≡ attached id c v) (eased : AreEased v old) (fewer : new.seen ≤ old.seen) (trails : new ≡ record old { seen = new.seen }) (unseen : IsUnseenFor new c) where
  wide : ListsView
  wide = with_places (2 * id + 2) v

  away : (m : ℕ) → m ≢ 2 * id → m ≢ 2 * id + 1 → Keeps v w m
  unfolding wide
  away m one two = subst (λ u. Keeps v u m) (sym joined) (keeps_trans v wide (watched wide (2 * id) c) m (wider_keeps v (2 * id + 2) m) (watched_keeps wide (2 * id) m c one two))

  lits : 2 ≤ length c → (lit_of w (2 * id) ≡ get_or c 0 (pos 0)) × (lit_of w (2 * id + 1) ≡ get_or c 1 (pos 0))
  unfolding wide
  lits long = subst (λ u. (lit_of u (2 * id) ≡ get_or c 0 (pos 0)) × (lit_of u (2 * id + 1) ≡ get_or c 1 (pos 0))) (sym joined)
      (new_lits wide (2 * id) c long (let room = (wider_room v (2 * id + 2)).0 in omega arith))

  long_here : (m : ℕ) → m / 2 ≡ id → Stands w m → 2 ≤ length c
  long_here m half stands = subst (λ xs. 2 ≤ length xs) (ap (λ i. get_or clauses i []) half ∙ sym is) (two_of w clauses m watching stands).long

  pub eased_learnt : AreEased w new
  eased_learnt m stands = elim (cases_eq m (2 * id)) [
    | inl first ↦
        let long = long_here m (omega arith) stands in
        let two = lits long in
        let other : partner m ≡ 2 * id + 1 = ap partner first ∙ partner_of_first id in
        subst (λ j. IsEasedBy new (lit_of w j) (lit_of w (partner m))) (sym first) (subst (λ j. IsEasedBy new (lit_of w (2 * id)) (lit_of w j)) (sym other)
        (subst (λ a. IsEasedBy new a (lit_of w (2 * id + 1))) (sym two.0) (subst (IsEasedBy new (get_or c 0 (pos 0))) (sym two.1) (unseen_two new c long unseen).0)))
    | inr not_first ↦ elim (cases_eq m (2 * id + 1)) [
      | inl second ↦
          let long = long_here m (omega arith) stands in
          let two = lits long in
          let other : partner m ≡ 2 * id = ap partner second ∙ partner_of_second id in
          subst (λ j. IsEasedBy new (lit_of w j) (lit_of w (partner m))) (sym second) (subst (λ j. IsEasedBy new (lit_of w (2 * id + 1)) (lit_of w j)) (sym other)
          (subst (λ a. IsEasedBy new a (lit_of w (2 * id))) (sym two.1) (subst (IsEasedBy new (get_or c 1 (pos 0))) (sym two.0) (unseen_two new c long unseen).1)))
      | inr not_second ↦
          let k = away m not_first not_second in
          let p = away (partner m) (λ e. not_second (sym (partner_back m) ∙ ap partner e ∙ partner_of_first id)) (λ e. not_first (sym (partner_back m) ∙ ap partner e ∙ partner_of_second id)) in
          let before : Stands v m = stands_kept w v m (record { lit = sym k.lit; lists = λ j. sym (k.lists j) }) stands in
          subst (λ t. IsEasedBy t (lit_of w m) (lit_of w (partner m))) (sym trails)
          (subst (λ a. IsEasedBy (record old { seen = new.seen }) a (lit_of w (partner m))) (sym k.lit) (subst (IsEasedBy (record old { seen = new.seen }) (lit_of v m)) (sym p.lit)
          (eased_less old new.seen (lit_of v m) (lit_of v (partner m)) fewer (eased m before))))
    ]
  ]
