-- What holds once the list of each literal that became false was walked.
use Rattle.std.proofs.Common.{◌≡◌, ◌≢◌, ℕ, ◌+◌, ◌*◌, ◌<◌, ◌≤◌, true, false, List, [], ◌∷◌, length, get_or, take, ℤ, nat_abs, None, refl, sym, ap, subst, ◌∙◌, inl, inr, arith, take_all}
use Rattle.std.specs.List.{list_any}
use Rattle.std.specs.Ordering.{int_eq}
use Rattle.std.proofs.lemmas.Bool.{both_ways, or_cases, or_left, or_right, cases_lt, cases_Bool, false_from_ne_true}
use Rattle.std.proofs.lemmas.Bool.Decides.{Decides-int_eq}
use Rattle.sat_terms.specs.Cubes.{has_literal}
use Rattle.sat_terms.proofs.CubeLemmas.{int_eq-true}
use Rattle.unit_closure.proofs.Members.{all_of}
use Rattle.chrono_trail.specs.declared.item.Item.{Item}
use Rattle.chrono_trail.specs.Items.{item_of, are_distinct}
use Rattle.chrono_trail.specs.Trails.{TrailView}
use Rattle.chrono_trail.specs.Clauses.{is_true, is_false, is_false_clause, is_or_false, IsUnit, IsAtRest}
use Rattle.watch_lists.specs.Views.{ListsView, Stands, lit_of}
use Rattle.watch_lists.specs.Watching.{WatchesTwo, IsWatched}
use Rattle.watch_lists.proofs.Watching.{partner_of_first, partner_of_second}
use Rattle.propagation.specs.Settled.{is_seen_false, IsEasedBy}
use Rattle.propagation.specs.Steps.{IsQuiet, AreAtRest}
use Rattle.propagation.specs.Walking.{IsReady, AreMet}
use Rattle.propagation.proofs.Truths.{true_is_not_false, free_not_true}
use Rattle.propagation.proofs.Easing.{watch_named}

-- a clause with a true literal is at rest
pub true_rests : (items : List Item) (c : List ℤ) (x : ℤ) → are_distinct items ≡ true → 0 < nat_abs x → has_literal c x ≡ true → is_true items x ≡ true → IsAtRest items c
true_rests items c x apart named there on = record {
  not_false = false_from_ne_true (is_false_clause items c) (λ wrong. both_ways (is_false items x) off (all_of (is_false items) c x wrong there));
  not_unit = λ l unit. elim (or_cases (int_eq x l) (is_false items x) (all_of (is_or_false items l) c x unit.rest there)) [
    | inl same ↦ both_ways (is_true items x) (free_not_true items x (subst (λ y. item_of items (nat_abs y) ≡ None) (sym (int_eq-true x l same)) unit.free)) on
    | inr wrong ↦ both_ways (is_false items x) off wrong
  ];
}
  where
    off : is_false items x ≡ false
    off = true_is_not_false items x apart named on

-- so is one with two literals that are not false
pub two_rest : (items : List Item) (c : List ℤ) (x y : ℤ) → x ≢ y → has_literal c x ≡ true → has_literal c y ≡ true → is_false items x ≡ false → is_false items y ≡ false → IsAtRest items c
two_rest items c x y differ there_x there_y off_x off_y = record {
  not_false = false_from_ne_true (is_false_clause items c) (λ wrong. both_ways (is_false items x) off_x (all_of (is_false items) c x wrong there_x));
  not_unit = λ l unit. differ (same l unit x there_x off_x ∙ sym (same l unit y there_y off_y));
}
  where
    same : (l : ℤ) → IsUnit items l c → (z : ℤ) → has_literal c z ≡ true → is_false items z ≡ false → z ≡ l
    same l unit z there off = elim (or_cases (int_eq z l) (is_false items z) (all_of (is_or_false items l) c z unit.rest there)) [
      | inl here ↦ int_eq-true z l here
      | inr wrong ↦ absurd (both_ways (is_false items z) off wrong)
    ]

-- a clause that met one is one with a true literal
met_literal : (items : List Item) (c : List ℤ) → list_any (is_true items) c ≡ true → (x : ℤ) × ((has_literal c x ≡ true) × (is_true items x ≡ true))
met_literal items [] h = absurd (both_ways false refl h)
met_literal items (l ∷ c) h = elim (or_cases (is_true items l) (list_any (is_true items) c) h) [
  | inl here ↦ (l, (or_left (int_eq l l) (has_literal c l) ((Decides-int_eq l l).1 refl), here))
  | inr later ↦
      let (x, both) = met_literal items c later in
      (x, (or_right (int_eq x l) (has_literal c x) both.0, both.1))
]

-- the two watches of a clause that is long enough
watched_two : (v : ListsView) (p : ℕ) (c : List ℤ) → 2 ≤ length c → IsWatched v p c → WatchesTwo v p c
watched_two v p [] long w = absurd (omega arith)
watched_two v p (a ∷ []) long w = absurd (omega arith)
watched_two v p (a ∷ b ∷ c) long w = w

module _ (clauses : List (List ℤ)) (v : ListsView) (trail : TrailView) (ready : IsReady clauses v trail) (seen : trail.seen ≡ length trail.items) (met : AreMet clauses trail.items) where
  all_seen : (l : ℤ) → is_seen_false trail l ≡ is_false trail.items l
  all_seen l = ap (λ k. is_false (take k trail.items) l) seen ∙ ap (λ xs. is_false xs l) (take_all (length trail.items) trail.items (omega arith))

  name : (id : ℕ) (l : ℤ) → id < length clauses → has_literal (get_or clauses id []) l ≡ true → 0 < nat_abs l
  name id l inside among = (watch_named trail.variables clauses id l ready.named inside among).0

  met_rests : (id : ℕ) → id < length clauses → length (get_or clauses id []) < 2 → IsAtRest trail.items (get_or clauses id [])
  met_rests id inside short =
      let (x, both) = met_literal trail.items (get_or clauses id []) (met id inside short) in
      true_rests trail.items (get_or clauses id []) x ready.stands.distinct (name id x inside both.0) both.0 both.1

  two : (id : ℕ) → id < length clauses → 2 ≤ length (get_or clauses id []) → WatchesTwo v (2 * id) (get_or clauses id [])
  two id inside long = watched_two v (2 * id) (get_or clauses id []) long (ready.watching.watched id inside)

  first_eased : (id : ℕ) → Stands v (2 * id) → IsEasedBy trail (lit_of v (2 * id)) (lit_of v (2 * id + 1))
  first_eased id stands = subst (λ n. IsEasedBy trail (lit_of v (2 * id)) (lit_of v n)) (partner_of_first id) (ready.eased (2 * id) stands)

  second_eased : (id : ℕ) → Stands v (2 * id + 1) → IsEasedBy trail (lit_of v (2 * id + 1)) (lit_of v (2 * id))
  second_eased id stands = subst (λ n. IsEasedBy trail (lit_of v (2 * id + 1)) (lit_of v n)) (partner_of_second id) (ready.eased (2 * id + 1) stands)

  none_false : (id : ℕ) → id < length clauses → is_false_clause trail.items (get_or clauses id []) ≡ false
  none_false id inside = elim (cases_lt (length (get_or clauses id [])) 2) [
    | inl short ↦ (met_rests id inside short).not_false
    | inr long ↦
        let w = two id inside long in
        false_from_ne_true (is_false_clause trail.items (get_or clauses id [])) (λ wrong.
        let one = all_of (is_false trail.items) (get_or clauses id []) (lit_of v (2 * id)) wrong w.has_first in
        let other = all_of (is_false trail.items) (get_or clauses id []) (lit_of v (2 * id + 1)) wrong w.has_second in
        both_ways (is_false trail.items (lit_of v (2 * id + 1))) (sym (all_seen (lit_of v (2 * id + 1))) ∙ (first_eased id w.first).not_both (all_seen (lit_of v (2 * id)) ∙ one)) other)
  ]

  at_rest : trail.level ≡ 0 → AreAtRest clauses trail.items
  at_rest low id inside = elim (cases_lt (length (get_or clauses id [])) 2) [
    | inl short ↦ met_rests id inside short
    | inr long ↦
        let w = two id inside long in
        let c = get_or clauses id [] in
        let a = lit_of v (2 * id) in
        let b = lit_of v (2 * id + 1) in
        elim (cases_Bool (is_false trail.items a)) [
          | inl wrong ↦ true_rests trail.items c b ready.stands.distinct (name id b inside w.has_second) w.has_second ((first_eased id w.first).lowest low (all_seen a ∙ wrong))
          | inr off ↦ elim (cases_Bool (is_false trail.items b)) [
            | inl wrong ↦ true_rests trail.items c a ready.stands.distinct (name id a inside w.has_first) w.has_first ((second_eased id w.second).lowest low (all_seen b ∙ wrong))
            | inr off' ↦ two_rest trail.items c a b w.differ w.has_first w.has_second off off'
          ]
        ]
  ]

  pub quiet : IsQuiet clauses trail
  quiet = record { none_false = none_false; lowest = at_rest }
