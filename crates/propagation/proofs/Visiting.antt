-- What a visit of a watch leaves.
use Rattle.std.proofs.Common.{◌≡◌, ◌≢◌, ℕ, ◌+◌, ◌*◌, ◌/◌, ◌<◌, ◌||◌, true, false, List, [], ◌∷◌, ◌++◌, length, length-append, get_or, ℤ, refl, sym, ap, subst, ◌∙◌, inl, inr, arith}
use Rattle.std.specs.List.{All, list_all}
use Rattle.std.specs.Ordering.{int_eq}
use Rattle.std.proofs.lemmas.Bool.{both_ways, or_cases, or_left, or_right}
use Rattle.std.proofs.lemmas.List.Folds.{list_any-append}
use Rattle.sat_terms.specs.CubeOrder.{key}
use Rattle.sat_terms.specs.Cubes.{has_literal}
use Rattle.sat_terms.specs.Literals.{IsLiteralOf}
use Rattle.sat_terms.proofs.CubeLemmas.{int_eq-same, int_eq-true}
use Rattle.sat_terms.proofs.Keys.{key-lt, same_from_key}
use Rattle.chrono_trail.specs.declared.item.Item.{Item}
use Rattle.chrono_trail.specs.declared.item.Kind.TheVariants.{Implied}
use Rattle.unit_closure.proofs.Members.{all_of, all_from_members}
use Rattle.chrono_trail.specs.Trails.{TrailView, IsTrail}
use Rattle.chrono_trail.specs.Clauses.{is_true, is_false, is_false_clause, is_or_false, rest_level, IsUnit}
use Rattle.watch_lists.specs.Views.{ListsView, Stands, lit_of, partner, moved, IsPlaced}
use Rattle.watch_lists.proofs.Seen.{moved_count}
use Rattle.watch_lists.proofs.Watching.{moves_keep}
use Rattle.propagation.specs.Settled.{IsEasedBy}
use Rattle.propagation.specs.Walking.{MayWatch, IsReady, IsSameBut, IsVisited}
use Rattle.propagation.proofs.Steps.{implied_by, implied_keeps}
use Rattle.propagation.proofs.Truths.{true_is_not_false, not_both, free_from}
use Rattle.propagation.proofs.Watched.{two_of, IsOneOfTwo, partner_back}
use Rattle.propagation.proofs.Easing.{watch_named, eased_push, eased_moved, eased_from_open, eased_by_true, not_seen}

module _ (clauses : List (List ℤ)) (v : ListsView) (trail : TrailView) (n : ℕ) (ready : IsReady clauses v trail) (stands : Stands v n) where
  two : IsOneOfTwo v clauses n
  two = two_of v clauses n ready.watching stands

  abbrev pub from : ℤ
  from = lit_of v n

  abbrev pub other : ℤ
  other = lit_of v (partner n)

  abbrev pub clause : List ℤ
  clause = get_or clauses (n / 2) []

  name : (l : ℤ) → has_literal clause l ≡ true → IsLiteralOf trail.variables l
  name l among = watch_named trail.variables clauses (n / 2) l ready.named two.inside among

  pub has_list : (l : ℤ) → has_literal clause l ≡ true → key l < length v.lists
  has_list l among = subst (λ k. key l < k) (sym ready.count) (key-lt trail.variables l (name l among))

  -- another literal of the clause is watched
  pub ready_moved : (l : ℤ) → has_literal clause l ≡ true → l ≢ other → IsPlaced (moved v n l) →
      IsEasedBy trail l other → IsEasedBy trail other l → IsReady clauses (moved v n l) trail
  ready_moved l among differs placed to back = record {
    stands = ready.stands;
    named = ready.named;
    count = moved_count v (moved v n l) n l refl ∙ ready.count;
    watching = moves_keep v clauses n l ready.watching stands (has_list l among) among differs placed;
    marked = ready.marked;
    eased = eased_moved v trail n l two.below ready.eased to back;
  }

  -- it left the list
  pub left : (l : ℤ) → l ≢ from → IsVisited v (moved v n l) trail.items n
  left l away = inr (l, ((λ e. away (same_from_key l from e)), refl))

  pub replaced : is_false trail.items from ≡ true → (l : ℤ) → MayWatch trail.items clause other l → IsPlaced (moved v n l) →
      IsReady clauses (moved v n l) trail × IsVisited v (moved v n l) trail.items n
  replaced wrong l may placed = (
    ready_moved l may.among may.differs placed (eased_from_open trail l other may.not_false) (record {
      not_both = λ off. not_seen trail l may.not_false;
      lowest = λ low off. absurd (not_both trail.items from ready.stands.distinct (name from two.among).0
          (subst (λ j. is_true trail.items (lit_of v j) ≡ true) (partner_back n) ((ready.eased (partner n) two.other_stands).lowest low off)) wrong);
    }),
    left l (λ e. both_ways (is_false trail.items l) may.not_false (subst (λ x. is_false trail.items x ≡ true) (sym e) wrong)),
  )

  -- the clause is unit
  pub unit : is_true trail.items other ≡ false → is_false trail.items other ≡ false → list_all (is_or_false trail.items other) clause ≡ true → IsUnit trail.items other clause
  unit on off rest = record { free = free_from trail.items other on off; among = two.other_among; rest = rest }

  module _ (new : TrailView) (here : IsUnit trail.items other clause) (grown : new.items ≡ trail.items ++ implied_by clauses trail.items (n / 2) other ∷ []) (same : IsSameBut trail new) where
    pub ready_implied : IsReady clauses v new
    ready_implied = record {
      stands = subst (λ k. IsTrail k new.items new.level) (sym same.variables) (subst (IsTrail trail.variables new.items) (sym same.level)
          (implied_keeps trail.variables trail.items new.items trail.level (n / 2) other clauses ready.stands (name other two.other_among) here grown));
      named = subst (λ k. All (All (IsLiteralOf k)) clauses) (sym same.variables) ready.named;
      count = ready.count ∙ ap (λ k. 2 * (k + 1)) (sym same.variables);
      watching = ready.watching;
      marked =
          let long = ap length grown ∙ length-append trail.items (implied_by clauses trail.items (n / 2) other ∷ []) in
          let marked = ready.marked in
          let seen = same.seen in
          omega arith;
      eased = eased_push v trail new (implied_by clauses trail.items (n / 2) other ∷ []) ready.eased ready.marked grown (λ low. sym same.level ∙ low) same.seen;
    }

    pub now_true : is_true new.items other ≡ true
    now_true =
        subst (λ xs. is_true xs other ≡ true) (sym grown)
        (list_any-append (λ (i : Item). int_eq other i.lit) trail.items (implied_by clauses trail.items (n / 2) other ∷ [])
        ∙ or_right (is_true trail.items other) (int_eq other other || false) (or_left (int_eq other other) false (int_eq-same other)))

-- another literal is watched beside one that is true now
pub lifted : (clauses : List (List ℤ)) (v : ListsView) (trail : TrailView) (n : ℕ) (ready : IsReady clauses v trail) (stands : Stands v n) →
    is_true trail.items (lit_of v (partner n)) ≡ true → (l : ℤ) → has_literal (get_or clauses (n / 2) []) l ≡ true → l ≢ lit_of v (partner n) → l ≢ lit_of v n →
    IsPlaced (moved v n l) → IsReady clauses (moved v n l) trail × IsVisited v (moved v n l) trail.items n
lifted clauses v trail n ready stands on l among differs away placed =
    let two = two_of v clauses n ready.watching stands in
    let named = (watch_named trail.variables clauses (n / 2) (lit_of v (partner n)) ready.named two.inside two.other_among).0 in (
      ready_moved clauses v trail n ready stands l among differs placed
          (eased_by_true trail l (lit_of v (partner n)) ready.stands.distinct named on)
          (eased_from_open trail (lit_of v (partner n)) l (true_is_not_false trail.items (lit_of v (partner n)) ready.stands.distinct named on)),
      left clauses v trail n ready stands l away,
    )

-- a clause is false where its one open literal is
pub all_false : (items : List Item) (c : List ℤ) (l : ℤ) → list_all (is_or_false items l) c ≡ true → is_false items l ≡ true → is_false_clause items c ≡ true
all_false items c l rest off = all_from_members (is_false items) c (λ m there. elim (or_cases (int_eq m l) (is_false items m) (all_of (is_or_false items l) c m rest there)) [
  | inl same ↦ subst (λ x. is_false items x ≡ true) (sym (int_eq-true m l same)) off
  | inr wrong ↦ wrong
])

-- the item as the code puts it
pub grown_from : (clauses : List (List ℤ)) (items new : List Item) (id at : ℕ) (l z : ℤ) (level : ℕ) (c : List ℤ) → z ≡ l → id ≡ at → c ≡ get_or clauses at [] →
    level ≡ rest_level items z c → new ≡ items ++ record { lit = z; level = level; kind = Implied id } ∷ [] → new ≡ items ++ implied_by clauses items at l ∷ []
grown_from clauses items new id at l z level c lit place clause height is =
    is ∙ ap (λ k. items ++ record { lit = z; level = k; kind = Implied id } ∷ []) (height ∙ ap (λ x. rest_level items x c) lit ∙ ap (rest_level items l) clause)
    ∙ ap (λ x. items ++ record { lit = x; level = rest_level items l (get_or clauses at []); kind = Implied id } ∷ []) lit
    ∙ ap (λ i. items ++ record { lit = l; level = rest_level items l (get_or clauses at []); kind = Implied i } ∷ []) place
