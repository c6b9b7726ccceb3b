-- What keeps each watched literal that is false by a marked item eased.
use Rattle.std.proofs.Common.{◌≡◌, ℕ, ◌+◌, ◌/◌, ◌<◌, ◌≤◌, ◌||◌, Bool, true, false, List, [], ◌∷◌, ◌++◌, length, get_or, take, ℤ, neg_ℤ, nat_abs, refl, sym, ap, subst, ◌∙◌, inl, inr}
use Rattle.std.specs.List.{All}
use Rattle.std.specs.Ordering.{int_eq}
use Rattle.std.proofs.lemmas.Bool.{both_ways, or_cases, cases_eq, false_from_ne_true}
use Rattle.std.proofs.lemmas.Grind.{take_at_read}
use Rattle.std.proofs.lemmas.List.{take-append-le, take-take}
use Rattle.std.proofs.lemmas.List.Folds.{list_any-append}
use Rattle.sat_terms.specs.Literals.{IsLiteralOf}
use Rattle.sat_terms.proofs.CubeLemmas.{All-literal, int_eq-true}
use Rattle.chrono_trail.specs.declared.item.Item.{Item}
use Rattle.chrono_trail.specs.Items.{are_distinct}
use Rattle.chrono_trail.specs.Trails.{TrailView}
use Rattle.chrono_trail.specs.Clauses.{is_true, is_false}
use Rattle.watch_lists.specs.Views.{ListsView, Stands, lit_of, partner, taken, moved}
use Rattle.sat_terms.specs.Cubes.{has_literal}
use Rattle.watch_lists.specs.Watching.{IsWatching}
use Rattle.watch_lists.proofs.Watching.{moved_keeps, lit_here, stands_kept}
use Rattle.propagation.specs.Settled.{is_seen_false, IsEasedBy, AreEased}
use Rattle.propagation.specs.Walking.{IsPassed}
use Rattle.propagation.proofs.Truths.{false_front, true_more, not_both, true_is_not_false}
use Rattle.propagation.proofs.Watched.{two_of, partner_back, partner_differs}

-- the literals of the watches are of the variables
pub watch_named : (n : ℕ) (clauses : List (List ℤ)) (id : ℕ) (l : ℤ) → All (All (IsLiteralOf n)) clauses → id < length clauses →
    has_literal (get_or clauses id []) l ≡ true → IsLiteralOf n l
watch_named n clauses id l named inside among = All-literal (IsLiteralOf n) (get_or clauses id []) l (named id [] inside) among

-- appended items change nothing of the marked ones
pub seen_same : (old new : TrailView) (more : List Item) (l : ℤ) → old.seen ≤ length old.items → new.items ≡ old.items ++ more → new.seen ≡ old.seen →
    is_seen_false new l ≡ is_seen_false old l
seen_same old new more l marked grown seen =
    ap (λ xs. is_false (take new.seen xs) l) grown ∙ ap (λ k. is_false (take k (old.items ++ more)) l) seen
    ∙ ap (λ xs. is_false xs l) (take-append-le old.seen old.items more marked)

pub eased_push : (v : ListsView) (old new : TrailView) (more : List Item) → AreEased v old → old.seen ≤ length old.items →
    new.items ≡ old.items ++ more → (new.level ≡ 0 → old.level ≡ 0) → new.seen ≡ old.seen → AreEased v new
eased_push v old new more eased marked grown level seen n stands =
    let h = eased n stands in
    let a = lit_of v n in
    let b = lit_of v (partner n) in
    record {
      not_both = λ off. seen_same old new more b marked grown seen ∙ h.not_both (sym (seen_same old new more a marked grown seen) ∙ off);
      lowest = λ low off. subst (λ xs. is_true xs b ≡ true) (sym grown) (true_more old.items more b (h.lowest (level low) (sym (seen_same old new more a marked grown seen) ∙ off)));
    }

-- a watch that moves to a literal that the other one eases, and which eases it
pub eased_moved : (v : ListsView) (trail : TrailView) (n : ℕ) (l : ℤ) → n < length v.lits → AreEased v trail →
    IsEasedBy trail l (lit_of v (partner n)) → IsEasedBy trail (lit_of v (partner n)) l → AreEased (moved v n l) trail
eased_moved v trail n l below eased to back m stands = elim (cases_eq m n) [
  | inl here ↦ subst (λ j. IsEasedBy trail (lit_of w j) (lit_of w (partner j))) (sym here)
      (subst (λ a. IsEasedBy trail a (lit_of w (partner n))) (sym lit) (subst (IsEasedBy trail l) (sym other_lit) to))
  | inr away ↦ elim (cases_eq m (partner n)) [
    | inl there ↦ subst (λ j. IsEasedBy trail (lit_of w j) (lit_of w (partner j))) (sym there)
        (subst (λ a. IsEasedBy trail a (lit_of w (partner (partner n)))) (sym other_lit)
        (subst (λ j. IsEasedBy trail (lit_of v (partner n)) (lit_of w j)) (sym (partner_back n)) (subst (IsEasedBy trail (lit_of v (partner n))) (sym lit) back)))
    | inr apart ↦
        let k = moved_keeps v n m l away in
        let p = moved_keeps v n (partner m) l (λ e. apart (sym (partner_back m) ∙ ap partner e)) in
        let before : Stands v m = stands_kept w v m (record { lit = sym k.lit; lists = λ j. sym (k.lists j) }) stands in
        subst (λ a. IsEasedBy trail a (lit_of w (partner m))) (sym k.lit) (subst (IsEasedBy trail (lit_of v m)) (sym p.lit) (eased m before))
  ]
]
  where
    w : ListsView
    w = moved v n l

    lit : lit_of w n ≡ l
    lit = lit_here (taken v n) n l below

    other_lit : lit_of w (partner n) ≡ lit_of v (partner n)
    other_lit = (moved_keeps v n (partner n) l (partner_differs n)).lit

-- what is false by one marked item more
or_none : (b : Bool) → (b || false) ≡ b
or_none true = refl
or_none false = refl

pub seen_next : (trail : TrailView) (d : Item) (l : ℤ) → trail.seen < length trail.items →
    is_seen_false (record trail { seen = trail.seen + 1 }) l ≡ (is_seen_false trail l || int_eq l (neg_ℤ (get_or trail.items trail.seen d).lit))
seen_next trail d l inside =
    ap (λ xs. is_false xs l) ((take_at_read trail.items trail.seen d inside).1)
    ∙ list_any-append (λ (i : Item). int_eq l (neg_ℤ i.lit)) (take trail.seen trail.items) (get_or trail.items trail.seen d ∷ [])
    ∙ ap (λ b. is_seen_false trail l || b) (or_none (int_eq l (neg_ℤ (get_or trail.items trail.seen d).lit)))

-- an item is marked once the list of its negation was walked
pub eased_see : (v : ListsView) (clauses : List (List ℤ)) (trail : TrailView) (d : Item) (n : ℕ) → are_distinct trail.items ≡ true → All (All (IsLiteralOf n)) clauses →
    IsWatching v clauses → AreEased v trail → trail.seen < length trail.items → IsPassed v trail.items (neg_ℤ (get_or trail.items trail.seen d).lit) →
    AreEased v (record trail { seen = trail.seen + 1 })
eased_see v clauses trail d n apart named watching eased inside passed m stands = record {
  not_both = λ off. (both off).0;
  lowest = λ low off. (both off).1 low;
}
  where
    f : ℤ
    f = neg_ℤ (get_or trail.items trail.seen d).lit

    after : TrailView
    after = record trail { seen = trail.seen + 1 }

    a : ℤ
    a = lit_of v m

    b : ℤ
    b = lit_of v (partner m)

    name : (id : ℕ) (l : ℤ) → id < length clauses → has_literal (get_or clauses id []) l ≡ true → 0 < nat_abs l
    name id l within among = (watch_named n clauses id l named within among).0

    both : is_seen_false after a ≡ true → (is_seen_false after b ≡ false) × (trail.level ≡ 0 → is_true trail.items b ≡ true)
    both off =
        let two = two_of v clauses m watching stands in
        elim (or_cases (is_seen_false trail a) (int_eq a f) (sym (seen_next trail d a inside) ∙ off)) [
          | inr same ↦
              let on : is_true trail.items b ≡ true = passed m stands (int_eq-true a f same) in
              (false_from_ne_true (is_seen_false after b) (λ wrong. not_both trail.items b apart (name (m / 2) b two.inside two.other_among) on (false_front trail.items (trail.seen + 1) b wrong)), λ low. on)
          | inl before ↦
              let h = eased m stands in
              let differs : int_eq b f ≡ false = false_from_ne_true (int_eq b f) (λ same.
              let on : is_true trail.items (lit_of v (partner (partner m))) ≡ true = passed (partner m) two.other_stands (int_eq-true b f same) in
              not_both trail.items a apart (name (m / 2) a two.inside two.among) (subst (λ j. is_true trail.items (lit_of v j) ≡ true) (partner_back m) on) (false_front trail.items trail.seen a before)) in
              (seen_next trail d b inside ∙ ap (λ x. x || int_eq b f) (h.not_both before) ∙ differs, λ low. h.lowest low before)
        ]

-- a literal that is not false needs no other one, and a true one eases each
pub eased_from_open : (trail : TrailView) (l m : ℤ) → is_false trail.items l ≡ false → IsEasedBy trail l m
eased_from_open trail l m open_l = record {
  not_both = λ off. absurd (both_ways (is_false trail.items l) open_l (false_front trail.items trail.seen l off));
  lowest = λ low off. absurd (both_ways (is_false trail.items l) open_l (false_front trail.items trail.seen l off));
}

pub not_seen : (trail : TrailView) (l : ℤ) → is_false trail.items l ≡ false → is_seen_false trail l ≡ false
not_seen trail l open_l = false_from_ne_true (is_seen_false trail l) (λ off. both_ways (is_false trail.items l) open_l (false_front trail.items trail.seen l off))

pub eased_by_true : (trail : TrailView) (l m : ℤ) → are_distinct trail.items ≡ true → 0 < nat_abs m → is_true trail.items m ≡ true → IsEasedBy trail l m
eased_by_true trail l m apart named on = record {
  not_both = λ off. not_seen trail m (true_is_not_false trail.items m apart named on);
  lowest = λ low off. on;
}

-- fewer marks ask for less
pub eased_less : (trail : TrailView) (k : ℕ) (l m : ℤ) → k ≤ trail.seen → IsEasedBy trail l m → IsEasedBy (record trail { seen = k }) l m
eased_less trail k l m fewer h = record {
  not_both = λ off. false_from_ne_true (is_false (take k trail.items) m) (λ wrong. both_ways (is_seen_false trail m) (h.not_both (longer l off)) (longer m wrong));
  lowest = λ low off. h.lowest low (longer l off);
}
  where
    longer : (x : ℤ) → is_false (take k trail.items) x ≡ true → is_false (take trail.seen trail.items) x ≡ true
    longer x off = false_front (take trail.seen trail.items) k x (subst (λ xs. is_false xs x ≡ true) (sym (take-take k trail.seen trail.items fewer)) off)
