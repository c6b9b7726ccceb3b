-- The cube of a model and its hidden literals meet each clause.
use Rattle.std.proofs.Common.{◌≡◌, ℕ, ◌<◌, ◌≤◌, Bool, true, false, not, cond, ◌||◌, nat_eq, nat_le, nat_lt, List, [], ◌∷◌, ◌++◌, map, filter, filter_map, option_to_list, Option, Some, None, ℤ, pos, neg_ℤ, nat_abs, refl, sym, ap, subst, ◌∙◌, inl, inr, arith}
use Rattle.std.specs.List.{list_all, list_any, range_with_len}
use Rattle.std.specs.Ordering.{int_eq}
use Rattle.std.proofs.lemmas.Bool.{and_parts, and_from, or_cases, or_left, or_right, cases_Bool, eqb-true, eq-eqb, ltb-true, leb-true, false_from_ne_true}
use Rattle.std.proofs.lemmas.Int.{ints}
use Rattle.std.proofs.lemmas.List.Elements.{filter_map-append}
use Rattle.std.proofs.lemmas.List.Folds.{list_any-append}
use Rattle.sat_terms.specs.Cubes.{is_among, has_literal, has_pair}
use Rattle.sat_terms.proofs.CubeLemmas.{int_eq-same, int_eq-true}
use Rattle.search_region.specs.Trail as picture
use Rattle.search_region.specs.Model.{is_met, is_kept}
use Rattle.search_region.specs.ReadCube.{picked_literal, read_cube}
use Rattle.search_region.proofs.Literals.{all_weaker, any_weaker}
use Rattle.chrono_trail.specs.declared.item.Item.{Item}
use Rattle.chrono_trail.specs.Items.{item_of, is_within, are_distinct}
use Rattle.chrono_trail.specs.Pictures.{picture_of}
use Rattle.chrono_trail.proofs.Splits.{found_is}
use Rattle.projected_decide.proofs.Variables.{among-filter, among_range}
use Rattle.implicant_shrink.specs.Levels.{level_by, is_at_most}
use Rattle.implicant_shrink.proofs.Kept.{kept_at}
use Rattle.live_engine.specs.Values.{literal_at, hidden_literals, IsImplicant, has_value}
use Rattle.live_engine.specs.Engines.{value_in_list}
use Rattle.live_engine.proofs.Looks.{literal_upto, picked_item}

-- ---- hidden literals

any_map : (g : ℕ → ℤ) (l : ℤ) (v : ℕ) (xs : List ℕ) → is_among xs v ≡ true → l ≡ g v → list_any (int_eq l) (map g xs) ≡ true
any_map g l v [] among at = among
any_map g l v (u ∷ xs) among at = elim (or_cases (nat_eq v u) (is_among xs v) among) [
  | inl here ↦ or_left (int_eq l (g u)) (list_any (int_eq l) (map g xs)) (ap (int_eq l) (ap g (sym (eqb-true v u here)) ∙ sym at) ∙ int_eq-same l)
  | inr there ↦ or_right (int_eq l (g u)) (list_any (int_eq l) (map g xs)) (any_map g l v xs there at)
]

-- the variable of a literal of the list
record IsFrom (g : ℕ → ℤ) (l : ℤ) (xs : List ℕ) : Type 0 where
  variable : ℕ
  among : is_among xs variable ≡ true
  at : l ≡ g variable

map_any : (g : ℕ → ℤ) (l : ℤ) (xs : List ℕ) → list_any (int_eq l) (map g xs) ≡ true → IsFrom g l xs
map_any g l [] h = cc
map_any g l (u ∷ xs) h = elim (or_cases (int_eq l (g u)) (list_any (int_eq l) (map g xs)) h) [
  | inl here ↦ record { variable = u; among = or_left (nat_eq u u) (is_among xs u) (eq-eqb u u refl); at = int_eq-true l (g u) here }
  | inr there ↦
      let from = map_any g l xs there in
      record { variable = from.variable; among = or_right (nat_eq from.variable u) (is_among xs from.variable) from.among; at = from.at }
]

module _ (n : ℕ) (p : List ℕ) (values : ℕ → Bool) where
  abbrev hidden : List ℕ
  hidden = filter (λ v. not (is_among p v)) (range_with_len 1 n)

  among_hidden : (v : ℕ) → 0 < v → v ≤ n → is_among p v ≡ false → is_among hidden v ≡ true
  among_hidden v low high hides =
      among-filter (λ u. not (is_among p u)) (range_with_len 1 n) v
      ∙ and_from (not (is_among p v)) (is_among (range_with_len 1 n) v) (ap not hides) (among_range 1 n v (omega arith) (omega arith))

  pub hidden_has : (l : ℤ) (v : ℕ) → 0 < v → v ≤ n → is_among p v ≡ false → l ≡ literal_at values v → has_literal (hidden_literals n p values) l ≡ true
  hidden_has l v low high hides at = any_map (literal_at values) l v hidden (among_hidden v low high hides) at

  -- a literal of the list is of a hidden variable, and true
  literal_variable : (v u : ℕ) (l : ℤ) → nat_abs l ≡ v → l ≡ literal_at values u → u ≡ v
  literal_variable v u l is at = sym (same_abs (values u) (ap nat_abs at)) ∙ is
    where
      same_abs : (b : Bool) → nat_abs l ≡ nat_abs (cond b (pos u) (neg_ℤ (pos u))) → nat_abs l ≡ u
      same_abs true e = e
      same_abs false e = e ∙ omega (arith, ints)

  has_hidden : (l : ℤ) → has_literal (hidden_literals n p values) l ≡ true → (is_among p (nat_abs l) ≡ false) × (l ≡ literal_at values (nat_abs l))
  has_hidden l h =
      let from = map_any (literal_at values) l hidden h in
      let same : from.variable ≡ nat_abs l = literal_variable (nat_abs l) from.variable l refl from.at in
      let both = and_parts (not (is_among p from.variable)) (is_among (range_with_len 1 n) from.variable)
      (sym (among-filter (λ u. not (is_among p u)) (range_with_len 1 n) from.variable) ∙ from.among) in
      (subst (λ u. is_among p u ≡ false) same (off (is_among p from.variable) both.0), from.at ∙ ap (literal_at values) same)
    where
      off : (b : Bool) → not b ≡ true → b ≡ false
      off true e = cc
      off false e = refl

  pub told_shown : (v : ℕ) → is_among p v ≡ true → value_in_list (hidden_literals n p values) v ≡ None
  told_shown v shows =
      let one = off (has_literal (hidden_literals n p values) (pos v)) (λ h. clash (is_among p v) shows (has_hidden (pos v) h).0) in
      let two = off (has_literal (hidden_literals n p values) (neg_ℤ (pos v))) (λ h. clash (is_among p v) shows
      (subst (λ u. is_among p u ≡ false) (omega (arith, ints)) (has_hidden (neg_ℤ (pos v)) h).0)) in
      rw (one, two) refl
    where
      clash : (b : Bool) → b ≡ true → b ≡ false → ⊥
      clash true e g = cc
      clash false e g = cc

      off : (b : Bool) → (b ≡ true → ⊥) → b ≡ false
      off b no_way = false_from_ne_true b no_way

  pub told_hidden : (v : ℕ) → 0 < v → v ≤ n → is_among p v ≡ false → value_in_list (hidden_literals n p values) v ≡ Some (values v)
  told_hidden v low high hides = by_value (values v) refl
    where
      by_value : (b : Bool) → values v ≡ b → value_in_list (hidden_literals n p values) v ≡ Some (values v)
      by_value true e =
          let has = hidden_has (pos v) v low high hides (sym (ap (λ c. cond c (pos v) (neg_ℤ (pos v))) e)) in
          rw (has, e) refl
      by_value false e =
          let no_pos : has_literal (hidden_literals n p values) (pos v) ≡ false = false_from_ne_true (has_literal (hidden_literals n p values) (pos v))
          (λ h. (let at : pos v ≡ neg_ℤ (pos v) = (has_hidden (pos v) h).1 ∙ ap (λ c. cond c (pos v) (neg_ℤ (pos v))) e in absurd (omega (arith, ints)))) in
          let has = hidden_has (neg_ℤ (pos v)) v low high hides (sym (ap (λ c. cond c (pos v) (neg_ℤ (pos v))) e)) in
          rw (no_pos, has, e) refl

-- ---- the cube

has_read : (g : ℕ → Option ℤ) (l : ℤ) (v : ℕ) (p : List ℕ) → is_among p v ≡ true → g v ≡ Some l → has_literal (filter_map g p) l ≡ true
has_read g l v [] among at = among
has_read g l v (u ∷ p) among at =
    ap (λ xs. has_literal xs l) (filter_map-append g (u ∷ []) p ∙ ap (λ xs. xs ++ filter_map g p) (as_list (g u)))
    ∙ list_any-append (int_eq l) (option_to_list (g u)) (filter_map g p)
    ∙ elim (or_cases (nat_eq v u) (is_among p v) among) [
      | inl here ↦ or_left (has_literal (option_to_list (g u)) l) (has_literal (filter_map g p) l)
          (ap (λ o. has_literal (option_to_list o) l) (ap g (sym (eqb-true v u here)) ∙ at) ∙ or_left (int_eq l l) false (int_eq-same l))
      | inr there ↦ or_right (has_literal (option_to_list (g u)) l) (has_literal (filter_map g p) l) (has_read g l v p there at)
    ]
  where
    as_list : (o : Option ℤ) → filter_map (λ (x : ℕ). o) (0 ∷ []) ≡ option_to_list o
    as_list None = refl
    as_list (Some m) = refl

-- ---- each kept literal is in one of the two

record IsKeptBy (shown : ℕ → Bool) (b : ℕ) (l : ℤ) (o : Option Item) : Type 0 where
  item : Item
  at : o ≡ Some item
  same : l ≡ item.lit
  low : shown (nat_abs l) ≡ true → nat_le item.level b ≡ true

kept_by : (shown : ℕ → Bool) (b : ℕ) (l : ℤ) (o : Option Item) → is_at_most b (level_by shown l o) ≡ true → IsKeptBy shown b l o
kept_by shown b l None h = cc
kept_by shown b l (Some i) h = elim (cases_Bool (int_eq l i.lit)) [
  | inl same ↦ record {
    item = i;
    at = refl;
    same = int_eq-true l i.lit same;
    low = λ shows. (let level : nat_le (cond (shown (nat_abs l)) i.level 0) b ≡ true = rw same at h in rw shows at level);
  }
  | inr other ↦ absurd (wrong (rw other at h))
]
  where
    wrong : false ≡ true → ⊥
    wrong e = cc

module _ (clauses : List (List ℤ)) (n : ℕ) (p : List ℕ) (items : List Item) (b : ℕ) (values : ℕ → Bool) (within : list_all (is_within n) items ≡ true) (distinct : are_distinct items ≡ true) (copied : list_all (has_value values) items ≡ true) where
  abbrev cube : List ℤ
  cube = read_cube (picture.upto b) (picture_of clauses items) p

  abbrev rest : List ℤ
  rest = hidden_literals n p values

  in_either : (l : ℤ) → is_kept (is_among p) b (picture_of clauses items) l ≡ true → (has_literal cube l || has_literal rest l) ≡ true
  in_either l kept =
      let by = kept_by (is_among p) b l (item_of items (nat_abs l)) (sym (kept_at clauses (is_among p) b items l distinct) ∙ kept) in
      let i = by.item in
      let named = found_is (λ j. nat_eq (nat_abs l) (nat_abs j.lit)) (is_within n) items i by.at within in
      let value = found_is (λ j. nat_eq (nat_abs l) (nat_abs j.lit)) (has_value values) items i by.at copied in
      let bounds = and_parts (nat_lt 0 (nat_abs i.lit)) (nat_le (nat_abs i.lit) n) named in
      let low = ltb-true 0 (nat_abs i.lit) bounds.0 in
      let high = leb-true (nat_abs i.lit) n bounds.1 in
      let abs = ap nat_abs by.same in
      elim (cases_Bool (is_among p (nat_abs l))) [
        | inl shows ↦ or_left (has_literal cube l) (has_literal rest l)
            (has_read (picked_literal (picture.upto b) (picture_of clauses items)) l (nat_abs l) p shows
            (picked_item clauses b items (nat_abs l) distinct ∙ ap (literal_upto b) by.at
            ∙ ap (λ c. cond c (Some i.lit) None) (by.low shows) ∙ ap Some (sym by.same)))
        | inr hides ↦ or_right (has_literal cube l) (has_literal rest l)
            (hidden_has n p values l (nat_abs l) (omega arith) (omega arith) hides
            (by.same ∙ int_eq-true i.lit (literal_at values (nat_abs i.lit)) value ∙ ap (literal_at values) (sym abs)))
      ]

  pub implicant : (f : List (List ℤ)) → list_all (is_met (is_among p) b (picture_of clauses items)) f ≡ true → IsImplicant f cube rest
  implicant f met = all_weaker (is_met (is_among p) b (picture_of clauses items)) (λ d. has_pair d || list_any (λ l. has_literal cube l || has_literal rest l) d)
      (λ d h. elim (or_cases (has_pair d) (list_any (is_kept (is_among p) b (picture_of clauses items)) d) h) [
        | inl pair ↦ or_left (has_pair d) (list_any (λ l. has_literal cube l || has_literal rest l) d) pair
        | inr some ↦ or_right (has_pair d) (list_any (λ l. has_literal cube l || has_literal rest l) d)
            (any_weaker (is_kept (is_among p) b (picture_of clauses items)) (λ l. has_literal cube l || has_literal rest l) in_either d some)
      ]) f met
