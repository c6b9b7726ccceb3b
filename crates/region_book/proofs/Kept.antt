-- Legal events keep the partition.
use Rattle.std.proofs.Common.{◌≡◌, ℕ, suc, ◌+◌, ◌^◌, ◌≤◌, min, Bool, true, false, List, [], ◌∷◌, ◌++◌, length, ℤ, Option, Some, None, option_to_list, refl, sym, ap, ap₂, subst, ◌∙◌, inl, inr, arith, length-append}
use Rattle.std.specs.List.{All, list_any, find}
use Rattle.std.specs.Ordering.{int_eq}
use Rattle.std.proofs.lemmas.Bool.{cases_Bool, and_parts, and_from, or_cases, both_ways}
use Rattle.std.proofs.lemmas.List.{map-append, get_or_append_left, get_or-append-add}
use Rattle.std.proofs.lemmas.List.Elements.{All-head, All-tail, All-append, All-weaker}
use Rattle.std.proofs.lemmas.List.Folds.{list_any-append}
use Rattle.sat_terms.specs.Truth.{holds}
use Rattle.sat_terms.specs.Assignments.{assignment_of, lies_in}
use Rattle.sat_terms.specs.Cubes.{IsCube, has_literal, within}
use Rattle.sat_terms.specs.RightList.{IsWanted}
use Rattle.sat_terms.proofs.CubeLemmas.{int_eq-true}
use Rattle.sat_terms.proofs.Inside.{inside-from_within}
use Rattle.search_region.specs.Cubes.{hit, hits}
use Rattle.search_region.proofs.Close.{in_prefix}
use Rattle.search_region.proofs.Hits.{hits-append}
use Rattle.search_region.proofs.Counts.{any_hit, hit_any, apart_from_counts, counts_from_apart}
use Rattle.search_job.specs.Weights.{weight, weights}
use Rattle.search_job.proofs.Weights.{weights-append}
use Rattle.prefix_jobs.specs.declared.number.Number.{Number}
use Rattle.prefix_jobs.specs.declared.outcome.Outcome.{Outcome}
use Rattle.prefix_jobs.specs.Outcomes.{open_parts, FitsPrefix}
use Rattle.region_book.specs.declared.event.Event.{Event}
use Rattle.region_book.specs.declared.event.Event.TheVariants.{Take, Report, Release}
use Rattle.region_book.specs.Machine.{Pending}
use Rattle.region_book.specs.Machine.{BookState, prefixes_of, is_free, is_held_by, edit_first, taken_by, let_go, taken_out, numbered, kept_part, parts_of, reported, step, steps_from, FitsFound, IsLegalAt, AreLegal}
use Rattle.region_book.specs.Partition.{IsPartition}
use Rattle.region_book.specs.Laws.{KeepsPartition}
use Rattle.region_book.proofs.Found.{Splits, found_splits, same_prefixes}

-- ---- parts of lists

pub All_front : {X : Type 0} (P : X → Type 0) (xs ys : List X) → All P (xs ++ ys) → All P xs
All_front P xs ys all k d inside =
    let long = length-append xs ys in
    subst P (get_or_append_left xs ys d k inside) (all k d (omega arith))

pub All_back : {X : Type 0} (P : X → Type 0) (xs ys : List X) → All P (xs ++ ys) → All P ys
All_back P xs ys all k d inside =
    let long = length-append xs ys in
    subst P (get_or-append-add xs ys k d) (all (length xs + k) d (omega arith))

-- ---- within

has_within : (c q : List ℤ) (l : ℤ) → within c q ≡ true → has_literal q l ≡ true → has_literal c l ≡ true
has_within c [] l inner h = absurd (both_ways false refl h)
has_within c (m ∷ q) l inner h =
    let (here, rest) = and_parts (has_literal c m) (within c q) inner in
    elim (or_cases (int_eq l m) (has_literal q l) h) [
      | inl same ↦ ap (has_literal c) (int_eq-true l m same) ∙ here
      | inr more ↦ has_within c q l rest more
    ]

within_on : (c q u : List ℤ) → within c q ≡ true → within q u ≡ true → within c u ≡ true
within_on c q [] inner outer = refl
within_on c q (l ∷ u) inner outer =
    let (here, rest) = and_parts (has_literal q l) (within q u) outer in
    and_from (has_literal c l) (within c u) (has_within c q l inner here) (within_on c q u inner rest)

-- cubes within q hold what q holds alone
none_inside : (t : ℕ → Bool) (q : List ℤ) (cs : List (List ℤ)) → All (λ c. within c q ≡ true) cs → holds t q ≡ false → hits t cs ≡ 0
none_inside t q [] all out = refl
none_inside t q (c ∷ cs) all out =
    let rest = none_inside t q cs (All-tail (λ d. within d q ≡ true) c cs all) out in
    elim (cases_Bool (holds t c)) [
      | inl held ↦ absurd (both_ways (holds t q) out (inside-from_within c q (All-head (λ d. within d q ≡ true) c cs all) t held))
      | inr away ↦ let none : hit t c ≡ 0 = rw away refl in omega arith
    ]

-- the cubes and open parts of an outcome hold an assignment once at most, and in its prefix alone
fits_once : (f : List (List ℤ)) (p : List ℕ) (q : List ℤ) (o : Outcome) → FitsPrefix f p q o → (t : ℕ → Bool) → hits t o.cubes + hits t (open_parts o) ≤ hit t q
fits_once f p q o fits t =
    let both = hits-append t o.cubes (open_parts o) in
    elim (cases_Bool (holds t q)) [
      | inr out ↦ let none = none_inside t q (o.cubes ++ open_parts o) fits.inside out in omega arith
      | inl held ↦
          let one : hit t q ≡ 1 = rw held refl in
          let few = counts_from_apart t (o.cubes ++ open_parts o) (λ k d inside. (fits.over k d inside).rising) fits.disjoint in
          omega arith
    ]

-- ---- the outcome in place of its prefix

module _ (f : List (List ℤ)) (p : List ℕ) (u : List ℤ) (published before : List (List ℤ)) (q : List ℤ) (after : List (List ℤ)) (o : Outcome) (part : IsPartition f p u published (before ++ q ∷ after)) (fits : FitsPrefix f p q o) where
  -- what holds of each before, and of the outcome
  all_of : (P : List ℤ → Type 0) → All P (published ++ (before ++ q ∷ after)) → All P (o.cubes ++ open_parts o) → All P ((published ++ o.cubes) ++ ((before ++ after) ++ open_parts o))
  all_of P old new =
      let pending = All_back P published (before ++ q ∷ after) old in
      All-append P (published ++ o.cubes) ((before ++ after) ++ open_parts o)
      (All-append P published o.cubes (All_front P published (before ++ q ∷ after) old) (All_front P o.cubes (open_parts o) new))
      (All-append P (before ++ after) (open_parts o)
      (All-append P before after (All_front P before (q ∷ after) pending) (All-tail P q after (All_back P before (q ∷ after) pending)))
      (All_back P o.cubes (open_parts o) new))

  old_hits : (t : ℕ → Bool) → hits t (published ++ (before ++ q ∷ after)) ≡ hits t published + (hits t before + (hit t q + hits t after))
  old_hits t = let one = hits-append t published (before ++ q ∷ after) in let two = hits-append t before (q ∷ after) in omega arith

  new_hits : (t : ℕ → Bool) → hits t ((published ++ o.cubes) ++ ((before ++ after) ++ open_parts o)) ≡ (hits t published + hits t o.cubes) + ((hits t before + hits t after) + hits t (open_parts o))
  new_hits t =
      let one = hits-append t (published ++ o.cubes) ((before ++ after) ++ open_parts o) in
      let two = hits-append t published o.cubes in
      let three = hits-append t (before ++ after) (open_parts o) in
      let four = hits-append t before after in
      omega arith

  over : All (IsCube p) ((published ++ o.cubes) ++ ((before ++ after) ++ open_parts o))
  over = all_of (IsCube p) part.over fits.over

  once : (t : ℕ → Bool) → hits t ((published ++ o.cubes) ++ ((before ++ after) ++ open_parts o)) ≤ 1
  once t =
      let few = counts_from_apart t (published ++ (before ++ q ∷ after)) (λ k d inside. (part.over k d inside).rising) part.disjoint in
      let old = old_hits t in
      let new = new_hits t in
      let less = fits_once f p q o fits t in
      omega arith

  prefix_inside : within q u ≡ true
  prefix_inside = All-head (λ c. within c u ≡ true) q after (All_back (λ c. within c u ≡ true) before (q ∷ after) part.inside)

  sound : (a : List Bool) → length a ≡ length p → list_any (lies_in p a) (published ++ o.cubes) ≡ true → IsWanted f p u a
  sound a long h = elim (or_cases (list_any (lies_in p a) published) (list_any (lies_in p a) o.cubes) (sym (list_any-append (lies_in p a) published o.cubes) ∙ h)) [
    | inl old ↦ part.sound a long old
    | inr new ↦
        let some = any_hit (assignment_of p a) o.cubes new in
        let less = fits_once f p q o fits (assignment_of p a) in
        record {
          given = inside-from_within q u prefix_inside (assignment_of p a) (in_prefix (assignment_of p a) q (omega arith));
          good = fits.good a long new;
        }
  ]

  cover : (a : List Bool) → length a ≡ length p → IsWanted f p u a → list_any (lies_in p a) ((published ++ o.cubes) ++ ((before ++ after) ++ open_parts o)) ≡ true
  cover a long w =
      let some = any_hit (assignment_of p a) (published ++ (before ++ q ∷ after)) (part.cover a long w) in
      let old = old_hits (assignment_of p a) in
      let new = new_hits (assignment_of p a) in
      hit_any (assignment_of p a) ((published ++ o.cubes) ++ ((before ++ after) ++ open_parts o)) (elim (cases_Bool (lies_in p a q)) [
        | inr out ↦ let none : hit (assignment_of p a) q ≡ 0 = rw out refl in omega arith
        | inl held ↦
            let more = any_hit (assignment_of p a) (o.cubes ++ open_parts o) (fits.cover a long held w.good) in
            let both = hits-append (assignment_of p a) o.cubes (open_parts o) in
            omega arith
      ])

  inside : All (λ c. within c u ≡ true) ((before ++ after) ++ open_parts o)
  inside =
      All-append (λ c. within c u ≡ true) (before ++ after) (open_parts o)
      (All-append (λ c. within c u ≡ true) before after (All_front (λ c. within c u ≡ true) before (q ∷ after) part.inside)
      (All-tail (λ c. within c u ≡ true) q after (All_back (λ c. within c u ≡ true) before (q ∷ after) part.inside)))
      (All-weaker (λ c. within c q ≡ true) (λ c. within c u ≡ true) (λ c inner. within_on c q u inner prefix_inside) (open_parts o)
      (All_back (λ c. within c q ≡ true) o.cubes (open_parts o) fits.inside))

  pub outcome_keeps : IsPartition f p u (published ++ o.cubes) ((before ++ after) ++ open_parts o)
  outcome_keeps = record {
    over = over;
    disjoint = apart_from_counts ((published ++ o.cubes) ++ ((before ++ after) ++ open_parts o)) (λ k d place. (over k d place).rising) once;
    sound = sound;
    cover = cover;
    inside = inside;
  }

-- ---- one event

prefixes_numbered : (j i : ℕ) (cs : List (List ℤ)) → prefixes_of (numbered j i cs) ≡ cs
prefixes_numbered j i [] = refl
prefixes_numbered j i (c ∷ cs) = ap (λ x. c ∷ x) (prefixes_numbered j (suc i) cs)

prefixes_kept : (j i k : ℕ) (kept : Option (List ℤ)) → prefixes_of (kept_part j i k kept) ≡ option_to_list kept
prefixes_kept j i k None = refl
prefixes_kept j i k (Some c) = refl

pub prefixes-append : (ps rs : List Pending) → prefixes_of (ps ++ rs) ≡ prefixes_of ps ++ prefixes_of rs
prefixes-append ps rs = map-append (λ q. q.prefix) ps rs

pub prefixes_of_parts : (j k : ℕ) (o : Outcome) → prefixes_of (parts_of j k o) ≡ open_parts o
prefixes_of_parts j k o =
    prefixes-append (numbered j 0 o.rest) (kept_part j (length o.rest) k o.kept)
    ∙ ap₂ (λ x y. x ++ y) (prefixes_numbered j 0 o.rest) (prefixes_kept j (length o.rest) k o.kept)

min_small : (a b : ℕ) → min a b ≤ a
min_small a b = omega arith

module _ (f : List (List ℤ)) (p : List ℕ) (u : List ℤ) where
  -- an event that keeps the prefixes
  moved_keeps : (s : BookState) (ps : List Pending) → prefixes_of ps ≡ prefixes_of s.pending → IsPartition f p u s.published (prefixes_of s.pending) → KeepsPartition f p u s (record s { pending = ps })
  moved_keeps s ps same part = record {
    partition = subst (λ x. IsPartition f p u s.published x) (sym same) part;
    paid = (let weigh = ap (weights (length p)) same in omega arith);
  }

  reported_keeps : (j k : ℕ) (n : Number) (o : Outcome) (found : Option Pending) (s : BookState) → find (is_held_by k n) s.pending ≡ found → FitsFound f p found o → IsPartition f p u s.published (prefixes_of s.pending) → KeepsPartition f p u s (reported j k n o found s)
  reported_keeps j k n o None s at fits part = absurd fits
  reported_keeps j k n o (Some q) s at fits part =
      let split : Splits (is_held_by k n) s.pending q = found_splits (is_held_by k n) s.pending q at in
      let old : prefixes_of s.pending ≡ prefixes_of split.before ++ q.prefix ∷ prefixes_of split.after =
      ap prefixes_of split.was ∙ prefixes-append split.before (q ∷ split.after) in
      let new : prefixes_of (edit_first (is_held_by k n) taken_out s.pending ++ parts_of j k o) ≡ (prefixes_of split.before ++ prefixes_of split.after) ++ open_parts o =
      prefixes-append (edit_first (is_held_by k n) taken_out s.pending) (parts_of j k o)
      ∙ ap₂ (λ x y. x ++ y) (ap prefixes_of (split.edit taken_out) ∙ prefixes-append split.before split.after) (prefixes_of_parts j k o) in
      record {
        partition = subst (λ x. IsPartition f p u (s.published ++ o.cubes) x) (sym new)
            (outcome_keeps f p u s.published (prefixes_of split.before) q.prefix (prefixes_of split.after) o (subst (λ x. IsPartition f p u s.published x) old part) fits);
        paid = paid_for (length p) s.spent o (prefixes_of split.before) q.prefix (prefixes_of split.after) (prefixes_of s.pending) (prefixes_of (edit_first (is_held_by k n) taken_out s.pending ++ parts_of j k o)) old new fits.weighs;
      }
    where
      paid_for : (m spent : ℕ) (o : Outcome) (before : List (List ℤ)) (q : List ℤ) (after was now : List (List ℤ)) → was ≡ before ++ q ∷ after → now ≡ (before ++ after) ++ open_parts o → weights m (open_parts o) + o.leaves ≤ weight m q → min (spent + o.leaves) (2 ^ 62) + weights m now ≤ spent + weights m was
      paid_for m spent o before q after was now old new weighs =
          let small = min_small (spent + o.leaves) (2 ^ 62) in
          let one = ap (weights m) old ∙ weights-append m before (q ∷ after) in
          let two = ap (weights m) new ∙ weights-append m (before ++ after) (open_parts o) in
          let three = weights-append m before after in
          sums (min (spent + o.leaves) (2 ^ 62)) spent o.leaves (weights m now) (weights m was) (weights m before) (weight m q) (weights m after) (weights m (before ++ after)) (weights m (open_parts o)) small one two three weighs
        where
          sums : (least spent leaves now was before q after rest left : ℕ) → least ≤ spent + leaves → was ≡ before + (q + after) → now ≡ rest + left → rest ≡ before + after → left + leaves ≤ q → least + now ≤ spent + was
          sums least spent leaves now was before q after rest left a b c d e = omega arith

  step_keeps : (j : ℕ) (e : Event) (s : BookState) → IsPartition f p u s.published (prefixes_of s.pending) → IsLegalAt f p e s → KeepsPartition f p u s (step j e s)
  step_keeps j (Take k n) s part legal = moved_keeps s (edit_first (is_free n) (taken_by k) s.pending) (same_prefixes (is_free n) (taken_by k) (λ q. refl) s.pending) part
  step_keeps j (Report k n o) s part legal = reported_keeps j k n o (find (is_held_by k n) s.pending) s refl legal part
  step_keeps j (Release k n) s part legal = moved_keeps s (edit_first (is_held_by k n) let_go s.pending) (same_prefixes (is_held_by k n) let_go (λ q. refl) s.pending) part

  pub events_keep_partition : (j : ℕ) (events : List Event) (s : BookState) → IsPartition f p u s.published (prefixes_of s.pending) → AreLegal f p j events s → KeepsPartition f p u s (steps_from j events s)
  events_keep_partition j [] s part legal = record { partition = part; paid = omega arith }
  events_keep_partition j (e ∷ es) s part (now, rest) =
      let one = step_keeps j e s part now in
      let more = events_keep_partition (suc j) es (step j e s) one.partition rest in
      record {
        partition = more.partition;
        paid = (let first = one.paid in let second = more.paid in omega arith);
      }
