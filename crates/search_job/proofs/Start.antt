-- The start of a job: the literals of its prefix are assumed.
use Rattle.std.proofs.Common.{◌≡◌, ℕ, ◌+◌, ◌<◌, Bool, true, false, ◌&&◌, cond, nat_le, nat_lt, nat_eq, ℤ, nat_abs, List, [], ◌∷◌, ◌++◌, refl, sym, ap, ap₂, subst, ◌∙◌, inl, inr, arith, append_assoc, append-nil}
use Rattle.std.proofs.lemmas.Bool.{and_parts, and_from, and_right, or_from, cases_Bool, le-leb, ltb-true, false_from_ne_true, ne_eqb}
use Rattle.std.proofs.lemmas.List.Folds.{list_all-append}
use Rattle.sat_terms.specs.Literals.{lit_true}
use Rattle.sat_terms.specs.Truth.{sat, holds}
use Rattle.sat_terms.specs.Cubes.{rises_above}
use Rattle.sat_terms.proofs.CubeLemmas.{rises_above-head, rises_above-tail}
use Rattle.search_region.specs.Trail.{Item, depth, is_assigned, is_decided, seen, chosen_upto}
use Rattle.search_region.specs.Steady.{Steady, FineAssumed}
use Rattle.search_region.specs.Cubes.{hits, over}
use Rattle.search_region.specs.Region.{cut, front, root}
use Rattle.search_region.specs.Running.{Running}
use Rattle.search_region.proofs.Agree.{agree_more, level_bound}
use Rattle.search_region.proofs.Cut.{cut_unflipped}
use Rattle.search_region.proofs.Root.{root_whole}
use Rattle.search_region.proofs.Start.{start_runs}
use Rattle.search_job.specs.Reasons.{assumed, assume_all}
use Rattle.search_job.specs.Weights.{weight, weighs}
use Rattle.search_job.specs.Working.{Working}
use Rattle.search_job.proofs.Weights.{weighs_shut}

module _ (f : List (List ℤ)) (shown : ℕ → Bool) where
  -- an assignment that is in a prefix with one literal more
  more_parts : (t : ℕ → Bool) (q : List ℤ) (l : ℤ) → holds t (q ++ l ∷ []) ≡ true → (holds t q ≡ true) × (lit_true t l ≡ true)
  more_parts t q l h =
      let (before, last) = and_parts (holds t q) (lit_true t l && true) (sym (list_all-append (lit_true t) q (l ∷ [])) ∙ h) in
      (before, (and_parts (lit_true t l) true last).0)

  -- one more literal of the prefix, while nothing is decided or found
  pub assume_keeps_running : (q : List ℤ) (trail : List Item) (l : ℤ) → Running f shown 0 q trail [] → depth trail ≡ 0 → seen shown (assumed l) ≡ true → 0 < nat_abs l → is_assigned (nat_abs l) trail ≡ false → Running f shown 0 (q ++ l ∷ []) (assumed l ∷ trail) []
  assume_keeps_running q trail l r flat shows named fresh = record {
    steady = (
      record {
        named = named;
        fresh = fresh;
        kinds = (let fine : FineAssumed shown (assumed l) trail = record { lowest = refl; first = flat; over = shows } in fine);
      },
      r.steady,
    );
    region = record {
      based = omega arith;
      found_over = refl;
      prefix_over = list_all-append (λ m. shown (nat_abs m)) q (l ∷ []) ∙ and_from (over shown q) (shown (nat_abs l) && true) r.region.prefix_over (and_from (shown (nat_abs l)) true shows refl);
      good = λ t h. absurd (omega arith);
      exact = exact;
      below = below;
      above = λ t h. agree_more (chosen_upto 0) t (assumed l) trail (λ c. (more_parts t q l h).1) (r.region.above t (more_parts t q l h).0);
    };
  }
    where
      exact : (t : ℕ → Bool) → sat f t ≡ true → hits t [] ≡ cond (holds t (q ++ l ∷ []) && cut shown t (assumed l ∷ trail)) 1 0
      exact t m = elim (cases_Bool (holds t (q ++ l ∷ []))) [
        | inr out ↦ rw out refl
        | inl held ↦ elim (cases_Bool (cut shown t trail)) [
          | inr stays ↦ let same : cut shown t (assumed l ∷ trail) ≡ false = cut_unflipped shown t (assumed l) trail refl ∙ stays in rw (held, same) refl
          | inl gone ↦ let was : 0 ≡ cond {A = ℕ} (holds t q && cut shown t trail) 1 0 = r.region.exact t m in
              let one : cond {A = ℕ} (holds t q && cut shown t trail) 1 0 ≡ 1 = ap₂ (λ a b. cond (a && b) 1 0) (more_parts t q l held).0 gone in
              absurd (omega arith)
        ]
      ]

      below : (t : ℕ → Bool) → holds t (front shown (root 0 (assumed l ∷ trail))) ≡ true → holds t (q ++ l ∷ []) ≡ true
      below t h =
          let all : holds t (front shown (assumed l ∷ trail)) ≡ true = subst (λ x. holds t (front shown x) ≡ true) (root_whole 0 (assumed l ∷ trail) (omega arith)) h in
          let (before, last) = more_parts t (front shown trail) l (rw shows at all) in
          list_all-append (lit_true t) q (l ∷ []) ∙ and_from (holds t q) (lit_true t l && true)
          (r.region.below t (rw (root_whole 0 trail (omega arith)) before)) (and_from (lit_true t l) true last refl)

  pub front_assumed : (trail : List Item) (l : ℤ) → seen shown (assumed l) ≡ true → front shown (assumed l ∷ trail) ≡ front shown trail ++ l ∷ []
  front_assumed trail l shows = rw shows refl

-- a search of q whose present prefix is q, with nothing decided or found, is a job
pub start_works : (f : List (List ℤ)) (shown : ℕ → Bool) (n : ℕ) (count : ℕ → ℕ) (q : List ℤ) (trail : List Item) → Running f shown 0 q trail [] → depth trail ≡ 0 → front shown trail ≡ q → Working f shown n 0 count q trail [] 0
start_works f shown n count q trail r flat same = record {
  running = r;
  stuck = tt;
  weights = weighs_flat trail r.steady flat (le-leb (weight n (front shown trail) + 0) (weight n q) (let equal : weight n (front shown trail) ≡ weight n q = ap (weight n) same in omega arith));
}
  where
    -- where nothing is decided nothing is open
    weighs_flat : (items : List Item) → Steady f shown items → depth items ≡ 0 → nat_le (weight n (front shown trail) + 0) (weight n q) ≡ true → weighs shown n 0 count q (weight n (front shown trail)) 0 items ≡ true
    weighs_flat [] s deep h = h
    weighs_flat (i ∷ older) s deep h =
        let bound = level_bound f shown i older s.0 in
        let rises = bound.1 in
        let low = bound.0 in
        weighs_shut shown n 0 q count (weight n (front shown trail)) 0 i older (and_right (is_decided i.kind && seen shown i) (nat_lt 0 i.level) (false_from_ne_true (nat_lt 0 i.level) λ high. (let up = ltb-true 0 i.level high in omega arith)))
        ∙ weighs_flat older s.1 (omega arith) h

-- each of the literals is of a variable that isn't assigned before it
abbrev pub AreFresh : List Item → List ℤ → Type 0
AreFresh trail [] = Unit {0}
AreFresh trail (l ∷ q) = (0 < nat_abs l) × (is_assigned (nat_abs l) trail ≡ false) × AreFresh (assumed l ∷ trail) q

-- rising literals are, over variables that aren't above where they rise from
fresh_from_rising : (n : ℕ) (q : List ℤ) (trail : List Item) → rises_above n q ≡ true → ((v : ℕ) → n < v → is_assigned v trail ≡ false) → AreFresh trail q
fresh_from_rising n [] trail rises free = tt
fresh_from_rising n (l ∷ q) trail rises free =
    let above : n < nat_abs l = rises_above-head n l q rises in (
      omega arith,
      free (nat_abs l) above,
      fresh_from_rising (nat_abs l) q (assumed l ∷ trail) (rises_above-tail n l q rises)
          (λ v high. or_from (nat_eq v (nat_abs l)) (is_assigned v trail) (ne_eqb v (nat_abs l) (λ same. omega arith)) (free v (omega arith))),
    )

module _ (f : List (List ℤ)) (shown : ℕ → Bool) where
  -- literals of the prefix that are assumed one after another
  assume_from : (p q : List ℤ) (trail : List Item) → Running f shown 0 p trail [] → depth trail ≡ 0 → front shown trail ≡ p → over shown q ≡ true → AreFresh trail q → Running f shown 0 (p ++ q) (assume_all q trail) [] × (depth (assume_all q trail) ≡ 0) × (front shown (assume_all q trail) ≡ p ++ q)
  assume_from p [] trail r flat same shows free = (subst (λ x. Running f shown 0 x trail []) (sym (append-nil p)) r, flat, same ∙ sym (append-nil p))
  assume_from p (l ∷ q) trail r flat same shows free =
      let (now, rest) = and_parts (shown (nat_abs l)) (over shown q) shows in
      let next = assume_from (p ++ l ∷ []) q (assumed l ∷ trail) (assume_keeps_running f shown p trail l r flat now free.0 free.1) flat (front_assumed f shown trail l now ∙ ap (λ x. x ++ l ∷ []) same) rest free.2 in
      let shape : (p ++ l ∷ []) ++ q ≡ p ++ (l ∷ q) = append_assoc p (l ∷ []) q in
      (subst (λ x. Running f shown 0 x (assume_all q (assumed l ∷ trail)) []) shape next.0, next.1, next.2 ∙ shape)

-- a job begins with the literals of its prefix assumed
pub begin_works : (f : List (List ℤ)) (shown : ℕ → Bool) (n : ℕ) (count : ℕ → ℕ) (q : List ℤ) → rises_above 0 q ≡ true → over shown q ≡ true → Working f shown n 0 count q (assume_all q []) [] 0
begin_works f shown n count q rises shows =
    let all = assume_from f shown [] q [] (start_runs f shown) refl refl shows (fresh_from_rising 0 q [] rises (λ v high. refl)) in
    start_works f shown n count q (assume_all q []) all.0 all.1 all.2
