-- What a job has left open, as cubes.
use Rattle.std.proofs.Common.{◌≡◌, ℕ, suc, ◌<◌, Bool, true, ◌&&◌, nat_lt, ℤ, neg_ℤ, List, [], ◌∷◌, ◌++◌, length, get_or, refl, ap, ◌∙◌, inl, inr, arith, length-append}
use Rattle.std.specs.List.{All, list_all}
use Rattle.std.specs.List.Sorted.{IsStrictlyIncreasing}
use Rattle.std.proofs.lemmas.Bool.{and_parts, cases_Bool}
use Rattle.std.proofs.lemmas.List.Elements.{All-nil, All-push}
use Rattle.sat_terms.specs.Cubes.{IsCube, is_among}
use Rattle.search_region.specs.Trail.{Item, Decided, depth, flip, seen, upto, is_decided}
use Rattle.search_region.specs.Steady.{Steady}
use Rattle.search_region.specs.Cubes.{hits}
use Rattle.search_region.specs.Region.{front, untried, left_open, is_open}
use Rattle.search_region.proofs.Agree.{levels_within}
use Rattle.search_region.proofs.Back.{depth_rises}
use Rattle.search_region.proofs.Hits.{hits_push}
use Rattle.search_region.proofs.ReadCube.{read_cube_is_cube}
use Rattle.search_job.specs.Open.{untried_cubes, left_cubes, Exposes}
use Rattle.search_job.specs.Same.{SamePrefix, is_plain, front_cube, other_cube}
use Rattle.search_job.specs.Weights.{weights, FitsWeighed}
use Rattle.search_job.specs.Working.{Working}
use Rattle.search_job.proofs.Fits.{working_fits}
use Rattle.search_job.proofs.Give.{open_same, opened, deep}
use Rattle.search_job.proofs.Leaf.{shut_upto}
use Rattle.search_region.proofs.Flip.{fine_decided}
use Rattle.search_job.proofs.Same.{front_same, other_same, same_weight, same_hit}
use Rattle.search_job.proofs.Weights.{weights_push}

module _ (f : List (List ℤ)) (p : List ℕ) (up : IsStrictlyIncreasing p) (named : All (λ v. 0 < v) p) (base : ℕ) where
  some : 0 < length p → 0 < get_or p 0 0
  some h = named 0 0 h

  side_same : (i : Item) (older : List Item) → Steady f (is_among p) (i ∷ older) → is_open (is_among p) base i ≡ true → SamePrefix (front (is_among p) older ++ neg_ℤ i.lit ∷ []) (other_cube i older p)
  side_same i older s opens = other_same f p up i older s.0 s.1 (and_parts (is_decided i.kind) (seen (is_among p) i) (and_parts (is_decided i.kind && seen (is_among p) i) (nat_lt base i.level) opens).0).1 some

  untried_hits : (t : ℕ → Bool) (trail : List Item) → Steady f (is_among p) trail → hits t (untried (is_among p) base trail) ≡ hits t (untried_cubes p base trail)
  untried_hits t [] s = refl
  untried_hits t (i ∷ older) s = elim (cases_Bool (is_open (is_among p) base i)) [
    | inr shut ↦ rw shut (untried_hits t older s.1)
    | inl opens ↦
        let before = untried_hits t older s.1 in
        let side = same_hit t (front (is_among p) older ++ neg_ℤ i.lit ∷ []) (other_cube i older p) (side_same i older s opens) in
        let was = hits_push t (untried (is_among p) base older) (front (is_among p) older ++ neg_ℤ i.lit ∷ []) in
        let now = hits_push t (untried_cubes p base older) (other_cube i older p) in
        rw opens (omega arith)
  ]

  untried_weights : (n : ℕ) (trail : List Item) → Steady f (is_among p) trail → weights n (untried (is_among p) base trail) ≡ weights n (untried_cubes p base trail)
  untried_weights n [] s = refl
  untried_weights n (i ∷ older) s = elim (cases_Bool (is_open (is_among p) base i)) [
    | inr shut ↦ rw shut (untried_weights n older s.1)
    | inl opens ↦
        let before = untried_weights n older s.1 in
        let side = same_weight n (front (is_among p) older ++ neg_ℤ i.lit ∷ []) (other_cube i older p) (side_same i older s opens) in
        let was = weights_push n (untried (is_among p) base older) (front (is_among p) older ++ neg_ℤ i.lit ∷ []) in
        let now = weights_push n (untried_cubes p base older) (other_cube i older p) in
        rw opens (omega arith)
  ]

  untried_over : (trail : List Item) → All (IsCube p) (untried_cubes p base trail)
  untried_over [] = All-nil (IsCube p)
  untried_over (i ∷ older) = elim (cases_Bool (is_open (is_among p) base i)) [
    | inr shut ↦ rw shut (untried_over older)
    | inl opens ↦ rw opens (All-push (IsCube p) (untried_cubes p base older) (other_cube i older p) (untried_over older) (read_cube_is_cube is_plain (flip (depth older) i ∷ older) p up named))
  ]

  -- a working job can end at any time: what it found and left open fits its prefix
  pub expose_fits : (n : ℕ) (count : ℕ → ℕ) (q : List ℤ) (trail : List Item) (found : List (List ℤ)) (leaves : ℕ) → Working f (is_among p) n base count q trail found leaves → Exposes f p n q found (left_cubes p base trail) leaves
  expose_fits n count q trail found leaves w = record {
    over = All-push (IsCube p) (untried_cubes p base trail) (front_cube trail p) (untried_over trail) (read_cube_is_cube is_plain trail p up named);
    fits = record {
      fits = record {
        bound = λ t. (let was = (all w).fits.bound t in let same = same_hits t in omega arith);
        good = (all w).fits.good;
        cover = λ t model. (let was = (all w).fits.cover t model in let same = same_hits t in omega arith);
      };
      weighs = (
          let was = (all w).weighs in
          let old = weights_push n (untried (is_among p) base trail) (front (is_among p) trail) in
          let new = weights_push n (untried_cubes p base trail) (front_cube trail p) in
          let before = untried_weights n trail w.running.steady in
          let here = same_weight n (front (is_among p) trail) (front_cube trail p) (front_same f p up trail w.running.steady some) in
          omega arith
          );
    };
  }
    where
      all : Working f (is_among p) n base count q trail found leaves → FitsWeighed f (is_among p) n q found (left_open (is_among p) base trail) leaves
      all job = working_fits f (is_among p) n base count q trail found leaves job

      same_hits : (t : ℕ → Bool) → hits t (left_open (is_among p) base trail) ≡ hits t (left_cubes p base trail)
      same_hits t =
          let old = hits_push t (untried (is_among p) base trail) (front (is_among p) trail) in
          let new = hits_push t (untried_cubes p base trail) (front_cube trail p) in
          let before = untried_hits t trail w.running.steady in
          let here = same_hit t (front (is_among p) trail) (front_cube trail p) (front_same f p up trail w.running.steady some) in
          omega arith

-- the lowest untried cube is that of the base's next decision
pub untried_cubes_first : (f : List (List ℤ)) (p : List ℕ) (base : ℕ) (newer : List Item) (d : Item) (older : List Item) → Steady f (is_among p) (newer ++ d ∷ older) → d.kind ≡ Decided → d.level ≡ suc base → seen (is_among p) d ≡ true → untried_cubes p base (newer ++ d ∷ older) ≡ other_cube d older p ∷ untried_cubes p (suc base) (newer ++ d ∷ older)
untried_cubes_first f p base [] d older s decided next shows =
    rw (opened f (is_among p) base [] d older s decided next shows, cubes_low base older low, cubes_low (suc base) (d ∷ older) low_d) refl
  where
    cubes_low : (k : ℕ) (items : List Item) → list_all (upto k) items ≡ true → untried_cubes p k items ≡ []
    cubes_low k [] h = refl
    cubes_low k (i ∷ items) h =
        let (now, rest) = and_parts (upto k i) (list_all (upto k) items) h in
        rw (shut_upto (is_among p) k i now) (cubes_low k items rest)

    low : list_all (upto base) older ≡ true
    low = levels_within f (is_among p) base older s.1 (let opens = (fine_decided f (is_among p) d older s.0 decided).opens in omega arith)

    low_d : list_all (upto (suc base)) (d ∷ older) ≡ true
    low_d = levels_within f (is_among p) (suc base) (d ∷ older) s (let at = deep f (is_among p) base [] d older s decided next shows in omega arith)
untried_cubes_first f p base (i ∷ newer) d older s decided next shows =
    let rises = depth_rises f (is_among p) newer (d ∷ older) s.1 in
    let alike = open_same f (is_among p) base newer d older s.1 decided next shows i (newer ++ d ∷ older) s.0 (let at = deep f (is_among p) base newer d older s.1 decided next shows in omega arith) in
    elim (cases_Bool (is_open (is_among p) base i)) [
      | inl now ↦ rw (alike ∙ now, now) (ap (λ x. x ++ other_cube i (newer ++ d ∷ older) p ∷ []) (untried_cubes_first f p base newer d older s.1 decided next shows))
      | inr shut ↦ rw (alike ∙ shut, shut) (untried_cubes_first f p base newer d older s.1 decided next shows)
    ]

-- where no prefix is untried, no cube is
pub untried_cubes_none : (p : List ℕ) (base : ℕ) (trail : List Item) → untried (is_among p) base trail ≡ [] → untried_cubes p base trail ≡ []
untried_cubes_none p base [] none = refl
untried_cubes_none p base (i ∷ older) none = elim (cases_Bool (is_open (is_among p) base i)) [
  | inr shut ↦ rw shut (untried_cubes_none p base older (rw shut at none))
  | inl opens ↦
      let long = ap length (rw opens at none) in
      let one = length-append (untried (is_among p) base older) ((front (is_among p) older ++ neg_ℤ i.lit ∷ []) ∷ []) in
      absurd (omega arith)
]
