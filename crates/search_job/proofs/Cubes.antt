-- The give with cubes in place of the trail's prefixes: the test of a found cube is `within`.
use Rattle.std.proofs.Common.{◌≡◌, ℕ, suc, ◌-◌, ◌<◌, Bool, true, not, nat_lt, ℤ, neg_ℤ, nat_abs, List, [], ◌∷◌, ◌++◌, filter, length, get_or, refl, sym, ◌∙◌, inl, inr, arith}
use Rattle.std.specs.List.{All, list_all, AllByRecursion}
use Rattle.std.specs.List.Sorted.{IsStrictlyIncreasing}
use Rattle.std.proofs.lemmas.Bool.{and_from, both_ways, lt-ltb}
use Rattle.std.proofs.lemmas.List.Elements.{All-head, All-tail}
use Rattle.sat_terms.specs.Truth.{holds}
use Rattle.sat_terms.specs.Cubes.{IsCube, is_among, rises_above, within}
use Rattle.sat_terms.proofs.CubeLemmas.{rises_above-head, rises_above-tail}
use Rattle.sat_terms.proofs.Inside.{within-from_inside, inside-from_within}
use Rattle.search_region.specs.Trail.{Item, Decided, depth, flip, seen}
use Rattle.search_region.specs.Steady.{Steady, Fine}
use Rattle.search_region.specs.Region.{front, root}
use Rattle.search_region.proofs.Back.{steady_older}
use Rattle.search_region.proofs.ReadCube.{read_cube_is_cube}
use Rattle.search_region.proofs.Root.{cases_le, root_whole, root_above}
use Rattle.search_job.specs.Give.{Tells, next_count, kept_prefix, Gives, GivesCubes}
use Rattle.search_job.specs.Same.{SamePrefix, is_plain, front_cube, other_cube}
use Rattle.search_job.specs.Weights.{weight}
use Rattle.search_job.specs.Working.{Working}
use Rattle.search_job.proofs.Give.{give_works}
use Rattle.search_job.proofs.Same.{front_same, other_same, working_moved, fits_moved}
use Rattle.search_job.proofs.Weights.{weighs_recount}

-- the literals of a cube are named
pub named_above : (n : ℕ) (c : List ℤ) → rises_above n c ≡ true → list_all (λ l. nat_lt 0 (nat_abs l)) c ≡ true
named_above n [] r = refl
named_above n (l ∷ c) r =
    and_from (nat_lt 0 (nat_abs l)) (list_all (λ m. nat_lt 0 (nat_abs m)) c) (lt-ltb 0 (nat_abs l) (let above = rises_above-head n l c r in omega arith)) (named_above (nat_abs l) c (rises_above-tail n l c r))

-- whether a cube is within another tells what of the first is in the second, in whatever order its literals are
pub within_tells : (kept prefix : List ℤ) → rises_above 0 kept ≡ true → ((t : ℕ → Bool) → holds t prefix ≡ holds t kept) → (cubes : List (List ℤ)) → All (λ c. rises_above 0 c ≡ true) cubes → AllByRecursion (Tells (λ c. within c kept) prefix) cubes
within_tells kept prefix rises same [] all = tt
within_tells kept prefix rises same (c ∷ cubes) all = (
  record {
    within = λ inside t held. same t ∙ inside-from_within c kept inside t held;
    other = λ out inside. both_ways (within c kept) out (within-from_inside c kept (All-head (λ d. rises_above 0 d ≡ true) c cubes all) (named_above 0 kept rises) (λ t held. sym (same t) ∙ inside t held));
  },
  within_tells kept prefix rises same cubes (All-tail (λ d. rises_above 0 d ≡ true) c cubes all),
)

steady_root : (f : List (List ℤ)) (shown : ℕ → Bool) (k : ℕ) (trail : List Item) → Steady f shown trail → Steady f shown (root k trail)
steady_root f shown k [] s = s
steady_root f shown k (i ∷ older) s = elim (cases_le (depth (i ∷ older)) k) [
  | inl low ↦ rw (root_whole k (i ∷ older) low) s
  | inr high ↦ rw (root_above k i older high) (steady_root f shown k older s.1)
]

-- counts that are the same at each level
pub working_recount : (f : List (List ℤ)) (shown : ℕ → Bool) (n base : ℕ) (count next : ℕ → ℕ) (q : List ℤ) (trail : List Item) (found : List (List ℤ)) (leaves : ℕ) → ((k : ℕ) → next k ≡ count k) → Working f shown n base count q trail found leaves → Working f shown n base next q trail found leaves
working_recount f shown n base count next q trail found leaves same w = record {
  running = w.running;
  stuck = w.stuck;
  weights = weighs_recount shown n base q f count next (weight n (front shown trail)) leaves trail w.running.steady (λ k high inside. same k) w.weights;
}

-- the give, with cubes
pub give_keeps_working : (f : List (List ℤ)) (p : List ℕ) (n base : ℕ) (count : ℕ → ℕ) (q : List ℤ) (newer : List Item) (d : Item) (older : List Item) (found : List (List ℤ)) (leaves : ℕ) → IsStrictlyIncreasing p → All (λ v. 0 < v) p → Working f (is_among p) n base count q (newer ++ d ∷ older) found leaves → All (λ c. rises_above 0 c ≡ true) found → d.kind ≡ Decided → d.level ≡ suc base → seen (is_among p) d ≡ true →
    GivesCubes f p n base count q (newer ++ d ∷ older) found leaves (other_cube d older p) (front_cube (root (suc base) (newer ++ d ∷ older)) p) (next_count (is_among p) (suc base) count leaves (newer ++ d ∷ older))
give_keeps_working f p n base count q newer d older found leaves up named w rising decided next shows = record {
  given_is = read_cube_is_cube is_plain (flip (depth older) d ∷ older) p up named;
  kept_is = kept_is;
  few = gives.few;
  fits = fits_moved f (is_among p) n q (front (is_among p) older ++ neg_ℤ d.lit ∷ []) (kept_prefix (is_among p) base (newer ++ d ∷ older)) (other_cube d older p) (front_cube (root (suc base) (newer ++ d ∷ older)) p) (filter (λ c. not (within c (front_cube (root (suc base) (newer ++ d ∷ older)) p))) found) (next_count (is_among p) (suc base) count leaves (newer ++ d ∷ older)) same_given same_kept gives.fits;
  works = working_moved f (is_among p) n (suc base) (λ k. count k - (next_count (is_among p) (suc base) count leaves (newer ++ d ∷ older))) (kept_prefix (is_among p) base (newer ++ d ∷ older)) (front_cube (root (suc base) (newer ++ d ∷ older)) p) (newer ++ d ∷ older) (filter (λ c. within c (front_cube (root (suc base) (newer ++ d ∷ older)) p)) found) (leaves - (next_count (is_among p) (suc base) count leaves (newer ++ d ∷ older))) same_kept kept_is.over gives.works;
}
  where
    some : 0 < length p → 0 < get_or p 0 0
    some h = named 0 0 h

    s : Steady f (is_among p) (newer ++ d ∷ older)
    s = w.running.steady

    parts : Fine f (is_among p) d older × Steady f (is_among p) older
    parts = steady_older f (is_among p) newer (d ∷ older) s

    kept_is : IsCube p (front_cube (root (suc base) (newer ++ d ∷ older)) p)
    kept_is = read_cube_is_cube is_plain (root (suc base) (newer ++ d ∷ older)) p up named

    same_kept : SamePrefix (kept_prefix (is_among p) base (newer ++ d ∷ older)) (front_cube (root (suc base) (newer ++ d ∷ older)) p)
    same_kept = front_same f p up (root (suc base) (newer ++ d ∷ older)) (steady_root f (is_among p) (suc base) (newer ++ d ∷ older) s) some

    same_given : SamePrefix (front (is_among p) older ++ neg_ℤ d.lit ∷ []) (other_cube d older p)
    same_given = other_same f p up d older parts.0 parts.1 shows some

    gives : Gives f (is_among p) n base count q (newer ++ d ∷ older) found leaves (λ c. within c (front_cube (root (suc base) (newer ++ d ∷ older)) p)) (front (is_among p) older ++ neg_ℤ d.lit ∷ []) (next_count (is_among p) (suc base) count leaves (newer ++ d ∷ older))
    gives = give_works f (is_among p) n base count q newer d older found leaves (λ c. within c (front_cube (root (suc base) (newer ++ d ∷ older)) p)) w decided next shows
        (within_tells (front_cube (root (suc base) (newer ++ d ∷ older)) p) (kept_prefix (is_among p) base (newer ++ d ∷ older)) kept_is.rising same_kept.says found rising)
