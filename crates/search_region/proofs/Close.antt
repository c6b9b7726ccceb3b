-- What a closed search has found.
use Rattle.std.proofs.Common.{◌≡◌, ℕ, ◌<◌, ◌≤◌, Bool, true, false, cond, ℤ, List, refl, sym, ap, ◌∙◌, inl, inr, arith}
use Rattle.sat_terms.specs.Truth.{holds}
use Rattle.search_region.specs.Cubes.{hit, hits, Good}
use Rattle.search_region.specs.Region.{Closed}
use Rattle.search_region.proofs.Hits.{hits_same, holds_same}
use Rattle.search_region.proofs.Fits.{hit_small}
use Rattle.search_region.proofs.Root.{cases_le}

-- what is closed holds each assignment at most once
pub closed_once : (f : List (List ℤ)) (shown : ℕ → Bool) (p : List ℤ) (found : List (List ℤ)) → Closed f shown p found → (t : ℕ → Bool) → hits t found ≤ 1
closed_once f shown p found h t =
    elim (cases_le (hits t found) 0) [
      | inl none ↦ omega arith
      | inr some ↦
          let g : Good f shown t = h.good t some in
          let same = hits_same shown g.model t g.same found h.found_over in
          let one = h.exact g.model g.meets in
          let few = hit_small g.model p in
          omega arith
    ]

-- and just the good ones that lie in its prefix
pub closed_good : (f : List (List ℤ)) (shown : ℕ → Bool) (p : List ℤ) (found : List (List ℤ)) → Closed f shown p found → (t : ℕ → Bool) → Good f shown t → hits t found ≡ hit t p
closed_good f shown p found h t g =
    sym (hits_same shown g.model t g.same found h.found_over) ∙ h.exact g.model g.meets
    ∙ ap (λ b. cond b 1 0) (holds_same shown g.model t g.same p h.prefix_over)

-- what lies in a prefix is seen by its count
pub in_prefix : (t : ℕ → Bool) (p : List ℤ) → 0 < hit t p → holds t p ≡ true
in_prefix t p some = by_cases (holds t p) refl
  where
    by_cases : (b : Bool) → holds t p ≡ b → holds t p ≡ true
    by_cases true e = e
    by_cases false e = let none : hit t p ≡ 0 = ap (λ b. cond b 1 0) e in absurd (omega arith)

pub hit_of_prefix : (t : ℕ → Bool) (p : List ℤ) → holds t p ≡ true → hit t p ≡ 1
hit_of_prefix t p e = ap (λ b. cond b 1 0) e
