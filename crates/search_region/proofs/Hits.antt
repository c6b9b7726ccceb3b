-- How many cubes hold an assignment.
use Rattle.std.proofs.Common.{◌≡◌, ℕ, ◌+◌, Bool, true, ◌&&◌, cond, ℤ, nat_abs, List, [], ◌∷◌, ◌++◌, refl, ap, arith, ap₂}
use Rattle.std.specs.List.{list_all}
use Rattle.std.proofs.lemmas.Bool.{and_parts}
use Rattle.sat_terms.specs.Truth.{holds}
use Rattle.sat_terms.proofs.Disjoint.{lit_true-agree}
use Rattle.search_region.specs.Cubes.{hit, hits, over}

pub hits-append : (t : ℕ → Bool) (cs ds : List (List ℤ)) → hits t (cs ++ ds) ≡ hits t cs + hits t ds
hits-append t [] ds = omega arith
hits-append t (c ∷ cs) ds = let rest = hits-append t cs ds in omega arith

pub hits_push : (t : ℕ → Bool) (cs : List (List ℤ)) (c : List ℤ) → hits t (cs ++ c ∷ []) ≡ hits t cs + hit t c
hits_push t cs c = let both = hits-append t cs (c ∷ []) in omega arith

-- a cube over the shown variables sees these alone
pub holds_same : (shown s t : ℕ → Bool) → ((v : ℕ) → shown v ≡ true → s v ≡ t v) → (c : List ℤ) → over shown c ≡ true → holds s c ≡ holds t c
holds_same shown s t e [] o = refl
holds_same shown s t e (l ∷ c) o =
    let (now, rest) = and_parts (shown (nat_abs l)) (over shown c) o in
    ap₂ (λ a b. a && b) (lit_true-agree s t l (e (nat_abs l) now)) (holds_same shown s t e c rest)

pub hits_same : (shown s t : ℕ → Bool) → ((v : ℕ) → shown v ≡ true → s v ≡ t v) → (cs : List (List ℤ)) → list_all (over shown) cs ≡ true → hits s cs ≡ hits t cs
hits_same shown s t e [] o = refl
hits_same shown s t e (c ∷ cs) o =
    let (now, rest) = and_parts (over shown c) (list_all (over shown) cs) o in
    ap₂ (λ a b. a + b) (ap (λ b. cond b 1 0) (holds_same shown s t e c now)) (hits_same shown s t e cs rest)
