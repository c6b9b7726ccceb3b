-- The literals of a prefix, put on a trail one after another.
use Rattle.std.proofs.Common.{◌≡◌, ℕ, zero, suc, ◌+◌, ◌<◌, ◌≤◌, true, false, nat_eq, ℤ, nat_abs, List, [], ◌∷◌, ◌++◌, length, get_or, take, Option, Some, None, is_some, refl, sym, ap, subst, ◌∙◌, inl, inr, arith, All}
use Rattle.std.proofs.lemmas.Bool.{and_parts, or_cases, eqb-true, or_from, ne_eqb}
use Rattle.std.proofs.lemmas.List.{take_more}
use Rattle.std.specs.List.{list_all}
use Rattle.std.proofs.lemmas.List.Elements.{All-nil, All-cons, All-head, All-tail}
use Rattle.sat_terms.specs.Literals.{IsLiteralOf}
use Rattle.sat_terms.specs.Cubes.{IsCube, is_among, rises_above}
use Rattle.sat_terms.proofs.CubeLemmas.{rises_above-head, rises_above-tail}
use Rattle.search_region.specs.Trail as picture
use Rattle.search_job.specs.Reasons.{assumed, assume_all}
use Rattle.search_job.specs.Open.{untried_cubes}
use Rattle.chrono_trail.specs.declared.item.Kind.TheVariants.{Assumed}
use Rattle.chrono_trail.specs.declared.item.Item.{Item}
use Rattle.chrono_trail.specs.Items.{item_of}
use Rattle.chrono_trail.specs.Pictures.{picture_of}
use Rattle.chrono_trail.proofs.Pictures.{picture-push, is_assigned-picture}

-- one literal more is put on last
assume_push : (q : List ℤ) (l : ℤ) (trail : List picture.Item) → assume_all (q ++ l ∷ []) trail ≡ assumed l ∷ assume_all q trail
assume_push [] l trail = refl
assume_push (m ∷ q) l trail = assume_push q l (assumed m ∷ trail)

pub assume_more : (f : List (List ℤ)) (items : List Item) (q : List ℤ) (i : ℕ) (d : ℤ) → i < length q →
    picture_of f items ≡ assume_all (take i q) [] →
    picture_of f (items ++ record { lit = get_or q i d; level = 0; kind = Assumed } ∷ []) ≡ assume_all (take (i + 1) q) []
assume_more f items q i d inside before =
    picture-push f items (record { lit = get_or q i d; level = 0; kind = Assumed })
    ∙ ap (λ t. assumed (get_or q i d) ∷ t) before
    ∙ sym (assume_push (take i q) (get_or q i d) [])
    ∙ sym (ap (λ xs. assume_all xs []) (take_more q i d inside))

-- rising literals are of variables that are not yet assigned
fresh_at : (n : ℕ) (q : List ℤ) (trail : List picture.Item) (i : ℕ) (d : ℤ) → rises_above n q ≡ true →
    ((v : ℕ) → n < v → picture.is_assigned v trail ≡ false) → i < length q →
    picture.is_assigned (nat_abs (get_or q i d)) (assume_all (take i q) trail) ≡ false
fresh_at n [] trail i d rises free inside = absurd (omega arith)
fresh_at n (l ∷ q) trail zero d rises free inside = free (nat_abs l) (rises_above-head n l q rises)
fresh_at n (l ∷ q) trail (suc i) d rises free inside =
    let above = rises_above-head n l q rises in
    fresh_at (nat_abs l) q (assumed l ∷ trail) i d (rises_above-tail n l q rises)
    (λ v high. or_from (nat_eq v (nat_abs l)) (picture.is_assigned v trail) (ne_eqb v (nat_abs l) (λ same. omega arith)) (free v (omega arith))) (omega arith)

none_is : (o : Option Item) → is_some o ≡ false → o ≡ None
none_is None h = refl
none_is (Some i) h = cc

pub fresh_next : (items : List Item) (q : List ℤ) (i : ℕ) (d : ℤ) → rises_above 0 q ≡ true → i < length q →
    picture_of [] items ≡ assume_all (take i q) [] → item_of items (nat_abs (get_or q i d)) ≡ None
fresh_next items q i d rises inside before =
    none_is (item_of items (nat_abs (get_or q i d)))
    (sym (is_assigned-picture [] (nat_abs (get_or q i d)) items)
    ∙ ap (picture.is_assigned (nat_abs (get_or q i d))) before
    ∙ fresh_at 0 q [] i d rises (λ v high. refl) inside)

-- nothing is decided
pub assumed_depth : (q : List ℤ) (trail : List picture.Item) → picture.depth (assume_all q trail) ≡ picture.depth trail
assumed_depth [] trail = refl
assumed_depth (l ∷ q) trail = assumed_depth q (assumed l ∷ trail)

-- so nothing is untried
pub assumed_untried : (p : List ℕ) (base : ℕ) (q : List ℤ) (trail : List picture.Item) → untried_cubes p base trail ≡ [] →
    untried_cubes p base (assume_all q trail) ≡ []
assumed_untried p base [] trail h = h
assumed_untried p base (l ∷ q) trail h = assumed_untried p base q (assumed l ∷ trail) h

pub among_named : (n : ℕ) (p : List ℕ) → All (λ v. (0 < v) × (v ≤ n)) p → (v : ℕ) → is_among p v ≡ true → (0 < v) × (v ≤ n)
among_named n [] named v h = cc
among_named n (u ∷ p) named v h = elim (or_cases (nat_eq v u) (is_among p v) h) [
  | inl here ↦ subst (λ x. (0 < x) × (x ≤ n)) (sym (eqb-true v u here)) (All-head (λ v. (0 < v) × (v ≤ n)) u p named)
  | inr there ↦ among_named n p (All-tail (λ v. (0 < v) × (v ≤ n)) u p named) v there
]

literals_named : (n : ℕ) (p : List ℕ) → All (λ v. (0 < v) × (v ≤ n)) p → (q : List ℤ) → list_all (λ l. is_among p (nat_abs l)) q ≡ true → All (IsLiteralOf n) q
literals_named n p named [] over = All-nil (IsLiteralOf n)
literals_named n p named (l ∷ q) over =
    let (now, rest) = and_parts (is_among p (nat_abs l)) (list_all (λ m. is_among p (nat_abs m)) q) over in
    All-cons (IsLiteralOf n) l q (among_named n p named (nat_abs l) now) (literals_named n p named q rest)

-- the literals of a cube are of the variables
pub cube_named : (n : ℕ) (p : List ℕ) → All (λ v. (0 < v) × (v ≤ n)) p → (q : List ℤ) → IsCube p q → All (IsLiteralOf n) q
cube_named n p named q cube = literals_named n p named q cube.over
