-- Steps of propagation, one after another.
use Rattle.std.proofs.Common.{◌≡◌, ℕ, ◌+◌, ◌<◌, ◌≤◌, ℤ, List, [], ◌∷◌, ◌++◌, length, get_or, refl, sym, ap, subst, ◌∙◌, append_assoc, append-nil, arith, length-append, below_more}
use Rattle.std.proofs.lemmas.Bool.{le-leb}
use Rattle.chrono_trail.specs.declared.item.Kind.TheVariants.{Implied}
use Rattle.chrono_trail.specs.declared.item.Item.{Item}
use Rattle.chrono_trail.specs.Trails.{IsTrail}
use Rattle.chrono_trail.specs.Clauses.{IsUnit, rest_level}
use Rattle.chrono_trail.proofs.Tables.{trail_push}
use Rattle.chrono_trail.proofs.Back.{all_low}
use Rattle.sat_terms.specs.Literals.{IsLiteralOf}
use Rattle.chrono_trail.specs.Clauses.{IsAtRest}
use Rattle.propagation.specs.Steps.{AreImplied, Propagates}
use Rattle.chrono_trail.proofs.Clauses.{low_rest}

implied_append : (clauses : List (List ℤ)) (old xs ys : List Item) → AreImplied clauses old xs → AreImplied clauses (old ++ xs) ys → AreImplied clauses old (xs ++ ys)
implied_append clauses old [] ys h g = subst (λ o. AreImplied clauses o ys) (append-nil old) g
implied_append clauses old (x ∷ xs) ys h g =
    (h.0, implied_append clauses (old ++ x ∷ []) xs ys h.1 (subst (λ o. AreImplied clauses o ys) (sym (append_assoc old (x ∷ []) xs)) g))

pub none_yet : (clauses : List (List ℤ)) (old : List Item) → Propagates clauses old old
none_yet clauses old = record { added = []; grows = sym (append-nil old); implied = tt }

pub and_then : (clauses : List (List ℤ)) (old mid new : List Item) → Propagates clauses old mid → Propagates clauses mid new → Propagates clauses old new
and_then clauses old mid new first more = record {
  added = first.added ++ more.added;
  grows = more.grows ∙ ap (λ xs. xs ++ more.added) first.grows ∙ append_assoc old first.added more.added;
  implied = implied_append clauses old first.added more.added first.implied (subst (λ o. AreImplied clauses o more.added) first.grows more.implied);
}

-- the item that a unit clause implies
abbrev pub implied_by : List (List ℤ) → List Item → ℕ → ℤ → Item
implied_by clauses items id l = record { lit = l; level = rest_level items l (get_or clauses id []); kind = Implied id }

pub one_step : (clauses : List (List ℤ)) (items new : List Item) (id : ℕ) (l : ℤ) → id < length clauses → IsUnit items l (get_or clauses id []) → new ≡ items ++ implied_by clauses items id l ∷ [] → Propagates clauses items new
one_step clauses items new id l inside unit grown = record {
  added = implied_by clauses items id l ∷ [];
  grows = grown;
  implied = (record { id = id; inside = inside; kind = refl; unit = unit; level = refl }, tt);
}

-- propagation does not shorten a trail, and a step lengthens it
pub not_shorter : (clauses : List (List ℤ)) (old new : List Item) → Propagates clauses old new → length old ≤ length new
not_shorter clauses old new p =
    let long = ap length p.grows in
    let both = length-append old p.added in
    omega arith

pub longer : (clauses : List (List ℤ)) (old items new : List Item) (e : Item) → Propagates clauses old items → new ≡ items ++ e ∷ [] → new ≡ old → ⊥
longer clauses old items new e p grown same =
    let before = not_shorter clauses old items p in
    let now = ap length grown in
    let equal = ap length same in
    let both = length-append items (e ∷ []) in
    absurd (omega arith)

-- where nothing was appended, nothing changed
pub same_from_length : (clauses : List (List ℤ)) (old new : List Item) → Propagates clauses old new → length new ≡ length old → new ≡ old
same_from_length clauses old new p h = go p.added p.grows
  where
    go : (added : List Item) → new ≡ old ++ added → new ≡ old
    go [] g = g ∙ append-nil old
    go (x ∷ added) g =
        let long = ap length g in
        let both = length-append old (x ∷ added) in
        absurd (omega arith)

-- the true level is at most the current one
pub true_level_low : (n : ℕ) (items : List Item) (level : ℕ) (l : ℤ) (c : List ℤ) → IsTrail n items level → rest_level items l c ≤ level
true_level_low n items level l c t =
    let current = t.current in
    low_rest items l level c (all_low 0 level items t.stands (omega arith))

-- an implied literal keeps the trail one
pub implied_keeps : (n : ℕ) (items new : List Item) (level id : ℕ) (l : ℤ) (clauses : List (List ℤ)) → IsTrail n items level → IsLiteralOf n l → IsUnit items l (get_or clauses id []) → new ≡ items ++ implied_by clauses items id l ∷ [] → IsTrail n new level
implied_keeps n items new level id l clauses t named unit grown =
    subst (λ xs. IsTrail n xs level) (sym grown)
    (trail_push n items level (implied_by clauses items id l) t named.0 named.1 unit.free (le-leb (rest_level items l (get_or clauses id [])) level (true_level_low n items level l (get_or clauses id []) t)))

-- one more clause at rest
pub rest_more : (clauses : List (List ℤ)) (items : List Item) (i : ℕ) → ((j : ℕ) → j < i → IsAtRest items (get_or clauses j [])) → IsAtRest items (get_or clauses i []) → (j : ℕ) → j < i + 1 → IsAtRest items (get_or clauses j [])
rest_more clauses items i before here = below_more (λ j. IsAtRest items (get_or clauses j [])) i before here
