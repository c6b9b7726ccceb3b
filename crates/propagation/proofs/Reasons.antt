-- The clause of an implied item is its reason.
use Rattle.std.proofs.Common.{◌≡◌, ℕ, true, false, nat_eq, ℤ, nat_abs, List, [], ◌∷◌, ◌++◌, get_or, Some, is_none, refl, sym, ap, subst, ◌∙◌, inl, inr, arith, append_assoc}
use Rattle.std.proofs.lemmas.Bool.{and_parts, and_from, cases_Bool}
use Rattle.chrono_trail.specs.declared.item.Kind.TheVariants.{Implied}
use Rattle.chrono_trail.specs.declared.item.Item.{Item}
use Rattle.chrono_trail.specs.Items.{item_of, reason_id, are_distinct}
use Rattle.chrono_trail.specs.Clauses.{IsReason}
use Rattle.chrono_trail.proofs.Reasons.{rest_low}
use Rattle.chrono_trail.specs.Reasons.{HaveReasons, AreReasoned}
use Rattle.chrono_trail.proofs.Reasoned.{have_more}
use Rattle.propagation.specs.Laws.{PropagationKeepsReasons}
use Rattle.propagation.specs.Steps.{IsImplied, AreImplied}

pub implied_reason : (clauses : List (List ℤ)) (older : List Item) (i : Item) (id : ℕ) →
    are_distinct older ≡ true → IsImplied clauses older i → i.kind ≡ Implied id →
    IsReason older i (get_or clauses id [])
implied_reason clauses older i id d h kind =
    let same : h.id ≡ id = (let kinds : Implied h.id ≡ Implied id = sym h.kind ∙ kind in cc) in
    let level = h.level in
    subst (λ n. IsReason older i (get_or clauses n [])) same (record {
      among = h.unit.among;
      rest = rest_low older i.lit i.level (get_or clauses h.id []) d h.unit.rest (omega arith);
    })

-- what goes before has distinct variables where all has
pub distinct_front : (xs ys : List Item) → are_distinct (xs ++ ys) ≡ true → are_distinct xs ≡ true
distinct_front [] ys h = refl
distinct_front (x ∷ xs) ys h =
    let (alone, rest) = and_parts (is_none (item_of (xs ++ ys) (nat_abs x.lit))) (are_distinct (xs ++ ys)) h in
    and_from (is_none (item_of xs (nat_abs x.lit))) (are_distinct xs) (none_front xs ys (nat_abs x.lit) alone) (distinct_front xs ys rest)
  where
    none_front : (xs ys : List Item) (v : ℕ) → is_none (item_of (xs ++ ys) v) ≡ true → is_none (item_of xs v) ≡ true
    none_front [] ys v h = refl
    none_front (x ∷ xs) ys v h =
        elim (cases_Bool (nat_eq v (nat_abs x.lit))) [
          | inl same ↦ let clash : false ≡ true = rw same at h in cc
          | inr other ↦ let rest : is_none (item_of (xs ++ ys) v) ≡ true = rw other at h in rw other (none_front xs ys v rest)
        ]

added_reasons : (clauses : List (List ℤ)) (old added : List Item) → are_distinct (old ++ added) ≡ true → AreImplied clauses old added → HaveReasons clauses old added
added_reasons clauses old [] apart h = tt
added_reasons clauses old (i ∷ added) apart h = (
  (λ id some. record {
    inside = let same = id_is id some in let inside = h.0.inside in omega arith;
    reason = implied_reason clauses old i id (distinct_front old (i ∷ added) apart) h.0 (kind_is id some);
  }),
  added_reasons clauses (old ++ i ∷ []) added (subst (λ xs. are_distinct xs ≡ true) (sym (append_assoc old (i ∷ []) added)) apart) h.1,
)
  where
    id_is : (id : ℕ) → reason_id i.kind ≡ Some id → h.0.id ≡ id
    id_is id some = let told : Some h.0.id ≡ Some id = sym (ap reason_id h.0.kind) ∙ some in cc

    kind_is : (id : ℕ) → reason_id i.kind ≡ Some id → i.kind ≡ Implied id
    kind_is id some = h.0.kind ∙ ap Implied (id_is id some)

pub propagation_keeps_reasons : PropagationKeepsReasons
propagation_keeps_reasons clauses old new apart steps h =
    subst (AreReasoned clauses) (sym steps.grows)
    (have_more clauses [] old steps.added h (added_reasons clauses old steps.added (subst (λ xs. are_distinct xs ≡ true) steps.grows apart) steps.implied))
