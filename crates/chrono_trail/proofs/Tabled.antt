-- The table of items, by what stands at its places.
use Rattle.std.proofs.Common.{◌≡◌, ℕ, suc, zero, ◌<◌, ◌≤◌, ◌^◌, false, List, ◌∷◌, length, map, set, replicate, ℤ, pos, negsuc, nat_abs, Option, Some, None, refl, sym, ap, subst, ◌∙◌, arith, length-set}
use Rattle.std.specs.Ordering.{int_eq}
use Rattle.std.proofs.lemmas.Bool.{false_from_ne_true}
use Rattle.std.proofs.lemmas.List.{map-set, length-map, length-replicate}
use Rattle.sat_terms.proofs.CubeLemmas.{int_eq-true}
use Rattle.chrono_trail.specs.declared.item.Kind.TheVariants.{Assumed}
use Rattle.chrono_trail.specs.declared.item.Item.{Item}
use Rattle.chrono_trail.specs.Tables.{IsTable, TellsLiterals, literal_in, item_at, no_literal}
use Rattle.chrono_trail.proofs.Literals.{literals_set, literals_none}

-- what stands at a place without an item
abbrev pub no_item : Item
no_item = record { lit = negsuc 2147483647; level = 0; kind = Assumed }

-- an item of a variable is one
pub stands_there : (n : ℕ) (i : Item) → n ≤ 2 ^ 31 → nat_abs i.lit < n → item_at i ≡ Some i
stands_there n i few named =
    let other : int_eq i.lit no_literal ≡ false = false_from_ne_true (int_eq i.lit no_literal) (λ same. absurd (let size = ap nat_abs (int_eq-true i.lit no_literal same) in omega arith)) in
    rw other refl

-- one place is written
pub table_set : (items : List Item) (lits : List ℤ) (v : ℕ) (i : Item) (o : Option Item) (l : ℤ) → IsTable items lits → v < length items → item_at i ≡ o →
    l ≡ literal_in o → (literal_in o ≡ pos 0 → o ≡ None) → IsTable (set items v i) (set lits v l)
table_set items lits v i o l t inside at same named = record {
  small = let long = length-set items v i in let few = t.small in omega arith;
  literals = subst (λ xs. TellsLiterals xs (set lits v l)) (sym (map-set item_at items v i ∙ ap (set (map item_at items) v) at))
      (literals_set (map item_at items) lits v o l t.literals (let long = length-map items item_at in omega arith) same named);
}

none_there : (n : ℕ) → map item_at (replicate n no_item) ≡ replicate n None
none_there zero = refl
none_there (suc n) = ap (λ xs. None ∷ xs) (none_there n)

-- there is no item
pub table_none : (n : ℕ) → n ≤ 2 ^ 31 → (items : List Item) (lits : List ℤ) → items ≡ replicate n no_item → lits ≡ replicate n (pos 0) →
    (map item_at items ≡ replicate n None) × IsTable items lits
table_none n few items lits is zeros =
    let seen = ap (map item_at) is ∙ none_there n in (
      seen,
      record {
        small = let long = ap length is ∙ length-replicate n no_item in omega arith;
        literals = subst (λ xs. TellsLiterals xs lits) (sym seen) (subst (TellsLiterals (replicate n None)) (sym zeros) (literals_none n));
      },
    )
