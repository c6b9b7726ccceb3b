-- The table of literals beside that of items.
use Rattle.std.proofs.Common.{◌≡◌, ℕ, zero, suc, ◌<◌, List, ◌∷◌, length, get_or, map, set, replicate, ℤ, pos, nat_eq, Option, None, refl, sym, ap, ◌∙◌, inl, inr, arith, length-set}
use Rattle.std.proofs.lemmas.Bool.{cases_Bool, eqb-true, eqb-false}
use Rattle.std.proofs.lemmas.List.{map-set, get_or-set_same, get_or-set_other, get_or-replicate, length-replicate}
use Rattle.chrono_trail.specs.declared.item.Item.{Item}
use Rattle.chrono_trail.specs.Tables.{TellsLiterals, literal_in}

-- one place of both is written
pub literals_set : (items : List (Option Item)) (lits : List ℤ) (v : ℕ) (o : Option Item) (l : ℤ) → TellsLiterals items lits → v < length items → l ≡ literal_in o → (literal_in o ≡ pos 0 → o ≡ None) → TellsLiterals (set items v o) (set lits v l)
literals_set items lits v o l t inside same named =
    let long = length-set items v o in
    record {
      told = ap (λ xs. set xs v l) t.told ∙ ap (set (map literal_in items) v) same ∙ sym (map-set literal_in items v o);
      named = λ w within none. elim (cases_Bool (nat_eq w v)) [
        | inl here ↦
            let got = ap (λ k. get_or (set items v o) k None) (eqb-true w v here) ∙ get_or-set_same items v o None inside in
            got ∙ named (sym (ap literal_in got) ∙ none)
        | inr other ↦
            let got = get_or-set_other items v w o None (eqb-false w v other) in
            got ∙ t.named w (omega arith) (sym (ap literal_in got) ∙ none)
      ];
    }

zeros : (n : ℕ) → replicate n (pos 0) ≡ map literal_in (replicate n None)
zeros zero = refl
zeros (suc n) = ap (λ xs. pos 0 ∷ xs) (zeros n)

-- there is no item
pub literals_none : (n : ℕ) → TellsLiterals (replicate n None) (replicate n (pos 0))
literals_none n = record {
  told = zeros n;
  named = λ v within none. get_or-replicate n v None None (let nothing : Option Item = None in let long = length-replicate n nothing in omega arith);
}
