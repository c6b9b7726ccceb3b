-- The literals that are chosen, one after another.
use Rattle.std.proofs.Common.{◌≡◌, ℕ, true, ◌+◌, ◌<◌, ◌≤◌, List, [], ◌∷◌, ◌++◌, length, take, get_or, flat_map, ℤ, pos, codes, refl, sym, subst, ap, ◌∙◌, append_assoc, arith}
use Rattle.std.specs.List.{list_all}
use Rattle.std.proofs.lemmas.List.{append-nil, take_more, take_all}
use Rattle.std.proofs.lemmas.List.Concat.{flat_map-append}
use Rattle.std.proofs.lemmas.List.Elements.{filter-append}
use Rattle.sat_terms.specs.Cubes.{has_literal}
use Rattle.fault_io.specs.Sinks.{SinkView}
use Rattle.cube_text.specs.Buffered.{BufferedView, Wrote}
use Rattle.cube_text.specs.Lines.{number_word}
use Rattle.cube_text.proofs.Handing.{Hands}
use Rattle.drill.specs.Summaries.{chosen, first_cube, fixed_literals, summary}

-- nothing is handed in
pub Hands-none : (old : SinkView) (b : BufferedView) → Hands old b old b []
Hands-none old b start text wrote = subst (λ (l : List ℕ). Wrote start old l b) (sym (append-nil text)) wrote

pub chosen_more : (cubes : List (List ℤ)) (lits : List ℤ) (i : ℕ) (l : ℤ) → i < length lits → l ≡ get_or lits i (pos 0) →
    flat_map number_word (chosen cubes (take i lits)) ++ flat_map number_word (chosen cubes (l ∷ [])) ≡ flat_map number_word (chosen cubes (take (i + 1) lits))
chosen_more cubes lits i l inside is = sym (
    ap (λ xs. flat_map number_word (chosen cubes xs)) (take_more lits i (pos 0) inside ∙ ap (λ x. take i lits ++ x ∷ []) (sym is))
    ∙ ap (flat_map number_word) (filter-append (λ x. list_all (λ c. has_literal c x) cubes) (take i lits) (l ∷ []))
    ∙ flat_map-append number_word (chosen cubes (take i lits)) (chosen cubes (l ∷ [])))

pub chosen_all : (cubes : List (List ℤ)) (lits : List ℤ) (i : ℕ) → length lits ≤ i →
    flat_map number_word (chosen cubes (take i lits)) ≡ flat_map number_word (chosen cubes lits)
chosen_all cubes lits i past = ap (λ xs. flat_map number_word (chosen cubes xs)) (take_all i lits past)

first_is : (cubes : List (List ℤ)) (c : List ℤ) → 0 < length cubes → c ≡ get_or cubes 0 [] → c ≡ first_cube cubes
first_is [] c some is = absurd (omega arith)
first_is (d ∷ cubes) c some is = is

pub none_is : (cubes : List (List ℤ)) → length cubes ≤ 0 → [] ≡ flat_map number_word (fixed_literals cubes)
none_is [] none = refl
none_is (d ∷ cubes) none = absurd (omega arith)

-- the whole text
pub summary_is : (lits : List ℤ) → (codes "f " ++ flat_map number_word lits) ++ codes "0\ns ALL\n" ≡ summary lits
summary_is lits =
    let words = flat_map number_word lits in
    ap (λ x. 102 ∷ 32 ∷ x) (sym (append_assoc (words ++ 48 ∷ []) (10 ∷ []) (codes "s ALL\n") ∙ append_assoc words (48 ∷ []) (codes "\ns ALL\n")))

pub one_chosen : (cubes : List (List ℤ)) (l : ℤ) → list_all (λ c. has_literal c l) cubes ≡ true → number_word l ≡ flat_map number_word (chosen cubes (l ∷ []))
one_chosen cubes l told = rw told (sym (append-nil (number_word l)))

pub first_chosen : (cubes : List (List ℤ)) (c : List ℤ) → 0 < length cubes → c ≡ get_or cubes 0 [] → flat_map number_word (chosen cubes c) ≡ flat_map number_word (fixed_literals cubes)
first_chosen cubes c some is = ap (λ x. flat_map number_word (chosen cubes x)) (first_is cubes c some is)
