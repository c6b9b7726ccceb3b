-- The given literals, one by one.
use Rattle.std.proofs.Common.{◌≡◌, ℕ, ◌+◌, ◌<◌, ◌≤◌, true, false, cond, List, [], ◌∷◌, ◌++◌, map, length, drop, take, ℤ, pos, Some, refl, sym, subst, ap, ◌∙◌, append-nil, append_assoc}
use Rattle.std.specs.Prelude.{flat_map, get_or, neg_ℤ}
use Rattle.std.specs.List.{All}
use Rattle.std.proofs.lemmas.Bool.{cond-true, cond-false}
use Rattle.std.proofs.lemmas.List.{drop_more, drop_all, take_more, take_all, map-append}
use Rattle.std.proofs.lemmas.List.Elements.{All-head, All-tail}
use Rattle.sat_terms.specs.Literals.{IsLiteral}
use Rattle.sat_terms.specs.Cubes.{rises_above}
use Rattle.sat_terms.specs.Subjects.{IsVariableList}
use Rattle.dimacs_front.specs.declared.show_lines.Named.{Named}
use Rattle.dimacs_front.specs.declared.under_lines.Given.{Given}
use Rattle.dimacs_front.specs.MachineUnder.{AreSigns, signed, IsUnder}
use Rattle.dimacs_front.specs.Machine.{is_named}
use Rattle.dimacs_front.proofs.UnderCube.{tested_rise, tested_literals}
use Rattle.dimacs_front.specs.TextEnds.{is_placed, first_misplaced, given_for}

-- a list made for each item, one item on
pub made_more : (f : ℕ → List ℤ) (vs : List ℕ) (k d : ℕ) (all items new : List ℤ) →
    all ≡ items ++ flat_map f (drop k vs) → k < length vs → new ≡ items ++ f (get_or vs k d) →
    all ≡ new ++ flat_map f (drop (k + 1) vs)
made_more f vs k d all items new e lt h =
    e
    ∙ ap (λ us. items ++ flat_map f us) (drop_more vs k d lt)
    ∙ sym (append_assoc items (f (get_or vs k d)) (flat_map f (drop (k + 1) vs)))
    ∙ ap (λ xs. xs ++ flat_map f (drop (k + 1) vs)) (sym h)

abbrev pub literals : List Given → List ℤ
literals gs = map (λ g. Given.literal g) gs

pub literals_more : (gs : List Given) (k : ℕ) (d : Given) → k < length gs →
    literals (take (k + 1) gs) ≡ literals (take k gs) ++ Given.literal (get_or gs k d) ∷ []
literals_more gs k d lt =
    ap literals (take_more gs k d lt) ∙ map-append (λ g. Given.literal g) (take k gs) (get_or gs k d ∷ [])

module _ (vs : List ℕ) (gs : List Given) (k : ℕ) (d : Given) where
  abbrev here : Given
  here = get_or gs k d

  abbrev before : List ℤ
  before = literals (take k gs)

  pub stops_here : first_misplaced vs [] gs ≡ first_misplaced vs before (drop k gs) → k < length gs →
      is_placed vs before here.literal ≡ false → first_misplaced vs [] gs ≡ Some here.line
  stops_here e lt h =
      e ∙ ap (first_misplaced vs before) (drop_more gs k d lt) ∙ cond-false _ _ _ h

  pub goes_on : first_misplaced vs [] gs ≡ first_misplaced vs before (drop k gs) → k < length gs →
      is_placed vs before here.literal ≡ true →
      first_misplaced vs [] gs ≡ first_misplaced vs (literals (take (k + 1) gs)) (drop (k + 1) gs)
  goes_on e lt h =
      e
      ∙ ap (first_misplaced vs before) (drop_more gs k d lt)
      ∙ cond-true _ _ _ h
      ∙ ap (λ ls. first_misplaced vs ls (drop (k + 1) gs)) (sym (literals_more gs k d lt))

-- the signs give the cube
pub signs_cube : (ps ns : List Named) (ls : List ℤ) (vs : List ℕ) → AreSigns ps ns ls →
    All (λ v. 0 < v) vs → flat_map (signed ps ns) vs ≡ flat_map (given_for ls) vs
signs_cube ps ns ls [] h named = refl
signs_cube ps ns ls (v ∷ vs) h named =
    let some : 0 < v = All-head (λ u. 0 < u) v vs named in
    (λ i. cond (h.positive v some i) (pos v ∷ []) (cond (h.negative v some i) (neg_ℤ (pos v) ∷ []) [])
    ++ signs_cube ps ns ls vs h (All-tail (λ u. 0 < u) v vs named) i)

-- at the end
made_all : (f : ℕ → List ℤ) (vs : List ℕ) (k : ℕ) (items : List ℤ) →
    flat_map f vs ≡ items ++ flat_map f (drop k vs) → length vs ≤ k → flat_map f vs ≡ items
made_all f vs k items e h =
    e ∙ ap (λ us. items ++ flat_map f us) (drop_all k vs h) ∙ append-nil items

pub made_rise : (ps ns : List Named) (vs : List ℕ) (k : ℕ) (items : List ℤ) →
    flat_map (signed ps ns) vs ≡ items ++ flat_map (signed ps ns) (drop k vs) → length vs ≤ k →
    IsVariableList vs → rises_above 0 items ≡ true
made_rise ps ns vs k items e h v =
    ap (rises_above 0) (sym (made_all (signed ps ns) vs k items e h))
    ∙ tested_rise (is_named ps) (is_named ns) vs v.rising (λ j d lt. (v.named j d lt).0)

pub made_literals : (ps ns : List Named) (vs : List ℕ) (k : ℕ) (items : List ℤ) →
    flat_map (signed ps ns) vs ≡ items ++ flat_map (signed ps ns) (drop k vs) → length vs ≤ k →
    IsVariableList vs → All IsLiteral items
made_literals ps ns vs k items e h v =
    subst (All IsLiteral) (made_all (signed ps ns) vs k items e h)
    (tested_literals (is_named ps) (is_named ns) vs v.named)

pub judged : (ps ns : List Named) (vs : List ℕ) (gs : List Given) (k : ℕ) (c : List ℤ) →
    AreSigns ps ns (literals (take k gs)) →
    first_misplaced vs [] gs ≡ first_misplaced vs (literals (take k gs)) (drop k gs) →
    length gs ≤ k → c ≡ flat_map (signed ps ns) vs → IsVariableList vs → IsUnder vs gs c
judged ps ns vs gs k c signs rest h e v = record {
  placed = rest ∙ ap (first_misplaced vs (literals (take k gs))) (drop_all k gs h);
  same = e
      ∙ signs_cube ps ns (literals (take k gs)) vs signs (λ j d lt. (v.named j d lt).0)
      ∙ ap (λ hs. flat_map (given_for (literals hs)) vs) (take_all k gs h);
}
