-- The fronts of lines, as literals go and come.
use Rattle.std.proofs.Common.{◌≡◌, ℕ, suc, ◌+◌, ◌-◌, ◌<◌, ◌≤◌, List, [], ◌∷◌, ◌++◌, length, take, drop, get_or, flat_map, ℤ, pos, nat_eq, codes, sym, ◌∙◌, ap, append_assoc, subst, inl, inr, arith, length-append}
use Rattle.std.proofs.Math.Seq.{take-append_seam, get_or-append_seam}
use Rattle.std.proofs.lemmas.Bool.{cases_lt, cases_Bool, eqb-true, eqb-false}
use Rattle.std.proofs.lemmas.List.{get_or-take, get_or_append_left, take-take, take-append-drop, length-take-le}
use Rattle.std.proofs.lemmas.List.Concat.{flat_map-append}
use Rattle.dimacs_tokens.specs.Texts.{ended}
use Rattle.cube_text.specs.Lines.{number_word, zero_ended}
use Rattle.cube_text.specs.Listing.{cube_line}
use Rattle.cube_text.specs.Fronts.{FrontView, IsFrontOf, front_text, word_end}
use Rattle.cube_text.proofs.Texts.{numbers_more}

-- one literal more
pub front_more : (cube : List ℤ) (f : FrontView) (n : ℤ) → IsFrontOf cube f → length f.ends < length cube → n ≡ get_or cube (length f.ends) (pos 0) →
    IsFrontOf cube (record { text = f.text ++ number_word n; ends = f.ends ++ length (f.text ++ number_word n) ∷ [] })
front_more cube f n h inside is =
    let k = length f.ends in
    let long : length (f.ends ++ length (f.text ++ number_word n) ∷ []) ≡ k + 1 = length-append f.ends (length (f.text ++ number_word n) ∷ []) in
    let text : f.text ++ number_word n ≡ front_text cube (k + 1) =
    ap (λ (t : List ℕ). t ++ number_word n) h.text ∙ numbers_more (codes "v ") cube k n inside is in
    record {
      few = omega arith;
      text = text ∙ ap (front_text cube) (sym long);
      ends = λ j low. elim (cases_lt j k) [
        | inl before ↦ get_or_append_left f.ends (length (f.text ++ number_word n) ∷ []) 0 j before ∙ h.ends j before
        | inr past ↦
            let last : j ≡ k = omega arith in
            let next : k + 1 ≡ suc j = omega arith in
            ap (λ i. get_or (f.ends ++ length (f.text ++ number_word n) ∷ []) i 0) last
            ∙ get_or-append_seam f.ends (length (f.text ++ number_word n)) [] 0
            ∙ ap length (text ∙ ap (front_text cube) next)
      ];
    }

-- the end of the k-th literal
end_is : (cube : List ℤ) (f : FrontView) → IsFrontOf cube f → (k : ℕ) → k ≤ length f.ends → word_end k f.ends ≡ length (front_text cube k)
end_is cube f h k low = elim (cases_Bool (nat_eq k 0)) [
  | inl none ↦ rw none (sym (ap (λ i. length (front_text cube i)) (eqb-true k 0 none)))
  | inr some ↦
      let other = eqb-false k 0 some in
      let one : suc (k - 1) ≡ k = omega (arith, other) in
      rw some (h.ends (k - 1) (omega (arith, other)) ∙ ap (λ i. length (front_text cube i)) one)
]

-- a shorter front is the beginning of a longer one
front_begins : (cube : List ℤ) (k m : ℕ) → k ≤ m → take (length (front_text cube k)) (front_text cube m) ≡ front_text cube k
front_begins cube k m low =
    let rest = flat_map number_word (drop k (take m cube)) in
    let cut : take m cube ≡ take k cube ++ drop k (take m cube) =
    sym (take-append-drop k (take m cube)) ∙ ap (λ (l : List ℤ). l ++ drop k (take m cube)) (take-take k m cube low) in
    let whole : front_text cube m ≡ front_text cube k ++ rest =
    ap (λ (l : List ℤ). codes "v " ++ flat_map number_word l) cut
    ∙ ap (λ (l : List ℕ). codes "v " ++ l) (flat_map-append number_word (take k cube) (drop k (take m cube)))
    ∙ sym (append_assoc (codes "v ") (flat_map number_word (take k cube)) rest) in
    ap (take (length (front_text cube k))) whole ∙ take-append_seam (front_text cube k) rest

-- what two cubes begin with has one front
front_same : (c d : List ℤ) (k j : ℕ) → take k c ≡ take k d → j ≤ k → front_text c j ≡ front_text d j
front_same c d k j same low =
    ap (λ (l : List ℤ). codes "v " ++ flat_map number_word l) (sym (take-take j k c low) ∙ ap (take j) same ∙ take-take j k d low)

as_fields : (d : List ℤ) (g : FrontView) (text ends : List ℕ) → g.text ≡ text → g.ends ≡ ends → IsFrontOf d (record { text = text; ends = ends }) → IsFrontOf d g
as_fields d g text ends text_is ends_is h = record {
  few = subst (λ (xs : List ℕ). length xs ≤ length d) (sym ends_is) h.few;
  text = text_is ∙ h.text ∙ ap (λ (xs : List ℕ). front_text d (length xs)) (sym ends_is);
  ends = λ j inside. ap (λ (xs : List ℕ). get_or xs j 0) ends_is ∙ h.ends j (subst (λ (xs : List ℕ). j < length xs) ends_is inside);
}

-- only what another cube begins with too is kept
kept_front : (c d : List ℤ) (f : FrontView) (k : ℕ) → IsFrontOf c f → k ≤ length f.ends → k ≤ length d → take k c ≡ take k d →
    IsFrontOf d (record { text = take (word_end k f.ends) f.text; ends = take k f.ends })
kept_front c d f k h low within same =
    let long : length (take k f.ends) ≡ k = length-take-le k f.ends low in
    record {
      few = omega arith;
      text = ap (λ n. take n f.text) (end_is c f h k low)
          ∙ ap (take (length (front_text c k))) h.text
          ∙ front_begins c k (length f.ends) low
          ∙ front_same c d k k same (omega arith)
          ∙ ap (front_text d) (sym long);
      ends = λ j inside. get_or-take k f.ends j 0 (omega arith) ∙ h.ends j (omega arith) ∙ ap length (front_same c d k (suc j) same (omega arith));
    }

pub front_cut : (c d : List ℤ) (f g : FrontView) (k shared : ℕ) → IsFrontOf c f → k ≤ length f.ends → k ≤ shared → shared ≤ length d → take shared c ≡ take shared d →
    g.text ≡ take (word_end k f.ends) f.text → g.ends ≡ take k f.ends → IsFrontOf d g
front_cut c d f g k shared h low fewer within same text ends =
    as_fields d g (take (word_end k f.ends) f.text) (take k f.ends) text ends
    (kept_front c d f k h low (omega arith) (sym (take-take k shared c fewer) ∙ ap (take k) same ∙ take-take k shared d fewer))

-- the front and the other literals are the whole line
pub line_is : (cube : List ℤ) (k : ℕ) → ended (front_text cube k ++ zero_ended (drop k cube)) ≡ ended (cube_line cube)
line_is cube k =
    let words = flat_map number_word in
    let all : words (take k cube) ++ words (drop k cube) ≡ words cube = sym (flat_map-append number_word (take k cube) (drop k cube)) ∙ ap words (take-append-drop k cube) in
    ap ended (append_assoc (codes "v ") (words (take k cube)) (zero_ended (drop k cube))
    ∙ ap (λ (l : List ℕ). codes "v " ++ l) (sym (append_assoc (words (take k cube)) (words (drop k cube)) (codes "0")) ∙ ap (λ (l : List ℕ). l ++ codes "0") all))
