-- The lines of the saved text, as the writer hands them in.
use Rattle.std.proofs.Common.{◌≡◌, ℕ, ◌+◌, ◌<◌, ◌≤◌, List, [], ◌∷◌, ◌++◌, length, take, get_or, map, flat_map, ℤ, pos, codes, sym, ◌∙◌, ap, subst, append_assoc}
use Rattle.std.specs.Fmt.{decimal}
use Rattle.std.proofs.lemmas.List.{append-nil, map-append, take_more, take_all}
use Rattle.std.proofs.lemmas.List.Concat.{flat_map-append}
use Rattle.sat_terms.specs.declared.subject.Subject.{Subject}
use Rattle.fault_io.specs.Sinks.{SinkView}
use Rattle.dimacs_tokens.specs.Texts.{ended, text_of}
use Rattle.cube_text.specs.Buffered.{BufferedView, Wrote}
use Rattle.cube_text.specs.Lines.{number_word, zero_ended}
use Rattle.cube_text.proofs.Handing.{Hands}
use Rattle.checkpoint.specs.SavedText.{clause_line, formula_line, shown_line, given_line, found_line, open_line, closing_line, subject_lines, saved_text}

-- nothing is handed in
pub Hands-nil : (old : SinkView) (b : BufferedView) → Hands old b old b []
Hands-nil old b start text wrote = subst (λ (l : List ℕ). Wrote start old l b) (sym (append-nil text)) wrote

-- one line more
pub lines_more : {A : Type 0} (line : A → List ℕ) (xs : List A) (i : ℕ) (d x : A) → i < length xs → x ≡ get_or xs i d →
    text_of (map line (take i xs)) ++ ended (line x) ≡ text_of (map line (take (i + 1) xs))
lines_more line xs i d x inside is = sym (
    ap (λ l. text_of (map line l)) (take_more xs i d inside)
    ∙ ap text_of (map-append line (take i xs) (get_or xs i d ∷ []))
    ∙ flat_map-append ended (map line (take i xs)) (line (get_or xs i d) ∷ [])
    ∙ ap (λ (l : List ℕ). text_of (map line (take i xs)) ++ l) (append-nil (ended (line (get_or xs i d))) ∙ ap (λ y. ended (line y)) (sym is)))

pub lines_all : {A : Type 0} (line : A → List ℕ) (xs : List A) (i : ℕ) → length xs ≤ i →
    text_of (map line (take i xs)) ≡ text_of (map line xs)
lines_all line xs i past = ap (λ l. text_of (map line l)) (take_all i xs past)

-- one variable more
pub variables_more : (front : List ℕ) (shown : List ℕ) (i v : ℕ) → i < length shown → v ≡ get_or shown i 0 →
    (front ++ flat_map number_word (map pos (take i shown))) ++ (decimal v ++ codes " ") ≡ front ++ flat_map number_word (map pos (take (i + 1) shown))
variables_more front shown i v inside is =
    let one : flat_map number_word (map pos (take (i + 1) shown)) ≡ flat_map number_word (map pos (take i shown)) ++ (decimal v ++ codes " ") =
    ap (λ (l : List ℕ). flat_map number_word (map pos l)) (take_more shown i 0 inside)
    ∙ ap (λ (l : List ℤ). flat_map number_word l) (map-append pos (take i shown) (get_or shown i 0 ∷ []))
    ∙ flat_map-append number_word (map pos (take i shown)) (pos (get_or shown i 0) ∷ [])
    ∙ ap (λ (l : List ℕ). flat_map number_word (map pos (take i shown)) ++ l) (append-nil (number_word (pos (get_or shown i 0))) ∙ ap (λ (n : ℕ). decimal n ++ codes " ") (sym is)) in
    append_assoc front (flat_map number_word (map pos (take i shown))) (decimal v ++ codes " ") ∙ ap (λ (l : List ℕ). front ++ l) (sym one)

pub variables_end : (front : List ℕ) (shown : List ℕ) (i : ℕ) → length shown ≤ i →
    (front ++ flat_map number_word (map pos (take i shown))) ++ 48 ∷ 10 ∷ [] ≡ ended (front ++ zero_ended (map pos shown))
variables_end front shown i past =
    ap (λ (l : List ℕ). (front ++ flat_map number_word (map pos l)) ++ 48 ∷ 10 ∷ []) (take_all i shown past)
    ∙ append_assoc front (flat_map number_word (map pos shown)) (48 ∷ 10 ∷ [])
    ∙ ap (λ (l : List ℕ). front ++ l) (sym (append_assoc (flat_map number_word (map pos shown)) (48 ∷ []) (10 ∷ [])))
    ∙ sym (append_assoc front (zero_ended (map pos shown)) (10 ∷ []))

pub subject_is : (s : Subject) →
    ((ended (formula_line s.formula) ++ text_of (map clause_line s.formula.clauses)) ++ ended (shown_line s.shown)) ++ ended (given_line s.under)
    ≡ text_of (subject_lines s)
subject_is s =
    let first = ended (formula_line s.formula) in
    let clauses = map clause_line s.formula.clauses in
    let shown = ended (shown_line s.shown) in
    let given = ended (given_line s.under) in
    append_assoc (first ++ text_of clauses) shown given
    ∙ append_assoc first (text_of clauses) (shown ++ given)
    ∙ ap (λ (l : List ℕ). first ++ (text_of clauses ++ (shown ++ l))) (sym (append-nil given))
    ∙ ap (λ (l : List ℕ). first ++ l) (sym (flat_map-append ended clauses (shown_line s.shown ∷ given_line s.under ∷ [])))

-- parts of a text, one behind another
parts_in_a_row : (first : List ℕ) (a b c d : List (List ℕ)) →
    (((first ++ text_of a) ++ text_of b) ++ text_of c) ++ text_of d ≡ first ++ text_of (((a ++ b) ++ c) ++ d)
parts_in_a_row first a b c d =
    let whole : text_of (((a ++ b) ++ c) ++ d) ≡ ((text_of a ++ text_of b) ++ text_of c) ++ text_of d =
    flat_map-append ended ((a ++ b) ++ c) d
    ∙ ap (λ (l : List ℕ). l ++ text_of d) (flat_map-append ended (a ++ b) c ∙ ap (λ (l : List ℕ). l ++ text_of c) (flat_map-append ended a b)) in
    ap (λ (l : List ℕ). (l ++ text_of c) ++ text_of d) (append_assoc first (text_of a) (text_of b))
    ∙ ap (λ (l : List ℕ). l ++ text_of d) (append_assoc first (text_of a ++ text_of b) (text_of c))
    ∙ append_assoc first ((text_of a ++ text_of b) ++ text_of c) (text_of d)
    ∙ ap (λ (l : List ℕ). first ++ l) (sym whole)

pub saved_is : (s : Subject) (found pending : List (List ℤ)) →
    (((codes "c allsat saved 2\n" ++ text_of (subject_lines s)) ++ text_of (map found_line found)) ++ text_of (map open_line pending)) ++ codes "c p end\n"
    ≡ saved_text s found pending
saved_is s found pending =
    parts_in_a_row (codes "c allsat saved 2\n") (subject_lines s) (map found_line found) (map open_line pending) (closing_line ∷ [])
