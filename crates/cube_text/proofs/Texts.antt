-- Lines of numbers and the listing, as loops put them out.
use Rattle.std.proofs.Common.{◌≡◌, ℕ, ◌+◌, ◌<◌, ◌≤◌, List, [], ◌∷◌, ◌++◌, length, take, drop, get_or, map, flat_map, ℤ, pos, codes, sym, ◌∙◌, ap, append_assoc}
use Rattle.std.proofs.lemmas.List.{append-nil, map-append, take_more, take_all, take-append-drop}
use Rattle.std.proofs.lemmas.List.Concat.{flat_map-append}
use Rattle.dimacs_tokens.specs.Texts.{ended, text_of}
use Rattle.cube_text.specs.Lines.{number_word, zero_ended}
use Rattle.cube_text.specs.Listing.{cube_line, listing}

-- one more number
pub numbers_more : (front : List ℕ) (numbers : List ℤ) (i : ℕ) (n : ℤ) → i < length numbers → n ≡ get_or numbers i (pos 0) →
    (front ++ flat_map number_word (take i numbers)) ++ number_word n ≡ front ++ flat_map number_word (take (i + 1) numbers)
numbers_more front numbers i n inside is =
    let one : flat_map number_word (take (i + 1) numbers) ≡ flat_map number_word (take i numbers) ++ number_word n =
    ap (λ (l : List ℤ). flat_map number_word l) (take_more numbers i (pos 0) inside)
    ∙ flat_map-append number_word (take i numbers) (get_or numbers i (pos 0) ∷ [])
    ∙ ap (λ (l : List ℕ). flat_map number_word (take i numbers) ++ l) (append-nil (number_word (get_or numbers i (pos 0))) ∙ ap number_word (sym is)) in
    append_assoc front (flat_map number_word (take i numbers)) (number_word n) ∙ ap (λ (l : List ℕ). front ++ l) (sym one)

-- the end of the line
pub numbers_end : (front : List ℕ) (numbers : List ℤ) (i : ℕ) → length numbers ≤ i →
    (front ++ flat_map number_word (take i numbers)) ++ 48 ∷ 10 ∷ [] ≡ ended (front ++ zero_ended numbers)
numbers_end front numbers i past =
    ap (λ (l : List ℤ). (front ++ flat_map number_word l) ++ 48 ∷ 10 ∷ []) (take_all i numbers past)
    ∙ append_assoc front (flat_map number_word numbers) (48 ∷ 10 ∷ [])
    ∙ ap (λ (l : List ℕ). front ++ l) (sym (append_assoc (flat_map number_word numbers) (48 ∷ []) (10 ∷ [])))
    ∙ sym (append_assoc front (zero_ended numbers) (10 ∷ []))

-- the line of one more cube
pub cubes_more : (cubes : List (List ℤ)) (i : ℕ) (c : List ℤ) → i < length cubes → c ≡ get_or cubes i [] →
    text_of (map cube_line (take i cubes)) ++ ended (cube_line c) ≡ text_of (map cube_line (take (i + 1) cubes))
cubes_more cubes i c inside is = sym (
    ap (λ (l : List (List ℤ)). text_of (map cube_line l)) (take_more cubes i [] inside)
    ∙ ap text_of (map-append cube_line (take i cubes) (get_or cubes i [] ∷ []))
    ∙ flat_map-append ended (map cube_line (take i cubes)) (cube_line (get_or cubes i []) ∷ [])
    ∙ ap (λ (l : List ℕ). text_of (map cube_line (take i cubes)) ++ l) (append-nil (ended (cube_line (get_or cubes i []))) ∙ ap (λ (l : List ℤ). ended (cube_line l)) (sym is)))

-- the lines of all cubes, and the last line
pub listing_is : (cubes : List (List ℤ)) → listing cubes ≡ text_of (map cube_line cubes) ++ codes "s ALL\n"
listing_is cubes = flat_map-append ended (map cube_line cubes) (codes "s ALL" ∷ [])

pub listing_ends : (cubes : List (List ℤ)) (i : ℕ) → length cubes ≤ i → text_of (map cube_line (take i cubes)) ++ codes "s ALL\n" ≡ listing cubes
listing_ends cubes i past =
    ap (λ (l : List (List ℤ)). text_of (map cube_line l) ++ codes "s ALL\n") (take_all i cubes past) ∙ sym (listing_is cubes)

-- the lines of the first cubes are a front of the listing
pub listing_front : (cubes : List (List ℤ)) (i : ℕ) →
    text_of (map cube_line (take i cubes)) ++ (text_of (map cube_line (drop i cubes)) ++ codes "s ALL\n") ≡ listing cubes
listing_front cubes i =
    sym (append_assoc (text_of (map cube_line (take i cubes))) (text_of (map cube_line (drop i cubes))) (codes "s ALL\n"))
    ∙ ap (λ (l : List ℕ). l ++ codes "s ALL\n") (sym (flat_map-append ended (map cube_line (take i cubes)) (map cube_line (drop i cubes)))
    ∙ ap text_of (sym (map-append cube_line (take i cubes) (drop i cubes)))
    ∙ ap (λ (l : List (List ℤ)). text_of (map cube_line l)) (take-append-drop i cubes))
    ∙ sym (listing_is cubes)
