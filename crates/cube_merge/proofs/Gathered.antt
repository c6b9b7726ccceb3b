-- The names of all parts, after a part has changed.
use Rattle.std.proofs.Common.{◌≡◌, ℕ, zero, suc, ◌+◌, ◌<◌, ◌≤◌, List, [], ◌∷◌, ◌++◌, replicate, length, length-append, get_or, set, take, Vec, Global, append_assoc, add-one, refl, sym, ap, subst, subst₂, ◌∙◌, arith}
use Rattle.std.specs.List.{All}
use Rattle.std.specs.List.Sorted.{IsPermutation}
use Rattle.std.proofs.lemmas.List.Elements.{All-nil, All-head, All-tail, All-append}
use Rattle.std.proofs.lemmas.List.Sorted.{IsPermutation-append_left, IsPermutation-append_right, IsPermutation-append_comm, IsPermutation-to_front, IsPermutation-middle, IsPermutation-trans, length_permutation}
use Rattle.cube_merge.specs.declared.name.CubeName.{CubeName}
use Rattle.std.proofs.lemmas.List.{append-nil, map-set, get_or-map, set-get_or, length-map}
use Rattle.cube_merge.specs.Parts.{all_names, part_lists}

pub same_gathered : (parts : List (List CubeName)) (at : ℕ) (part : List CubeName) → at < length parts → IsPermutation (get_or parts at []) part → IsPermutation (all_names parts) (all_names (set parts at part))
same_gathered [] at part inside same = absurd (omega arith)
same_gathered (p ∷ parts) zero part inside same = IsPermutation-append_left (all_names parts) p part same
same_gathered (p ∷ parts) (suc at) part inside same = IsPermutation-append_right p (all_names parts) (all_names (set parts at part)) (same_gathered parts at part (omega arith) same)

-- the last name of a part comes to the front
pub one_taken : (parts : List (List CubeName)) (at : ℕ) (front : List CubeName) (name : CubeName) → at < length parts → get_or parts at [] ≡ front ++ name ∷ [] →
    IsPermutation (all_names parts) (name ∷ all_names (set parts at front))
one_taken [] at front name inside ends = absurd (omega arith)
one_taken (p ∷ parts) zero front name inside ends =
    subst (λ x. IsPermutation (x ++ all_names parts) (name ∷ (front ++ all_names parts))) (sym ends)
    (IsPermutation-append_left (all_names parts) (front ++ name ∷ []) (name ∷ front) (IsPermutation-to_front front name))
one_taken (p ∷ parts) (suc at) front name inside ends =
    let rest = all_names (set parts at front) in
    IsPermutation-trans (p ++ all_names parts) (p ++ name ∷ rest) (name ∷ (p ++ rest))
    (IsPermutation-append_right p (all_names parts) (name ∷ rest) (one_taken parts at front name (omega arith) ends))
    (IsPermutation-middle p name rest)

-- what holds of each name of each part
pub All-gathered : (P : CubeName → Type 0) (parts : List (List CubeName)) → All (All P) parts → All P (all_names parts)
All-gathered P [] all = All-nil P
All-gathered P (p ∷ parts) all = All-append P p (all_names parts) (All-head (All P) p parts all) (All-gathered P parts (All-tail (All P) p parts all))

pub none_gathered : (parts : List (List CubeName)) → All (λ part. part ≡ []) parts → all_names parts ≡ []
none_gathered [] all = refl
none_gathered (p ∷ parts) all =
    ap (λ x. x ++ all_names parts) (All-head (λ part. part ≡ []) p parts all) ∙ none_gathered parts (All-tail (λ part. part ≡ []) p parts all)

-- names that a part gets come to those of all parts
pub names_added : (parts : List (List CubeName)) (at : ℕ) (more : List CubeName) → at < length parts → IsPermutation (all_names parts ++ more) (all_names (set parts at (get_or parts at [] ++ more)))
names_added [] at more inside = absurd (omega arith)
names_added (p ∷ parts) zero more inside =
    subst₂ IsPermutation (sym (append_assoc p (all_names parts) more)) (sym (append_assoc p more (all_names parts)))
    (IsPermutation-append_right p (all_names parts ++ more) (more ++ all_names parts) (IsPermutation-append_comm (all_names parts) more))
names_added (p ∷ parts) (suc at) more inside =
    let rest = all_names (set parts at (get_or parts at [] ++ more)) in
    subst (λ x. IsPermutation x (p ++ rest)) (sym (append_assoc p (all_names parts) more))
    (IsPermutation-append_right p (all_names parts ++ more) rest (names_added parts at more (omega arith)))

pub gathered_set : (parts : List (List CubeName)) (at : ℕ) (more : List CubeName) → at < length parts → length (all_names (set parts at (get_or parts at [] ++ more))) ≡ length (all_names parts) + length more
gathered_set parts at more inside =
    length_permutation (all_names parts ++ more) (all_names (set parts at (get_or parts at [] ++ more))) (names_added parts at more inside)
    ∙ length-append (all_names parts) more

pub lists_set : (parts : List (Vec CubeName Global)) (at : ℕ) (part : Vec CubeName Global) (names : List CubeName) → part.items ≡ names → part_lists (set parts at part) ≡ set (part_lists parts) at names
lists_set parts at part names same = map-set (λ (x : Vec CubeName Global). x.items) parts at part ∙ ap (set (part_lists parts) at) same

pub list_at : (parts : List (Vec CubeName Global)) (at : ℕ) (d : Vec CubeName Global) → at < length parts → get_or (part_lists parts) at [] ≡ (get_or parts at d).items
list_at parts at d inside = get_or-map (λ (x : Vec CubeName Global). x.items) parts at d [] inside

pub list_read : (parts : List (Vec CubeName Global)) (at : ℕ) (old : Vec CubeName Global) → at < length parts → old ≡ get_or parts at old → get_or (part_lists parts) at [] ≡ old.items
list_read parts at old inside here = list_at parts at old inside ∙ ap (λ (x : Vec CubeName Global). x.items) (sym here)

-- a part that got room is the same
pub lists_kept : (parts : List (Vec CubeName Global)) (at : ℕ) (old part : Vec CubeName Global) → at < length parts → old ≡ get_or parts at old → part.items ≡ old.items → part_lists (set parts at part) ≡ part_lists parts
lists_kept parts at old part inside here same =
    lists_set parts at part (get_or (part_lists parts) at []) (same ∙ sym (list_read parts at old inside here)) ∙ set-get_or (part_lists parts) at []

pub none_named : (n : ℕ) → all_names (replicate n []) ≡ []
none_named zero = refl
none_named (suc n) = none_named n

-- one name less is left
pub one_less : (parts : List (List CubeName)) (at : ℕ) (front : List CubeName) (name : CubeName) → at < length parts → get_or parts at [] ≡ front ++ name ∷ [] →
    length (all_names parts) ≡ length (all_names (set parts at front)) + 1
one_less parts at front name inside ends =
    let same = length_permutation (all_names parts) (name ∷ all_names (set parts at front)) (one_taken parts at front name inside ends) in
    omega arith

pub inside_lists : (parts : List (Vec CubeName Global)) (lists : List (List CubeName)) (at : ℕ) → part_lists parts ≡ lists → at < length lists → at < length parts
inside_lists parts lists at same low =
    let long = ap length same in
    let all = length-map parts (λ (x : Vec CubeName Global). x.items) in
    omega arith

-- the names of one part more
gathered_suc : (parts : List (List CubeName)) (at : ℕ) → at < length parts → all_names (take (suc at) parts) ≡ all_names (take at parts) ++ get_or parts at []
gathered_suc [] at inside = absurd (omega arith)
gathered_suc (p ∷ parts) zero inside = append-nil p
gathered_suc (p ∷ parts) (suc at) inside = ap (λ x. p ++ x) (gathered_suc parts at (omega arith)) ∙ sym (append_assoc p (all_names (take at parts)) (get_or parts at []))

pub gathered_more : (parts : List (List CubeName)) (at : ℕ) → at < length parts → all_names (take (at + 1) parts) ≡ all_names (take at parts) ++ get_or parts at []
gathered_more parts at inside = ap (λ n. all_names (take n parts)) (add-one at) ∙ gathered_suc parts at inside

pub part_fits : (parts : List (List CubeName)) (at : ℕ) → at < length parts → length (all_names (take at parts)) + length (get_or parts at []) ≤ length (all_names parts)
part_fits [] at inside = absurd (omega arith)
part_fits (p ∷ parts) zero inside = let long = length-append p (all_names parts) in omega arith
part_fits (p ∷ parts) (suc at) inside =
    let rest = part_fits parts at (omega arith) in
    let one = length-append p (all_names (take at parts)) in
    let all = length-append p (all_names parts) in
    omega arith
