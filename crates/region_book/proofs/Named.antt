-- What the names of published cubes name, before and after an event.
use Rattle.std.proofs.Common.{◌≡◌, ℕ, zero, suc, ◌≤◌, List, [], ◌∷◌, ◌++◌, map, length, get_or, ℤ, Option, refl, sym, ap, ap₂, ◌∙◌, arith}
use Rattle.std.proofs.lemmas.List.{map-append, length-map, get_or_append_left, length_push}
use Rattle.std.proofs.lemmas.List.Elements.{All-head, All-tail, All-cons, All-append, All-weaker}
use Rattle.std.proofs.Math.Seq.{get_or-append_seam}
use Rattle.checkpoint.specs.declared.saved.Saved.{Saved}
use Rattle.region_book.specs.declared.event.Event.{Event}
use Rattle.cube_merge.specs.declared.name.CubeName.{CubeName}
use Rattle.cube_merge.specs.Names.{names_from}
use Rattle.region_book.specs.Found.{brought_by, cubes_at, cube_at, named_cubes, AreEntered}

-- ---- an event appended leaves what older names name

older_cubes : (saved : Option Saved) (events : List Event) (e : Event) (j : ℕ) → j ≤ length events → cubes_at saved (events ++ e ∷ []) j ≡ cubes_at saved events j
older_cubes saved events e zero low = refl
older_cubes saved events e (suc j) low =
    ap (λ x. get_or x j []) (map-append brought_by events (e ∷ []))
    ∙ get_or_append_left (map brought_by events) (brought_by e ∷ []) [] j (let long = length-map events brought_by in omega arith)

older_named : (saved : Option Saved) (events : List Event) (e : Event) (names : List CubeName) → AreEntered (length events) names → named_cubes saved (events ++ e ∷ []) names ≡ named_cubes saved events names
older_named saved events e [] entered = refl
older_named saved events e (a ∷ names) entered =
    ap₂ (λ c cs. c ∷ cs)
    (ap (λ cs. get_or cs a.index []) (older_cubes saved events e a.place (All-head (λ b. b.place ≤ length events) a names entered)))
    (older_named saved events e names (All-tail (λ b. b.place ≤ length events) a names entered))

-- ---- the names of an event's cubes name these

push_append : (front : List (List ℤ)) (c : List ℤ) (cs : List (List ℤ)) → (front ++ c ∷ []) ++ cs ≡ front ++ c ∷ cs
push_append [] c cs = refl
push_append (d ∷ front) c cs = ap (λ x. d ∷ x) (push_append front c cs)

pub names_name : (saved : Option Saved) (events : List Event) (j i : ℕ) (front cs : List (List ℤ)) → cubes_at saved events j ≡ front ++ cs → i ≡ length front → named_cubes saved events (names_from j i (length cs)) ≡ cs
names_name saved events j i front [] here at = refl
names_name saved events j i front (c ∷ cs) here at =
    ap₂ (λ x xs. x ∷ xs)
    (ap (λ x. get_or x i []) here ∙ ap (λ x. get_or (front ++ c ∷ cs) x []) at ∙ get_or-append_seam front c cs [])
    (names_name saved events j (suc i) (front ++ c ∷ []) cs (here ∙ sym (push_append front c cs)) (let one = length_push front c in omega arith))

last_cubes : (saved : Option Saved) (events : List Event) (e : Event) → cubes_at saved (events ++ e ∷ []) (suc (length events)) ≡ brought_by e
last_cubes saved events e =
    ap (λ x. get_or x (length events) []) (map-append brought_by events (e ∷ []))
    ∙ ap (λ x. get_or (map brought_by events ++ brought_by e ∷ []) x []) (sym (length-map events brought_by))
    ∙ get_or-append_seam (map brought_by events) (brought_by e) [] []

pub named_more : (saved : Option Saved) (events : List Event) (e : Event) (names : List CubeName) → AreEntered (length events) names →
    named_cubes saved (events ++ e ∷ []) (names ++ names_from (suc (length events)) 0 (length (brought_by e))) ≡ named_cubes saved events names ++ brought_by e
named_more saved events e names entered =
    map-append (cube_at saved (events ++ e ∷ [])) names (names_from (suc (length events)) 0 (length (brought_by e)))
    ∙ ap₂ (λ x y. x ++ y) (older_named saved events e names entered)
    (names_name saved (events ++ e ∷ []) (suc (length events)) 0 [] (brought_by e) (last_cubes saved events e) refl)

-- ---- each name is entered

pub names_entered : (m j i n : ℕ) → j ≤ m → AreEntered m (names_from j i n)
names_entered m j i zero low = λ k d bad. absurd (omega arith)
names_entered m j i (suc n) low = All-cons (λ a. a.place ≤ m) (record { place = j; index = i }) (names_from j (suc i) n) low (names_entered m j (suc i) n low)

pub entered_more : (m n : ℕ) (names : List CubeName) → AreEntered m names → AreEntered (suc m) (names ++ names_from (suc m) 0 n)
entered_more m n names entered =
    All-append (λ a. a.place ≤ suc m) names (names_from (suc m) 0 n)
    (All-weaker (λ a. a.place ≤ m) (λ a. a.place ≤ suc m) (λ a h. omega arith) names entered)
    (names_entered (suc m) (suc m) 0 n (omega arith))
