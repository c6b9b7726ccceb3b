-- What the numbers of prefixes name, before and after an event.
use Rattle.std.proofs.Common.{◌≡◌, ℕ, zero, suc, ◌+◌, ◌<◌, ◌≤◌, List, [], ◌∷◌, ◌++◌, map, length, length-append, get_or, ℤ, Option, Some, None, refl, sym, ap, ap₂, ◌∙◌, arith}
use Rattle.std.specs.List.{All}
use Rattle.std.specs.Option.{option_to_list}
use Rattle.std.proofs.lemmas.List.{map-append, length-map, get_or_append_left, get_or_push}
use Rattle.std.proofs.Math.Seq.{get_or-append_seam}
use Rattle.sat_terms.specs.declared.subject.Subject.{Subject}
use Rattle.checkpoint.specs.declared.saved.Saved.{Saved}
use Rattle.prefix_jobs.specs.declared.number.Number.{Number}
use Rattle.prefix_jobs.specs.declared.outcome.Outcome.{Outcome}
use Rattle.region_book.specs.declared.event.Event.{Event}
use Rattle.region_book.specs.declared.event.Event.TheVariants.{Report}
use Rattle.region_book.specs.declared.slot.Slot.{Slot}
use Rattle.region_book.specs.Machine.{numbered, kept_part, parts_of}
use Rattle.region_book.specs.Prefixes.{first_prefixes, left_by, prefixes_at, prefix_at, NamesLeft}
use Rattle.region_book.specs.Slots.{live_of, free_slots, kept_slot, slots_of}
use Rattle.region_book.proofs.Live.{live-append, live_same}

abbrev pub number_at : ℕ → ℕ → Number
number_at j i = record { place = j; index = i }

module _ (subject : Subject) (saved : Option Saved) where
  -- an event appended leaves what older numbers name
  older_prefixes : (events : List Event) (e : Event) (j : ℕ) → j ≤ length events → prefixes_at subject saved (events ++ e ∷ []) j ≡ prefixes_at subject saved events j
  older_prefixes events e zero low = refl
  older_prefixes events e (suc j) low =
      ap (λ x. get_or x j []) (map-append left_by events (e ∷ []))
      ∙ get_or_append_left (map left_by events) (left_by e ∷ []) [] j (let long = length-map events left_by in omega arith)

  pub older_live : (events : List Event) (e : Event) (slots : List Slot) → All (λ s. s.number.place ≤ length events) slots → live_of (prefix_at subject saved (events ++ e ∷ [])) slots ≡ live_of (prefix_at subject saved events) slots
  older_live events e slots placed =
      live_same (prefix_at subject saved (events ++ e ∷ [])) (prefix_at subject saved events) slots
      (λ k d inside. ap (λ cs. get_or cs (get_or slots k d).number.index []) (older_prefixes events e (get_or slots k d).number.place (placed k d inside)))

  -- the numbers of an event name what it left
  last_left : (events : List Event) (e : Event) → prefixes_at subject saved (events ++ e ∷ []) (suc (length events)) ≡ left_by e
  last_left events e =
      ap (λ x. get_or x (length events) []) (map-append left_by events (e ∷ []))
      ∙ ap (λ x. get_or (map left_by events ++ left_by e ∷ []) x []) (sym (length-map events left_by))
      ∙ get_or-append_seam (map left_by events) (left_by e) [] []

  pub names_left : (events : List Event) (e : Event) → NamesLeft (prefix_at subject saved (events ++ e ∷ [])) (suc (length events)) e
  names_left events e i inside = ap (λ cs. get_or cs i []) (last_left events e)

-- ---- slots and their prefixes

pub free_parts : (prefixes : Number → List ℤ) (j i : ℕ) (cs : List (List ℤ)) → ((m : ℕ) → m < length cs → prefixes (number_at j (i + m)) ≡ get_or cs m []) → live_of prefixes (free_slots j i (length cs)) ≡ numbered j i cs
free_parts prefixes j i [] names = refl
free_parts prefixes j i (c ∷ cs) names =
    ap₂ (λ x xs. record { number = number_at j i; prefix = x; holder = None } ∷ xs)
    (ap (λ m. prefixes (number_at j m)) (let same : i ≡ i + 0 = omega arith in same) ∙ names 0 (omega arith))
    (free_parts prefixes j (suc i) cs (λ m inside. ap (λ x. prefixes (number_at j x)) (let same : suc i + m ≡ i + suc m = omega arith in same) ∙ names (suc m) (omega arith)))

pub left_parts : (prefixes : Number → List ℤ) (j k : ℕ) (n : Number) (o : Outcome) → NamesLeft prefixes j (Report k n o) → live_of prefixes (slots_of j k o) ≡ parts_of j k o
left_parts prefixes j k n o names =
    live-append prefixes (free_slots j 0 (length o.rest)) (kept_slot j (length o.rest) k o.kept)
    ∙ ap₂ (λ x y. x ++ y) (free_parts prefixes j 0 o.rest rest) (by_kept o.kept refl)
  where
    rest : (m : ℕ) → m < length o.rest → prefixes (number_at j (0 + m)) ≡ get_or o.rest m []
    rest m inside =
        ap (λ x. prefixes (number_at j x)) (let same : 0 + m ≡ m = omega arith in same)
        ∙ names m (let long = length-append o.rest (option_to_list o.kept) in omega arith)
        ∙ get_or_append_left o.rest (option_to_list o.kept) [] m inside

    by_kept : (kept : Option (List ℤ)) → o.kept ≡ kept → live_of prefixes (kept_slot j (length o.rest) k kept) ≡ kept_part j (length o.rest) k kept
    by_kept None e = refl
    by_kept (Some c) e =
        let all : o.rest ++ option_to_list o.kept ≡ o.rest ++ c ∷ [] = ap (λ x. o.rest ++ option_to_list x) e in
        ap (λ x. record { number = number_at j (length o.rest); prefix = x; holder = Some k } ∷ [])
        (names (length o.rest) (let long = ap length all ∙ length-append o.rest (c ∷ []) in omega arith)
        ∙ ap (λ x. get_or x (length o.rest) []) all
        ∙ get_or_push o.rest c [] (length o.rest) refl)

pub first_live : (subject : Subject) (saved : Option Saved) → live_of (prefix_at subject saved []) (free_slots 0 0 (length (first_prefixes subject saved))) ≡ numbered 0 0 (first_prefixes subject saved)
first_live subject saved = free_parts (prefix_at subject saved []) 0 0 (first_prefixes subject saved) (λ m inside. ap (λ x. get_or (first_prefixes subject saved) x []) (let same : 0 + m ≡ m = omega arith in same))
