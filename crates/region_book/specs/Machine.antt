-- The machine of a book's events: what each makes of what is published and pending.
use Rattle.std.specs.Prelude.{◌≢◌, ℕ, suc, ◌+◌, ◌^◌, min, Bool, false, cond, is_none, ◌&&◌, nat_eq, List, [], ◌∷◌, ◌++◌, map, filter, length, ℤ, Option, Some, None}
use Rattle.std.specs.List.{find}
use Rattle.prefix_jobs.specs.declared.number.Number.{Number}
use Rattle.prefix_jobs.specs.declared.outcome.Outcome.{Outcome}
use Rattle.prefix_jobs.specs.Outcomes.{FitsPrefix}
use Rattle.region_book.specs.declared.event.Event.{Event}
use Rattle.region_book.specs.declared.event.Event.TheVariants.{Take, Report, Release}

-- A prefix that is pending, its number, and the pass that holds it, if one does.
pub record Pending : Type 0 where
  pub number : Number
  pub prefix : List ℤ
  pub holder : Option ℕ

-- The cubes published, the prefixes pending, and how many leaves were reported.
pub record BookState : Type 0 where
  pub published : List (List ℤ)
  pub pending : List Pending
  pub spent : ℕ

-- The prefixes that are pending.
abbrev pub prefixes_of : List Pending → List (List ℤ)
prefixes_of ps = map (λ q. q.prefix) ps

-- The prefix of this number, where nobody holds it, and where the pass k does.
abbrev pub has_number : Number → Pending → Bool
has_number n q = nat_eq q.number.place n.place && nat_eq q.number.index n.index

abbrev pub is_pass : ℕ → Option ℕ → Bool
is_pass k None = false
is_pass k (Some h) = nat_eq h k

abbrev pub is_free : Number → Pending → Bool
is_free n q = has_number n q && is_none q.holder

abbrev pub is_held_by : ℕ → Number → Pending → Bool
is_held_by k n q = has_number n q && is_pass k q.holder

-- What the pass k holds.
abbrev pub held_by : ℕ → List Pending → List Pending
held_by k ps = filter (λ q. is_pass k q.holder) ps

-- In place of the first prefix q that passes the test stand those of `change q`.
abbrev pub edit_first : (Pending → Bool) → (Pending → List Pending) → List Pending → List Pending
edit_first test change [] = []
edit_first test change (q ∷ ps) = cond (test q) (change q ++ ps) (q ∷ edit_first test change ps)

abbrev pub taken_by : ℕ → Pending → List Pending
taken_by k q = record q { holder = Some k } ∷ []

abbrev pub let_go : Pending → List Pending
let_go q = record q { holder = None } ∷ []

abbrev pub taken_out : Pending → List Pending
taken_out q = []

-- The prefixes get the numbers (j, i), (j, i + 1) and so on, and nobody holds them.
abbrev pub numbered : ℕ → ℕ → List (List ℤ) → List Pending
numbered j i [] = []
numbered j i (c ∷ cs) =
    record { number = record { place = j; index = i }; prefix = c; holder = None }
    ∷ numbered j (suc i) cs

-- The kept prefix gets the number (j, i), and the pass k holds it.
abbrev pub kept_part : ℕ → ℕ → ℕ → Option (List ℤ) → List Pending
kept_part j i k None = []
kept_part j i k (Some c) =
    record { number = record { place = j; index = i }; prefix = c; holder = Some k } ∷ []

-- What an outcome leaves to be searched: its rest, and then what the pass k keeps.
abbrev pub parts_of : ℕ → ℕ → Outcome → List Pending
parts_of j k o = numbered j 0 o.rest ++ kept_part j (length o.rest) k o.kept

-- The pass k reports this outcome of the prefix with the number n, where it holds one.
abbrev pub reported : ℕ → ℕ → Number → Outcome → Option Pending → BookState → BookState
reported j k n o None s = s
reported j k n o (Some q) s = record {
  published = s.published ++ o.cubes;
  pending = edit_first (is_held_by k n) taken_out s.pending ++ parts_of j k o;
  spent = min (s.spent + o.leaves) (2 ^ 62);
}

-- What the event at the place j of the journal does. Where no prefix has its number and the holder
-- that it names, nothing changes.
abbrev pub step : ℕ → Event → BookState → BookState
step j (Take k n) s = record s { pending = edit_first (is_free n) (taken_by k) s.pending }
step j (Report k n o) s = reported j k n o (find (is_held_by k n) s.pending) s
step j (Release k n) s = record s { pending = edit_first (is_held_by k n) let_go s.pending }

-- The events in turn, the first of them at the place j.
abbrev pub steps_from : ℕ → List Event → BookState → BookState
steps_from j [] s = s
steps_from j (e ∷ es) s = steps_from (suc j) es (step j e s)

-- The start from these cubes and prefixes. Their numbers have the place 0; the journal's places
-- count from 1.
abbrev pub start_from : List (List ℤ) → List (List ℤ) → BookState
start_from cubes prefixes = record {
  published = cubes;
  pending = numbered 0 0 prefixes;
  spent = 0;
}

-- The event is legal: what it takes is free, what it reports or releases is held by its pass, and
-- what it reports fits that prefix, for the formula f and the shown variables p.
abbrev pub FitsFound : List (List ℤ) → List ℕ → Option Pending → Outcome → Type 0
FitsFound f p None o = ⊥
FitsFound f p (Some q) o = FitsPrefix f p q.prefix o

abbrev pub IsLegalAt : List (List ℤ) → List ℕ → Event → BookState → Type 0
IsLegalAt f p (Take k n) s = find (is_free n) s.pending ≢ None
IsLegalAt f p (Report k n o) s = FitsFound f p (find (is_held_by k n) s.pending) o
IsLegalAt f p (Release k n) s = find (is_held_by k n) s.pending ≢ None

-- Each event is legal in its turn, the first of them at the place j.
abbrev pub AreLegal : List (List ℤ) → List ℕ → ℕ → List Event → BookState → Type 0
AreLegal f p j [] s = Unit {0}
AreLegal f p j (e ∷ es) s = IsLegalAt f p e s × AreLegal f p (suc j) es (step j e s)

-- The pass of an event.
abbrev pub pass_of : Event → ℕ
pass_of (Take k n) = k
pass_of (Report k n o) = k
pass_of (Release k n) = k
