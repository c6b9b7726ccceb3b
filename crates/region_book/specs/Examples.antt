-- A script of two passes, worked by hand.
use Rattle.std.specs.Prelude.{◌≡◌, ℕ, List, [], ◌∷◌, take, ℤ, pos, neg_ℤ, None, Some}
use Rattle.prefix_jobs.specs.declared.number.Number.{Number}
use Rattle.prefix_jobs.specs.declared.outcome.Outcome.{Outcome}
use Rattle.region_book.specs.declared.event.Event.{Event}
use Rattle.region_book.specs.declared.event.Event.TheVariants.{Take, Report, Release}
use Rattle.region_book.specs.Machine.{BookState, steps_from, start_from, IsLegalAt, AreLegal}
use Rattle.sat_terms.specs.declared.subject.Subject.{Subject}
use Rattle.checkpoint.specs.declared.saved.Saved.{Saved}
use Rattle.region_book.specs.Books.{BookView}
use Rattle.region_book.specs.Partition.{IsPartition}
use Rattle.region_book.specs.Starts.{CanBegin}

-- The clauses `1 2` and `-1 -2`, of which both variables are shown: just one of them is true.
abbrev pub script_formula : List (List ℤ)
script_formula = (pos 1 ∷ pos 2 ∷ []) ∷ (neg_ℤ (pos 1) ∷ neg_ℤ (pos 2) ∷ []) ∷ []

abbrev pub script_shown : List ℕ
script_shown = 1 ∷ 2 ∷ []

abbrev pub script_number : ℕ → ℕ → Number
script_number j i = record { place = j; index = i }

-- The search of everything found `-1 2`, and leaves `1` to others; that of `1` found `1 -2`.
abbrev pub first_found : List ℤ
first_found = neg_ℤ (pos 1) ∷ pos 2 ∷ []

abbrev pub left_over : List ℤ
left_over = pos 1 ∷ []

abbrev pub second_found : List ℤ
second_found = pos 1 ∷ neg_ℤ (pos 2) ∷ []

abbrev pub first_outcome : Outcome
first_outcome = record {
  cubes = first_found ∷ [];
  rest = left_over ∷ [];
  kept = None;
  leaves = 1;
}

abbrev pub second_outcome : Outcome
second_outcome = record { cubes = second_found ∷ []; rest = []; kept = None; leaves = 1 }

-- The pass 0 searches everything; the pass 1 takes what is left, gives it back, and takes it again.
abbrev pub script : List Event
script =
    Take 0 (script_number 0 0) ∷ Report 0 (script_number 0 0) first_outcome
    ∷ Take 1 (script_number 2 0) ∷ Release 1 (script_number 2 0) ∷ Take 1 (script_number 2 0)
    ∷ Report 1 (script_number 2 0) second_outcome ∷ []

abbrev pub script_start : BookState
script_start = start_from [] ([] ∷ [])

-- The state after so many events of the script.
abbrev pub script_after : ℕ → BookState
script_after k = steps_from 1 (take k script) script_start

-- The subject of the script, and its book after so many events.
abbrev pub script_subject : Subject
script_subject = record {
  formula = record { variables = 2; clauses = script_formula };
  shown = script_shown;
  under = [];
}

-- Prefixes that may have been saved of it, not in order.
abbrev pub split_saved : Saved
split_saved = record {
  cubes = [];
  pending = (pos 1 ∷ pos 2 ∷ []) ∷ (pos 1 ∷ neg_ℤ (pos 2) ∷ []) ∷ (neg_ℤ (pos 1) ∷ []) ∷ [];
}

abbrev pub script_book : ℕ → BookView
script_book k = record {
  subject = script_subject;
  saved = None;
  passes = 2;
  journal = take k script;
}

-- Each event is legal in its turn, and this is what they make. What is held cannot be taken, and
-- nobody but its holder can give it back.
pub record HasScript : Type 0 where
  pub begins : IsPartition script_formula script_shown [] script_start.published ([] ∷ [])
  pub legal : AreLegal script_formula script_shown 1 script script_start
  pub taken : script_after 1 ≡ record {
    published = [];
    pending = record { number = script_number 0 0; prefix = []; holder = Some 0 } ∷ [];
    spent = 0;
  }
  pub reported : script_after 2 ≡ record {
    published = first_found ∷ [];
    pending = record { number = script_number 2 0; prefix = left_over; holder = None } ∷ [];
    spent = 1;
  }
  pub ended : script_after 6 ≡ record {
    published = first_found ∷ second_found ∷ [];
    pending = [];
    spent = 2;
  }
  pub taken_twice : IsLegalAt script_formula script_shown (Take 1 (script_number 0 0))
      (script_after 1) → ⊥
  pub begins_so : CanBegin script_subject None 2
  pub begins_saved : CanBegin script_subject (Some split_saved) 1
  pub not_its_own : IsLegalAt script_formula script_shown (Release 1 (script_number 0 0))
      (script_after 1) → ⊥
