-- The lowest number of some pending prefixes.
use Rattle.std.specs.Prelude.{◌≡◌, Bool, true, false, ◌&&◌, List, Option, Some, None}
use Rattle.std.specs.List.{All, list_any}
use Rattle.prefix_jobs.specs.declared.number.Number.{Number}
use Rattle.prefix_jobs.specs.Numbers.{is_before}
use Rattle.region_book.specs.Machine.{Pending}
use Rattle.region_book.specs.Machine.{has_number}

-- Some prefix that passes the test has the number, and none that passes has a lower one.
pub record IsLowestOf (test : Pending → Bool) (ps : List Pending) (n : Number) : Type 0 where
  pub some : list_any (λ q. has_number n q && test q) ps ≡ true
  pub least : All (λ q. test q ≡ true → is_before q.number n ≡ false) ps

-- The lowest number of those that pass the test; none where none does.
abbrev pub IsLowest : (Pending → Bool) → List Pending → Option Number → Type 0
IsLowest test ps None = All (λ q. test q ≡ false) ps
IsLowest test ps (Some n) = IsLowestOf test ps n
