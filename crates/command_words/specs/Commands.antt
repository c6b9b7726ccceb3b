-- Which words make a command. A word is a list of bytes.
use Rattle.std.specs.Prelude.{◌≡◌, ℕ, ◌≤◌, ◌^◌, cond, ◌&&◌, ◌||◌, nat_le, is_some, unwrap_or, option_map, List, [], ◌∷◌, take, drop, length, Option, Some, None, codes}
use Rattle.std.specs.Option.{option_and_then}
use Rattle.std.specs.Str.{all_ascii_digits, bytes_eq}
use Rattle.std.specs.Str.Parse.{digits_value}
use Rattle.command_words.specs.declared.reading.Setting.{Setting}
use Rattle.command_words.specs.declared.reading.Setting.TheVariants.{Workers, Budget, Size}
use Rattle.command_words.specs.declared.reading.Reading.{Reading}
use Rattle.command_words.specs.declared.command.Command.{Command}
use Rattle.command_words.specs.declared.command.Command.TheVariants.{Enumerate, Check, Drill}

-- The number from 1 to `most` that decimal digits write, where there is nothing but digits. Zeros
-- may stand before them. No digits have the value 0.
abbrev pub number_upto : ℕ → List ℕ → Option ℕ
number_upto most text =
    cond (all_ascii_digits text
    && (nat_le 1 (digits_value 10 text) && nat_le (digits_value 10 text) most))
    (Some (digits_value 10 text)) None

-- What is read before the first word.
abbrev pub nothing_read : Reading
nothing_read = record { waiting = None; workers = None; budget = None; size = None }

-- The number of an option, which is given once at most: 1 to 16 workers, a budget of 1 to 2^62, a
-- size of 1 to 48.
abbrev pub with_value : Setting → List ℕ → Reading → Option Reading
with_value Workers text r =
    cond (is_some r.workers) None
    (option_map (λ n. record r { waiting = None; workers = Some n }) (number_upto 16 text))
with_value Budget text r =
    cond (is_some r.budget) None
    (option_map (λ n. record r { waiting = None; budget = Some n }) (number_upto (2 ^ 62) text))
with_value Size text r =
    cond (is_some r.size) None
    (option_map (λ n. record r { waiting = None; size = Some n }) (number_upto 48 text))

-- What stands behind this front of a word, where the word begins so.
abbrev pub rest_behind : List ℕ → List ℕ → Option (List ℕ)
rest_behind front word =
    cond (bytes_eq (take (length front) word) front) (Some (drop (length front) word)) None

-- The option has the number that stands behind it in the same word, as in `--workers=4`; else it
-- is for the rest to say.
abbrev pub with_rest : Setting → Reading → Option Reading → Option (List ℕ) → Option Reading
with_rest setting r other None = other
with_rest setting r other (Some value) = with_value setting value r

-- A word that begins with an option.
abbrev pub with_both : List ℕ → Reading → Option Reading
with_both word r =
    with_rest Workers r
    (with_rest Budget r
    (with_rest Size r None (rest_behind (codes "--size=") word))
    (rest_behind (codes "--budget=") word))
    (rest_behind (codes "--workers=") word)

-- A word that is an option, or begins with one.
abbrev pub with_name : List ℕ → Reading → Option Reading
with_name word r =
    cond (bytes_eq word (codes "--workers")) (Some (record r { waiting = Some Workers }))
    (cond (bytes_eq word (codes "--budget")) (Some (record r { waiting = Some Budget }))
    (cond (bytes_eq word (codes "--size")) (Some (record r { waiting = Some Size }))
    (with_both word r)))

-- One word more: the number of the option that waits for it, or an option.
abbrev pub with_next : List ℕ → Reading → Option Setting → Option Reading
with_next word r None = with_name word r
with_next word r (Some setting) = with_value setting word r

abbrev pub with_word : List ℕ → Reading → Option Reading
with_word word r = with_next word r r.waiting

-- The words in turn.
abbrev pub with_words : List (List ℕ) → Reading → Option Reading
with_words [] r = Some r
with_words (word ∷ words) r = option_and_then (λ s. with_words words s) (with_word word r)

abbrev pub options_of : List (List ℕ) → Option Reading
options_of words = with_words words nothing_read

-- The command to enumerate, by these options: one worker, where no number is given. None where
-- the last option lacks its number, or a size is given.
abbrev pub enumerate_by : Reading → Option Command
enumerate_by r =
    cond (is_some r.waiting || is_some r.size) None
    (Some (Enumerate (unwrap_or r.workers 1) r.budget))

-- The command to drill. None where the last option lacks its number, a budget is given, or no size.
abbrev pub drill_by : Reading → Option Command
drill_by r =
    cond (is_some r.waiting || is_some r.budget) None
    (option_map (λ n. Drill n (unwrap_or r.workers 1)) r.size)

-- The command to check, which has no options.
abbrev pub check_by : List (List ℕ) → Option Command
check_by [] = Some Check
check_by (word ∷ words) = None

-- The command: the word `enumerate` or `drill`, and options behind it in any order, or the word
-- `check` alone.
abbrev pub command_of : List (List ℕ) → Option Command
command_of [] = None
command_of (word ∷ words) =
    cond (bytes_eq word (codes "enumerate")) (option_and_then enumerate_by (options_of words))
    (cond (bytes_eq word (codes "check")) (check_by words)
    (cond (bytes_eq word (codes "drill")) (option_and_then drill_by (options_of words)) None))

-- So many workers may there be.
abbrev pub AreWorkers : ℕ → Type 0
AreWorkers n = (1 ≤ n) × (n ≤ 16)

-- The numbers that were read are those that their options may have.
pub record HasRanges (r : Reading) : Type 0 where
  pub size : (n : ℕ) → r.size ≡ Some n → n ≤ 48
  pub workers : (n : ℕ) → r.workers ≡ Some n → AreWorkers n

abbrev pub IsInRange : Command → Type 0
IsInRange (Enumerate workers budget) = AreWorkers workers
IsInRange Check = Unit {0}
IsInRange (Drill size workers) = (size ≤ 48) × AreWorkers workers
