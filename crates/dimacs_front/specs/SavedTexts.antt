-- What the lines say that a saved text and a met text have of their own. Here n is the line's
-- number.
use Rattle.std.specs.Prelude.{ℕ, Bool, true, false, not, cond, ◌==◌, ◌&&◌, ◌||◌, List, [], ◌∷◌, ◌++◌, map, drop, codes, ℤ, nat_abs, Option, Some, None, Result, Ok}
use Rattle.std.specs.Str.{bytes_eq}
use Rattle.dimacs_tokens.specs.Numbers.{token_value}
use Rattle.dimacs_tokens.specs.Seen.{is_nil}
use Rattle.sat_terms.specs.Cubes.{rises_above}
use Rattle.dimacs_front.specs.declared.refused.TextRefused.{TextRefused}
use Rattle.dimacs_front.specs.declared.refused.TextRefused.TheVariants.{SavedBad}
use Rattle.dimacs_front.specs.declared.met_lines.MetLine.{MetLine}
use Rattle.dimacs_front.specs.declared.saved_lines.SavedLine.{SavedLine}
use Rattle.dimacs_front.specs.declared.saved_lines.SavedList.{SavedList}
use Rattle.dimacs_front.specs.declared.saved_lines.SavedList.TheVariants.{Cubes, Pending}
use Rattle.dimacs_front.specs.Steps.{and_then, needs}
use Rattle.dimacs_front.specs.LineWords.{begins_by, own_words, words_of}
use Rattle.dimacs_front.specs.ListLines.{list_says, is_literal}

-- what these lines say so far: whether the first line names a saved text, the cube lines and the
-- open lines in their order, whether it names a met text, the met lines, and whether the end line
-- stood
pub record SavedSaid : Type 0 where
  pub named : Bool
  pub cubes : List SavedLine
  pub pending : List SavedLine
  pub met : Bool
  pub mets : List MetLine
  pub ended : Bool

abbrev pub nothing_saved : SavedSaid
nothing_saved =
    record { named = false; cubes = []; pending = []; met = false; mets = []; ended = false }

-- behind the words of the first line stands the version alone, which is 1 or 2
abbrev pub is_version : List (List ℕ) → Bool
is_version (t ∷ []) = bytes_eq t (codes "1") || bytes_eq t (codes "2")
is_version ts = false

-- that of a met text is 1
abbrev pub is_met_version : List (List ℕ) → Bool
is_met_version (t ∷ []) = bytes_eq t (codes "1")
is_met_version ts = false

-- a cube line and an open line hold literals whose variables rise
abbrev pub rising_says : ℕ → List (Option ℤ) → Result (List ℤ) TextRefused
rising_says n os =
    and_then (λ ls. needs (rises_above 0 ls) (SavedBad n) (Ok ls))
    (list_says is_literal (SavedBad n) (SavedBad n) os)

abbrev pub with_line : SavedList → SavedSaid → SavedLine → SavedSaid
with_line Cubes k m = record k { cubes = k.cubes ++ m ∷ [] }
with_line Pending k m = record k { pending = k.pending ++ m ∷ [] }

abbrev pub cube_says : SavedList → ℕ → SavedSaid → List (List ℕ) →
    Result SavedSaid TextRefused
cube_says list n k ts =
    and_then (λ ls. Ok (with_line list k (record { line = n; cube = ls })))
    (rising_says n (map token_value ts))

-- the numbers up to the first 0, and those behind it
abbrev pub up_to_zero : List (Option ℤ) → List (Option ℤ)
up_to_zero [] = []
up_to_zero (None ∷ os) = None ∷ up_to_zero os
up_to_zero (Some l ∷ os) = Some l ∷ cond (nat_abs l == 0) [] (up_to_zero os)

abbrev pub behind_zero : List (Option ℤ) → List (Option ℤ)
behind_zero [] = []
behind_zero (None ∷ os) = behind_zero os
behind_zero (Some l ∷ os) = cond (nat_abs l == 0) os (behind_zero os)

-- a met line holds two such lists: a cube, and hidden literals
abbrev pub with_met : SavedSaid → MetLine → SavedSaid
with_met k m = record k { mets = k.mets ++ m ∷ [] }

abbrev pub hidden_says : ℕ → SavedSaid → List (Option ℤ) → List ℤ →
    Result SavedSaid TextRefused
hidden_says n k os cube =
    and_then
    (λ ls. Ok (with_met k (record { line = n; met = record { cube = cube; hidden = ls } })))
    (rising_says n os)

abbrev pub met_says : ℕ → SavedSaid → List (Option ℤ) → Result SavedSaid TextRefused
met_says n k os = and_then (hidden_says n k (behind_zero os)) (rising_says n (up_to_zero os))

-- nothing stands behind the words of the end line
abbrev pub last_says : ℕ → SavedSaid → List (List ℕ) → Result SavedSaid TextRefused
last_says n k ts = needs (is_nil ts) (SavedBad n) (Ok (record k { ended = true }))

-- such a line says this where the text is one that has it, and no end line stood before it; in
-- another text it is a comment
abbrev pub own_line : Bool → ℕ → SavedSaid → Result SavedSaid TextRefused →
    Result SavedSaid TextRefused
own_line has n k x = cond has (needs (not k.ended) (SavedBad n) x) (Ok k)

-- what a comment line says of these: a saved text has cube lines and open lines, a met text has met
-- lines, and each has an end line
abbrev pub own_says : ℕ → SavedSaid → List (List ℕ) → Result SavedSaid TextRefused
own_says n k ts =
    cond (begins_by (words_of (codes "cube")) ts)
    (own_line k.named n k (cube_says Cubes n k (drop 3 ts)))
    (cond (begins_by (words_of (codes "open")) ts)
    (own_line k.named n k (cube_says Pending n k (drop 3 ts)))
    (cond (begins_by (words_of (codes "end")) ts)
    (own_line (k.named || k.met) n k (last_says n k (drop 3 ts)))
    (cond (begins_by (words_of (codes "met")) ts)
    (own_line k.met n k (met_says n k (map token_value (drop 3 ts))))
    (Ok k))))

-- and what the first line says, which may name a text of one of these kinds
abbrev pub saved_says : ℕ → SavedSaid → List (List ℕ) → Result SavedSaid TextRefused
saved_says n k ts =
    cond ((n == 1) && begins_by (own_words (codes "met")) ts)
    (needs (is_met_version (drop 3 ts)) (SavedBad n) (Ok (record k { met = true })))
    (cond ((n == 1) && begins_by (own_words (codes "saved")) ts)
    (needs (is_version (drop 3 ts)) (SavedBad n) (Ok (record k { named = true })))
    (own_says n k ts))
