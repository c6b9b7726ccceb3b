-- The steps of the lists of a saved text's own lines.
use Rattle.std.proofs.Common.{◌≡◌, ◌<◌, ℕ, true, List, [], ◌∷◌, ◌++◌, length, ℤ, nat_abs, Result, refl, sym, subst, ap, ◌∙◌, append-nil, append_assoc, arith}
use Rattle.std.specs.Prelude.{nat_lt}
use Rattle.std.proofs.lemmas.Bool.{and_parts, and_from, lt-ltb}
use Rattle.sat_terms.specs.Cubes.{rises_above, last_variable}
use Rattle.dimacs_front.specs.declared.saved_lines.SavedLine.{SavedLine}
use Rattle.dimacs_front.specs.declared.under_lines.Given.{Given}
use Rattle.dimacs_front.specs.declared.input.Input.{Input}
use Rattle.dimacs_front.specs.declared.refused.ReadRefused.{ReadRefused}
use Rattle.dimacs_front.specs.SavedTexts.{SavedSaid}
use Rattle.dimacs_front.specs.TextEnds.{first_misplaced, lowest_outside, cubes_of}
use Rattle.dimacs_front.specs.Machine.{WrittenView}
use Rattle.dimacs_front.specs.MachineEnd.{with_saved_lines, with_under}
use Rattle.dimacs_front.specs.MachineUnder.{IsUnder}
use Rattle.dimacs_front.specs.Pieces.{Answered}

-- the cubes are moved one by one
pub cube_moved : (old new all : List (List ℤ)) (m : SavedLine) (ms ns : List SavedLine) →
    old ++ cubes_of ms ≡ all → ms ≡ m ∷ ns → new ≡ old ++ m.cube ∷ [] → new ++ cubes_of ns ≡ all
cube_moved old new all m ms ns h e f =
    ap (λ cs. cs ++ cubes_of ns) f
    ∙ append_assoc old (m.cube ∷ []) (cubes_of ns)
    ∙ ap (λ ks. old ++ cubes_of ks) (sym e)
    ∙ h

nothing_left : {A : Type 0} (xs : List A) → length xs ≡ 0 → xs ≡ []
nothing_left [] h = refl
nothing_left (x ∷ xs) h = absurd (omega arith)

pub all_moved : (old all : List (List ℤ)) (ms : List SavedLine) → old ++ cubes_of ms ≡ all →
    length ms ≡ 0 → old ≡ all
all_moved old all ms h e =
    sym (append-nil old) ∙ ap (λ ks. old ++ cubes_of ks) (sym (nothing_left ms e)) ∙ h

-- one more literal, whose variable is above the last one
pub last_pushed : (v : ℕ) (ls : List ℤ) (l : ℤ) → last_variable v (ls ++ l ∷ []) ≡ nat_abs l
last_pushed v [] l = refl
last_pushed v (k ∷ ls) l = last_pushed (nat_abs k) ls l

pub rises_pushed : (v : ℕ) (ls : List ℤ) (l : ℤ) → rises_above v ls ≡ true → last_variable v ls < nat_abs l →
    rises_above v (ls ++ l ∷ []) ≡ true
rises_pushed v [] l h lt = and_from (nat_lt v (nat_abs l)) true (lt-ltb v (nat_abs l) lt) refl
rises_pushed v (k ∷ ls) l h lt =
    let (here, rest) = and_parts (nat_lt v (nat_abs k)) (rises_above (nat_abs k) ls) h in
    and_from (nat_lt v (nat_abs k)) (rises_above (nat_abs k) (ls ++ l ∷ [])) here (rises_pushed (nat_abs k) ls l rest lt)

-- the answer behind the given literals
pub under_given : (w : WrittenView) (vs : List ℕ) (gs : List Given) (k : SavedSaid) (u : List ℤ)
    (result : Result Input ReadRefused) → IsUnder vs gs u →
    Answered (with_saved_lines w vs u k (lowest_outside vs u k)) result →
    Answered (with_under w gs k vs (first_misplaced vs [] gs)) result
under_given w vs gs k u result h a =
    subst (λ o. Answered (with_under w gs k vs o) result) (sym h.placed)
    (subst (λ c. Answered (with_saved_lines w vs c k (lowest_outside vs c k)) result) h.same a)
