-- Walks for the first literal, clause or cube that fails a test.
use Rattle.std.proofs.Common.{◌≡◌, ◌<◌, ◌≤◌, ◌+◌, ◌&&◌, ◌||◌, ℕ, Bool, true, false, not, List, [], ◌++◌, length, take, get_or, ℤ, nat_abs, Some, None, ap, subst, ◌∙◌}
use Rattle.std.specs.List.{All, list_any, list_all}
use Rattle.std.specs.Prelude.{nat_le}
use Rattle.std.proofs.lemmas.Bool.{and_parts, leb-true}
use Rattle.std.proofs.lemmas.List.{get_or_default}
use Rattle.std.proofs.lemmas.List.Folds.{list_any_more, list_all_more}
use Rattle.std.proofs.lemmas.List.Sums.{AllPass-from_list_all}
use Rattle.sat_terms.specs.Subjects.{IsShown}
use Rattle.sat_terms.specs.Cubes.{is_among}
use Rattle.sat_terms.proofs.CubeLemmas.{rises_above-at}
use Rattle.sat_terms.proofs.Variables.{All-among}
use Rattle.cube_check.specs.declared.met.Met.{Met}
use Rattle.cube_check.specs.Verdicts.{IsMet, meets_all, met_at, IsFirstMiss}
use Rattle.cube_check.specs.Misses.{IsNamed, MissesFirst}

pub none_more : {X : Type 0} (p : X → Bool) (xs : List X) (i : ℕ) (d : X) → i < length xs → list_any p (take i xs) ≡ false → p (get_or xs i d) ≡ false → list_any p (take (i + 1) xs) ≡ false
none_more p xs i d inside none here = list_any_more p xs i d inside ∙ ap (λ b. b || p (get_or xs i d)) none ∙ here

pub all_more : {X : Type 0} (p : X → Bool) (xs : List X) (i : ℕ) (d : X) → i < length xs → list_all p (take i xs) ≡ true → p (get_or xs i d) ≡ true → list_all p (take (i + 1) xs) ≡ true
all_more p xs i d inside all here = list_all_more p xs i d inside ∙ ap (λ b. b && p (get_or xs i d)) all ∙ here

-- the literals of a met line, as they were marked
pub held_at : (met : List Met) (m : Met) (i : ℕ) (cube hidden : List ℤ) → i < length met → m ≡ get_or met i m → cube ≡ m.cube → hidden ≡ m.hidden →
    cube ++ hidden ≡ (met_at met i).cube ++ (met_at met i).hidden
held_at met m i cube hidden inside here is_cube is_hidden =
    let same : m ≡ met_at met i = here ∙ get_or_default met i m (record { cube = []; hidden = [] }) inside in
    ap (λ c. c ++ hidden) is_cube ∙ ap (λ h. m.cube ++ h) is_hidden ∙ ap (λ (n : Met). n.cube ++ n.hidden) same

pub first_miss_at : (f fs : List (List ℤ)) (met : List Met) (i j : ℕ) (held : List ℤ) → fs ≡ f → held ≡ (met_at met i).cube ++ (met_at met i).hidden → i < length met →
    list_all (meets_all f) (take i met) ≡ true → MissesFirst held fs (Some j) → IsFirstMiss f met i j
first_miss_at f fs met i j held formula same inside lower told =
    let said : MissesFirst ((met_at met i).cube ++ (met_at met i).hidden) f (Some j) =
    subst (λ c. MissesFirst c f (Some j)) same (subst (λ g. MissesFirst held g (Some j)) formula told) in
    record { cube = inside; clause = said.0; missed = said.1; lower_clauses = said.2; lower_cubes = lower }

pub all_met_more : (f fs : List (List ℤ)) (met : List Met) (i : ℕ) (held : List ℤ) → fs ≡ f → held ≡ (met_at met i).cube ++ (met_at met i).hidden → i < length met →
    list_all (meets_all f) (take i met) ≡ true → MissesFirst held fs None → list_all (meets_all f) (take (i + 1) met) ≡ true
all_met_more f fs met i held formula same inside lower told =
    let said : MissesFirst ((met_at met i).cube ++ (met_at met i).hidden) f None =
    subst (λ c. MissesFirst c f None) same (subst (λ g. MissesFirst held g None) formula told) in
    all_more (meets_all f) met i (record { cube = []; hidden = [] }) inside lower said

-- the literals of met lines are those of the formula's variables
pub named_from_met : (n : ℕ) (p : List ℕ) (met : List Met) → IsShown n p → All (IsMet n p) met → All (IsNamed n) met
named_from_met n p met shown told = λ k d inside.
    let m = get_or met k d in
    let known = told k d inside in
    let cube = AllPass-from_list_all (λ l. is_among p (nat_abs l)) m.cube known.cube.over in
    let hidden = AllPass-from_list_all (λ l. nat_le (nat_abs l) n && not (is_among p (nat_abs l))) m.hidden known.hidden in
    record {
      rising = known.cube.rising;
      cube = λ i e less. All-among (λ v. (0 < v) × (v ≤ n)) p (nat_abs (get_or m.cube i e)) shown.named (cube i e less);
      hidden = λ i e less. (
        (rises_above-at 0 m.hidden i e less known.rising).0,
        leb-true _ _ (and_parts (nat_le (nat_abs (get_or m.hidden i e)) n) (not (is_among p (nat_abs (get_or m.hidden i e)))) (hidden i e less)).0,
      );
    }
