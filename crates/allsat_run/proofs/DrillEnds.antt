-- What a search of the drill comes to is what a run of it promises.
use Rattle.std.proofs.Common.{◌≡◌, ◌≢◌, ◌⊎◌, ℕ, zero, suc, ◌+◌, ◌≤◌, Bool, true, false, List, [], ◌∷◌, length, length-append, ℤ, None, refl, sym, ap, subst, ◌∙◌, inl, inr, arith}
use Rattle.std.specs.List.{list_any}
use Rattle.std.proofs.lemmas.Bool.{both_ways}
use Rattle.std.proofs.lemmas.List.{length-map}
use Rattle.std.proofs.lemmas.List.Elements.{All-weaker}
use Rattle.std.proofs.lemmas.List.Sums.{sum_by-le}
use Rattle.sat_terms.specs.Assignments.{IsGood, lies_in}
use Rattle.sat_terms.specs.RightList.{IsRightList}
use Rattle.fault_io.specs.Faults.{Rose}
use Rattle.fault_io.specs.Sinks.{SinkView}
use Rattle.dimacs_front.specs.Answers.{IsWithinLimits}
use Rattle.drill.specs.Drills.{drill, first_variables}
use Rattle.drill.specs.Summaries.{fixed_literals}
use Rattle.drill.proofs.Fixed.{fixed_is_true_everywhere}
use Rattle.drill.proofs.Good.{drills_are_good}
use Rattle.drill.proofs.Subjects.{IsPair, rows_pairs, rows_short, drills_are_subjects}
use Rattle.region_book.specs.Machine.{prefixes_of}
use Rattle.region_book.specs.Arranged.{ArrangedView}
use Rattle.allsat_run.specs.declared.status.Status.{Status}
use Rattle.allsat_run.specs.declared.status.Status.TheVariants.{Finished, WordsRefused, InputRefused, BudgetSpent, OutOfMemory, ReadFault, WriteFault, CheckedNo}
use Rattle.allsat_run.specs.Run.{IsBookOf}
use Rattle.allsat_run.specs.Searches.{Searches}
use Rattle.allsat_run.specs.Drilling.{drill_input, AreFixed, EndsDrill, WritesDrill}

shown_long : (k : ℕ) → length (first_variables k) ≡ k
shown_long zero = refl
shown_long (suc k) =
    let before = shown_long k in
    let both = length-append (first_variables k) (suc k ∷ []) in
    omega arith

pub drill_limits : (size : ℕ) → size ≤ 48 → IsWithinLimits (drill_input size)
drill_limits size few =
    let pairs = rows_pairs size size (omega arith) in
    let short = rows_short size size in
    let sum = sum_by-le length 2 (drill size).formula.clauses (All-weaker (IsPair (size + size)) (λ c. length c ≤ 2) (λ c h. h.long) (drill size).formula.clauses pairs) in
    let long = shown_long size in
    record {
      subject = drills_are_subjects size few;
      shown = omega arith;
      clauses = omega arith;
      literals = omega arith;
    }

good_long : (size : ℕ) (a : List Bool) → IsGood (drill size).formula.clauses (drill size).shown a → length a ≡ length (drill size).shown
good_long size a good = sym (ap length good.projects) ∙ length-map (drill size).shown good.model

some_cube : (size : ℕ) (cubes : List (List ℤ)) → IsRightList (drill size).formula.clauses (drill size).shown [] cubes → cubes ≢ []
some_cube size cubes right none =
    let (a, good) = drills_are_good size in
    let some : list_any (lies_in (drill size).shown a) cubes ≡ true = (right.exact a (good_long size a good)).1 (record { given = refl; good = good }) in
    both_ways false refl (subst (λ cs. list_any (lies_in (drill size).shown a) cs ≡ true) none some)

are_fixed : (size : ℕ) (a : ArrangedView) → IsBookOf (drill_input size) a → a.pending ≡ [] → AreFixed size (fixed_literals a.published)
are_fixed size a of none l some among =
    let f = (drill size).formula.clauses in
    let p = (drill size).shown in
    let right : IsRightList f p [] a.published = (of.whole tt).right (ap prefixes_of none) in
    let both = fixed_is_true_everywhere f p [] a.published l right (some_cube size a.published right) some among in (
      (λ fixed b good. both.0 fixed b (good_long size b good) (record { given = refl; good = good })),
      (λ inner. both.1 (λ b long wanted. inner b wanted.good)),
    )

module _ (size : ℕ) (before now : SinkView) (a : ArrangedView) where
  pub drill_ends : (status status' : Status) → Searches (drill_input size) None status a → WritesDrill before now status a status' → EndsDrill size before now status' a
  drill_ends status status' s (inl (is, front)) =
      subst (λ x. EndsDrill size before now x a) (sym is) (record { book = s.book; says = tt; fixed = are_fixed size a s.book; written = front })
  drill_ends Finished status' s (inr (is, out)) =
      subst (λ x. EndsDrill size before now x a) (sym is) (record { book = s.book; says = s.says; fixed = are_fixed size a s.book; written = out })
  drill_ends OutOfMemory status' s (inr (is, out)) =
      subst (λ x. EndsDrill size before now x a) (sym is) (record { book = s.book; says = s.says; fixed = are_fixed size a s.book; written = out })
  drill_ends BudgetSpent status' s (inr (is, out)) = absurd s.ends
  drill_ends WordsRefused status' s (inr (is, out)) = absurd s.ends
  drill_ends (InputRefused r) status' s (inr (is, out)) = absurd s.ends
  drill_ends (ReadFault line) status' s (inr (is, out)) = absurd s.ends
  drill_ends WriteFault status' s (inr (is, out)) = absurd s.ends
  drill_ends (CheckedNo v) status' s (inr (is, out)) = absurd s.ends

  pub drill_completes : (status status' : Status) → Searches (drill_input size) None status a → WritesDrill before now status a status' → ¬ Rose before.faults now.faults →
      (status' ≡ Finished) ⊎ (status' ≡ OutOfMemory)
  drill_completes status status' s (inl (is, front)) calm = absurd (calm front.rose)
  drill_completes Finished status' s (inr (is, out)) calm = inl is
  drill_completes OutOfMemory status' s (inr (is, out)) calm = inr is
  drill_completes BudgetSpent status' s (inr (is, out)) calm = absurd s.ends
  drill_completes WordsRefused status' s (inr (is, out)) calm = absurd s.ends
  drill_completes (InputRefused r) status' s (inr (is, out)) calm = absurd s.ends
  drill_completes (ReadFault line) status' s (inr (is, out)) calm = absurd s.ends
  drill_completes WriteFault status' s (inr (is, out)) calm = absurd s.ends
  drill_completes (CheckedNo v) status' s (inr (is, out)) calm = absurd s.ends

  pub no_words : (status status' : Status) → Searches (drill_input size) None status a → WritesDrill before now status a status' → status' ≢ WordsRefused
  no_words status status' s (inl (is, front)) e = (let bad : WriteFault ≡ WordsRefused = sym is ∙ e in cc)
  no_words Finished status' s (inr (is, out)) e = (let bad : Finished ≡ WordsRefused = sym is ∙ e in cc)
  no_words OutOfMemory status' s (inr (is, out)) e = (let bad : OutOfMemory ≡ WordsRefused = sym is ∙ e in cc)
  no_words BudgetSpent status' s (inr (is, out)) e = s.ends
  no_words WordsRefused status' s (inr (is, out)) e = s.ends
  no_words (InputRefused r) status' s (inr (is, out)) e = s.ends
  no_words (ReadFault line) status' s (inr (is, out)) e = s.ends
  no_words WriteFault status' s (inr (is, out)) e = s.ends
  no_words (CheckedNo v) status' s (inr (is, out)) e = s.ends
