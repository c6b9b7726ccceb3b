-- An arranged book is a partition where its start is one.
use Rattle.std.proofs.Common.{◌≡◌, ◌≢◌, ℕ, suc, ◌^◌, ◌<◌, ◌≤◌, true, List, [], ◌∷◌, ◌++◌, length, get_or, ℤ, Option, Some, None, refl, sym, ap, subst, ◌∙◌, arith}
use Rattle.std.specs.List.{All}
use Rattle.std.specs.List.Sorted.{IsPermutation}
use Rattle.std.proofs.lemmas.List.Elements.{All-weaker}
use Rattle.std.proofs.lemmas.List.Sorted.{All-permutation, IsPermutation-refl, IsPermutation-append, IsPermutation-map, list_any-IsPermutation, sum_by-IsPermutation}
use Rattle.std.proofs.lemmas.List.Recursion.{is_sum_by}
use Rattle.sat_terms.specs.Assignments.{assignment_of, lies_in}
use Rattle.sat_terms.specs.Cubes.{IsCube, rises_above, within}
use Rattle.sat_terms.specs.declared.subject.Subject.{Subject}
use Rattle.search_region.proofs.Counts.{hit_any, one_hit, hits_permuted, apart_from_counts, counts_from_apart}
use Rattle.search_job.specs.Weights.{weight, weights}
use Rattle.search_job.proofs.Weights.{weight_some, weights-append}
use Rattle.sat_terms.specs.Subjects.{IsShown}
use Rattle.prefix_jobs.proofs.Space.{apart_cubes_weigh_little}
use Rattle.checkpoint.specs.declared.saved.Saved.{Saved}
use Rattle.region_book.specs.Machine.{Pending}
use Rattle.region_book.specs.Machine.{prefixes_of, numbered, AreLegal}
use Rattle.region_book.specs.Partition.{IsPartition}
use Rattle.region_book.specs.Starts.{start_of, CanBegin}
use Rattle.region_book.specs.Books.{state_of}
use Rattle.region_book.specs.Arranged.{ArrangedView, IsArranged}
use Rattle.region_book.specs.Laws.{KeepsPartition, BeginsWhole, IsWhole}
use Rattle.region_book.proofs.Begin.{start_is_partition}
use Rattle.region_book.proofs.Kept.{All_front, All_back, events_keep_partition}
use Rattle.region_book.proofs.Whole.{inside_given, nothing_pending_is_right}

-- ---- the order of the lists

pub order_keeps_partition : (f : List (List ℤ)) (p : List ℕ) (u : List ℤ) (published pending others rest : List (List ℤ)) →
    IsPartition f p u published pending → IsPermutation published others → IsPermutation pending rest → IsPartition f p u others rest
order_keeps_partition f p u published pending others rest part one two =
    let both = IsPermutation-append published others pending rest one two in
    let over = All-permutation (IsCube p) (published ++ pending) (others ++ rest) both part.over in
    let rising = λ (cs : List (List ℤ)) (all : All (IsCube p) cs). All-weaker (IsCube p) (λ c. rises_above 0 c ≡ true) (λ c h. h.rising) cs all in
    record {
      over = over;
      disjoint = apart_from_counts (others ++ rest) (rising (others ++ rest) over)
          (λ t. subst (λ n. n ≤ 1) (sym (hits_permuted t (published ++ pending) (others ++ rest) both))
          (counts_from_apart t (published ++ pending) (rising (published ++ pending) part.over) part.disjoint));
      sound = λ a long some. part.sound a long (list_any-IsPermutation (lies_in p a) published others one ∙ some);
      cover = λ a long wanted. sym (list_any-IsPermutation (lies_in p a) (published ++ pending) (others ++ rest) both) ∙ part.cover a long wanted;
      inside = All-permutation (λ q. within q u ≡ true) pending rest two part.inside;
    }

weights_permuted : (n : ℕ) (cs ds : List (List ℤ)) → IsPermutation cs ds → weights n ds ≡ weights n cs
weights_permuted n cs ds perm =
    is_sum_by (weights n) (weight n) refl (λ c rest. refl) ds
    ∙ sum_by-IsPermutation (weight n) cs ds perm
    ∙ sym (is_sum_by (weights n) (weight n) refl (λ c rest. refl) cs)

-- ---- the start

prefixes_of_numbered : (j i : ℕ) (cs : List (List ℤ)) → prefixes_of (numbered j i cs) ≡ cs
prefixes_of_numbered j i [] = refl
prefixes_of_numbered j i (c ∷ cs) = ap (λ x. c ∷ x) (prefixes_of_numbered j (suc i) cs)

start_part : (s : Subject) (saved : Option Saved) → IsCube s.shown s.under → BeginsWhole s saved →
    IsPartition s.formula.clauses s.shown s.under (start_of s saved).published (prefixes_of (start_of s saved).pending)
start_part s None cube whole = start_is_partition s.formula.clauses s.shown s.under cube
start_part s (Some saved) cube whole =
    subst (λ ps. IsPartition s.formula.clauses s.shown s.under saved.cubes ps) (sym (prefixes_of_numbered 0 0 saved.pending)) whole

-- what a partition has pending weighs no more than the space
pending_weigh_little : (n : ℕ) (f : List (List ℤ)) (p : List ℕ) (u : List ℤ) (published pending : List (List ℤ)) → IsShown n p → IsPartition f p u published pending → weights (length p) pending ≤ 2 ^ length p
pending_weigh_little n f p u published pending shown part =
    let all = apart_cubes_weigh_little p (published ++ pending) shown.rising (All-weaker (λ v. (0 < v) × (v ≤ n)) (λ v. 0 < v) (λ v h. h.0) p shown.named) part.over part.disjoint in
    let parts = weights-append (length p) published pending in
    omega arith

start_spent : (s : Subject) (saved : Option Saved) → (start_of s saved).spent ≡ 0
start_spent s None = refl
start_spent s (Some saved) = refl

-- ---- the parts of a partition

pub published_over : (f : List (List ℤ)) (p : List ℕ) (u : List ℤ) (published pending : List (List ℤ)) → IsPartition f p u published pending → All (IsCube p) published
published_over f p u published pending part = All_front (IsCube p) published pending part.over

pub pending_over : (f : List (List ℤ)) (p : List ℕ) (u : List ℤ) (published pending : List (List ℤ)) → IsPartition f p u published pending → All (IsCube p) pending
pending_over f p u published pending part = All_back (IsCube p) published pending part.over

pub published_inside : (f : List (List ℤ)) (p : List ℕ) (u : List ℤ) (published pending : List (List ℤ)) → IsCube p u → IsPartition f p u published pending → All (λ c. within c u ≡ true) published
published_inside f p u published pending cube part k d place =
    inside_given p u cube (get_or published k d) (published_over f p u published pending part k d place)
    (λ a long lies. (part.sound a long (hit_any (assignment_of p a) published (one_hit (assignment_of p a) published k d place lies))).given)

-- prefixes that are pending hold some assignment
pub pending_weighs : (n : ℕ) (ps : List Pending) → ps ≢ [] → 0 < weights n (prefixes_of ps)
pending_weighs n [] some = absurd (some refl)
pending_weighs n (q ∷ ps) some = let one = weight_some n q.prefix in omega arith

-- ---- the arranged book

pub arranged_is_whole : (a : ArrangedView) → CanBegin a.book.subject a.book.saved a.book.passes → IsArranged a →
    AreLegal a.book.subject.formula.clauses a.book.subject.shown 1 a.book.journal (start_of a.book.subject a.book.saved) →
    BeginsWhole a.book.subject a.book.saved →
    IsWhole a.book.subject (state_of a.book).spent a.published (prefixes_of a.pending)
arranged_is_whole a can arranged legal whole =
    let s = a.book.subject in
    let f = s.formula.clauses in
    let begin = start_of s a.book.saved in
    let of = can.subject_is in
    let start = start_part s a.book.saved of.under whole in
    let kept : KeepsPartition f s.shown s.under begin (state_of a.book) = events_keep_partition f s.shown s.under 1 a.book.journal begin start legal in
    let moved = IsPermutation-map (λ (q : Pending). q.prefix) (state_of a.book).pending a.pending arranged.pending in
    let part = order_keeps_partition f s.shown s.under (state_of a.book).published (prefixes_of (state_of a.book).pending) a.published (prefixes_of a.pending) kept.partition arranged.published moved in
    let same = weights_permuted (length s.shown) (prefixes_of (state_of a.book).pending) (prefixes_of a.pending) moved in
    let paid = kept.paid in
    let none = start_spent s a.book.saved in
    let few = pending_weigh_little s.formula.variables f s.shown s.under begin.published (prefixes_of begin.pending) of.shown start in
    record {
      partition = part;
      paid = omega arith;
      right = λ nothing. nothing_pending_is_right f s.shown s.under a.published a.published of.under
          (subst (λ ps. IsPartition f s.shown s.under a.published ps) nothing part) (IsPermutation-refl a.published) arranged.published_sorted;
    }
