-- The benches of a pool, as their workers are given their passes.
use Rattle.std.proofs.Common.{◌≡◌, ◌≢◌, ℕ, ◌+◌, ◌-◌, ◌<◌, ◌≤◌, List, [], ◌∷◌, ◌++◌, set, get_or, length, map, take, drop, sym, ap, ◌∙◌, subst, arith, append_assoc, ⊎_elim}
use Rattle.std.specs.List.{slice_range}
use Rattle.std.proofs.lemmas.Bool.{cases_lt}
use Rattle.std.proofs.lemmas.List.{map-append, get_or-drop, take_more, set-get_or, get_or-set_same, get_or-set_other, length-map, length-drop}
use Rattle.std.proofs.Math.ListN.{get_or-map}
use Rattle.std.proofs.Math.Seq.{map-set_same}
use Rattle.atomic_blocks.specs.Lent.{RowsId}
use Rattle.steal_pool.specs.declared.rule.Hand.{Hand}
use Rattle.steal_pool.specs.declared.rule.Fair.{Fair}
use Rattle.steal_pool.specs.declared.other.Other.{Other}
use Rattle.steal_pool.specs.Stealing.{Visit, visit_of, visits_of}
use Rattle.steal_pool.specs.Benches.{BenchView, new_visit, deques_of, visits_others}

-- A range that is one longer has one element more.
range_more : {X : Type 0} (xs : List X) (a k : ℕ) (d : X) → a ≤ k → k < length xs →
    slice_range xs a (k + 1) ≡ slice_range xs a k ++ get_or xs k d ∷ []
range_more {X} xs a k d low below =
    let rest : List X = drop a xs in
    let more : k + 1 - a ≡ (k - a) + 1 = omega arith in
    let here : a + (k - a) ≡ k = omega arith in
    let long = length-drop a xs in
    let inside : k - a < length rest = omega arith in
    ap (λ n. take n rest) more
    ∙ take_more rest (k - a) d inside
    ∙ ap (λ x. take (k - a) rest ++ x ∷ [])
    (get_or-drop a xs (k - a) d ∙ ap (λ n. get_or xs n d) here)

-- An element that is written back changes nothing.
pub unchanged : (bs is : List BenchView) (k : ℕ) (b d : BenchView) → bs ≡ is →
    b ≡ get_or bs k d → set bs k b ≡ is
unchanged bs is k b d same kept = ap (λ c. set bs k c) kept ∙ set-get_or bs k d ∙ same

-- One more pass is added, at the bench at the place k.
pub invited : (os : List (Other Hand Fair)) (o : Other Hand Fair) (olds : List (Visit Hand))
    (is bs : List BenchView) (a k : ℕ) (d : BenchView) → is ≡ bs → a ≤ k → k < length bs →
    visits_of os ≡ olds ++ map new_visit (slice_range (deques_of bs) a k) →
    visit_of o ≡ new_visit (get_or is k d).deque →
    visits_of (os ++ o ∷ []) ≡ olds ++ map new_visit (slice_range (deques_of bs) a (k + 1))
invited os o olds is bs a k d same low below known new =
    let deque : BenchView → RowsId = λ b. b.deque in
    let range : List RowsId = slice_range (deques_of bs) a k in
    let long = length-map bs deque in
    let more = range_more (deques_of bs) a k d.deque low (omega arith)
    ∙ ap (λ x. range ++ x ∷ []) (get_or-map deque bs k d) in
    map-append visit_of os (o ∷ [])
    ∙ ap (λ vs. vs ++ visit_of o ∷ []) known
    ∙ append_assoc olds (map new_visit range) (visit_of o ∷ [])
    ∙ ap (λ v. olds ++ (map new_visit range ++ v ∷ []))
    (new ∙ ap (λ cs. new_visit (get_or cs k d).deque) same)
    ∙ ap (λ vs. olds ++ vs) (sym (map-append new_visit range ((get_or bs k d).deque ∷ [])))
    ∙ ap (λ ds. olds ++ map new_visit ds) (sym more)

-- The worker of the bench at the place k has its passes now, and so have those below.
pub seated : (bs : List BenchView) (k : ℕ) (b d : BenchView) (vs : List (Visit Hand)) →
    k < length bs → b ≡ record (get_or bs k d) { visits = vs } →
    vs ≡ visits_others k (deques_of bs) →
    ((j : ℕ) (e : BenchView) → j < k → (get_or bs j e).visits ≡ visits_others j (deques_of bs)) →
    (j : ℕ) (e : BenchView) → j < k + 1 →
    (get_or (set bs k b) j e).visits ≡ visits_others j (deques_of (set bs k b))
seated bs k b d vs below is given before j e less =
    let visits : BenchView → List (Visit Hand) = λ c. c.visits in
    let deque : BenchView → RowsId = λ c. c.deque in
    let same : deques_of (set bs k b) ≡ deques_of bs = map-set_same deque bs k b d (ap deque is) in
    ⊎_elim
    (λ (l : j < k).
    let other : j ≢ k = λ i. omega arith in
    ap visits (get_or-set_other bs k j b e other) ∙ before j e l
    ∙ ap (visits_others j) (sym same))
    (λ (h : k ≤ j).
    let here : k ≡ j = omega arith in
    subst
    (λ n. (get_or (set bs k b) n e).visits ≡ visits_others n (deques_of (set bs k b)))
    here
    (ap visits (get_or-set_same bs k b e below) ∙ ap visits is ∙ given
    ∙ ap (visits_others k) (sym same)))
    (cases_lt j k)
