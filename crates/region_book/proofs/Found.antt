-- The first prefix that passes a test, and what stands in its place after an edit.
use Rattle.std.proofs.Common.{◌≡◌, Bool, true, List, [], ◌∷◌, ◌++◌, Some, None, refl, ap, subst, ◌∙◌, inl, inr}
use Rattle.std.specs.List.{All, find}
use Rattle.std.proofs.lemmas.Bool.{cases_Bool}
use Rattle.std.proofs.lemmas.List.{map-append}
use Rattle.std.proofs.lemmas.List.Elements.{All-nil, All-cons, All-head, All-tail, All-append}
use Rattle.region_book.specs.Machine.{Pending}
use Rattle.region_book.specs.Machine.{prefixes_of, edit_first}

-- q is the first that passes: what stands before and after it stays at an edit
pub record Splits (test : Pending → Bool) (ps : List Pending) (q : Pending) : Type 0 where
  pub before : List Pending
  pub after : List Pending
  pub was : ps ≡ before ++ q ∷ after
  pub edit : (change : Pending → List Pending) → edit_first test change ps ≡ before ++ (change q ++ after)
  pub passes : test q ≡ true

pub found_splits : (test : Pending → Bool) (ps : List Pending) (q : Pending) → find test ps ≡ Some q → Splits test ps q
found_splits test [] q h = absurd (let none : None ≡ Some q = h in cc)
found_splits test (r ∷ ps) q h = elim (cases_Bool (test r)) [
  | inl e ↦
      let same : Some r ≡ Some q = rw e at h in
      let one : r ≡ q = cc in
      subst (λ x. Splits test (r ∷ ps) x) one (record { before = []; after = ps; was = refl; edit = λ change. rw e refl; passes = e })
  | inr e ↦
      let rest : Splits test ps q = found_splits test ps q (rw e at h) in
      record {
        before = r ∷ rest.before;
        after = rest.after;
        was = ap (λ x. r ∷ x) rest.was;
        edit = λ change. rw e (ap (λ x. r ∷ x) (rest.edit change));
        passes = rest.passes;
      }
]

-- where none passes, an edit changes nothing
pub none_edits : (test : Pending → Bool) (change : Pending → List Pending) (ps : List Pending) → find test ps ≡ None → edit_first test change ps ≡ ps
none_edits test change [] h = refl
none_edits test change (r ∷ ps) h = elim (cases_Bool (test r)) [
  | inl e ↦ absurd (let bad : Some r ≡ None = rw e at h in cc)
  | inr e ↦ rw e (ap (λ x. r ∷ x) (none_edits test change ps (rw e at h)))
]

-- an edit that puts one of the same prefix in place of each keeps the prefixes
pub same_prefixes : (test : Pending → Bool) (change : Pending → List Pending) → ((q : Pending) → prefixes_of (change q) ≡ q.prefix ∷ []) → (ps : List Pending) → prefixes_of (edit_first test change ps) ≡ prefixes_of ps
same_prefixes test change same [] = refl
same_prefixes test change same (q ∷ ps) = elim (cases_Bool (test q)) [
  | inl e ↦ rw e (map-append (λ r. r.prefix) (change q) ps ∙ ap (λ x. x ++ prefixes_of ps) (same q))
  | inr e ↦ rw e (ap (λ x. q.prefix ∷ x) (same_prefixes test change same ps))
]

-- what holds of each, and of what stands in the place of one
pub All-edited : (P : Pending → Type 0) (test : Pending → Bool) (change : Pending → List Pending) → ((q : Pending) → P q → All P (change q)) → (ps : List Pending) → All P ps → All P (edit_first test change ps)
All-edited P test change keeps [] all = All-nil P
All-edited P test change keeps (q ∷ ps) all = elim (cases_Bool (test q)) [
  | inl e ↦ rw e (All-append P (change q) ps (keeps q (All-head P q ps all)) (All-tail P q ps all))
  | inr e ↦ rw e (All-cons P q (edit_first test change ps) (All-head P q ps all) (All-edited P test change keeps ps (All-tail P q ps all)))
]
