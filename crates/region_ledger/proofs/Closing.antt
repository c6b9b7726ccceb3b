-- A ledger that is made, and one that is closed: nothing is held.
use Rattle.std.proofs.Common.{◌≡◌, ◌⊎◌, ℕ, ◌<◌, true, nat_eq, List, [], ◌∷◌, map, Option, Some, None, refl, sym, subst, ◌∙◌, inl, inr, ⊎_elim}
use Rattle.std.specs.List.{All, Contains}
use Rattle.std.proofs.lemmas.Bool.{cases_Bool, eqb-true}
use Rattle.std.proofs.lemmas.Cmp.{nat_eq_equiv}
use Rattle.std.proofs.lemmas.List.Elements.{All-nil, All-cons}
use mathlib.Core.List.{IsPrefix}
use Rattle.turn_cell.specs.Rule.{entries_of}
use Rattle.turn_cell.specs.Passes.{new_pass}
use Rattle.turn_cell.proofs.Lists.{Has, Has-from_Contains, All-Has}
use Rattle.sat_terms.specs.declared.subject.Subject.{Subject}
use Rattle.checkpoint.specs.declared.saved.Saved.{Saved}
use Rattle.region_book.specs.declared.event.Event.{Event}
use Rattle.region_book.specs.Machine.{Pending}
use Rattle.region_book.specs.Machine.{is_pass, held_by, pass_of}
use Rattle.region_book.specs.Starts.{start_of}
use Rattle.region_book.specs.Books.{BookView, state_of}
use Rattle.region_book.specs.Journalled.{basis_of}
use Rattle.region_book.proofs.Others.{numbered_is_free, others_keep}
use Rattle.region_ledger.specs.Hands.{LedgerView, HandView, subject_of, saved_lines_of, IsFreeHand}
use Rattle.region_ledger.proofs.Turns.{due_held}

-- no pass holds anything at the start
start_free : (h : ℕ) (subject : Subject) (saved : Option Saved) → held_by h (start_of subject saved).pending ≡ []
start_free h subject None = numbered_is_free h 0 0 (subject.under ∷ [])
start_free h subject (Some lines) = numbered_is_free h 0 0 lines.pending

pub new_is_free : (l : LedgerView) (k : ℕ) (p : HandView) → p ≡ new_pass l k → k < l.passes → l.fixed.2 ≡ l.passes → IsFreeHand l p
new_is_free l k p is below same = subst (IsFreeHand l) (sym is) (record {
  hand = record {
    pass = record { table = refl; number = below; fixed = refl };
    number = subst (λ n. k < n) (sym same) below;
    own = refl;
    legal = tt;
  };
  free = start_free k (subject_of l) (saved_lines_of l);
})

-- ---- at the end

-- the list has none of the pass h, or some
entry_or_none : (h : ℕ) (events : List Event) → (entries_of pass_of h events ≡ []) ⊎ ((e : Event) × Has e events × (pass_of e ≡ h))
entry_or_none h [] = inl refl
entry_or_none h (e ∷ events) = elim (cases_Bool (nat_eq (pass_of e) h)) [
  | inl own ↦ inr (e, inl refl, eqb-true (pass_of e) h own)
  | inr other ↦ ⊎_elim
      (λ (none : entries_of pass_of h events ≡ []). inl (rw other none))
      (λ (some : (d : Event) × Has d events × (pass_of d ≡ h)). inr (some.0, inr some.1, some.2))
      (entry_or_none h events)
]

has_pass : (n : ℕ) (ps : List HandView) → Has n (map (λ (p : HandView). p.number) ps) → (p : HandView) × Has p ps × (p.number ≡ n)
has_pass n [] has = absurd has
has_pass n (p ∷ ps) has = ⊎_elim
    (λ (here : p.number ≡ n). (p, inl refl, here))
    (λ (there : Has n (map (λ (p : HandView). p.number) ps)). let rest = has_pass n ps there in (rest.0, inr rest.1, rest.2))
    has

-- where no pass holds any, nobody does
nobody_holds : (ps : List Pending) → ((h : ℕ) → held_by h ps ≡ []) → All (λ q. q.holder ≡ None) ps
nobody_holds [] none = All-nil (λ q. q.holder ≡ None)
nobody_holds (q ∷ ps) none =
    let here : q.holder ≡ None = by_holder q.holder refl in
    All-cons (λ q. q.holder ≡ None) q ps here (nobody_holds ps (λ h. let rest : held_by h (q ∷ ps) ≡ [] = none h in rw here at rest))
  where
    by_holder : (o : Option ℕ) → q.holder ≡ o → q.holder ≡ None
    by_holder None e = e
    by_holder (Some h) e = absurd (let mine : is_pass h q.holder ≡ true = rw e (nat_eq_equiv.refl h) in let fact : held_by h (q ∷ ps) ≡ [] = none h in let bad : q ∷ held_by h ps ≡ [] = rw mine at fact in cc)

module _ (l : LedgerView) (ps : List HandView) (b : BookView) (basis : basis_of b ≡ l.fixed)
    (free : All (IsFreeHand l) ps) (seen : All (λ p. IsPrefix p.seen b.journal) ps)
    (own : All (λ p. entries_of pass_of p.number b.journal ≡ p.own) ps)
    (entries : All (λ e. Contains (map (λ (p : HandView). p.number) ps) (pass_of e)) b.journal) where
  pass_holds_none : (p : HandView) → Has p ps → held_by p.number (state_of b).pending ≡ []
  pass_holds_none p has =
      let hand = All-Has (IsFreeHand l) ps free p has in
      due_held l p hand.hand b (record {
        begins = All-Has (λ p. IsPrefix p.seen b.journal) ps seen p has;
        own = All-Has (λ p. entries_of pass_of p.number b.journal ≡ p.own) ps own p has;
        same = basis;
      }) ∙ hand.free

  number_holds_none : (h : ℕ) → held_by h (state_of b).pending ≡ []
  number_holds_none h = ⊎_elim
      (λ (none : entries_of pass_of h b.journal ≡ []). others_keep h 1 b.journal (start_of b.subject b.saved) none ∙ start_free h b.subject b.saved)
      (λ (some : (e : Event) × Has e b.journal × (pass_of e ≡ h)).
      let numbers = map (λ (p : HandView). p.number) ps in
      let mine = All-Has (λ e. Contains numbers (pass_of e)) b.journal entries some.0 some.1 in
      let one = has_pass (pass_of some.0) ps (Has-from_Contains numbers (pass_of some.0) mine) in
      subst (λ n. held_by n (state_of b).pending ≡ []) (one.2 ∙ some.2) (pass_holds_none one.0 one.1))
      (entry_or_none h b.journal)

  pub closed_free : All (λ q. q.holder ≡ None) (state_of b).pending
  closed_free = nobody_holds (state_of b).pending number_holds_none
