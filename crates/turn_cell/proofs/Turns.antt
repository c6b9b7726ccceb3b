-- One turn, from the pass before it to the pass after it.
use Rattle.std.proofs.Common.{◌≡◌, ℕ, ◌+◌, ◌^◌, ◌<◌, ◌≤◌, List, [], ◌∷◌, ◌++◌, length, drop, refl, sym, ap, subst, ◌∙◌, inl, arith, Option, Some, None, true, ◌==◌, length-append}
use Rattle.std.specs.Prelude.{All}
use Rattle.std.proofs.lemmas.List.Elements.{filter-append}
use Rattle.atomic_table.specs.Table.{Me}
use Rattle.atomic_table.specs.declared.shared.Seat.{Seat}
use Rattle.turn_cell.specs.declared.rule.Claim.{Claim}
use Rattle.turn_cell.specs.declared.rule.View.{View}
use Rattle.turn_cell.specs.Rule.{entries_of}
use Rattle.turn_cell.specs.Steps.{claim_after, claims_after, first_claim, with_ticket, with_turn, with_journal, without_turn, Suits, HasGrown, HasEntered}
use Rattle.turn_cell.specs.Passes.{CellView, PassView, IsPassOf, IsDue, IsEntered, HasSeen}
use Rattle.turn_cell.specs.Idle.{claim_of, pass_view, IsIdleSeat}
use Rattle.turn_cell.proofs.Lists.{Contains-from_Has, Has, All-Has, drop_added, entries_all}

-- the pass p of the number n, with this seat, is idle before its turn
module _ {T E F : Type 0} (journal : T → List E) (pass_of : E → ℕ) (fixed : T → F) (cell : CellView F) (n : ℕ) (seat : Seat (Option T) (View E F)) (p : PassView E F)
    (view_is : pass_view n seat ≡ p) (idle : IsIdleSeat pass_of n seat) (mine : IsPassOf cell p) where
  pub number_is : n ≡ p.number
  number_is = ap (λ (q : PassView E F). q.number) view_is

  claims_are : seat.me.0.claims ≡ claim_of p ∷ []
  claims_are = idle.one_claim ∙ ap (λ (q : PassView E F). claim_of q ∷ []) view_is

  fixed_is : seat.me.0.fixed ≡ Some cell.fixed
  fixed_is = ap (λ (q : PassView E F). q.fixed) view_is ∙ mine.fixed

  -- a value that suits the seat is due to the pass
  pub found_due : (x : T) → Suits journal pass_of fixed seat.me.0 x → IsDue journal pass_of fixed cell p x
  found_due x suits = let has = subst (λ (cs : List (Claim E)). Has (claim_of p) cs) (sym claims_are) (inl refl) in let knew = suits.known (claim_of p) (Contains-from_Has seat.me.0.claims (claim_of p) has) in
      record { begins = knew.begins; own = sym knew.own; same = suits.same cell.fixed fixed_is }

  -- an entered value is no shorter
  pub no_shorter : (x y : T) → IsEntered journal pass_of fixed p.number x y → length (journal x) ≤ length (journal y)
  no_shorter x y entered = let longer = ap length entered.grows in let whole = length-append (journal x) entered.added in omega arith

  -- the turn found x and left y; lent is the seat in between, and after the seat at its end
  module _ (x y : T) (due : IsDue journal pass_of fixed cell p x) (entered : IsEntered journal pass_of fixed p.number x y)
      (lent : Me (Option T) (View E F)) (begun : HasEntered journal x seat.me lent) where
    counted : (k : ℕ) → length (journal y) ≡ length (journal x) + k → length entered.added ≡ k
    counted k sum = let longer = ap length entered.grows in let whole = length-append (journal x) entered.added in omega arith

    view_lent : lent.0 ≡ with_turn (journal x) (with_ticket begun.ticket seat.me.0)
    view_lent = ap (λ (m : Me (Option T) (View E F)). m.0) begun.now

    pub has_turn : lent.0.turn ≡ true
    has_turn = ap (λ (v : View E F). v.turn) view_lent

    pub slot_empty : lent.1 ≡ (0, None) ∷ []
    slot_empty = ap (λ (m : Me (Option T) (View E F)). m.1) begun.now

    claims_lent : lent.0.claims ≡ claim_of p ∷ []
    claims_lent = ap (λ (v : View E F). v.claims) view_lent ∙ claims_are

    pub one_claim : lent.0.claims ≡ first_claim lent.0.claims ∷ []
    one_claim = claims_lent ∙ ap (λ (cs : List (Claim E)). first_claim cs ∷ []) (sym claims_lent)

    grown : journal y ≡ lent.0.found ++ entered.added
    grown = entered.grows ∙ ap (λ (v : View E F). v.found ++ entered.added) (sym view_lent)

    numbered : All (λ e. pass_of e ≡ (first_claim lent.0.claims).pass) entered.added
    numbered = subst (λ (k : ℕ). All (λ e. pass_of e ≡ k) entered.added) (ap (λ (cs : List (Claim E)). (first_claim cs).pass) (sym claims_lent)) entered.number

    pub fixed_back : Some (fixed y) ≡ lent.0.fixed
    fixed_back = ap (λ (f : F). Some f) (entered.same ∙ due.same) ∙ (sym fixed_is ∙ ap (λ (v : View E F). v.fixed) (sym view_lent))

    -- the value that is left is fit to end the turn with
    pub has_grown : (k : ℕ) → length (journal y) ≡ length (journal x) + k → length (journal y) < 2 ^ 64 → HasGrown journal pass_of lent.0 k y
    has_grown k sum small = record { added = entered.added; grows = grown; fits = small; counted = counted k sum; numbers = numbered }

    module _ (after : Seat (Option T) (View E F)) (ended : after.me ≡ (without_turn (with_journal (journal y) lent.0), [])) where
      claims_now : after.me.0.claims ≡ claim_after (journal x) (journal y) (claim_of p) ∷ []
      claims_now = ap (λ (m : Me (Option T) (View E F)). m.0.claims) ended ∙ (ap (λ (v : View E F). (with_journal (journal y) v).claims) view_lent ∙ ap (claims_after (journal x) (journal y)) claims_are)

      own_now : p.own ++ drop (length (journal x)) (journal y) ≡ p.own ++ entered.added
      own_now = ap (λ (l : List E). p.own ++ l) (ap (drop (length (journal x))) entered.grows ∙ drop_added (journal x) entered.added)

      own_entries : p.own ++ entered.added ≡ entries_of pass_of p.number (journal y)
      own_entries = (λ i. sym due.own i ++ sym (entries_all pass_of p.number entered.added (All-Has (λ e. pass_of e ≡ p.number) entered.added entered.number)) i)
          ∙ (sym (filter-append (λ e. pass_of e == p.number) (journal x) entered.added) ∙ ap (entries_of pass_of p.number) (sym entered.grows))

      pub idle_after : IsIdleSeat pass_of n after
      idle_after = record {
        holds_nothing = ap (λ (m : Me (Option T) (View E F)). m.1) ended;
        no_ticket = ap (λ (m : Me (Option T) (View E F)). m.0.ticket) ended;
        no_turn = ap (λ (m : Me (Option T) (View E F)). m.0.turn) ended;
        one_claim = claims_now ∙ (λ i. (let c : Claim E = record { pass = sym number_is i; seen = (first_claim (sym claims_now i)).seen; own = (first_claim (sym claims_now i)).own } in c) ∷ []);
        own = ap (λ (cs : List (Claim E)). (first_claim cs).own) claims_now ∙ (own_now ∙ (own_entries ∙ (λ i. entries_of pass_of (sym number_is i) (first_claim (sym claims_now i)).seen)));
      }

      pub seen_after : HasSeen journal p (pass_view n after) y entered.added
      seen_after = record {
        number = number_is;
        seen = ap (λ (cs : List (Claim E)). (first_claim cs).seen) claims_now;
        own = ap (λ (cs : List (Claim E)). (first_claim cs).own) claims_now ∙ own_now;
      }
