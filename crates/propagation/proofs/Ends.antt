-- How propagation begins and ends, and what a lemma leaves.
use Rattle.std.proofs.Common.{◌≡◌, ℕ, ◌+◌, ◌*◌, ◌<◌, ◌≤◌, true, List, [], ◌∷◌, length, get_or, take, ℤ, refl, sym, ap, subst, ◌∙◌, inl, inr, arith, take_all}
use Rattle.std.specs.List.{All}
use Rattle.std.proofs.lemmas.Bool.{cases_lt}
use Rattle.std.proofs.lemmas.List.{length-take, get_or-take}
use Rattle.sat_terms.specs.Literals.{IsLiteralOf}
use Rattle.chrono_trail.specs.declared.item.Item.{Item}
use Rattle.chrono_trail.specs.Trails.{TrailView, IsTrail}
use Rattle.watch_lists.specs.Views.{ListsView}
use Rattle.watch_lists.specs.Watching.{IsWatching, attached}
use Rattle.propagation.specs.declared.short.Short.{Short}
use Rattle.propagation.specs.declared.short.Short.TheVariants.{Held, Met, Wrong}
use Rattle.propagation.specs.Settled.{PropagatorView, HasDone, AreHeld, is_held}
use Rattle.propagation.specs.Steps.{Propagates, IsQuiet}
use Rattle.propagation.specs.Walking.{IsReady, IsSameBut, AreMet, AreShort, IsUnseenFor, marks_after}
use Rattle.propagation.proofs.Settled.{push_done, unseen_done}
use Rattle.propagation.proofs.Shorts.{met_from_held, met_steps, held_steps}
use Rattle.propagation.proofs.Quiet.{quiet}
use Rattle.propagation.proofs.Learning.{eased_learnt}

-- it begins with what the clauses of no or one literal left
pub begun : (clauses : List (List ℤ)) (p : PropagatorView) (old new : TrailView) → HasDone clauses p old → IsTrail new.variables new.items new.level →
    All (All (IsLiteralOf p.variables)) clauses → length p.lists.lists ≡ 2 * (p.variables + 1) → old.variables ≡ p.variables → IsSameBut old new → Propagates clauses old.items new.items →
    IsReady clauses p.lists new
begun clauses p old new h stands named count variables same steps =
    let after = push_done clauses p old new steps.added h steps.grows (let level = same.level in omega arith) same.seen in
    record {
      stands = stands;
      named = subst (λ n. All (All (IsLiteralOf n)) clauses) (sym (same.variables ∙ variables)) named;
      count = count ∙ ap (λ n. 2 * (n + 1)) (sym (same.variables ∙ variables));
      watching = h.watches.watching;
      marked = after.marked;
      eased = after.eased;
    }

pub stopped : (clauses : List (List ℤ)) (p : PropagatorView) (old new : TrailView) → HasDone clauses p old → IsSameBut old new → Propagates clauses old.items new.items → HasDone clauses p new
stopped clauses p old new h same steps = push_done clauses p old new steps.added h steps.grows (let level = same.level in omega arith) same.seen

-- it ends settled
ended : (clauses : List (List ℤ)) (p : PropagatorView) (mid last : TrailView) (short : Short) → ((id : ℕ) → short ≡ Wrong id → ⊥) → AreShort clauses mid.items short → p.known ≡ length clauses →
    IsReady clauses p.lists last → Propagates clauses mid.items last.items → HasDone clauses p (record last { seen = marks_after short last.seen })
ended clauses p mid last Held right held known ready steps = record {
  watches = record { known = known; watching = ready.watching };
  marked = ready.marked;
  eased = ready.eased;
  held = λ some. held_steps clauses mid.items last.items (length clauses) steps held;
}
ended clauses p mid last Met right met known ready steps = unseen_done clauses p (record last { seen = 0 }) (record { known = known; watching = ready.watching }) refl
ended clauses p mid last (Wrong id) right met known ready steps = absurd (right id refl)

pub end_done : (clauses : List (List ℤ)) (p : PropagatorView) (mid last new : TrailView) (short : Short) → ((id : ℕ) → short ≡ Wrong id → ⊥) → AreShort clauses mid.items short → p.known ≡ length clauses →
    IsReady clauses p.lists last → Propagates clauses mid.items last.items → new ≡ record last { seen = marks_after short last.seen } → HasDone clauses p new
end_done clauses p mid last new short right shorts known ready steps is =
    subst (HasDone clauses p) (sym is) (ended clauses p mid last short right shorts known ready steps)

are_met : (clauses : List (List ℤ)) (items : List Item) (short : Short) → ((id : ℕ) → short ≡ Wrong id → ⊥) → AreShort clauses items short → AreMet clauses items
are_met clauses items Held right held id inside short = met_from_held items (get_or clauses id []) (held id inside short)
are_met clauses items Met right met id inside short = met id inside short
are_met clauses items (Wrong wrong) right met id inside short = absurd (right wrong refl)

pub end_quiet : (clauses : List (List ℤ)) (v : ListsView) (mid last new : TrailView) (short : Short) → ((id : ℕ) → short ≡ Wrong id → ⊥) → AreShort clauses mid.items short →
    IsReady clauses v last → Propagates clauses mid.items last.items → last.seen ≡ length last.items → new ≡ record last { seen = marks_after short last.seen } → IsQuiet clauses new
end_quiet clauses v mid last new short right shorts ready steps seen is =
    let q = quiet clauses v last ready seen (met_steps clauses mid.items last.items (length clauses) steps (are_met clauses mid.items short right shorts)) in
    subst (IsQuiet clauses) (sym is) (record { none_false = q.none_false; lowest = q.lowest })

-- a lemma joins
pub learnt_done : (clauses : List (List ℤ)) (id : ℕ) (old new : PropagatorView) (before after : TrailView) → HasDone (take id clauses) old before → length clauses ≡ id + 1 →
    new.known ≡ length clauses → IsWatching new.lists (take (id + 1) clauses) → new.lists ≡ attached id (get_or clauses id []) old.lists →
    after.seen ≤ before.seen → after ≡ record before { seen = after.seen } → IsUnseenFor after (get_or clauses id []) → HasDone clauses new after
learnt_done clauses id old new before after h long known watching joined fewer same unseen =
    let all : take (id + 1) clauses ≡ clauses = take_all (id + 1) clauses (omega arith) in
    let watches : IsWatching new.lists clauses = subst (IsWatching new.lists) all watching in
    let items_is : after.items ≡ before.items = ap (λ (t : TrailView). t.items) same in
    record {
      watches = record { known = known; watching = watches };
      marked = let count = ap (λ xs. length xs) items_is in let marked = h.marked in omega arith;
      eased = eased_learnt clauses id old.lists new.lists (get_or clauses id []) before after refl watches joined h.eased fewer same unseen;
      held = λ some. subst (AreHeld clauses) (sym items_is) (held some);
    }
  where
    none_marked : (c : List ℤ) → length c < 2 → IsUnseenFor after c → after.seen ≡ 0
    none_marked [] short h = h
    none_marked (l ∷ []) short h = h
    none_marked (l ∷ m ∷ c) short h = absurd (omega arith)

    held : 0 < after.seen → AreHeld clauses before.items
    held some at inside short = elim (cases_lt at id) [
      | inl older ↦
          let front : get_or (take id clauses) at [] ≡ get_or clauses at [] = get_or-take id clauses at [] older in
          let taken = length-take id clauses in
          subst (λ c. is_held before.items c ≡ true) front (h.held (omega arith) at (omega arith) (subst (λ c. length c < 2) (sym front) short))
      | inr last ↦
          let here : at ≡ id = omega arith in
          let none = none_marked (get_or clauses id []) (subst (λ j. length (get_or clauses j []) < 2) here short) unseen in
          absurd (omega arith)
    ]
