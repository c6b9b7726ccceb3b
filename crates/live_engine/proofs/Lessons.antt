-- A lemma joins the clauses, and may turn a decision over.
use Rattle.std.proofs.Common.{◌≡◌, IfSome, ℕ, ◌+◌, ◌-◌, ◌<◌, ◌≤◌, Bool, true, false, cond, List, [], ◌∷◌, ◌++◌, length, get_or, take, filter, find, Option, Some, None, ℤ, pos, neg_ℤ, refl, sym, ap, subst, subst₂, ◌∙◌, append-nil, length-append, arith, All}
use Rattle.std.proofs.lemmas.List.{take_all, take-append-le, get_or_push}
use Rattle.std.proofs.lemmas.List.Elements.{All-nil, All-push}
use Rattle.sat_terms.specs.Literals.{IsLiteralOf}
use Rattle.sat_terms.specs.Cubes.{has_literal}
use Rattle.sat_terms.specs.Truth.{sat_clause}
use Rattle.search_region.specs.Steady.{Follows}
use Rattle.clause_arena.specs.Clauses.{Clauses}
use Rattle.chrono_trail.specs.declared.item.Kind.TheVariants.{Turned}
use Rattle.chrono_trail.specs.declared.item.Item.{Item}
use Rattle.chrono_trail.specs.Items.{decides, is_upto}
use Rattle.chrono_trail.specs.Trails.{TrailView, IsTrail, seen_back}
use Rattle.chrono_trail.specs.Clauses.{IsReason, rest_level}
use Rattle.propagation.specs.Settled.{PropagatorView, IsSettled}
use Rattle.propagation.proofs.Settled.{settled_back}
use Rattle.projected_decide.specs.Orders.{OrderView, HasPassed}
use Rattle.conflict_analysis.specs.Lemmas.{IsLearnt, negation_in}
use Rattle.conflict_analysis.proofs.Reasons.{asserting_is_reason}
use Rattle.live_engine.specs.declared.search.Search.{Search}
use Rattle.live_engine.specs.declared.learning.Taught.{Taught}
use Rattle.live_engine.specs.Values.{AreCopied}
use Rattle.live_engine.specs.Searching.{search_formula, IsGround}
use Rattle.live_engine.specs.Steps.{TakesBack, MayTurn}
use Rattle.live_engine.specs.Learning.{TurnsAt, Teaches, AssertsBelow, TakesUp, Forgets}
use Rattle.live_engine.proofs.Looks.{all_tests}
use Rattle.live_engine.proofs.Others.{IsBack}

-- ---- what is learnt

-- what follows from the clauses follows from the formula
pub learnt_follows : (s : Search) → IsGround s → (c : List ℤ) → Follows s.arena.clauses c → Follows (search_formula s) c
learnt_follows s g c follows t model =
    follows t (all_tests (Follows (search_formula s)) (sat_clause t) (λ d h. h t model) s.arena.clauses g.follow)

picked : (b : Bool) (x y : ℤ) → Some x ≡ cond b (Some y) None → x ≡ y
picked true x y e = cc
picked false x y e = cc

-- a literal that is asserted is the decision's negation, and the lemma is a reason for it
turns_at : (clauses : List (List ℤ)) (n : ℕ) (items : List Item) (level id : ℕ) (lits : List ℤ) (k r : ℕ) (x : ℤ) → IsTrail n items level →
    IsLearnt clauses n items id lits k r (Some x) → (m : ℕ) → m ≡ r → m < k → TurnsAt items k lits m
turns_at clauses n items level id lits k r x trail learnt m at below = record {
  below = below;
  reason = λ d i found lit same.
      asserting_is_reason clauses n items level id lits k r x i trail learnt (omega arith)
      (lit ∙ sym (picked (has_literal lits (neg_ℤ d.lit)) x (neg_ℤ d.lit) (learnt.asserts ∙ ap (negation_in lits) found))) (same ∙ at);
}

pub learnt_turns : (clauses : List (List ℤ)) (n : ℕ) (items : List Item) (level id : ℕ) (lits : List ℤ) (k r : ℕ) (x : Option ℤ) → IsTrail n items level →
    IsLearnt clauses n items id lits k r x → (m : ℕ) → AssertsBelow x r k (Some m) → TurnsAt items k lits m
learnt_turns clauses n items level id lits k r x trail learnt m (y, some, at, below) =
    turns_at clauses n items level id lits k r y trail (subst (IsLearnt clauses n items id lits k r) some learnt) m at below

pub learnt_below : (clauses : List (List ℤ)) (n : ℕ) (items : List Item) (level id : ℕ) (lits : List ℤ) (k r : ℕ) (x : Option ℤ) → IsTrail n items level →
    IsLearnt clauses n items id lits k r x → (o : Option ℕ) → AssertsBelow x r k o → IfSome o (TurnsAt items k lits)
learnt_below clauses n items level id lits k r x trail learnt None below = tt
learnt_below clauses n items level id lits k r x trail learnt (Some m) below = learnt_turns clauses n items level id lits k r x trail learnt m below

-- what was learnt is taught
pub teaches : (old : Search) → IsGround old → (new : Search) (arena : Clauses) (id lemma : ℕ) (lits : List ℤ) (k r : ℕ) (x : Option ℤ) (level : Option ℕ) →
    IsLearnt old.arena.clauses old.trail.variables old.trail.items id lits k r x → AssertsBelow x r k level →
    lemma ≡ length old.arena.clauses → arena.clauses ≡ old.arena.clauses ++ lits ∷ [] → arena.base ≡ old.arena.base → new ≡ record old { arena = arena } →
    Teaches old new (rest_level old.trail.items (pos 0) (get_or old.arena.clauses id [])) (record { id = lemma; level = level })
teaches old g new arena id lemma lits k r x level learnt below at clauses base rest =
    let same = ap (λ (s : Search). s.arena) rest in
    record {
      clause = lits;
      follows = learnt_follows old g lits learnt.resolvent.follows;
      named = subst (λ n. All (IsLiteralOf n) lits) g.trail learnt.resolvent.named;
      clauses = ap (λ (a : Clauses). a.clauses) same ∙ clauses;
      base = ap (λ (a : Clauses). a.base) same ∙ base;
      id = at;
      turns = subst (λ n. IfSome level (TurnsAt old.trail.items n lits)) learnt.conflict
          (learnt_below old.arena.clauses old.trail.variables old.trail.items old.trail.level id lits k r x g.stands learnt level below);
      rest = rest ∙ ap (λ (a : Clauses). record old { arena = a }) (sym same);
    }

-- ---- the levels are taken back

module _ (old : Search) (g : IsGround old) (a mid : Search) (level k : ℕ) (taught : Taught) (d : Item) (teaches : Teaches old a k taught) (takes : TakesBack a mid level d) where
  arena : mid.arena ≡ a.arena
  arena = ap (λ (s : Search). s.arena) takes.rest

  clauses : mid.arena.clauses ≡ old.arena.clauses ++ teaches.clause ∷ []
  clauses = ap (λ (x : Clauses). x.clauses) arena ∙ teaches.clauses

  base : mid.arena.base ≡ old.arena.base
  base = ap (λ (x : Clauses). x.base) arena ∙ teaches.base

  trail : a.trail ≡ old.trail
  trail = ap (λ (s : Search). s.trail) teaches.rest

  propagator : mid.propagator ≡ old.propagator
  propagator = ap (λ (s : Search). s.propagator) takes.rest ∙ ap (λ (s : Search). s.propagator) teaches.rest

  pub taught_decided : find (decides level) old.trail.items ≡ Some d
  taught_decided = subst (λ (t : TrailView). find (decides level) t.items ≡ Some d) trail takes.decided

  pub taught_items : mid.trail.items ≡ filter (is_upto (level - 1)) old.trail.items
  taught_items = takes.items ∙ ap (λ (t : TrailView). filter (is_upto (level - 1)) t.items) trail

  pub taught_variables : mid.trail.variables ≡ old.trail.variables
  taught_variables = takes.variables ∙ ap (λ (t : TrailView). t.variables) trail

  order : mid.order ≡ record old.order { from = mid.order.from }
  order = takes.order ∙ ap (λ (s : Search). record s.order { from = mid.order.from }) teaches.rest

  copied : AreCopied mid.trail.items mid.copied old.values.items
  copied = subst (λ (s : Search). AreCopied mid.trail.items mid.copied s.values.items) teaches.rest takes.copied

  rest : mid ≡ record old { arena = mid.arena; trail = mid.trail; order = mid.order; copied = mid.copied }
  rest =
      takes.rest
      ∙ ap (λ (s : Search). record s { trail = mid.trail; order = mid.order; copied = mid.copied }) teaches.rest
      ∙ ap (λ (x : Clauses). record old { arena = x; trail = mid.trail; order = mid.order; copied = mid.copied }) (sym arena)

  -- the lemma aside, the propagator has done what it has to
  settled : IsSettled old.arena.clauses mid.propagator mid.trail
  settled = subst (λ p. IsSettled old.arena.clauses p mid.trail) (sym propagator)
      (settled_back old.arena.clauses old.propagator old.trail mid.trail (level - 1) g.settled taught_variables taught_items takes.current
      (takes.seen ∙ ap (seen_back (level - 1)) trail))

  front : take taught.id mid.arena.clauses ≡ old.arena.clauses
  front =
      ap (take taught.id) clauses
      ∙ ap (λ n. take n (old.arena.clauses ++ teaches.clause ∷ [])) teaches.id
      ∙ take-append-le (length old.arena.clauses) old.arena.clauses (teaches.clause ∷ []) (omega arith)
      ∙ take_all (length old.arena.clauses) old.arena.clauses (omega arith)

  pub taught_settled : IsSettled (take taught.id mid.arena.clauses) mid.propagator mid.trail
  taught_settled = subst (λ xs. IsSettled xs mid.propagator mid.trail) (sym front) settled

  -- the lemma is there, and no clause after it
  pub taught_last : length mid.arena.clauses ≡ taught.id + 1
  taught_last = let long = length-append old.arena.clauses (teaches.clause ∷ []) in let same = ap length clauses in let at = teaches.id in omega arith

  module _ (b : Search) where
    -- it is taken up
    pub kept_back : TakesUp mid b taught.id → IsBack old b level d
    kept_back up =
        let same_arena = ap (λ (s : Search). s.arena) up.rest in
        let same_order = ap (λ (s : Search). s.order) up.rest in
        let same_items = ap (λ (t : TrailView). t.items) up.trail in
        let long = taught_last in
        let known = up.known in
        let places = up.places in
        record {
          decided = taught_decided;
          items = same_items ∙ taught_items;
          current = ap (λ (t : TrailView). t.level) up.trail ∙ takes.current;
          variables = ap (λ (t : TrailView). t.variables) up.trail ∙ taught_variables;
          passed = subst₂ HasPassed (sym same_items) (sym same_order) takes.passed;
          order = same_order ∙ order ∙ ap (λ (o : OrderView). record old.order { from = o.from }) (sym same_order);
          more = teaches.clause ∷ [];
          clauses = ap (λ (x : Clauses). x.clauses) same_arena ∙ clauses;
          base = ap (λ (x : Clauses). x.base) same_arena ∙ base;
          named = All-push (All (IsLiteralOf old.variables)) [] teaches.clause (All-nil (All (IsLiteralOf old.variables))) teaches.named;
          follow = All-push (Follows (search_formula old)) [] teaches.clause (All-nil (Follows (search_formula old))) teaches.follows;
          propagator = up.variables ∙ ap (λ (p : PropagatorView). p.variables) propagator;
          known = subst (λ (x : Clauses). b.propagator.known ≡ length x.clauses) (sym same_arena) (omega arith);
          places = subst (λ (x : Clauses). length x.clauses ≤ b.propagator.places) (sym same_arena) (omega arith);
          settled = subst (λ (x : Clauses). IsSettled x.clauses b.propagator b.trail) (sym same_arena) up.settled;
          rest = up.rest
              ∙ ap (λ (s : Search). record s { propagator = b.propagator; trail = b.trail }) rest
              ∙ ap (λ (s : Search). record old { arena = s.arena; propagator = b.propagator; trail = b.trail; order = s.order; copied = s.copied }) (sym up.rest);
          copied = subst₂ (λ xs n. AreCopied xs n old.values.items) (sym same_items) (sym (ap (λ (s : Search). s.copied) up.rest)) copied;
        }

    -- it went away again
    pub lost_back : Forgets mid b taught.id → IsBack old b level d
    lost_back lost =
        let same_arena : b.arena ≡ old.arena = ap (λ (s : Search). s.arena) lost
        ∙ ap (λ (xs : List (List ℤ)). record { clauses = xs; base = mid.arena.base }) front
        ∙ ap (λ (n : ℕ). record { clauses = old.arena.clauses; base = n }) base in
        let same_trail = ap (λ (s : Search). s.trail) lost in
        let same_order = ap (λ (s : Search). s.order) lost in
        let same_propagator = ap (λ (s : Search). s.propagator) lost ∙ propagator in
        record {
          decided = taught_decided;
          items = ap (λ (t : TrailView). t.items) same_trail ∙ taught_items;
          current = ap (λ (t : TrailView). t.level) same_trail ∙ takes.current;
          variables = ap (λ (t : TrailView). t.variables) same_trail ∙ taught_variables;
          passed = subst₂ (λ (t : TrailView) o. HasPassed t.items o) (sym same_trail) (sym same_order) takes.passed;
          order = same_order ∙ order ∙ ap (λ (o : OrderView). record old.order { from = o.from }) (sym same_order);
          more = [];
          clauses = ap (λ (x : Clauses). x.clauses) same_arena ∙ sym (append-nil old.arena.clauses);
          base = ap (λ (x : Clauses). x.base) same_arena;
          named = All-nil (All (IsLiteralOf old.variables));
          follow = All-nil (Follows (search_formula old));
          propagator = ap (λ (p : PropagatorView). p.variables) same_propagator;
          known = ap (λ (p : PropagatorView). p.known) same_propagator ∙ g.known ∙ ap (λ (x : Clauses). length x.clauses) (sym same_arena);
          places = subst₂ (λ (x : Clauses) (p : PropagatorView). length x.clauses ≤ p.places) (sym same_arena) (sym same_propagator) g.places;
          settled = subst₂ (λ (x : Clauses) (t : TrailView). IsSettled x.clauses b.propagator t) (sym same_arena) (sym same_trail)
              (subst (λ p. IsSettled old.arena.clauses p mid.trail) (sym (ap (λ (s : Search). s.propagator) lost)) settled);
          rest = lost
              ∙ ap (λ (s : Search). record s { arena = record { clauses = take taught.id mid.arena.clauses; base = mid.arena.base } }) rest
              ∙ ap (λ (p : PropagatorView). record old { arena = record { clauses = take taught.id mid.arena.clauses; base = mid.arena.base }; propagator = p; trail = mid.trail; order = mid.order; copied = mid.copied }) (sym propagator)
              ∙ ap (λ (s : Search). record old { arena = s.arena; propagator = s.propagator; trail = s.trail; order = s.order; copied = s.copied }) (sym lost);
          copied = subst₂ (λ (t : TrailView) n. AreCopied t.items n old.values.items) (sym same_trail) (sym (ap (λ (s : Search). s.copied) lost)) copied;
        }

    -- and it is a reason for the other side of the decision
    pub taught_turns : TakesUp mid b taught.id → (m : ℕ) → TurnsAt old.trail.items k teaches.clause m → k ≡ level →
        MayTurn b.arena.clauses (filter (is_upto (level - 1)) old.trail.items) level (record { lit = neg_ℤ d.lit; level = m; kind = Turned taught.id }) (Turned taught.id)
    taught_turns up m turns same =
        let i : Item = record { lit = neg_ℤ d.lit; level = m; kind = Turned taught.id } in
        let now = ap (λ (s : Search). s.arena.clauses) up.rest ∙ clauses in
        let here : get_or b.arena.clauses taught.id [] ≡ teaches.clause = ap (λ xs. get_or xs taught.id []) now
        ∙ ap (λ n. get_or (old.arena.clauses ++ teaches.clause ∷ []) n []) teaches.id ∙ get_or_push old.arena.clauses teaches.clause [] (length old.arena.clauses) refl in
        let below = turns.below in
        let long = taught_last in
        let same_length = ap (λ (s : Search). length s.arena.clauses) up.rest in (
          (omega arith),
          record {
            inside = omega arith;
            reason = subst (IsReason (filter (is_upto (level - 1)) old.trail.items) i) (sym here)
                (subst (λ n. IsReason (filter (is_upto (n - 1)) old.trail.items) i teaches.clause) same
                (turns.reason d i (subst (λ n. find (decides n) old.trail.items ≡ Some d) (sym same) taught_decided) refl refl));
          },
        )
