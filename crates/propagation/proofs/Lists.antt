-- A walk over the list of a literal, while watches leave it.
use Rattle.std.proofs.Common.{◌≡◌, ◌≢◌, ℕ, suc, ◌<◌, true, false, cond, nat_eq, List, [], ◌∷◌, ◌++◌, length, append_assoc, append-nil, ℤ, Option, Some, None, refl, sym, ap, subst, ◌∙◌, inl, inr, arith}
use Rattle.std.proofs.lemmas.Bool.{both_ways, or_cases, or_left, or_right, eq-eqb, ne_eqb, eqb-true}
use Rattle.std.proofs.lemmas.List.Folds.{list_any-append}
use Rattle.sat_terms.specs.CubeOrder.{key}
use Rattle.sat_terms.proofs.Keys.{same_from_key}
use Rattle.chrono_trail.specs.Trails.{TrailView}
use Rattle.chrono_trail.specs.Clauses.{is_true, is_false}
use Rattle.watch_lists.specs.declared.watch.Watch.{Watch}
use Rattle.watch_lists.specs.Places.{has, AreApart}
use Rattle.watch_lists.specs.Views.{ListsView, Stands, list_of, lit_of, partner, moved, head_of, follower, IsPlaced}
use Rattle.watch_lists.specs.Watching.{WalksOn}
use Rattle.watch_lists.proofs.Seen.{member_stands}
use Rattle.watch_lists.proofs.Walks.{walks_on, before_differ}
use Rattle.watch_lists.proofs.Watching.{moved_keeps}
use Rattle.propagation.specs.Steps.{Propagates}
use Rattle.propagation.specs.Walking.{IsReady, IsSameBut, IsVisited, IsPassed}
use Rattle.propagation.proofs.Truths.{true_more, false_more}
use Rattle.propagation.proofs.Watched.{two_of, IsOneOfTwo, partner_back}

-- the walk stands at the first of the later watches; the other literals of the passed ones are true
pub record IsWalking (clauses : List (List ℤ)) (v : ListsView) (trail : TrailView) (l : ℤ) (next : Option Watch) : Type 0 where
  pub passed : List ℕ
  pub later : List ℕ
  pub ready : IsReady clauses v trail
  pub list : list_of v (key l) ≡ passed ++ later
  pub stands_at : next ≡ head_of later
  pub done : (n : ℕ) → has n passed ≡ true → is_true trail.items (lit_of v (partner n)) ≡ true
  pub wrong : is_false trail.items l ≡ true

pub walk_starts : (clauses : List (List ℤ)) (v : ListsView) (trail : TrailView) (l : ℤ) (next : Option Watch) → IsReady clauses v trail →
    is_false trail.items l ≡ true → next ≡ head_of (list_of v (key l)) → IsWalking clauses v trail l next
walk_starts clauses v trail l next ready wrong first = record {
  passed = [];
  later = list_of v (key l);
  ready = ready;
  list = refl;
  stands_at = first;
  done = λ n h. absurd (both_ways false refl h);
  wrong = wrong;
}

-- how many watches are left
abbrev pub remaining : List ℕ → ℕ → ℕ
remaining [] n = 0
remaining (x ∷ xs) n = cond (nat_eq n x) (suc (length xs)) (remaining xs n)

abbrev pub to_go : List ℕ → Option Watch → ℕ
to_go xs None = 0
to_go xs (Some w) = remaining xs w.place

remaining_is : (passed : List ℕ) (n : ℕ) (later : List ℕ) → AreApart (passed ++ n ∷ later) → remaining (passed ++ n ∷ later) n ≡ suc (length later)
remaining_is [] n later apart = rw (eq-eqb n n refl) refl
remaining_is (x ∷ xs) n later apart = rw (ne_eqb n x (before_differ x n xs later apart.0)) (remaining_is xs n later apart.1)

to_go_is : (passed later : List ℕ) → AreApart (passed ++ later) → to_go (passed ++ later) (head_of later) ≡ length later
to_go_is passed [] apart = refl
to_go_is passed (n ∷ later) apart = remaining_is passed n later apart

pub left_is : (clauses : List (List ℤ)) (v : ListsView) (trail : TrailView) (l : ℤ) (next : Option Watch) (w : IsWalking clauses v trail l next) →
    to_go (list_of v (key l)) next ≡ length w.later
left_is clauses v trail l next w =
    ap (to_go (list_of v (key l))) w.stands_at ∙ ap (λ xs. to_go xs (head_of w.later)) w.list
    ∙ to_go_is w.passed w.later (subst AreApart w.list (w.ready.watching.placed.apart (key l)))

-- a watch of the list watches its literal
pub record IsOf (v : ListsView) (l : ℤ) (n : ℕ) : Type 0 where
  pub stands : Stands v n
  pub lit : lit_of v n ≡ l

pub member_of : (v : ListsView) (l : ℤ) (n : ℕ) → IsPlaced v → has n (list_of v (key l)) ≡ true → IsOf v l n
member_of v l n placed h = record {
  stands = member_stands v (key l) n placed h;
  lit = same_from_key (lit_of v n) l (placed.key (key l) n h);
}

has_front : (n : ℕ) (xs ys : List ℕ) → has n xs ≡ true → has n (xs ++ ys) ≡ true
has_front n xs ys h = list_any-append (nat_eq n) xs ys ∙ or_left (has n xs) (has n ys) h

has_back : (n : ℕ) (xs ys : List ℕ) → has n ys ≡ true → has n (xs ++ ys) ≡ true
has_back n xs ys h = list_any-append (nat_eq n) xs ys ∙ or_right (has n xs) (has n ys) h

has_first : (n : ℕ) (xs : List ℕ) → has n (n ∷ xs) ≡ true
has_first n xs = or_left (nat_eq n n) (has n xs) (eq-eqb n n refl)

-- the later watches begin with the one at hand
begins : (later : List ℕ) (w : Watch) → Some w ≡ head_of later → (rest : List ℕ) × (later ≡ w.place ∷ rest)
begins [] w h = cc
begins (x ∷ xs) w h = (xs, (let same : w ≡ record { place = x } = cc in ap (λ p. p ∷ xs) (sym (ap (λ (y : Watch). y.place) same))))

pub at_hand : (clauses : List (List ℤ)) (v : ListsView) (trail : TrailView) (l : ℤ) (w : Watch) → IsWalking clauses v trail l (Some w) → IsOf v l w.place
at_hand clauses v trail l w h =
    let (rest, is) = begins h.later w h.stands_at in
    member_of v l w.place h.ready.watching.placed
    (ap (has w.place) (h.list ∙ ap (λ xs. h.passed ++ xs) is) ∙ has_back w.place h.passed (w.place ∷ rest) (has_first w.place rest))

-- one watch further
pub record IsFurther (clauses : List (List ℤ)) (v : ListsView) (trail : TrailView) (l : ℤ) (next : Option Watch) (count : ℕ) : Type 0 where
  pub walking : IsWalking clauses v trail l next
  pub shorter : length walking.later < count

module _ (clauses : List (List ℤ)) (v : ListsView) (trail : TrailView) (l : ℤ) (w : Watch) (h : IsWalking clauses v trail l (Some w)) (next : Option Watch) (rest : List ℕ) (is : h.later ≡ w.place ∷ rest)
    (follows : next ≡ follower (list_of v (key (lit_of v w.place))) w.place) (new : TrailView) (steps : Propagates clauses trail.items new.items) where
  hand : IsOf v l w.place
  hand = at_hand clauses v trail l w h

  parts : list_of v (key l) ≡ h.passed ++ w.place ∷ rest
  parts = h.list ∙ ap (λ xs. h.passed ++ xs) is

  on : WalksOn v (key l) h.passed w.place rest
  on = walks_on v (key l) h.passed w.place rest h.ready.watching.placed parts

  next_is : next ≡ head_of rest
  next_is = follows ∙ ap (λ k. follower (list_of v k) w.place) (ap key hand.lit) ∙ on.next

  still : (x : ℤ) → is_true trail.items x ≡ true → is_true new.items x ≡ true
  still x true_x = subst (λ xs. is_true xs x ≡ true) (sym steps.grows) (true_more trail.items steps.added x true_x)

  off : is_false new.items l ≡ true
  off = subst (λ xs. is_false xs l ≡ true) (sym steps.grows) (false_more trail.items steps.added l h.wrong)

  long : length h.later ≡ suc (length rest)
  long = ap length is

  pub kept : IsReady clauses v new → is_true new.items (lit_of v (partner w.place)) ≡ true → IsFurther clauses v new l next (length h.later)
  kept ready true_other = record {
    walking = record {
      passed = h.passed ++ w.place ∷ [];
      later = rest;
      ready = ready;
      list = parts ∙ sym (append_assoc h.passed (w.place ∷ []) rest);
      stands_at = next_is;
      done = λ n member. elim (or_cases (has n h.passed) (has n (w.place ∷ [])) (sym (list_any-append (nat_eq n) h.passed (w.place ∷ [])) ∙ member)) [
        | inl before ↦ still (lit_of v (partner n)) (h.done n before)
        | inr here ↦ elim (or_cases (nat_eq n w.place) false here) [
          | inl same ↦ subst (λ m. is_true new.items (lit_of v (partner m)) ≡ true) (sym (eqb-true n w.place same)) true_other
          | inr none ↦ absurd (both_ways false refl none)
        ]
      ];
      wrong = off;
    };
    shorter = let count = long in omega arith;
  }

  pub left_list : (t : ℤ) → key t ≢ key (lit_of v w.place) → IsReady clauses (moved v w.place t) new → IsFurther clauses (moved v w.place t) new l next (length h.later)
  left_list t away ready = record {
    walking = record {
      passed = h.passed;
      later = rest;
      ready = ready;
      list = on.stay t (λ e. away (e ∙ sym (ap key hand.lit)));
      stands_at = next_is;
      done = λ n member. subst (λ x. is_true new.items x ≡ true) (sym (lit_stays n member)) (still (lit_of v (partner n)) (h.done n member));
      wrong = off;
    };
    shorter = let count = long in omega arith;
  }
    where
      two : IsOneOfTwo v clauses w.place
      two = two_of v clauses w.place h.ready.watching hand.stands

      lit_stays : (n : ℕ) → has n h.passed ≡ true → lit_of (moved v w.place t) (partner n) ≡ lit_of v (partner n)
      lit_stays n member = (moved_keeps v w.place (partner n) t (λ same.
          let mine : IsOf v l n = member_of v l n h.ready.watching.placed (ap (has n) h.list ∙ has_front n h.passed h.later member) in
          two.differ (hand.lit ∙ sym mine.lit ∙ ap (lit_of v) (sym (partner_back n) ∙ ap partner same)))).lit

pub walks_further : (clauses : List (List ℤ)) (v v' : ListsView) (trail new : TrailView) (l : ℤ) (w : Watch) (next : Option Watch) (h : IsWalking clauses v trail l (Some w)) →
    next ≡ follower (list_of v (key (lit_of v w.place))) w.place → Propagates clauses trail.items new.items → IsReady clauses v' new → IsVisited v v' new.items w.place →
    IsFurther clauses v' new l next (length h.later)
walks_further clauses v v' trail new l w next h follows steps ready (inl (same, true_other)) =
    let (rest, is) = begins h.later w h.stands_at in
    subst (λ u. IsFurther clauses u new l next (length h.later)) (sym same)
    (kept clauses v trail l w h next rest is follows new steps (subst (λ u. IsReady clauses u new) same ready) true_other)
walks_further clauses v v' trail new l w next h follows steps ready (inr (t, (away, is_moved))) =
    let (rest, is) = begins h.later w h.stands_at in
    subst (λ u. IsFurther clauses u new l next (length h.later)) (sym is_moved)
    (left_list clauses v trail l w h next rest is follows new steps t away (subst (λ u. IsReady clauses u new) is_moved ready))

-- at the end each watch of the list was passed
ended : (later : List ℕ) → None ≡ head_of later → later ≡ []
ended [] h = refl
ended (x ∷ xs) h = cc

pub walk_ends : (clauses : List (List ℤ)) (v : ListsView) (trail : TrailView) (l : ℤ) → IsWalking clauses v trail l None → IsPassed v trail.items l
walk_ends clauses v trail l h n stands same =
    let all : list_of v (key l) ≡ h.passed = h.list ∙ ap (λ xs. h.passed ++ xs) (ended h.later h.stands_at) ∙ append-nil h.passed in
    let member : has n (list_of v (key l)) ≡ true = subst (λ x. has n (list_of v (key x)) ≡ true) same stands in
    h.done n (sym (ap (has n) all) ∙ member)

pub same_but : (old mid new : TrailView) → IsSameBut old mid → IsSameBut mid new → IsSameBut old new
same_but old mid new a b = record { variables = b.variables ∙ a.variables; level = b.level ∙ a.level; seen = b.seen ∙ a.seen }
