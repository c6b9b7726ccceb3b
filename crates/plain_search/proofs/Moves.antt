-- The moves of the search over its trail: an item more, and a decision that is flipped.
use Rattle.std.proofs.Common.{◌≡◌, ℕ, ◌+◌, ◌<◌, ◌≤◌, Bool, true, false, ◌&&◌, ◌||◌, ℤ, pos, neg_ℤ, nat_abs, List, [], ◌∷◌, ◌++◌, length, get_or, take, Some, None, is_some, refl, sym, ap, subst, ◌∙◌, inl, inr, arith, All, ◌-◌, ◌^◌, nat_eq, nat_lt, nat_le, filter, find, subst₂}
use Rattle.std.specs.List.{list_any, list_all}
use Rattle.std.specs.Ordering.{int_eq}
use Rattle.std.proofs.lemmas.Bool.{and_parts, and_from, or_cases, or_left, or_right, eqb-true, le-leb, leb-true, lt-ltb}
use Rattle.std.proofs.lemmas.List.{take_more, take_all}
use Rattle.std.proofs.lemmas.List.Elements.{All-push, All-weaker}
use Rattle.sat_terms.specs.declared.subject.Subject.{Subject}
use Rattle.sat_terms.specs.Literals.{IsLiteralOf}
use Rattle.sat_terms.specs.Cubes.{is_among, IsCube}
use Rattle.sat_terms.proofs.CubeLemmas.{All-literal, nat_abs-neg}
use Rattle.search_region.specs.Trail as picture
use Rattle.search_region.specs.Running.{Running}
use Rattle.search_region.specs.Work.{work}
use Rattle.search_region.proofs.Literals.{all_weaker, none_both}
use Rattle.search_region.proofs.Imply.{clause_follows, imply_keeps_running}
use Rattle.search_region.proofs.Decide.{decide_keeps_running}
use Rattle.search_region.proofs.ReadCube.{all_among, read_cube_of, read_cube_is_cube}
use Rattle.search_region.proofs.Work.{work_push, work_turn}
use Rattle.chrono_trail.specs.declared.item.Kind.TheVariants.{Decided, Implied, Flipped}
use Rattle.chrono_trail.specs.declared.item.Item.{Item}
use Rattle.chrono_trail.specs.Items.{item_of, is_upto, decides, is_within, IsDecisionAt}
use Rattle.chrono_trail.specs.Trails.{TrailView, IsTrail}
use Rattle.chrono_trail.specs.Clauses.{is_false, is_or_false, IsUnit, IsAtRest}
use Rattle.chrono_trail.specs.Pictures.{pictured, picture_of, kind_of}
use Rattle.chrono_trail.proofs.Back.{all_low}
use Rattle.chrono_trail.proofs.Pictures.{picture-push, false_by-picture, is_assigned-picture, back-picture}
use Rattle.plain_search.specs.declared.search.Search.{Search}
use Rattle.plain_search.specs.declared.propagate.Propagated.{Propagated}
use Rattle.plain_search.specs.declared.propagate.Propagated.TheVariants.{Conflict, Moved, Quiet}
use Rattle.plain_search.specs.Walks.{HasReached, IsNextVariable}
use Rattle.plain_search.specs.Searching.{listed_trail, work_left, IsListing, ListsOn, Advances}
use Rattle.plain_search.specs.Steps.{RoundCameTo, HasFalseClause, Flips, FlipsOrEnds, cube_within, FindsLeast}
use Rattle.plain_search.proofs.Looks.{all_tests, reached_stays}
use Rattle.std.proofs.lemmas.Option.{slice_get-get_or}
use Rattle.search_region.specs.Steady.{Steady}
use Rattle.search_region.specs.Conflict.{is_false_upto}
use Rattle.search_region.specs.Model.{is_met, keeps_flips, reaches, are_named, CubeOf}
use Rattle.search_region.proofs.Agree.{levels_within}
use Rattle.search_region.proofs.Back.{steady_older}
use Rattle.search_region.proofs.Conflict.{conflict_keeps_running, conflict_closes}
use Rattle.search_region.proofs.Flip.{fine_decided}
use Rattle.search_region.proofs.Least.{least_reaches}
use Rattle.search_region.proofs.Root.{cases_le}
use Rattle.search_region.proofs.Model.{model_keeps_running, model_closes}
use Rattle.chrono_trail.proofs.Splits.{found_is, decisions_split}

any_within : (p q : Item → Bool) (items : List Item) → list_any p items ≡ true → list_all q items ≡ true →
    list_any (λ i. p i && q i) items ≡ true
any_within p q [] h all = h
any_within p q (i ∷ later) h all =
    let (now, rest) = and_parts (q i) (list_all q later) all in
    elim (or_cases (p i) (list_any p later) h) [
      | inl here ↦ or_left (p i && q i) (list_any (λ j. p j && q j) later) (and_from (p i) (q i) here now)
      | inr there ↦ or_right (p i && q i) (list_any (λ j. p j && q j) later) (any_within p q later there rest)
    ]

-- a false literal is so at the current level
pub false_below : (f : List (List ℤ)) (n : ℕ) (items : List Item) (level : ℕ) (l : ℤ) → IsTrail n items level →
    is_false items l ≡ true → picture.false_by level (picture_of f items) l ≡ true
false_below f n items level l t wrong =
    let current = t.current in
    false_by-picture f level items l
    ∙ any_within (λ i. int_eq l (neg_ℤ i.lit)) (is_upto level) items wrong (all_low 0 level items t.stands (omega arith))

module _ (s : Subject) where
  -- where the picture runs on with an item more, so does the search, with less to do
  pushed_runs : (old new : Search) (e : Item) → IsListing s old → new.trail.items ≡ old.trail.items ++ e ∷ [] →
      new.trail.level ≡ picture.depth (pictured s.formula.clauses e ∷ listed_trail s old) →
      new.trail.variables ≡ old.trail.variables → new.pairs ≡ old.pairs → new.found ≡ old.found →
      HasReached old.trail.items s.shown new.reached → IsLiteralOf s.formula.variables e.lit →
      item_of old.trail.items (nat_abs e.lit) ≡ None →
      Running s.formula.clauses (is_among s.shown) 0 [] (pictured s.formula.clauses e ∷ listed_trail s old) old.found.items →
      ListsOn s old new
  pushed_runs old new e h grown level variables pairs found reached named free running = record {
    searching = record {
      subject = h.subject;
      running = subst (λ trail. Running s.formula.clauses (is_among s.shown) 0 [] trail new.found.items) (sym now)
          (subst (λ x. Running s.formula.clauses (is_among s.shown) 0 [] (pictured s.formula.clauses e ∷ listed_trail s old) x.items) (sym found) running);
      current = level ∙ ap picture.depth (sym now);
      variables = variables ∙ h.variables;
      pairs = ap (λ x. x.items) pairs ∙ h.pairs;
      reached = subst (λ items. HasReached items s.shown new.reached) (sym grown)
          (reached_stays old.trail.items (e ∷ []) s.shown new.reached reached);
      cubes = rw found h.cubes;
    };
    less = subst (λ trail. work s.formula.variables trail < work_left s old) (sym now)
        (work_push s.formula.variables (pictured s.formula.clauses e) (listed_trail s old) named.0 named.1
        (is_assigned-picture s.formula.clauses (nat_abs e.lit) old.trail.items ∙ ap is_some free));
  }
    where
      now : listed_trail s new ≡ pictured s.formula.clauses e ∷ listed_trail s old
      now = ap (picture_of s.formula.clauses) grown ∙ picture-push s.formula.clauses old.trail.items e

  -- the literal of a unit clause of the formula
  pub unit_named : (search : Search) (place : ℕ) (l : ℤ) → IsListing s search → place < length s.formula.clauses →
      IsUnit search.trail.items l (get_or s.formula.clauses place []) → IsLiteralOf s.formula.variables l
  unit_named search place l h inside unit =
      All-literal (IsLiteralOf s.formula.variables) (get_or s.formula.clauses place []) l
      (h.subject.formula.named place [] inside) unit.among

  -- is implied on the current level
  pub implied_runs : (old : Search) (trail : TrailView) (place : ℕ) (l : ℤ) → IsListing s old →
      IsTrail old.trail.variables old.trail.items old.trail.level → place < length s.formula.clauses →
      IsUnit old.trail.items l (get_or s.formula.clauses place []) →
      trail.items ≡ old.trail.items ++ record { lit = l; level = old.trail.level; kind = Implied place } ∷ [] →
      trail.level ≡ old.trail.level → trail.variables ≡ old.trail.variables →
      ListsOn s old (record old { trail = trail })
  implied_runs old trail place l h t inside unit grown level variables =
      let e : Item = record { lit = l; level = old.trail.level; kind = Implied place } in
      let named = unit_named old place l h inside unit in
      let wrong = picture.false_by old.trail.level (listed_trail s old) in
      pushed_runs old (record old { trail = trail }) e h grown (level ∙ h.current) variables refl refl h.reached named unit.free
      (imply_keeps_running s.formula.clauses (is_among s.shown) 0 [] (listed_trail s old) old.found.items (pictured s.formula.clauses e)
      (get_or s.formula.clauses place []) h.running refl (let current = h.current in omega arith) named.0
      (is_assigned-picture s.formula.clauses (nat_abs l) old.trail.items ∙ ap is_some unit.free)
      (clause_follows s.formula.clauses place [] inside)
      (all_weaker (is_or_false old.trail.items l) (λ m. int_eq m l || wrong m)
      (λ m g. elim (or_cases (int_eq m l) (is_false old.trail.items m) g) [
        | inl same ↦ or_left (int_eq m l) (wrong m) same
        | inr off ↦ or_right (int_eq m l) (wrong m)
            (false_below s.formula.clauses old.trail.variables old.trail.items old.trail.level m t off)
      ]) (get_or s.formula.clauses place []) unit.rest))

  -- the decision of a variable, false on a new level
  pub decided_runs : (old new : Search) (x : ℕ) → IsListing s old →
      IsNextVariable old.trail.items s.formula.variables s.shown (Some x) →
      new.trail.items ≡ old.trail.items ++ record { lit = neg_ℤ (pos x); level = old.trail.level + 1; kind = Decided } ∷ [] →
      new.trail.level ≡ old.trail.level + 1 → new.trail.variables ≡ old.trail.variables → new.pairs ≡ old.pairs →
      new.found ≡ old.found → HasReached old.trail.items s.shown new.reached → ListsOn s old new
  decided_runs old new x h next grown level variables pairs found reached =
      let e : Item = record { lit = neg_ℤ (pos x); level = old.trail.level + 1; kind = Decided } in
      let same : nat_abs (neg_ℤ (pos x)) ≡ x = nat_abs-neg (pos x) in
      let named : IsLiteralOf s.formula.variables (neg_ℤ (pos x)) = (rw same next.0, rw same next.1) in
      let free = ap (item_of old.trail.items) same ∙ next.2 in
      pushed_runs old new e h grown level variables pairs found reached named free
      (decide_keeps_running s.formula.clauses (is_among s.shown) 0 [] (listed_trail s old) old.found.items
      (pictured s.formula.clauses e) h.running refl (let current = h.current in omega arith) named.0
      (is_assigned-picture s.formula.clauses (nat_abs (neg_ℤ (pos x))) old.trail.items ∙ ap is_some free)
      (λ hides v shows. is_assigned-picture s.formula.clauses v old.trail.items
      ∙ all_among (λ y. is_some (item_of old.trail.items y)) s.shown (next.3 (subst (λ y. is_among s.shown y ≡ false) same hides)) v shows))

-- ---- a round over the clauses

-- what it has come to after k clauses
abbrev pub HasComeTo : Subject → Search → Search → ℕ → Propagated → Type 0
HasComeTo s old new k Conflict = ⊥
HasComeTo s old new k Moved = work_left s new < work_left s old
HasComeTo s old new k Quiet = All (IsAtRest new.trail.items) (take k s.formula.clauses)

-- one more clause that is at rest
pub round_rests : (s : Subject) (old new : Search) (k : ℕ) (propagated : Propagated) → k < length s.formula.clauses →
    HasComeTo s old new k propagated → IsAtRest new.trail.items (get_or s.formula.clauses k []) →
    HasComeTo s old new (k + 1) propagated
round_rests s old new k Conflict inside before rest = before
round_rests s old new k Moved inside before rest = before
round_rests s old new k Quiet inside before rest =
    rw (take_more s.formula.clauses k [] inside)
    (All-push (IsAtRest new.trail.items) (take k s.formula.clauses) (get_or s.formula.clauses k []) before rest)

pub round_ends : (s : Subject) (old new : Search) (k : ℕ) (propagated : Propagated) → length s.formula.clauses ≤ k →
    HasComeTo s old new k propagated → RoundCameTo s old new propagated
round_ends s old new k Conflict past h = absurd h
round_ends s old new k Moved past h = h
round_ends s old new k Quiet past h = subst (All (IsAtRest new.trail.items)) (take_all k s.formula.clauses past) h

-- the literals of a formula are of variables from 1 on
named_formula : (n : ℕ) (f : List (List ℤ)) → All (All (IsLiteralOf n)) f → are_named f ≡ true
named_formula n =
    all_tests (All (IsLiteralOf n)) (list_all (λ l. nat_lt 0 (nat_abs l)))
    (all_tests (IsLiteralOf n) (λ l. nat_lt 0 (nat_abs l)) (λ l k. lt-ltb 0 (nat_abs l) k.0))

-- the decision of a level is found, and its literal is one of a variable
pub decision_at : (t : TrailView) (xs : List Item) (level place : ℕ) (d : Item) → IsTrail t.variables t.items t.level →
    IsDecisionAt level t.items place → xs ≡ t.items →
    (find (decides level) t.items ≡ Some (get_or xs place d)) × (nat_abs (get_or xs place d).lit < 2 ^ 31)
decision_at t xs level place d trail there same =
    let decided = there.found ∙ slice_get-get_or t.items place d there.inside ∙ ap (λ ys. Some (get_or ys place d)) (sym same) in
    let named = found_is (decides level) (is_within t.variables) t.items (get_or xs place d) decided trail.within in
    let low = leb-true (nat_abs (get_or xs place d).lit) t.variables
    (and_parts (nat_lt 0 (nat_abs (get_or xs place d).lit)) (nat_le (nat_abs (get_or xs place d).lit) t.variables) named).1 in
    let few = trail.small in
    (decided, omega arith)

-- the cube c holds what is needed of the trail up to level k
record IsEnough (s : Subject) (k : ℕ) (trail : List picture.Item) (c : List ℤ) : Type 0 where
  keeps : keeps_flips (is_among s.shown) k trail ≡ true
  met : list_all (is_met (is_among s.shown) k trail) s.formula.clauses ≡ true
  cube : CubeOf (is_among s.shown) k trail c

module _ (s : Subject) where
  -- where the picture runs on with the decision turned over, so does the search, with less to do
  flipped_runs : (old mid new : Search) (level : ℕ) → IsListing s old → mid.trail ≡ old.trail →
      mid.pairs ≡ old.pairs → All (IsCube s.shown) mid.found.items → Flips mid new level →
      ((newer : List picture.Item) (d : picture.Item) (older : List picture.Item) →
      listed_trail s old ≡ newer ++ d ∷ older → d.kind ≡ picture.Decided → d.level ≡ level →
      Running s.formula.clauses (is_among s.shown) 0 [] (picture.turn_over newer d older) mid.found.items) →
      ListsOn s old new
  flipped_runs old mid new level h trail pairs cubes flips runs =
      let splits = decisions_split s.formula.clauses mid.trail.items level flips.decision flips.decided in
      let newer = picture_of s.formula.clauses splits.after in
      let d = pictured s.formula.clauses flips.decision in
      let older = picture_of s.formula.clauses splits.before in
      let decided = ap (kind_of s.formula.clauses) splits.kind in
      let parts : listed_trail s old ≡ newer ++ d ∷ older = ap (λ t. picture_of s.formula.clauses t.items) (sym trail) ∙ splits.picture in
      let steady = subst (Steady s.formula.clauses (is_among s.shown)) parts h.running.steady in
      let opens = (fine_decided s.formula.clauses (is_among s.shown) d older
      (steady_older s.formula.clauses (is_among s.shown) newer (d ∷ older) steady).0 decided).opens in
      let on = splits.level in
      let below : level - 1 ≡ picture.depth older = omega arith in
      let turned = runs newer d older parts decided on in
      let now : listed_trail s new ≡ picture.turn_over newer d older =
      ap (picture_of s.formula.clauses) flips.items
      ∙ picture-push s.formula.clauses (filter (is_upto (level - 1)) mid.trail.items)
      (record { lit = neg_ℤ d.lit; level = level - 1; kind = Flipped })
      ∙ ap (λ rest. record { lit = neg_ℤ d.lit; level = level - 1; kind = picture.Flipped } ∷ rest)
      (sym (back-picture s.formula.clauses (level - 1) mid.trail.items) ∙ ap (picture.back (level - 1)) splits.picture)
      ∙ ap (λ (k : ℕ). record { lit = neg_ℤ d.lit; level = k; kind = picture.Flipped } ∷ picture.back k (newer ++ d ∷ older)) below in
      record {
        searching = record {
          subject = h.subject;
          running = subst₂ (λ t x. Running s.formula.clauses (is_among s.shown) 0 [] t x.items) (sym now) (sym flips.found) turned;
          current = flips.current ∙ below ∙ turned.steady.0.kinds.stays ∙ sym (ap picture.depth now);
          variables = flips.variables ∙ ap (λ t. t.variables) trail ∙ h.variables;
          pairs = ap (λ x. x.items) (flips.pairs ∙ pairs) ∙ h.pairs;
          reached = record {
            shown = rw flips.shown_again refl;
            variables = λ v low high. (let none = flips.again in absurd (omega arith));
          };
          cubes = rw flips.found cubes;
        };
        less = subst₂ (λ a b. work s.formula.variables a < work s.formula.variables b) (sym now) (sym parts)
            (work_turn s.formula.variables s.formula.clauses (is_among s.shown) newer d (picture.flip (picture.depth older) d) older
            steady decided refl (nat_abs-neg d.lit));
      }

  -- an earlier search has more left
  runs_since : (first old new : Search) → work_left s old ≤ work_left s first → ListsOn s old new → ListsOn s first new
  runs_since first old new more on = let less = on.less in record { searching = on.searching; less = omega arith }

  -- ---- a conflict

  module _ (mid : Search) (h : IsListing s mid) (t : IsTrail mid.trail.variables mid.trail.items mid.trail.level)
      (wrong : HasFalseClause s.formula.clauses mid.trail.items) where
    false_now : is_false_upto mid.trail.level (listed_trail s mid) (get_or s.formula.clauses wrong.place []) ≡ true
    false_now = all_weaker (is_false mid.trail.items) (picture.false_by mid.trail.level (listed_trail s mid))
        (λ l g. false_below s.formula.clauses mid.trail.variables mid.trail.items mid.trail.level l t g)
        (get_or s.formula.clauses wrong.place []) wrong.wrong

    -- its decision is flipped, or at level 0 the search is over
    pub conflict_advances : (old new : Search) (more : Bool) → work_left s mid ≤ work_left s old →
        FlipsOrEnds mid new mid.trail.level more → Advances s old new more
    conflict_advances old new true less flips =
        runs_since old mid new less (flipped_runs mid mid new mid.trail.level h refl refl h.cubes flips
        (λ newer d older parts decided level. conflict_keeps_running s.formula.clauses (is_among s.shown) 0 [] newer d older mid.found.items
        (get_or s.formula.clauses wrong.place [])
        (subst (λ trail. Running s.formula.clauses (is_among s.shown) 0 [] trail mid.found.items) parts h.running) decided
        (let above = flips.above in omega arith)
        (clause_follows s.formula.clauses wrong.place [] wrong.inside)
        (subst₂ (λ k trail. is_false_upto k trail (get_or s.formula.clauses wrong.place []) ≡ true) (sym level) parts false_now)))
    conflict_advances old new false less ends = record {
      closed = rw ends.1 (conflict_closes s.formula.clauses (is_among s.shown) 0 [] mid.trail.level
          (get_or s.formula.clauses wrong.place []) (listed_trail s mid) mid.found.items h.running (let low = ends.0 in omega arith)
          (clause_follows s.formula.clauses wrong.place [] wrong.inside) false_now);
      cubes = rw ends.1 h.cubes;
    }

  -- ---- a model

  module _ (old mid : Search) (level : ℕ) (h : IsListing s old)
      (shrinks : FindsLeast s old mid level) where
    enough : IsEnough s level (listed_trail s old) (cube_within s old level)
    enough =
        let (keeps, met) = and_parts (keeps_flips (is_among s.shown) level (listed_trail s old))
        (list_all (is_met (is_among s.shown) level (listed_trail s old)) s.formula.clauses)
        (shrinks.least level ∙ le-leb level level (omega arith)) in
        record { keeps = keeps; met = met; cube = read_cube_of s.formula.clauses s.shown level (listed_trail s old) h.running.steady }

    all_cubes : All (IsCube s.shown) mid.found.items
    all_cubes = rw shrinks.found (All-push (IsCube s.shown) old.found.items
        (cube_within s old level) h.cubes
        (read_cube_is_cube (picture.upto level) (listed_trail s old) s.shown h.subject.shown.rising
        (All-weaker (λ v. (0 < v) × (v ≤ s.formula.variables)) (λ v. 0 < v) (λ v k. k.0) s.shown h.subject.shown.named)))

    reached : 0 < level → reaches (is_among s.shown) level (listed_trail s old) ≡ true
    reached above = least_reaches (is_among s.shown) (listed_trail s old) s.formula.clauses level above shrinks.least

    -- the level is one of the trail's
    pub model_level : level ≤ old.trail.level
    model_level = elim (cases_le level old.trail.level) [
      | inl low ↦ low
      | inr above ↦ absurd (none_both (λ i. picture.seen (is_among s.shown) i && nat_eq i.level level) (picture.upto old.trail.level)
          (λ i on low. let same = eqb-true i.level level (and_parts (picture.seen (is_among s.shown) i) (nat_eq i.level level) on).1 in
          let le = leb-true i.level old.trail.level low in absurd (omega arith)) (listed_trail s old) (reached (omega arith))
          (levels_within s.formula.clauses (is_among s.shown) old.trail.level (listed_trail s old) h.running.steady
          (let current = h.current in omega arith)))
    ]

    -- its decision is flipped, or where no level is needed the search is over
    pub model_advances : (first new : Search) (more : Bool) → work_left s old ≤ work_left s first →
        FlipsOrEnds mid new level more → Advances s first new more
    model_advances first new true less flips =
        runs_since first old new less (flipped_runs old mid new level h shrinks.trail shrinks.pairs all_cubes flips
        (λ newer d older parts decided at.
        let now = subst₂ (λ k trail. IsEnough s k trail (cube_within s old level)) (sym at) parts enough in
        subst (Running s.formula.clauses (is_among s.shown) 0 [] (picture.turn_over newer d older)) (sym shrinks.found)
        (model_keeps_running s.formula.clauses (is_among s.shown) 0 [] newer d older old.found.items (cube_within s old level)
        (subst (λ trail. Running s.formula.clauses (is_among s.shown) 0 [] trail old.found.items) parts h.running) decided
        (let above = flips.above in omega arith) (named_formula s.formula.variables s.formula.clauses h.subject.formula.named)
        (subst₂ (λ k trail. reaches (is_among s.shown) k trail ≡ true) (sym at) parts (reached flips.above)) now.keeps now.met now.cube)))
    model_advances first new false less ends =
        let now = subst (λ k. IsEnough s k (listed_trail s old) (cube_within s old level)) ends.0 enough in
        record {
          closed = rw (ends.1, shrinks.found) (model_closes s.formula.clauses (is_among s.shown) 0 [] (cube_within s old level)
              (listed_trail s old) old.found.items h.running (named_formula s.formula.variables s.formula.clauses h.subject.formula.named)
              now.keeps now.met now.cube);
          cubes = rw ends.1 all_cubes;
        }
