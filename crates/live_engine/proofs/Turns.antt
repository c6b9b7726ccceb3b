-- The moves of the search that turn a decision over, and those that end it.
use Rattle.std.proofs.Common.{◌≡◌, ℕ, zero, suc, ◌+◌, ◌-◌, ◌<◌, ◌≤◌, ◌^◌, Bool, true, false, ◌||◌, length-append, cond, min, nat_lt, ℤ, pos, neg_ℤ, nat_abs, List, [], ◌∷◌, ◌++◌, length, get_or, take, filter, ◌⊎◌, Some, None, refl, sym, ap, subst, subst₂, ◌∙◌, inl, inr, arith, All, Vec, Global}
use Rattle.std.specs.List.{list_all}
use Rattle.std.specs.Ordering.{int_eq}
use Rattle.std.proofs.lemmas.Bool.{and_parts, and_from, lt-ltb}
use Rattle.std.proofs.lemmas.List.{take-append-le}
use Rattle.std.proofs.lemmas.List.Elements.{All-push, All-append, All-weaker, All-head, All-tail}
use Rattle.sat_terms.specs.Literals.{IsLiteralOf}
use Rattle.sat_terms.specs.Cubes.{IsCube, is_among}
use Rattle.sat_terms.proofs.CubeLemmas.{nat_abs-neg, int_eq-other}
use Rattle.search_region.specs.Trail as picture
use Rattle.search_region.specs.Steady.{Steady, Follows}
use Rattle.search_region.specs.Region.{left_open}
use Rattle.search_region.specs.Work.{work}
use Rattle.search_region.specs.Conflict.{is_false_upto}
use Rattle.search_region.specs.Model.{is_met, keeps_flips, reaches, are_named, CubeOf}
use Rattle.search_region.proofs.Back.{steady_older, depth_back, depth_rises}
use Rattle.search_region.proofs.Flip.{fine_decided}
use Rattle.search_region.proofs.Literals.{all_weaker}
use Rattle.search_region.proofs.Model.{reached_shown}
use Rattle.search_region.proofs.ReadCube.{read_cube_of, read_cube_is_cube}
use Rattle.search_region.proofs.Work.{work_turn}
use Rattle.search_job.specs.Reasons.{turned}
use Rattle.search_job.specs.Weights.{weights}
use Rattle.search_job.specs.Working.{Working}
use Rattle.search_job.proofs.Conflict.{conflict_keeps_working, conflict_ends_working}
use Rattle.search_job.proofs.Leaf.{turn_leaves_less}
use Rattle.search_job.proofs.Turn.{turn_keeps_working}
use Rattle.search_job.proofs.Model.{model_keeps_working, model_ends_working}
use Rattle.chrono_trail.specs.declared.item.Kind.{Kind}
use Rattle.chrono_trail.specs.declared.item.Kind.TheVariants.{Assumed, Decided, Flipped, Turned, Implied}
use Rattle.chrono_trail.specs.declared.item.Item.{Item}
use Rattle.chrono_trail.specs.Items.{item_of, is_within, is_upto, are_distinct, reason_id}
use Rattle.chrono_trail.specs.Clauses.{is_false, false_upto, is_false_clause, level_or_zero, rest_level}
use Rattle.chrono_trail.specs.Reasons.{HasReason, IsReasonAt, AreReasoned}
use Rattle.chrono_trail.specs.Pictures.{pictured, picture_of, kind_of, Splits}
use Rattle.chrono_trail.proofs.Pictures.{picture-push, picture-grown, back-picture, false_by-picture}
use Rattle.chrono_trail.proofs.Reasoned.{needs_none, appending_keeps, backtracking_keeps, more_clauses_keep, reasons_are_inside}
use Rattle.chrono_trail.proofs.Reasons.{false_low, pictured_reason}
use Rattle.chrono_trail.proofs.Splits.{decisions_split}
use Rattle.propagation.specs.Steps.{IsFalseOf}
use Rattle.projected_decide.specs.Orders.{OrderView}
use Rattle.implicant_shrink.specs.Shrinking.{ShrinkerView, IsFor}
use Rattle.live_engine.specs.declared.search.Search.{Search}
use Rattle.live_engine.specs.declared.search.Leaf.TheVariants.{Found, Dead}
use Rattle.live_engine.specs.Searching.{search_formula, pictured_trail, left, open_weight, count_of, IsGround, IsSearching, IsSameJob, RunsOn}
use Rattle.live_engine.specs.Steps.{counted, FindsCube, MayTurn, TurnsDecision, FlipsDecision, ComesToLeaf, ComesToLast, IsLeastEnough, cube_at_level}
use Rattle.live_engine.proofs.Looks.{all_tests, steady_distinct}
use Rattle.implicant_shrink.specs.Levels.{marked}
use Rattle.live_engine.specs.Values.{hidden_literals, has_value}
use Rattle.live_engine.proofs.Implicants.{implicant}
use Rattle.live_engine.proofs.Grounds.{ground_with, ground_valued, same_stands}
use Rattle.live_engine.proofs.Leasts.{least_based, least_keeps, least_met, least_reached}
use Rattle.live_engine.proofs.Moves.{same_job}

-- one leaf more
counted_bounds : (leaves cap : ℕ) → leaves ≤ cap → (leaves ≤ min (suc leaves) cap) × (min (suc leaves) cap ≤ leaves + 1) × (min (suc leaves) cap ≤ cap)
counted_bounds leaves cap h = (omega arith, omega arith, omega arith)

-- the search with another trail and other clauses, other cubes found, and another number of leaves
abbrev pub turned_to : Search → Search → ShrinkerView → Vec (List ℤ) Global → ℕ → Vec Bool Global → Bool → Search
turned_to old after shrinker found leaves values told = record old { arena = after.arena; propagator = after.propagator; trail = after.trail; order = after.order; shrinker = shrinker; found = found; leaves = leaves; values = values; has_model = told; copied = after.copied }

-- the search goes on with a decision turned over
record TurnsOn (old new : Search) (shows : Bool) : Type 0 where
  searching : IsSearching new
  job : IsSameJob old new
  less : left new < left old
  weight : open_weight new + cond shows 1 0 ≤ open_weight old

-- the other side of the decision d as the clause c turned it, on level m
record TurnedBy (f : List (List ℤ)) (e : picture.Item) (newer : List picture.Item) (d : picture.Item) (older : List picture.Item) : Type 0 where
  m : ℕ
  c : List ℤ
  is : e ≡ turned m c d
  low : m ≤ picture.depth older
  follows : Follows f c
  reason : picture.is_reason c (turned m c d) (picture.back (picture.depth older) (newer ++ d ∷ older)) ≡ true

-- what may stand in the place of the decision d
record IsOther (f : List (List ℤ)) (kind : Kind) (e : picture.Item) (newer : List picture.Item) (d : picture.Item) (older : List picture.Item) : Type 0 where
  undecided : picture.is_decided e.kind ≡ false
  unimplied : picture.is_implied e.kind ≡ false
  side : ((kind ≡ Flipped) × (e ≡ picture.flip (picture.depth older) d)) ⊎ TurnedBy f e newer d older

module _ (old : Search) (h : IsSearching old) (was : ShrinkerView) (had : Vec (List ℤ) Global) (counted : ℕ) (said : Vec Bool Global) (told : Bool) (count : ℕ) (after : Search) (level : ℕ) (shows : Bool) (turns : TurnsDecision (record old { shrinker = was; found = had; leaves = counted; values = said; has_model = told; copied = count }) after level shows) where
  abbrev f : List (List ℤ)
  f = search_formula old

  abbrev shown : ℕ → Bool
  shown = is_among old.shown.items

  abbrev n : ℕ
  n = length old.shown.items

  abbrev stays : List Item
  stays = filter (is_upto (level - 1)) old.trail.items

  splits : Splits old.arena.clauses old.trail.items level turns.decision
  splits = decisions_split old.arena.clauses old.trail.items level turns.decision turns.decided

  abbrev newer : List picture.Item
  newer = picture_of old.arena.clauses splits.after

  abbrev d : picture.Item
  d = pictured old.arena.clauses turns.decision

  abbrev older : List picture.Item
  older = picture_of old.arena.clauses splits.before

  abbrev e : picture.Item
  e = pictured after.arena.clauses turns.item

  decided : d.kind ≡ picture.Decided
  decided = ap (kind_of old.arena.clauses) splits.kind

  parts : pictured_trail old ≡ newer ++ d ∷ older
  parts = splits.picture

  on : d.level ≡ level
  on = splits.level

  steady : Steady f shown (newer ++ d ∷ older)
  steady = subst (Steady f shown) parts h.working.running.steady

  below : level - 1 ≡ picture.depth older
  below = let opens = (fine_decided f shown d older (steady_older f shown newer (d ∷ older) steady).0 decided).opens in
      let same = on in omega arith

  same_variable : nat_abs e.lit ≡ nat_abs d.lit
  same_variable = ap nat_abs turns.negates ∙ nat_abs-neg d.lit

  reasoned : AreReasoned old.arena.clauses stays
  reasoned = backtracking_keeps old.arena.clauses (level - 1) old.trail.items h.ground.reasoned

  -- what stays, in the picture, over the clauses of before and of after
  kept : picture_of old.arena.clauses stays ≡ picture.back (picture.depth older) (newer ++ d ∷ older)
  kept =
      sym (back-picture old.arena.clauses (level - 1) old.trail.items)
      ∙ ap (picture.back (level - 1)) parts
      ∙ ap (λ (k : ℕ). picture.back k (newer ++ d ∷ older)) below

  kept_after : picture_of after.arena.clauses stays ≡ picture.back (picture.depth older) (newer ++ d ∷ older)
  kept_after =
      ap (λ xs. picture_of xs stays) turns.clauses
      ∙ picture-grown old.arena.clauses turns.more stays (reasons_are_inside old.arena.clauses stays reasoned)
      ∙ kept

  now_pictured : picture_of after.arena.clauses after.trail.items ≡ picture.turn_with e newer d older
  now_pictured =
      ap (picture_of after.arena.clauses) turns.items
      ∙ picture-push after.arena.clauses stays turns.item
      ∙ ap (λ rest. e ∷ rest) kept_after

  formula : take after.arena.base after.arena.clauses ≡ f
  formula =
      ap (λ k. take k after.arena.clauses) turns.base
      ∙ ap (take old.arena.base) turns.clauses
      ∙ take-append-le old.arena.base old.arena.clauses turns.more h.ground.based

  follow : All (Follows f) after.arena.clauses
  follow = subst (All (Follows f)) (sym turns.clauses) (All-append (Follows f) old.arena.clauses turns.more h.ground.follow turns.follow)

  turned_is : (id : ℕ) → turns.item.kind ≡ Turned id → e ≡ turned turns.item.level (get_or after.arena.clauses id []) d
  turned_is id is =
      ap (λ (k : picture.Kind). record { lit = turns.item.lit; level = turns.item.level; kind = k }) (ap (kind_of after.arena.clauses) is)
      ∙ ap (λ (l : ℤ). record { lit = l; level = turns.item.level; kind = picture.Turned (get_or after.arena.clauses id []) }) turns.negates

  flipped_is : turns.item.kind ≡ Flipped → turns.item.level ≡ level - 1 → e ≡ picture.flip (picture.depth older) d
  flipped_is is at =
      ap (λ (k : picture.Kind). record { lit = turns.item.lit; level = turns.item.level; kind = k }) (ap (kind_of after.arena.clauses) is)
      ∙ ap (λ (l : ℤ). record { lit = l; level = turns.item.level; kind = picture.Flipped }) turns.negates
      ∙ ap (λ (k : ℕ). record { lit = neg_ℤ d.lit; level = k; kind = picture.Flipped }) (at ∙ below)

  other_by : (k : Kind) → turns.item.kind ≡ k → MayTurn after.arena.clauses stays level turns.item k → IsOther f turns.item.kind e newer d older
  other_by Assumed is may = absurd may
  other_by Decided is may = absurd may
  other_by (Implied id) is may = absurd may
  other_by Flipped is at = record {
    undecided = ap (λ k. picture.is_decided (kind_of after.arena.clauses k)) is;
    unimplied = ap (λ k. picture.is_implied (kind_of after.arena.clauses k)) is;
    side = inl (is, flipped_is is at);
  }
  other_by (Turned id) is may = record {
    undecided = ap (λ k. picture.is_decided (kind_of after.arena.clauses k)) is;
    unimplied = ap (λ k. picture.is_implied (kind_of after.arena.clauses k)) is;
    side = inr (record {
      m = turns.item.level;
      c = get_or after.arena.clauses id [];
      is = turned_is id is;
      low = (let at = may.0 in let flat = below in omega arith);
      follows = follow id [] may.1.inside;
      reason = subst₂ (λ (l : ℤ) t. list_all (λ x. int_eq x l || picture.false_by turns.item.level t x) (get_or after.arena.clauses id []) ≡ true) turns.negates kept
          (pictured_reason old.arena.clauses stays turns.item (get_or after.arena.clauses id []) may.1.reason);
    });
  }

  other : IsOther f turns.item.kind e newer d older
  other = other_by turns.item.kind refl turns.turns

  has_reason : (k : Kind) → turns.item.kind ≡ k → MayTurn after.arena.clauses stays level turns.item k → HasReason after.arena.clauses stays turns.item
  has_reason Assumed is may = absurd may
  has_reason Decided is may = absurd may
  has_reason (Implied id) is may = absurd may
  has_reason Flipped is may = needs_none after.arena.clauses stays turns.item (ap reason_id is)
  has_reason (Turned id) is may = λ named at. subst (λ k. IsReasonAt after.arena.clauses stays turns.item k) (same_id id named (sym (ap reason_id is) ∙ at)) may.1
    where
      same_id : (a b : ℕ) → Some a ≡ Some b → a ≡ b
      same_id a b same = cc

  module _ (shrinker : ShrinkerView) (found : Vec (List ℤ) Global) (leaves : ℕ) where
    abbrev new : Search
    new = turned_to old after shrinker found leaves said told

    ground : IsFor f shrinker → leaves ≤ 2 ^ 62 → All (IsCube old.shown.items) found.items → length said.items ≡ length old.values.items → IsGround new
    ground for_it few cubes valued = ground_valued (record old { arena = after.arena; propagator = after.propagator; trail = after.trail; order = after.order; shrinker = shrinker; found = found; leaves = leaves }) (ground_with old h.ground after.arena after.propagator after.trail after.order shrinker old.prefix old.base old.counts leaves found
        (record {
          base = subst₂ (λ k xs. k ≤ length xs) (sym turns.base) (sym turns.clauses)
              (let based = h.ground.based in let long = length-append old.arena.clauses turns.more in omega arith);
          formula = formula;
          named = subst (All (All (IsLiteralOf old.variables))) (sym turns.clauses) (All-append (All (IsLiteralOf old.variables)) old.arena.clauses turns.more h.ground.named turns.named);
          follow = follow;
          known = turns.known;
          places = turns.places;
          settled = turns.settled;
          reasoned = subst (AreReasoned after.arena.clauses) (sym turns.items)
              (appending_keeps after.arena.clauses stays turns.item
              (subst (λ xs. AreReasoned xs stays) (sym turns.clauses) (more_clauses_keep old.arena.clauses turns.more stays reasoned))
              (has_reason turns.item.kind refl turns.turns));
          variables = turns.variables;
          stands = turns.stands;
          own = turns.propagator;
        })
        (ap (λ (o : OrderView). o.variables) turns.order) (ap (λ (o : OrderView). o.order) turns.order) for_it h.ground.prefix refl few cubes) said told after.copied valued

    -- where the job works on with the other side in the decision's place, the search does, with less to do
    turned_runs : IsFor f shrinker → old.base < level → leaves ≤ 2 ^ 62 → All (IsCube old.shown.items) found.items → length said.items ≡ length old.values.items →
        Working f shown n old.base (count_of old) old.prefix (picture.turn_with e newer d older) found.items leaves → TurnsOn old new shows
    turned_runs for_it above few cubes valued works = record {
      searching = record {
        ground = ground for_it few cubes valued;
        working = subst₂ (λ g t. Working g shown n old.base (count_of old) old.prefix t found.items leaves) (sym formula) (sym now_pictured) works;
        current =
            let flat = depth_back f shown (picture.depth older) (newer ++ d ∷ older) steady in
            let up = depth_rises f shown newer (d ∷ older) steady in
            let deep : picture.depth (d ∷ older) ≡ d.level = rw decided refl in
            let at = on in
            let same = below in
            let stands : picture.depth (picture.turn_with e newer d older) ≡ picture.depth (picture.back (picture.depth older) (newer ++ d ∷ older)) = rw other.undecided refl in
            turns.current ∙ below ∙ sym (ap picture.depth now_pictured ∙ stands ∙ (omega arith));
        passed = turns.passed;
        copied = turns.copied;
      };
      job = record { variables = refl; formula = turns.base; more = turns.more; clauses = turns.clauses; shown = refl; prefix = refl; base = refl; sent = refl };
      less = subst₂ (λ a b. work old.variables a < work old.variables b) (sym now_pictured) (sym parts)
          (work_turn old.variables f shown newer d e older steady decided other.undecided same_variable);
      weight = subst (λ b. open_weight new + cond b 1 0 ≤ open_weight old) (sym turns.told)
          (subst₂ (λ a b. weights n (left_open shown old.base a) + cond (picture.seen shown d) 1 0 ≤ weights n (left_open shown old.base b)) (sym now_pictured) (sym parts)
          (turn_leaves_less f shown n old.base newer d e older steady decided (rw on above) other.undecided other.unimplied same_variable));
    }

-- ---- a conflict

-- a false clause is so by items of at most the level of its literals
false_at : (items : List Item) (v k : ℕ) (c : List ℤ) → are_distinct items ≡ true → All (IsLiteralOf v) c → is_false_clause items c ≡ true →
    rest_level items (pos 0) c ≤ k → list_all (false_upto k items) c ≡ true
false_at items v k [] d named wrong low = refl
false_at items v k (m ∷ c) d named wrong low =
    let (now, rest) = and_parts (is_false items m) (is_false_clause items c) wrong in
    let lit = All-head (IsLiteralOf v) m c named in
    let other : int_eq m (pos 0) ≡ false = int_eq-other m (pos 0) (λ same. (let zero : nat_abs m ≡ 0 = ap nat_abs same in let above = lit.0 in absurd (omega arith))) in
    let first : cond (int_eq m (pos 0)) 0 (level_or_zero (item_of items (nat_abs m))) ≤ k = omega arith in
    let here : level_or_zero (item_of items (nat_abs m)) ≤ k = rw other at first in
    and_from (false_upto k items m) (list_all (false_upto k items) c) (false_low items m k d now here)
    (false_at items v k c d (All-tail (IsLiteralOf v) m c named) rest (omega arith))

module _ (old : Search) (h : IsSearching old) (id : ℕ) (wrong : IsFalseOf old.arena.clauses old.trail.items id) (level : ℕ) (is_level : level ≡ rest_level old.trail.items (pos 0) (get_or old.arena.clauses id [])) where
  false_now : is_false_upto level (pictured_trail old) (get_or old.arena.clauses id []) ≡ true
  false_now = all_weaker (false_upto level old.trail.items) (picture.false_by level (pictured_trail old))
      (λ l g. false_by-picture old.arena.clauses level old.trail.items l ∙ g) (get_or old.arena.clauses id [])
      (false_at old.trail.items old.variables level (get_or old.arena.clauses id [])
      (steady_distinct (search_formula old) old.arena.clauses (is_among old.shown.items) old.trail.items h.working.running.steady)
      (h.ground.named id [] wrong.0) wrong.1 (omega arith))

  pub conflict_last : (leaves : ℕ) → leaves ≡ counted old.leaves → level ≤ old.base → ComesToLast old (record old { leaves = leaves }) Dead
  conflict_last leaves more low =
      let bounds = counted_bounds old.leaves (2 ^ 62) h.ground.capped in
      record {
        closed = record {
          ground = ground_with old h.ground old.arena old.propagator old.trail old.order old.shrinker old.prefix old.base old.counts leaves old.found
              (same_stands old h.ground) refl refl h.ground.shrinker h.ground.prefix refl (rw more bounds.2) h.ground.cubes;
          fits = conflict_ends_working (search_formula old) (is_among old.shown.items) (length old.shown.items) old.base (count_of old) old.prefix level
              (get_or old.arena.clauses id []) (pictured_trail old) old.found.items old.leaves leaves h.working low (h.ground.follow id [] wrong.0) false_now
              (rw more bounds.1);
        };
        job = same_job old (record old { leaves = leaves }) refl refl refl refl refl refl;
        found = (refl, refl);
        leaves = more;
      }

  module _ (after : Search) (shows : Bool) (turns : TurnsDecision old after level shows) (above : old.base < level) (leaves : ℕ) where
    conflict_works : old.leaves ≤ leaves → leaves ≤ old.leaves + cond shows 1 0 →
        Working (f old h old.shrinker old.found old.leaves old.values old.has_model old.copied after level shows turns) (is_among old.shown.items) (length old.shown.items) old.base (count_of old) old.prefix
        (picture.turn_with (e old h old.shrinker old.found old.leaves old.values old.has_model old.copied after level shows turns) (newer old h old.shrinker old.found old.leaves old.values old.has_model old.copied after level shows turns)
        (d old h old.shrinker old.found old.leaves old.values old.has_model old.copied after level shows turns) (older old h old.shrinker old.found old.leaves old.values old.has_model old.copied after level shows turns)) old.found.items leaves
    conflict_works later most =
        let o = other old h old.shrinker old.found old.leaves old.values old.has_model old.copied after level shows turns in
        let newer = newer old h old.shrinker old.found old.leaves old.values old.has_model old.copied after level shows turns in
        let d = d old h old.shrinker old.found old.leaves old.values old.has_model old.copied after level shows turns in
        let older = older old h old.shrinker old.found old.leaves old.values old.has_model old.copied after level shows turns in
        let parts = parts old h old.shrinker old.found old.leaves old.values old.has_model old.copied after level shows turns in
        let on = on old h old.shrinker old.found old.leaves old.values old.has_model old.copied after level shows turns in
        let decided = decided old h old.shrinker old.found old.leaves old.values old.has_model old.copied after level shows turns in
        let was = subst (λ t. Working (search_formula old) (is_among old.shown.items) (length old.shown.items) old.base (count_of old) old.prefix t old.found.items old.leaves) parts h.working in
        let few = subst (λ b. leaves ≤ old.leaves + cond b 1 0) turns.told most in
        elim o.side [
          | inl flips ↦ subst (λ x. Working (search_formula old) (is_among old.shown.items) (length old.shown.items) old.base (count_of old) old.prefix (picture.turn_with x newer d older) old.found.items leaves) (sym flips.1)
              (conflict_keeps_working (search_formula old) (is_among old.shown.items) (length old.shown.items) old.base (count_of old) old.prefix newer d older old.found.items
              old.leaves leaves (get_or old.arena.clauses id []) was decided (rw on above) (h.ground.follow id [] wrong.0)
              (subst₂ (λ k t. is_false_upto k t (get_or old.arena.clauses id []) ≡ true) (sym on) parts false_now) later few)
          | inr by ↦ subst (λ x. Working (search_formula old) (is_among old.shown.items) (length old.shown.items) old.base (count_of old) old.prefix (picture.turn_with x newer d older) old.found.items leaves) (sym by.is)
              (turn_keeps_working (search_formula old) (is_among old.shown.items) (length old.shown.items) old.base (count_of old) old.prefix newer d older old.found.items
              old.leaves leaves by.m by.c was decided (rw on above) by.low by.follows by.reason later few)
        ]

    conflict_turns : leaves ≤ 2 ^ 62 → old.leaves ≤ leaves → leaves ≤ old.leaves + cond shows 1 0 → TurnsOn old (turned_to old after old.shrinker old.found leaves old.values old.has_model) shows
    conflict_turns few later most =
        turned_runs old h old.shrinker old.found old.leaves old.values old.has_model old.copied after level shows turns old.shrinker old.found leaves h.ground.shrinker above few h.ground.cubes refl (conflict_works later most)

  pub conflict_goes : (after : Search) → TurnsDecision old after level true → (leaves : ℕ) → leaves ≡ counted after.leaves → old.base < level →
      ComesToLeaf old (record after { leaves = leaves }) Dead
  conflict_goes after turns leaves more above =
      let count : leaves ≡ counted old.leaves = more ∙ ap (λ s. counted s.leaves) turns.rest in
      let bounds = counted_bounds old.leaves (2 ^ 62) h.ground.capped in
      let on = conflict_turns after true turns above leaves (rw count bounds.2) (rw count bounds.0) (rw count bounds.1) in
      let weight = on.weight in
      subst (λ s. ComesToLeaf old s Dead) (ap (λ (s : Search). record s { leaves = leaves }) (sym turns.rest)) (record {
        searching = on.searching;
        job = on.job;
        found = (refl, refl);
        leaves = count;
        less = (let goal_is : open_weight (turned_to old after old.shrinker old.found leaves old.values old.has_model) < open_weight old = omega arith in goal_is);
      })

  pub conflict_on : (after : Search) → TurnsDecision old after level false → old.base < level → RunsOn old after
  conflict_on after turns above =
      let on = conflict_turns after false turns above old.leaves h.ground.capped (omega arith) (omega arith) in
      let weight = on.weight in
      subst (RunsOn old) (sym turns.rest) (record {
        searching = on.searching;
        keeps = record {
          job = on.job;
          found = refl;
          leaves = refl;
          values = refl;
          has_model = refl;
          weight = (let goal_is : open_weight (turned_to old after old.shrinker old.found old.leaves old.values old.has_model) ≤ open_weight old = omega arith in goal_is);
        };
        less = on.less;
      })

-- ---- a model

all_take : {X : Type 0} (test : X → Bool) (n : ℕ) (xs : List X) → list_all test xs ≡ true → list_all test (take n xs) ≡ true
all_take test zero xs h = refl
all_take test (suc n) [] h = refl
all_take test (suc n) (x ∷ xs) h =
    let (now, rest) = and_parts (test x) (list_all test xs) h in
    and_from (test x) (list_all test (take n xs)) now (all_take test n xs rest)

-- the literals of the clauses are of variables from 1 on
named_clauses : (n : ℕ) (f : List (List ℤ)) → All (All (IsLiteralOf n)) f → are_named f ≡ true
named_clauses n =
    all_tests (All (IsLiteralOf n)) (list_all (λ l. nat_lt 0 (nat_abs l)))
    (all_tests (IsLiteralOf n) (λ l. nat_lt 0 (nat_abs l)) (λ l k. lt-ltb 0 (nat_abs l) k.0))

module _ (old : Search) (h : IsSearching old) (level : ℕ) (least : IsLeastEnough old level) (shrinker : ShrinkerView) (for_it : IsFor (search_formula old) shrinker) (values : Vec Bool Global) (told : Bool) (count : ℕ) (valued : length values.items ≡ length old.values.items) (tells : told ≡ true) (copies : list_all (has_value (marked values.items)) old.trail.items ≡ true) where
  abbrev seen : ℕ → Bool
  seen = is_among old.shown.items

  named : are_named (search_formula old) ≡ true
  named = all_take (list_all (λ l. nat_lt 0 (nat_abs l))) old.arena.base old.arena.clauses (named_clauses old.variables old.arena.clauses h.ground.named)

  cube : CubeOf seen level (pictured_trail old) (cube_at_level old level)
  cube = read_cube_of (search_formula old) old.shown.items level (pictured_trail old) h.working.running.steady

  module _ (found : Vec (List ℤ) Global) (more : found.items ≡ old.found.items ++ cube_at_level old level ∷ []) (leaves : ℕ) (number : leaves ≡ counted old.leaves) where
    cubes : All (IsCube old.shown.items) found.items
    cubes = rw more (All-push (IsCube old.shown.items) old.found.items (cube_at_level old level) h.ground.cubes
        (read_cube_is_cube (picture.upto level) (pictured_trail old) old.shown.items h.ground.shown.rising
        (All-weaker (λ v. (0 < v) × (v ≤ old.variables)) (λ v. 0 < v) (λ v k. k.0) old.shown.items h.ground.shown.named)))

    bounds : (old.leaves ≤ leaves) × (leaves ≤ old.leaves + 1) × (leaves ≤ 2 ^ 62)
    bounds = rw number (counted_bounds old.leaves (2 ^ 62) h.ground.capped)

    -- the cube is among the found ones
    abbrev pub with_cube : Search
    with_cube = record old { shrinker = shrinker; found = found; leaves = leaves; values = values; has_model = told; copied = count }

    pub cube_ground : IsGround with_cube
    cube_ground = ground_valued (record old { shrinker = shrinker; found = found; leaves = leaves }) (ground_with old h.ground old.arena old.propagator old.trail old.order shrinker old.prefix old.base old.counts leaves found
        (same_stands old h.ground) refl refl for_it h.ground.prefix refl bounds.2 cubes) values told count valued

    -- the cube and the hidden literals of its model
    finds : FindsCube (search_formula old) old.variables old.shown.items old.found.items found.items (cond told (Some (hidden_literals old.variables old.shown.items (marked values.items))) None)
    finds = record {
      cube = cube_at_level old level;
      found = more;
      values = marked values.items;
      hidden = ap (λ b. cond b (Some (hidden_literals old.variables old.shown.items (marked values.items))) None) tells;
      implicant = implicant old.arena.clauses old.variables old.shown.items old.trail.items level (marked values.items)
          (subst (λ n. list_all (is_within n) old.trail.items ≡ true) h.ground.trail h.ground.stands.within) h.ground.stands.distinct copies
          (search_formula old) (least_met old level least);
    }

    pub model_last : level ≤ old.base → ComesToLast old with_cube Found
    model_last low =
        let at : level ≡ old.base = (let based = least_based old level least in omega arith) in
        record {
          closed = record {
            ground = cube_ground;
            fits = rw more (model_ends_working (search_formula old) seen (length old.shown.items) old.base (count_of old) old.prefix (cube_at_level old level)
                (pictured_trail old) old.found.items old.leaves leaves h.working named
                (subst (λ k. keeps_flips seen k (pictured_trail old) ≡ true) at (least_keeps old level least))
                (subst (λ k. list_all (is_met seen k (pictured_trail old)) (search_formula old) ≡ true) at (least_met old level least))
                (subst (λ k. CubeOf seen k (pictured_trail old) (cube_at_level old level)) at cube) bounds.1);
          };
          job = same_job old with_cube refl refl refl refl refl refl;
          found = finds;
          leaves = number;
        }

    pub model_goes : (after : Search) (shows : Bool) → FlipsDecision with_cube after level shows → old.base < level → ComesToLeaf old after Found
    model_goes after shows flips above =
        let turns = flips.turns in
        let o = other old h shrinker found leaves values told count after level shows turns in
        let newer = newer old h shrinker found leaves values told count after level shows turns in
        let d = d old h shrinker found leaves values told count after level shows turns in
        let older = older old h shrinker found leaves values told count after level shows turns in
        let parts = parts old h shrinker found leaves values told count after level shows turns in
        let on = on old h shrinker found leaves values told count after level shows turns in
        let decided = decided old h shrinker found leaves values told count after level shows turns in
        let steady = steady old h shrinker found leaves values told count after level shows turns in
        let at = flipped_is old h shrinker found leaves values told count after level shows turns flips.flipped (subst (MayTurn after.arena.clauses (filter (is_upto (level - 1)) old.trail.items) level turns.item) flips.flipped turns.turns) in
        let reach = least_reached old level least above in
        let works = subst (λ x. Working (search_formula old) seen (length old.shown.items) old.base (count_of old) old.prefix (picture.turn_with x newer d older) found.items leaves) (sym at)
        (subst (λ xs. Working (search_formula old) seen (length old.shown.items) old.base (count_of old) old.prefix (picture.turn_over newer d older) xs leaves) (sym more)
        (model_keeps_working (search_formula old) seen (length old.shown.items) old.base (count_of old) old.prefix newer d older old.found.items old.leaves leaves (cube_at_level old level)
        (subst (λ t. Working (search_formula old) seen (length old.shown.items) old.base (count_of old) old.prefix t old.found.items old.leaves) parts h.working)
        decided (rw on above) named
        (subst₂ (λ k t. reaches seen k t ≡ true) (sym on) parts reach)
        (subst₂ (λ k t. keeps_flips seen k t ≡ true) (sym on) parts (least_keeps old level least))
        (subst₂ (λ k t. list_all (is_met seen k t) (search_formula old) ≡ true) (sym on) parts (least_met old level least))
        (subst₂ (λ k t. CubeOf seen k t (cube_at_level old level)) (sym on) parts cube) bounds.0 bounds.1)) in
        let run = turned_runs old h shrinker found leaves values told count after level shows turns shrinker found leaves for_it above bounds.2 cubes valued works in
        let shows_it : shows ≡ true = turns.told ∙ reached_shown (search_formula old) seen newer d older steady decided (subst₂ (λ k t. reaches seen k t ≡ true) (sym on) parts reach) in
        let weight = subst (λ b. open_weight (turned_to old after shrinker found leaves values told) + cond b 1 0 ≤ open_weight old) shows_it run.weight in
        subst (λ s. ComesToLeaf old s Found) (sym turns.rest) (record {
          searching = run.searching;
          job = run.job;
          found = finds;
          leaves = number;
          less = (let goal_is : open_weight (turned_to old after shrinker found leaves values told) < open_weight old = omega arith in goal_is);
        })
