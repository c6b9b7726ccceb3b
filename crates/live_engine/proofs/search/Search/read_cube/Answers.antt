use Rattle.std.proofs.Common.{◌≡◌, ◌++◌, [], ◌∷◌, ◌+◌, ◌<◌, ◌≤◌, ◌^◌, ℕ, true, get_or, take, length, Some, None, Option, ℤ, sym, ap, subst, ◌∙◌, append-nil, option_to_list, arith, rules, Vec, Global, cond, vec_capacity, length-append}
use mir.Syntax.{w32}
use mir.Val.{SFits}
use Rattle.std.specs.List.{All}
use Rattle.std.proofs.lemmas.Bool.{le-leb, lt-leb}
use Rattle.std.proofs.lemmas.Int.{to_z-of_z}
use Rattle.std.proofs.lemmas.List.{take_all}
use Rattle.std.proofs.lemmas.List.Elements.{All-weaker}
use Rattle.sat_terms.specs.Literals.{IsLiteral}
use Rattle.sat_terms.specs.Cubes.{is_among, rises_above}
use Rattle.search_region.specs.Trail.{upto}
use Rattle.search_region.specs.ReadCube.{read_cube}
use Rattle.search_region.proofs.ReadCube.{read_cube_rises, read_cube_literals}
use Rattle.chrono_trail.specs.Items.{item_of}
use Rattle.live_engine.specs.Searching.{search_formula, pictured_trail}
use Rattle.live_engine.proofs.Looks.{steady_distinct, literal_upto, picked_item, cube_more}
use Rattle.live_engine.proofs.search.Search.read_cube.Goals as goal
use Rattle.live_engine.proofs.search.Search.read_cube.Goals.{in-Some+then-item-level, in-Some+else-item-level, in_default}

pub loop-variable-preserved : goal.loop-variable-preserved
loop-variable-preserved c =
    let s = c.args.self.now in
    let items = s.trail.items in
    let shown = s.shown.items in
    let i : ℕ = c.loop-variable.variable-index in
    let trail = pictured_trail s in
    let before = read_cube (upto c.args.level) trail (take i shown) in
    let before_lits = c.loop-variable.lits.items in
    let distinct = steady_distinct (search_formula s) s.arena.clauses (is_among shown) items c.requires.searching.working.running.steady in
    let more = cube_more (upto c.args.level) trail shown i 0 (subst (λ p. i < length p) c.as_slice-variable-items.ensures.value c.loop-variable-test.true)
    ∙ ap (λ (o : Option ℤ). before ++ option_to_list o) (picked_item s.arena.clauses c.args.level items (get_or shown i 0) distinct) in
    let looked = c.item.ensures ∙ ap (λ p. item_of items (get_or p i 0)) c.as_slice-variable-items.ensures.value in
    let few = c.loop-variable.invariant.few in
    let same : (new : Vec ℤ Global) → c.match-item.lits ≡ new → (o : Option ℤ) → literal_upto c.args.level c.item.result ≡ o → new.items ≡ before_lits ++ option_to_list o → c.match-item.lits.items ≡ read_cube (upto c.args.level) trail (take (i + 1) shown)
    = λ new is o e grown. ap (λ (x : Vec ℤ Global). x.items) is ∙ grown ∙ ap (λ xs. xs ++ option_to_list o) c.loop-variable.invariant.cube
    ∙ sym (more ∙ ap (λ (x : Option ℤ). before ++ option_to_list x) (ap (literal_upto c.args.level) (sym looked) ∙ e)) in
    elim c.match-item.branch [
      | in-Some+then-item-level w ↦
          let fits : SFits w32 w.in-Some.item.lit = search rules in
          let grown = w.push_reserved.ensures.items ∙ ap (λ (z : ℤ). before_lits ++ z ∷ []) (to_z-of_z w32 w.in-Some.item.lit fits) in
          let long = ap length grown ∙ length-append before_lits (w.in-Some.item.lit ∷ []) in
          record {
            cube = same w.push_reserved.new.self w.lits-is (Some w.in-Some.item.lit)
                (ap (literal_upto c.args.level) w.in-Some.is ∙ ap (λ b. cond b (Some w.in-Some.item.lit) None) (le-leb w.in-Some.item.level c.args.level w.if-item-level.true))
                grown;
            room = subst (λ n. length shown ≤ n) (sym (ap vec_capacity w.lits-is ∙ w.push_reserved.ensures.capacity)) c.loop-variable.invariant.room;
            few = rw w.lits-is (omega arith);
          }
      | in-Some+else-item-level w ↦ record {
        cube = same c.loop-variable.lits w.lits-is None
            (ap (literal_upto c.args.level) w.in-Some.is ∙ ap (λ b. cond b (Some w.in-Some.item.lit) None) (lt-leb w.in-Some.item.level c.args.level w.if-item-level.false))
            (sym (append-nil before_lits));
        room = subst (λ n. length shown ≤ n) (sym (ap vec_capacity w.lits-is)) c.loop-variable.invariant.room;
        few = rw w.lits-is (omega arith);
      }
      | in_default w ↦ record {
        cube = same c.loop-variable.lits w.lits-is None (ap (literal_upto c.args.level) w.in_default.is) (sym (append-nil before_lits));
        room = subst (λ n. length shown ≤ n) (sym (ap vec_capacity w.lits-is)) c.loop-variable.invariant.room;
        few = rw w.lits-is (omega arith);
      }
    ]

module _ (c : goal.After-drop-spare) where
  whole : c.loop-variable.lits.items ≡ read_cube (upto c.args.level) (pictured_trail c.args.self.now) c.args.self.now.shown.items
  whole = c.loop-variable.invariant.cube
      ∙ ap (read_cube (upto c.args.level) (pictured_trail c.args.self.now)) (take_all c.loop-variable.variable-index c.args.self.now.shown.items
      (subst (λ p. length p ≤ c.loop-variable.variable-index) c.as_slice-variable-items.ensures.value c.loop-variable-test.false))

pub returns-clause-cube : goal.returns-clause-cube
returns-clause-cube c = whole c

pub returns-clause-rising : goal.returns-clause-rising
returns-clause-rising c =
    let s = c.args.self.now in
    let shown = c.requires.searching.ground.shown in
    subst (λ lits. rises_above 0 lits ≡ true) (sym (whole c)) (read_cube_rises (upto c.args.level) (pictured_trail s) s.shown.items shown.rising
    (All-weaker (λ v. (0 < v) × (v ≤ s.variables)) (λ v. 0 < v) (λ v k. k.0) s.shown.items shown.named))

pub returns-clause-literals : goal.returns-clause-literals
returns-clause-literals c =
    let s = c.args.self.now in
    let shown = c.requires.searching.ground.shown in
    let few = c.requires.searching.ground.small in
    subst (All IsLiteral) (sym (whole c)) (read_cube_literals (upto c.args.level) (pictured_trail s) s.shown.items
    (All-weaker (λ v. (0 < v) × (v ≤ s.variables)) (λ v. (0 < v) × (v < 2 ^ 31)) (λ v k. let low = k.1 in (k.0, omega arith)) s.shown.items shown.named))

pub loop-variable-init : goal.loop-variable-init
loop-variable-init c =
    let taken = c.replace-lits.ensures.value in
    let none : c.replace-lits.result.items ≡ [] = ap (λ (v : Vec ℤ Global). v.items) taken ∙ c.requires.empty in
    record {
      cube = none;
      room = subst (λ v. length c.args.self.now.shown.items ≤ vec_capacity v) (sym taken) c.requires.room;
      few = rw none (omega arith);
    }
