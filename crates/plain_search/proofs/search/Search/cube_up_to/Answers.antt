use Rattle.std.proofs.Common.{◌≡◌, ◌++◌, [], ◌∷◌, ◌+◌, ◌<◌, ◌≤◌, ◌^◌, ℕ, true, get_or, take, length, Some, None, Option, ℤ, sym, ap, subst, ◌∙◌, append-nil, option_to_list, arith, rules, Vec, Global, cond}
use mir.Syntax.{w32}
use mir.Val.{SFits}
use Rattle.std.specs.List.{All}
use Rattle.std.proofs.lemmas.Bool.{le-leb, lt-leb}
use Rattle.std.proofs.lemmas.Int.{to_z-of_z}
use Rattle.std.proofs.lemmas.List.{take_all}
use Rattle.std.proofs.lemmas.List.Elements.{All-weaker}
use Rattle.sat_terms.specs.Literals.{IsLiteral}
use Rattle.sat_terms.specs.Cubes.{rises_above}
use Rattle.search_region.specs.Trail.{upto}
use Rattle.search_region.specs.ReadCube.{read_cube}
use Rattle.search_region.proofs.ReadCube.{read_cube_rises, read_cube_literals}
use Rattle.chrono_trail.specs.Items.{item_of}
use Rattle.plain_search.specs.Searching.{listed_trail}
use Rattle.plain_search.proofs.Looks.{items_distinct, literal_upto, picked_item}
use Rattle.plain_search.proofs.Looks.{cube_more}
use Rattle.plain_search.proofs.search.Search.cube_up_to.Goals as goal
use Rattle.plain_search.proofs.search.Search.cube_up_to.Goals.{in-Some+then-item-level+in_ok-push, in-Some+else-item-level, in_default}

pub loop-variable-preserved : goal.loop-variable-preserved
loop-variable-preserved c =
    let s = c.args.subject.now in
    let items = c.args.self.now.trail.items in
    let i : ℕ = c.loop-variable.variable-index in
    let trail = listed_trail s c.args.self.now in
    let before = read_cube (upto c.args.level) trail (take i s.shown) in
    let lits = c.loop-variable.lits.items in
    let more = cube_more (upto c.args.level) trail s.shown i 0 (subst (λ p. i < length p) c.as_slice-variable-items.ensures c.loop-variable-test.true)
    ∙ ap (λ (o : Option ℤ). before ++ option_to_list o) (picked_item s.formula.clauses c.args.level items (get_or s.shown i 0) (items_distinct s c.args.self.now c.requires)) in
    let looked = c.item.ensures ∙ ap (λ p. item_of items (get_or p i 0)) c.as_slice-variable-items.ensures in
    let same : (new : Vec ℤ Global) → c.match-item.lits ≡ new → (o : Option ℤ) → literal_upto c.args.level c.item.result ≡ o → new.items ≡ lits ++ option_to_list o → c.match-item.lits.items ≡ read_cube (upto c.args.level) trail (take (i + 1) s.shown)
    = λ new is o e grown. ap (λ (x : Vec ℤ Global). x.items) is ∙ grown ∙ ap (λ xs. xs ++ option_to_list o) c.loop-variable.invariant
    ∙ sym (more ∙ ap (λ (x : Option ℤ). before ++ option_to_list x) (ap (literal_upto c.args.level) (sym looked) ∙ e)) in
    elim c.match-item.branch [
      | in-Some+then-item-level+in_ok-push w ↦
          let fits : SFits w32 w.in-Some.item.lit = search rules in
          same w.push.new.self w.lits-is (Some w.in-Some.item.lit)
          (ap (literal_upto c.args.level) w.in-Some.is ∙ ap (λ b. cond b (Some w.in-Some.item.lit) None) (le-leb w.in-Some.item.level c.args.level w.if-item-level.true))
          (w.in_ok-push.ensures.items ∙ ap (λ (z : ℤ). lits ++ z ∷ []) (to_z-of_z w32 w.in-Some.item.lit fits))
      | in-Some+else-item-level w ↦
          same c.loop-variable.lits w.lits-is None
          (ap (literal_upto c.args.level) w.in-Some.is ∙ ap (λ b. cond b (Some w.in-Some.item.lit) None) (lt-leb w.in-Some.item.level c.args.level w.if-item-level.false))
          (sym (append-nil lits))
      | in_default w ↦ same c.loop-variable.lits w.lits-is None (ap (literal_upto c.args.level) w.in_default.is) (sym (append-nil lits))
    ]

pub from_vec-requires : goal.from_vec-requires
from_vec-requires c =
    let s = c.args.subject.now in
    let shown = c.requires.subject.shown in
    let trail = listed_trail s c.args.self.now in
    let few = c.requires.subject.formula.variables in
    let past = subst (λ p. length p ≤ c.loop-variable.variable-index) c.as_slice-variable-items.ensures c.loop-variable-test.false in
    let whole = c.loop-variable.invariant ∙ ap (read_cube (upto c.args.level) trail) (take_all c.loop-variable.variable-index s.shown past) in
    let named = All-weaker (λ v. (0 < v) × (v ≤ s.formula.variables)) (λ v. (0 < v) × (v < 2 ^ 31)) (λ v k. let low = k.1 in (k.0, omega arith)) s.shown shown.named in
    record {
      rising = subst (λ lits. rises_above 0 lits ≡ true) (sym whole) (read_cube_rises (upto c.args.level) trail s.shown shown.rising
          (All-weaker (λ v. (0 < v) × (v < 2 ^ 31)) (λ v. 0 < v) (λ v k. k.0) s.shown named));
      literals = subst (All IsLiteral) (sym whole) (read_cube_literals (upto c.args.level) trail s.shown named);
    }
