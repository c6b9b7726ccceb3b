use Rattle.std.proofs.Common.{◌≡◌, ◌/◌, ◌<◌, ◌≤◌, ◌++◌, ℕ, true, false, [], ◌∷◌, length, get_or, ℤ, nat_abs, None, refl, sym, ap, subst, ◌∙◌, inl, rules}
use mir.Syntax.{w32}
use mir.Val.{SFits, to_z, of_z}
use Rattle.std.specs.List.{All, list_all}
use Rattle.std.proofs.lemmas.Int.{to_z-of_z}
use Rattle.sat_terms.specs.CubeOrder.{key}
use Rattle.sat_terms.specs.Cubes.{has_literal}
use Rattle.sat_terms.specs.Literals.{IsLiteralOf}
use Rattle.sat_terms.proofs.Machine.{bits_from_same}
use Rattle.chrono_trail.specs.Items.{item_of}
use Rattle.chrono_trail.specs.Trails.{TrailView}
use Rattle.chrono_trail.specs.Clauses.{is_true, is_false, is_or_false, IsUnit}
use Rattle.watch_lists.specs.Views.{ListsView, lit_of, partner, moved, IsPlaced}
use Rattle.propagation.specs.Walking.{MayWatch, IsReady, IsSameBut, IsVisited}
use Rattle.propagation.proofs.Steps.{implied_by, one_step, true_level_low}
use Rattle.propagation.proofs.Watched.{two_of, IsOneOfTwo}
use Rattle.propagation.proofs.Easing.{watch_named}
use Rattle.propagation.proofs.Visiting.{has_list, replaced, unit, ready_implied, now_true, lifted, all_false, grown_from}
use Rattle.propagation.proofs.walking.visit.Goals as goal

pub other-other-requires-clause-partner : goal.other-other-requires-clause-partner
other-other-requires-clause-partner c = (two_of c.args.watches.now c.args.arena.now.clauses c.args.watch.place c.requires.ready.watching c.requires.stands).other_below

pub is_true-requires-clause-named : goal.is_true-requires-clause-named
is_true-requires-clause-named c =
    let clauses = c.args.arena.now.clauses in
    let v : ListsView = c.args.watches.now in
    let t : TrailView = c.args.trail.now in
    let n : ℕ = c.args.watch.place in
    let two : IsOneOfTwo v clauses n = two_of v clauses n c.requires.ready.watching c.requires.stands in
    let other : ℤ = lit_of v (partner n) in
    let other_fits : SFits w32 c.other-other.result = search rules in
    let other_is : to_z w32 (of_z w32 c.other-other.result) ≡ other = to_z-of_z w32 c.other-other.result other_fits ∙ c.other-other.ensures in
    subst (IsLiteralOf t.variables) (sym other_is) (watch_named t.variables clauses (n / 2) other c.requires.ready.named two.inside two.other_among)

pub returns-then-is_true-clause-passed : goal.returns-then-is_true-clause-passed
returns-then-is_true-clause-passed c =
    let clauses = c.args.arena.now.clauses in
    let v : ListsView = c.args.watches.now in
    let t : TrailView = c.args.trail.now in
    let n : ℕ = c.args.watch.place in
    let two : IsOneOfTwo v clauses n = two_of v clauses n c.requires.ready.watching c.requires.stands in
    let other : ℤ = lit_of v (partner n) in
    let other_fits : SFits w32 c.other-other.result = search rules in
    let other_is : to_z w32 (of_z w32 c.other-other.result) ≡ other = to_z-of_z w32 c.other-other.result other_fits ∙ c.other-other.ensures in
    let on : is_true t.items other ≡ true = subst (λ z. is_true t.items z ≡ true) other_is (sym c.is_true.ensures ∙ c.if-is_true.true) in
    (λ _. inl (refl, on))

pub replacement-requires-clause-long : goal.replacement-requires-clause-long
replacement-requires-clause-long c =
    let clauses = c.args.arena.now.clauses in
    let v : ListsView = c.args.watches.now in
    let t : TrailView = c.args.trail.now in
    let n : ℕ = c.args.watch.place in
    let two : IsOneOfTwo v clauses n = two_of v clauses n c.requires.ready.watching c.requires.stands in
    let clause_is : c.lits-clause.result.now ≡ get_or clauses (n / 2) [] = c.lits-clause.ensures.clause ∙ ap (λ i. get_or clauses i []) c.clause-id.ensures in
    let other : ℤ = lit_of v (partner n) in
    let other_fits : SFits w32 c.other-other.result = search rules in
    let other_is : to_z w32 (of_z w32 c.other-other.result) ≡ other = to_z-of_z w32 c.other-other.result other_fits ∙ c.other-other.ensures in
    let other_named : IsLiteralOf t.variables other = watch_named t.variables clauses (n / 2) other c.requires.ready.named two.inside two.other_among in
    let all_named : All (IsLiteralOf t.variables) c.lits-clause.result.now = subst (All (IsLiteralOf t.variables)) (sym clause_is) (c.requires.ready.named (n / 2) [] two.inside) in
    subst (λ xs. 2 ≤ length xs) (sym clause_is) two.long

pub move_watch-requires-clause-listed : goal.move_watch-requires-clause-listed
move_watch-requires-clause-listed c =
    let clauses = c.args.arena.now.clauses in
    let v : ListsView = c.args.watches.now in
    let t : TrailView = c.args.trail.now in
    let n : ℕ = c.args.watch.place in
    let two : IsOneOfTwo v clauses n = two_of v clauses n c.requires.ready.watching c.requires.stands in
    let clause_is : c.lits-clause.result.now ≡ get_or clauses (n / 2) [] = c.lits-clause.ensures.clause ∙ ap (λ i. get_or clauses i []) c.clause-id.ensures in
    let other : ℤ = lit_of v (partner n) in
    let other_fits : SFits w32 c.other-other.result = search rules in
    let other_is : to_z w32 (of_z w32 c.other-other.result) ≡ other = to_z-of_z w32 c.other-other.result other_fits ∙ c.other-other.ensures in
    let other_named : IsLiteralOf t.variables other = watch_named t.variables clauses (n / 2) other c.requires.ready.named two.inside two.other_among in
    let all_named : All (IsLiteralOf t.variables) c.lits-clause.result.now = subst (All (IsLiteralOf t.variables)) (sym clause_is) (c.requires.ready.named (n / 2) [] two.inside) in
    let lit : ℤ = c.in-Some.lit in
    let fits : SFits w32 lit = search rules in
    let may : MayWatch t.items (get_or clauses (n / 2) []) other lit =
    subst (λ xs. MayWatch t.items xs other lit) clause_is (subst (λ z. MayWatch t.items c.lits-clause.result.now z lit) other_is c.in-Some.ensures) in
    subst (λ z. key z < length v.lists) (sym (to_z-of_z w32 lit fits)) (has_list clauses v t n c.requires.ready c.requires.stands lit may.among)

pub returns-in-Some-clause-ready : goal.returns-in-Some-clause-ready
returns-in-Some-clause-ready c =
    let clauses = c.args.arena.now.clauses in
    let v : ListsView = c.args.watches.now in
    let t : TrailView = c.args.trail.now in
    let n : ℕ = c.args.watch.place in
    let two : IsOneOfTwo v clauses n = two_of v clauses n c.requires.ready.watching c.requires.stands in
    let clause_is : c.lits-clause.result.now ≡ get_or clauses (n / 2) [] = c.lits-clause.ensures.clause ∙ ap (λ i. get_or clauses i []) c.clause-id.ensures in
    let other : ℤ = lit_of v (partner n) in
    let other_fits : SFits w32 c.other-other.result = search rules in
    let other_is : to_z w32 (of_z w32 c.other-other.result) ≡ other = to_z-of_z w32 c.other-other.result other_fits ∙ c.other-other.ensures in
    let other_named : IsLiteralOf t.variables other = watch_named t.variables clauses (n / 2) other c.requires.ready.named two.inside two.other_among in
    let all_named : All (IsLiteralOf t.variables) c.lits-clause.result.now = subst (All (IsLiteralOf t.variables)) (sym clause_is) (c.requires.ready.named (n / 2) [] two.inside) in
    let lit : ℤ = c.in-Some.lit in
    let fits : SFits w32 lit = search rules in
    let may : MayWatch t.items (get_or clauses (n / 2) []) other lit =
    subst (λ xs. MayWatch t.items xs other lit) clause_is (subst (λ z. MayWatch t.items c.lits-clause.result.now z lit) other_is c.in-Some.ensures) in
    let moved_is : c.move_watch.new.self ≡ moved v n lit = c.move_watch.ensures.moved ∙ ap (moved v n) (to_z-of_z w32 lit fits) in
    let wrong : is_false t.items (lit_of v n) ≡ true = c.requires.wrong in
    let both = replaced clauses v t n c.requires.ready c.requires.stands wrong lit may (subst IsPlaced moved_is c.move_watch.ensures.placed) in
    subst (λ w. IsReady clauses w t) (sym moved_is) both.0

pub returns-in-Some-clause-passed : goal.returns-in-Some-clause-passed
returns-in-Some-clause-passed c =
    let clauses = c.args.arena.now.clauses in
    let v : ListsView = c.args.watches.now in
    let t : TrailView = c.args.trail.now in
    let n : ℕ = c.args.watch.place in
    let two : IsOneOfTwo v clauses n = two_of v clauses n c.requires.ready.watching c.requires.stands in
    let clause_is : c.lits-clause.result.now ≡ get_or clauses (n / 2) [] = c.lits-clause.ensures.clause ∙ ap (λ i. get_or clauses i []) c.clause-id.ensures in
    let other : ℤ = lit_of v (partner n) in
    let other_fits : SFits w32 c.other-other.result = search rules in
    let other_is : to_z w32 (of_z w32 c.other-other.result) ≡ other = to_z-of_z w32 c.other-other.result other_fits ∙ c.other-other.ensures in
    let other_named : IsLiteralOf t.variables other = watch_named t.variables clauses (n / 2) other c.requires.ready.named two.inside two.other_among in
    let all_named : All (IsLiteralOf t.variables) c.lits-clause.result.now = subst (All (IsLiteralOf t.variables)) (sym clause_is) (c.requires.ready.named (n / 2) [] two.inside) in
    let lit : ℤ = c.in-Some.lit in
    let fits : SFits w32 lit = search rules in
    let may : MayWatch t.items (get_or clauses (n / 2) []) other lit =
    subst (λ xs. MayWatch t.items xs other lit) clause_is (subst (λ z. MayWatch t.items c.lits-clause.result.now z lit) other_is c.in-Some.ensures) in
    let moved_is : c.move_watch.new.self ≡ moved v n lit = c.move_watch.ensures.moved ∙ ap (moved v n) (to_z-of_z w32 lit fits) in
    let wrong : is_false t.items (lit_of v n) ≡ true = c.requires.wrong in
    let both = replaced clauses v t n c.requires.ready c.requires.stands wrong lit may (subst IsPlaced moved_is c.move_watch.ensures.placed) in
    (λ _. subst (λ w. IsVisited v w t.items n) (sym moved_is) both.1)

pub is_false-requires-clause-named : goal.is_false-requires-clause-named
is_false-requires-clause-named c =
    let clauses = c.args.arena.now.clauses in
    let v : ListsView = c.args.watches.now in
    let t : TrailView = c.args.trail.now in
    let n : ℕ = c.args.watch.place in
    let two : IsOneOfTwo v clauses n = two_of v clauses n c.requires.ready.watching c.requires.stands in
    let clause_is : c.lits-clause.result.now ≡ get_or clauses (n / 2) [] = c.lits-clause.ensures.clause ∙ ap (λ i. get_or clauses i []) c.clause-id.ensures in
    let other : ℤ = lit_of v (partner n) in
    let other_fits : SFits w32 c.other-other.result = search rules in
    let other_is : to_z w32 (of_z w32 c.other-other.result) ≡ other = to_z-of_z w32 c.other-other.result other_fits ∙ c.other-other.ensures in
    let other_named : IsLiteralOf t.variables other = watch_named t.variables clauses (n / 2) other c.requires.ready.named two.inside two.other_among in
    let all_named : All (IsLiteralOf t.variables) c.lits-clause.result.now = subst (All (IsLiteralOf t.variables)) (sym clause_is) (c.requires.ready.named (n / 2) [] two.inside) in
    subst (IsLiteralOf t.variables) (sym other_is) other_named

pub returns-then-is_false-clause-conflict : goal.returns-then-is_false-clause-conflict
returns-then-is_false-clause-conflict c =
    let clauses = c.args.arena.now.clauses in
    let v : ListsView = c.args.watches.now in
    let t : TrailView = c.args.trail.now in
    let n : ℕ = c.args.watch.place in
    let two : IsOneOfTwo v clauses n = two_of v clauses n c.requires.ready.watching c.requires.stands in
    let clause_is : c.lits-clause.result.now ≡ get_or clauses (n / 2) [] = c.lits-clause.ensures.clause ∙ ap (λ i. get_or clauses i []) c.clause-id.ensures in
    let other : ℤ = lit_of v (partner n) in
    let other_fits : SFits w32 c.other-other.result = search rules in
    let other_is : to_z w32 (of_z w32 c.other-other.result) ≡ other = to_z-of_z w32 c.other-other.result other_fits ∙ c.other-other.ensures in
    let other_named : IsLiteralOf t.variables other = watch_named t.variables clauses (n / 2) other c.requires.ready.named two.inside two.other_among in
    let all_named : All (IsLiteralOf t.variables) c.lits-clause.result.now = subst (All (IsLiteralOf t.variables)) (sym clause_is) (c.requires.ready.named (n / 2) [] two.inside) in
    let off : is_false t.items other ≡ true = subst (λ z. is_false t.items z ≡ true) other_is (sym c.is_false.ensures ∙ c.if-is_false.true) in
    let rest : list_all (is_or_false t.items other) (get_or clauses (n / 2) []) ≡ true =
    subst (λ xs. list_all (is_or_false t.items other) xs ≡ true) clause_is (subst (λ z. list_all (is_or_false t.items z) c.lits-clause.result.now ≡ true) other_is c.in_default.ensures) in
    (λ _. (two.inside, all_false t.items (get_or clauses (n / 2) []) other rest off))

pub true_level-level-requires-clause-named : goal.true_level-level-requires-clause-named
true_level-level-requires-clause-named c =
    let clauses = c.args.arena.now.clauses in
    let v : ListsView = c.args.watches.now in
    let t : TrailView = c.args.trail.now in
    let n : ℕ = c.args.watch.place in
    let two : IsOneOfTwo v clauses n = two_of v clauses n c.requires.ready.watching c.requires.stands in
    let clause_is : c.lits-clause.result.now ≡ get_or clauses (n / 2) [] = c.lits-clause.ensures.clause ∙ ap (λ i. get_or clauses i []) c.clause-id.ensures in
    let other : ℤ = lit_of v (partner n) in
    let other_fits : SFits w32 c.other-other.result = search rules in
    let other_is : to_z w32 (of_z w32 c.other-other.result) ≡ other = to_z-of_z w32 c.other-other.result other_fits ∙ c.other-other.ensures in
    let other_named : IsLiteralOf t.variables other = watch_named t.variables clauses (n / 2) other c.requires.ready.named two.inside two.other_among in
    let all_named : All (IsLiteralOf t.variables) c.lits-clause.result.now = subst (All (IsLiteralOf t.variables)) (sym clause_is) (c.requires.ready.named (n / 2) [] two.inside) in
    all_named

pub true_level-level-requires-clause-among : goal.true_level-level-requires-clause-among
true_level-level-requires-clause-among c =
    let clauses = c.args.arena.now.clauses in
    let v : ListsView = c.args.watches.now in
    let t : TrailView = c.args.trail.now in
    let n : ℕ = c.args.watch.place in
    let two : IsOneOfTwo v clauses n = two_of v clauses n c.requires.ready.watching c.requires.stands in
    let clause_is : c.lits-clause.result.now ≡ get_or clauses (n / 2) [] = c.lits-clause.ensures.clause ∙ ap (λ i. get_or clauses i []) c.clause-id.ensures in
    let other : ℤ = lit_of v (partner n) in
    let other_fits : SFits w32 c.other-other.result = search rules in
    let other_is : to_z w32 (of_z w32 c.other-other.result) ≡ other = to_z-of_z w32 c.other-other.result other_fits ∙ c.other-other.ensures in
    let other_named : IsLiteralOf t.variables other = watch_named t.variables clauses (n / 2) other c.requires.ready.named two.inside two.other_among in
    let all_named : All (IsLiteralOf t.variables) c.lits-clause.result.now = subst (All (IsLiteralOf t.variables)) (sym clause_is) (c.requires.ready.named (n / 2) [] two.inside) in
    let from_fits : SFits w32 c.literal-from.result = search rules in
    subst (λ z. has_literal c.lits-clause.result.now z ≡ true) (sym (to_z-of_z w32 c.literal-from.result from_fits ∙ c.literal-from.ensures)) (subst (λ xs. has_literal xs (lit_of v n) ≡ true) (sym clause_is) two.among)

pub on_level-highest-requires-clause-named : goal.on_level-highest-requires-clause-named
on_level-highest-requires-clause-named c =
    let clauses = c.args.arena.now.clauses in
    let v : ListsView = c.args.watches.now in
    let t : TrailView = c.args.trail.now in
    let n : ℕ = c.args.watch.place in
    let two : IsOneOfTwo v clauses n = two_of v clauses n c.requires.ready.watching c.requires.stands in
    let clause_is : c.lits-clause.result.now ≡ get_or clauses (n / 2) [] = c.lits-clause.ensures.clause ∙ ap (λ i. get_or clauses i []) c.clause-id.ensures in
    let other : ℤ = lit_of v (partner n) in
    let other_fits : SFits w32 c.other-other.result = search rules in
    let other_is : to_z w32 (of_z w32 c.other-other.result) ≡ other = to_z-of_z w32 c.other-other.result other_fits ∙ c.other-other.ensures in
    let other_named : IsLiteralOf t.variables other = watch_named t.variables clauses (n / 2) other c.requires.ready.named two.inside two.other_among in
    let all_named : All (IsLiteralOf t.variables) c.lits-clause.result.now = subst (All (IsLiteralOf t.variables)) (sym clause_is) (c.requires.ready.named (n / 2) [] two.inside) in
    all_named

pub on_level-highest-requires-clause-among : goal.on_level-highest-requires-clause-among
on_level-highest-requires-clause-among c =
    let clauses = c.args.arena.now.clauses in
    let v : ListsView = c.args.watches.now in
    let t : TrailView = c.args.trail.now in
    let n : ℕ = c.args.watch.place in
    let two : IsOneOfTwo v clauses n = two_of v clauses n c.requires.ready.watching c.requires.stands in
    let clause_is : c.lits-clause.result.now ≡ get_or clauses (n / 2) [] = c.lits-clause.ensures.clause ∙ ap (λ i. get_or clauses i []) c.clause-id.ensures in
    let other : ℤ = lit_of v (partner n) in
    let other_fits : SFits w32 c.other-other.result = search rules in
    let other_is : to_z w32 (of_z w32 c.other-other.result) ≡ other = to_z-of_z w32 c.other-other.result other_fits ∙ c.other-other.ensures in
    let other_named : IsLiteralOf t.variables other = watch_named t.variables clauses (n / 2) other c.requires.ready.named two.inside two.other_among in
    let all_named : All (IsLiteralOf t.variables) c.lits-clause.result.now = subst (All (IsLiteralOf t.variables)) (sym clause_is) (c.requires.ready.named (n / 2) [] two.inside) in
    let from_fits : SFits w32 c.literal-from.result = search rules in
    subst (λ z. has_literal c.lits-clause.result.now z ≡ true) (sym (to_z-of_z w32 c.literal-from.result from_fits ∙ c.literal-from.ensures)) (subst (λ xs. has_literal xs (lit_of v n) ≡ true) (sym clause_is) two.among)

pub assign-requires-clause-named : goal.assign-requires-clause-named
assign-requires-clause-named c =
    let clauses = c.args.arena.now.clauses in
    let v : ListsView = c.args.watches.now in
    let t : TrailView = c.args.trail.now in
    let n : ℕ = c.args.watch.place in
    let two : IsOneOfTwo v clauses n = two_of v clauses n c.requires.ready.watching c.requires.stands in
    let clause_is : c.lits-clause.result.now ≡ get_or clauses (n / 2) [] = c.lits-clause.ensures.clause ∙ ap (λ i. get_or clauses i []) c.clause-id.ensures in
    let other : ℤ = lit_of v (partner n) in
    let other_fits : SFits w32 c.other-other.result = search rules in
    let other_is : to_z w32 (of_z w32 c.other-other.result) ≡ other = to_z-of_z w32 c.other-other.result other_fits ∙ c.other-other.ensures in
    let other_named : IsLiteralOf t.variables other = watch_named t.variables clauses (n / 2) other c.requires.ready.named two.inside two.other_among in
    let all_named : All (IsLiteralOf t.variables) c.lits-clause.result.now = subst (All (IsLiteralOf t.variables)) (sym clause_is) (c.requires.ready.named (n / 2) [] two.inside) in
    subst (λ z. 0 < nat_abs z) (sym other_is) other_named.0

pub assign-requires-clause-within : goal.assign-requires-clause-within
assign-requires-clause-within c =
    let clauses = c.args.arena.now.clauses in
    let v : ListsView = c.args.watches.now in
    let t : TrailView = c.args.trail.now in
    let n : ℕ = c.args.watch.place in
    let two : IsOneOfTwo v clauses n = two_of v clauses n c.requires.ready.watching c.requires.stands in
    let clause_is : c.lits-clause.result.now ≡ get_or clauses (n / 2) [] = c.lits-clause.ensures.clause ∙ ap (λ i. get_or clauses i []) c.clause-id.ensures in
    let other : ℤ = lit_of v (partner n) in
    let other_fits : SFits w32 c.other-other.result = search rules in
    let other_is : to_z w32 (of_z w32 c.other-other.result) ≡ other = to_z-of_z w32 c.other-other.result other_fits ∙ c.other-other.ensures in
    let other_named : IsLiteralOf t.variables other = watch_named t.variables clauses (n / 2) other c.requires.ready.named two.inside two.other_among in
    let all_named : All (IsLiteralOf t.variables) c.lits-clause.result.now = subst (All (IsLiteralOf t.variables)) (sym clause_is) (c.requires.ready.named (n / 2) [] two.inside) in
    subst (λ z. nat_abs z ≤ t.variables) (sym other_is) other_named.1

pub assign-requires-clause-unassigned : goal.assign-requires-clause-unassigned
assign-requires-clause-unassigned c =
    let clauses = c.args.arena.now.clauses in
    let v : ListsView = c.args.watches.now in
    let t : TrailView = c.args.trail.now in
    let n : ℕ = c.args.watch.place in
    let two : IsOneOfTwo v clauses n = two_of v clauses n c.requires.ready.watching c.requires.stands in
    let clause_is : c.lits-clause.result.now ≡ get_or clauses (n / 2) [] = c.lits-clause.ensures.clause ∙ ap (λ i. get_or clauses i []) c.clause-id.ensures in
    let other : ℤ = lit_of v (partner n) in
    let other_fits : SFits w32 c.other-other.result = search rules in
    let other_is : to_z w32 (of_z w32 c.other-other.result) ≡ other = to_z-of_z w32 c.other-other.result other_fits ∙ c.other-other.ensures in
    let other_named : IsLiteralOf t.variables other = watch_named t.variables clauses (n / 2) other c.requires.ready.named two.inside two.other_among in
    let all_named : All (IsLiteralOf t.variables) c.lits-clause.result.now = subst (All (IsLiteralOf t.variables)) (sym clause_is) (c.requires.ready.named (n / 2) [] two.inside) in
    let off : is_false t.items other ≡ false = subst (λ z. is_false t.items z ≡ false) other_is (sym c.is_false.ensures ∙ c.if-is_false.false) in
    let rest : list_all (is_or_false t.items other) (get_or clauses (n / 2) []) ≡ true =
    subst (λ xs. list_all (is_or_false t.items other) xs ≡ true) clause_is (subst (λ z. list_all (is_or_false t.items z) c.lits-clause.result.now ≡ true) other_is c.in_default.ensures) in
    let here : IsUnit t.items other (get_or clauses (n / 2) []) = unit clauses v t n c.requires.ready c.requires.stands (subst (λ z. is_true t.items z ≡ false) other_is (sym c.is_true.ensures ∙ c.if-is_true.false)) off rest in
    subst (λ z. item_of t.items (nat_abs z) ≡ None) (sym other_is) here.free

pub assign-requires-clause-below : goal.assign-requires-clause-below
assign-requires-clause-below c =
    let clauses = c.args.arena.now.clauses in
    let v : ListsView = c.args.watches.now in
    let t : TrailView = c.args.trail.now in
    let n : ℕ = c.args.watch.place in
    let two : IsOneOfTwo v clauses n = two_of v clauses n c.requires.ready.watching c.requires.stands in
    let clause_is : c.lits-clause.result.now ≡ get_or clauses (n / 2) [] = c.lits-clause.ensures.clause ∙ ap (λ i. get_or clauses i []) c.clause-id.ensures in
    let other : ℤ = lit_of v (partner n) in
    let other_fits : SFits w32 c.other-other.result = search rules in
    let other_is : to_z w32 (of_z w32 c.other-other.result) ≡ other = to_z-of_z w32 c.other-other.result other_fits ∙ c.other-other.ensures in
    let other_named : IsLiteralOf t.variables other = watch_named t.variables clauses (n / 2) other c.requires.ready.named two.inside two.other_among in
    let all_named : All (IsLiteralOf t.variables) c.lits-clause.result.now = subst (All (IsLiteralOf t.variables)) (sym clause_is) (c.requires.ready.named (n / 2) [] two.inside) in
    subst (λ k. k ≤ t.level) (sym c.true_level-level.ensures) (true_level_low t.variables t.items t.level (to_z w32 (of_z w32 c.other-other.result)) c.lits-clause.result.now c.requires.ready.stands)

pub move_watch-requires-then-highest-from-clause-listed : goal.move_watch-requires-then-highest-from-clause-listed
move_watch-requires-then-highest-from-clause-listed c =
    let clauses = c.args.arena.now.clauses in
    let v : ListsView = c.args.watches.now in
    let t : TrailView = c.args.trail.now in
    let n : ℕ = c.args.watch.place in
    let two : IsOneOfTwo v clauses n = two_of v clauses n c.requires.ready.watching c.requires.stands in
    let clause_is : c.lits-clause.result.now ≡ get_or clauses (n / 2) [] = c.lits-clause.ensures.clause ∙ ap (λ i. get_or clauses i []) c.clause-id.ensures in
    let other : ℤ = lit_of v (partner n) in
    let other_fits : SFits w32 c.other-other.result = search rules in
    let other_is : to_z w32 (of_z w32 c.other-other.result) ≡ other = to_z-of_z w32 c.other-other.result other_fits ∙ c.other-other.ensures in
    let other_named : IsLiteralOf t.variables other = watch_named t.variables clauses (n / 2) other c.requires.ready.named two.inside two.other_among in
    let all_named : All (IsLiteralOf t.variables) c.lits-clause.result.now = subst (All (IsLiteralOf t.variables)) (sym clause_is) (c.requires.ready.named (n / 2) [] two.inside) in
    let h : ℤ = c.on_level-highest.result in
    let h_fits : SFits w32 h = search rules in
    let h_among : has_literal (get_or clauses (n / 2) []) h ≡ true = subst (λ xs. has_literal xs h ≡ true) clause_is c.on_level-highest.ensures.among in
    subst (λ z. key z < length v.lists) (sym (to_z-of_z w32 h h_fits)) (has_list clauses v t n c.requires.ready c.requires.stands h h_among)

pub returns-then-highest-from-clause-ready : goal.returns-then-highest-from-clause-ready
returns-then-highest-from-clause-ready c =
    let clauses = c.args.arena.now.clauses in
    let v : ListsView = c.args.watches.now in
    let t : TrailView = c.args.trail.now in
    let n : ℕ = c.args.watch.place in
    let two : IsOneOfTwo v clauses n = two_of v clauses n c.requires.ready.watching c.requires.stands in
    let clause_is : c.lits-clause.result.now ≡ get_or clauses (n / 2) [] = c.lits-clause.ensures.clause ∙ ap (λ i. get_or clauses i []) c.clause-id.ensures in
    let other : ℤ = lit_of v (partner n) in
    let other_fits : SFits w32 c.other-other.result = search rules in
    let other_is : to_z w32 (of_z w32 c.other-other.result) ≡ other = to_z-of_z w32 c.other-other.result other_fits ∙ c.other-other.ensures in
    let other_named : IsLiteralOf t.variables other = watch_named t.variables clauses (n / 2) other c.requires.ready.named two.inside two.other_among in
    let all_named : All (IsLiteralOf t.variables) c.lits-clause.result.now = subst (All (IsLiteralOf t.variables)) (sym clause_is) (c.requires.ready.named (n / 2) [] two.inside) in
    let off : is_false t.items other ≡ false = subst (λ z. is_false t.items z ≡ false) other_is (sym c.is_false.ensures ∙ c.if-is_false.false) in
    let rest : list_all (is_or_false t.items other) (get_or clauses (n / 2) []) ≡ true =
    subst (λ xs. list_all (is_or_false t.items other) xs ≡ true) clause_is (subst (λ z. list_all (is_or_false t.items z) c.lits-clause.result.now ≡ true) other_is c.in_default.ensures) in
    let here : IsUnit t.items other (get_or clauses (n / 2) []) = unit clauses v t n c.requires.ready c.requires.stands (subst (λ z. is_true t.items z ≡ false) other_is (sym c.is_true.ensures ∙ c.if-is_true.false)) off rest in
    let new : TrailView = c.assign.new.self in
    let grown : new.items ≡ t.items ++ implied_by clauses t.items (n / 2) other ∷ [] =
    grown_from clauses t.items new.items c.clause-id.result (n / 2) other (to_z w32 (of_z w32 c.other-other.result)) c.true_level-level.result c.lits-clause.result.now
    other_is c.clause-id.ensures clause_is c.true_level-level.ensures c.assign.ensures.items in
    let same : IsSameBut t new = record { variables = c.assign.ensures.variables; level = c.assign.ensures.level; seen = c.assign.ensures.seen } in
    let ready : IsReady clauses v new = ready_implied clauses v t n c.requires.ready c.requires.stands new here grown same in
    let on : is_true new.items other ≡ true = now_true clauses v t n c.requires.ready c.requires.stands new here grown same in
    let h : ℤ = c.on_level-highest.result in
    let h_fits : SFits w32 h = search rules in
    let h_among : has_literal (get_or clauses (n / 2) []) h ≡ true = subst (λ xs. has_literal xs h ≡ true) clause_is c.on_level-highest.ensures.among in
    let moved_is : c.move_watch-then-highest-from.new.self ≡ moved v n h = c.move_watch-then-highest-from.ensures.moved ∙ ap (moved v n) (to_z-of_z w32 h h_fits) in
    let away = λ (e : h ≡ lit_of v n). c.if-highest-from.true (bits_from_same h c.literal-from.result (e ∙ sym c.literal-from.ensures)) in
    let both = lifted clauses v new n ready c.requires.stands on h h_among (λ e. c.on_level-highest.ensures.differs (e ∙ sym other_is)) away (subst IsPlaced moved_is c.move_watch-then-highest-from.ensures.placed) in
    subst (λ w. IsReady clauses w new) (sym moved_is) both.0

pub returns-then-highest-from-clause-steps : goal.returns-then-highest-from-clause-steps
returns-then-highest-from-clause-steps c =
    let clauses = c.args.arena.now.clauses in
    let v : ListsView = c.args.watches.now in
    let t : TrailView = c.args.trail.now in
    let n : ℕ = c.args.watch.place in
    let two : IsOneOfTwo v clauses n = two_of v clauses n c.requires.ready.watching c.requires.stands in
    let clause_is : c.lits-clause.result.now ≡ get_or clauses (n / 2) [] = c.lits-clause.ensures.clause ∙ ap (λ i. get_or clauses i []) c.clause-id.ensures in
    let other : ℤ = lit_of v (partner n) in
    let other_fits : SFits w32 c.other-other.result = search rules in
    let other_is : to_z w32 (of_z w32 c.other-other.result) ≡ other = to_z-of_z w32 c.other-other.result other_fits ∙ c.other-other.ensures in
    let other_named : IsLiteralOf t.variables other = watch_named t.variables clauses (n / 2) other c.requires.ready.named two.inside two.other_among in
    let all_named : All (IsLiteralOf t.variables) c.lits-clause.result.now = subst (All (IsLiteralOf t.variables)) (sym clause_is) (c.requires.ready.named (n / 2) [] two.inside) in
    let off : is_false t.items other ≡ false = subst (λ z. is_false t.items z ≡ false) other_is (sym c.is_false.ensures ∙ c.if-is_false.false) in
    let rest : list_all (is_or_false t.items other) (get_or clauses (n / 2) []) ≡ true =
    subst (λ xs. list_all (is_or_false t.items other) xs ≡ true) clause_is (subst (λ z. list_all (is_or_false t.items z) c.lits-clause.result.now ≡ true) other_is c.in_default.ensures) in
    let here : IsUnit t.items other (get_or clauses (n / 2) []) = unit clauses v t n c.requires.ready c.requires.stands (subst (λ z. is_true t.items z ≡ false) other_is (sym c.is_true.ensures ∙ c.if-is_true.false)) off rest in
    let new : TrailView = c.assign.new.self in
    let grown : new.items ≡ t.items ++ implied_by clauses t.items (n / 2) other ∷ [] =
    grown_from clauses t.items new.items c.clause-id.result (n / 2) other (to_z w32 (of_z w32 c.other-other.result)) c.true_level-level.result c.lits-clause.result.now
    other_is c.clause-id.ensures clause_is c.true_level-level.ensures c.assign.ensures.items in
    let same : IsSameBut t new = record { variables = c.assign.ensures.variables; level = c.assign.ensures.level; seen = c.assign.ensures.seen } in
    let ready : IsReady clauses v new = ready_implied clauses v t n c.requires.ready c.requires.stands new here grown same in
    let on : is_true new.items other ≡ true = now_true clauses v t n c.requires.ready c.requires.stands new here grown same in
    one_step clauses t.items new.items (n / 2) other two.inside here grown

pub returns-then-highest-from-clause-passed : goal.returns-then-highest-from-clause-passed
returns-then-highest-from-clause-passed c =
    let clauses = c.args.arena.now.clauses in
    let v : ListsView = c.args.watches.now in
    let t : TrailView = c.args.trail.now in
    let n : ℕ = c.args.watch.place in
    let two : IsOneOfTwo v clauses n = two_of v clauses n c.requires.ready.watching c.requires.stands in
    let clause_is : c.lits-clause.result.now ≡ get_or clauses (n / 2) [] = c.lits-clause.ensures.clause ∙ ap (λ i. get_or clauses i []) c.clause-id.ensures in
    let other : ℤ = lit_of v (partner n) in
    let other_fits : SFits w32 c.other-other.result = search rules in
    let other_is : to_z w32 (of_z w32 c.other-other.result) ≡ other = to_z-of_z w32 c.other-other.result other_fits ∙ c.other-other.ensures in
    let other_named : IsLiteralOf t.variables other = watch_named t.variables clauses (n / 2) other c.requires.ready.named two.inside two.other_among in
    let all_named : All (IsLiteralOf t.variables) c.lits-clause.result.now = subst (All (IsLiteralOf t.variables)) (sym clause_is) (c.requires.ready.named (n / 2) [] two.inside) in
    let off : is_false t.items other ≡ false = subst (λ z. is_false t.items z ≡ false) other_is (sym c.is_false.ensures ∙ c.if-is_false.false) in
    let rest : list_all (is_or_false t.items other) (get_or clauses (n / 2) []) ≡ true =
    subst (λ xs. list_all (is_or_false t.items other) xs ≡ true) clause_is (subst (λ z. list_all (is_or_false t.items z) c.lits-clause.result.now ≡ true) other_is c.in_default.ensures) in
    let here : IsUnit t.items other (get_or clauses (n / 2) []) = unit clauses v t n c.requires.ready c.requires.stands (subst (λ z. is_true t.items z ≡ false) other_is (sym c.is_true.ensures ∙ c.if-is_true.false)) off rest in
    let new : TrailView = c.assign.new.self in
    let grown : new.items ≡ t.items ++ implied_by clauses t.items (n / 2) other ∷ [] =
    grown_from clauses t.items new.items c.clause-id.result (n / 2) other (to_z w32 (of_z w32 c.other-other.result)) c.true_level-level.result c.lits-clause.result.now
    other_is c.clause-id.ensures clause_is c.true_level-level.ensures c.assign.ensures.items in
    let same : IsSameBut t new = record { variables = c.assign.ensures.variables; level = c.assign.ensures.level; seen = c.assign.ensures.seen } in
    let ready : IsReady clauses v new = ready_implied clauses v t n c.requires.ready c.requires.stands new here grown same in
    let on : is_true new.items other ≡ true = now_true clauses v t n c.requires.ready c.requires.stands new here grown same in
    let h : ℤ = c.on_level-highest.result in
    let h_fits : SFits w32 h = search rules in
    let h_among : has_literal (get_or clauses (n / 2) []) h ≡ true = subst (λ xs. has_literal xs h ≡ true) clause_is c.on_level-highest.ensures.among in
    let moved_is : c.move_watch-then-highest-from.new.self ≡ moved v n h = c.move_watch-then-highest-from.ensures.moved ∙ ap (moved v n) (to_z-of_z w32 h h_fits) in
    let away = λ (e : h ≡ lit_of v n). c.if-highest-from.true (bits_from_same h c.literal-from.result (e ∙ sym c.literal-from.ensures)) in
    let both = lifted clauses v new n ready c.requires.stands on h h_among (λ e. c.on_level-highest.ensures.differs (e ∙ sym other_is)) away (subst IsPlaced moved_is c.move_watch-then-highest-from.ensures.placed) in
    (λ _. subst (λ w. IsVisited v w new.items n) (sym moved_is) both.1)

pub returns-else-highest-from-clause-passed : goal.returns-else-highest-from-clause-passed
returns-else-highest-from-clause-passed c =
    let clauses = c.args.arena.now.clauses in
    let v : ListsView = c.args.watches.now in
    let t : TrailView = c.args.trail.now in
    let n : ℕ = c.args.watch.place in
    let two : IsOneOfTwo v clauses n = two_of v clauses n c.requires.ready.watching c.requires.stands in
    let clause_is : c.lits-clause.result.now ≡ get_or clauses (n / 2) [] = c.lits-clause.ensures.clause ∙ ap (λ i. get_or clauses i []) c.clause-id.ensures in
    let other : ℤ = lit_of v (partner n) in
    let other_fits : SFits w32 c.other-other.result = search rules in
    let other_is : to_z w32 (of_z w32 c.other-other.result) ≡ other = to_z-of_z w32 c.other-other.result other_fits ∙ c.other-other.ensures in
    let other_named : IsLiteralOf t.variables other = watch_named t.variables clauses (n / 2) other c.requires.ready.named two.inside two.other_among in
    let all_named : All (IsLiteralOf t.variables) c.lits-clause.result.now = subst (All (IsLiteralOf t.variables)) (sym clause_is) (c.requires.ready.named (n / 2) [] two.inside) in
    let off : is_false t.items other ≡ false = subst (λ z. is_false t.items z ≡ false) other_is (sym c.is_false.ensures ∙ c.if-is_false.false) in
    let rest : list_all (is_or_false t.items other) (get_or clauses (n / 2) []) ≡ true =
    subst (λ xs. list_all (is_or_false t.items other) xs ≡ true) clause_is (subst (λ z. list_all (is_or_false t.items z) c.lits-clause.result.now ≡ true) other_is c.in_default.ensures) in
    let here : IsUnit t.items other (get_or clauses (n / 2) []) = unit clauses v t n c.requires.ready c.requires.stands (subst (λ z. is_true t.items z ≡ false) other_is (sym c.is_true.ensures ∙ c.if-is_true.false)) off rest in
    let new : TrailView = c.assign.new.self in
    let grown : new.items ≡ t.items ++ implied_by clauses t.items (n / 2) other ∷ [] =
    grown_from clauses t.items new.items c.clause-id.result (n / 2) other (to_z w32 (of_z w32 c.other-other.result)) c.true_level-level.result c.lits-clause.result.now
    other_is c.clause-id.ensures clause_is c.true_level-level.ensures c.assign.ensures.items in
    let same : IsSameBut t new = record { variables = c.assign.ensures.variables; level = c.assign.ensures.level; seen = c.assign.ensures.seen } in
    let ready : IsReady clauses v new = ready_implied clauses v t n c.requires.ready c.requires.stands new here grown same in
    let on : is_true new.items other ≡ true = now_true clauses v t n c.requires.ready c.requires.stands new here grown same in
    (λ _. inl (refl, on))

pub returns-else-highest-from-clause-ready : goal.returns-else-highest-from-clause-ready
returns-else-highest-from-clause-ready c =
    let clauses = c.args.arena.now.clauses in
    let v : ListsView = c.args.watches.now in
    let t : TrailView = c.args.trail.now in
    let n : ℕ = c.args.watch.place in
    let two : IsOneOfTwo v clauses n = two_of v clauses n c.requires.ready.watching c.requires.stands in
    let clause_is : c.lits-clause.result.now ≡ get_or clauses (n / 2) [] = c.lits-clause.ensures.clause ∙ ap (λ i. get_or clauses i []) c.clause-id.ensures in
    let other : ℤ = lit_of v (partner n) in
    let other_fits : SFits w32 c.other-other.result = search rules in
    let other_is : to_z w32 (of_z w32 c.other-other.result) ≡ other = to_z-of_z w32 c.other-other.result other_fits ∙ c.other-other.ensures in
    let other_named : IsLiteralOf t.variables other = watch_named t.variables clauses (n / 2) other c.requires.ready.named two.inside two.other_among in
    let all_named : All (IsLiteralOf t.variables) c.lits-clause.result.now = subst (All (IsLiteralOf t.variables)) (sym clause_is) (c.requires.ready.named (n / 2) [] two.inside) in
    let off : is_false t.items other ≡ false = subst (λ z. is_false t.items z ≡ false) other_is (sym c.is_false.ensures ∙ c.if-is_false.false) in
    let rest : list_all (is_or_false t.items other) (get_or clauses (n / 2) []) ≡ true =
    subst (λ xs. list_all (is_or_false t.items other) xs ≡ true) clause_is (subst (λ z. list_all (is_or_false t.items z) c.lits-clause.result.now ≡ true) other_is c.in_default.ensures) in
    let here : IsUnit t.items other (get_or clauses (n / 2) []) = unit clauses v t n c.requires.ready c.requires.stands (subst (λ z. is_true t.items z ≡ false) other_is (sym c.is_true.ensures ∙ c.if-is_true.false)) off rest in
    let new : TrailView = c.assign.new.self in
    let grown : new.items ≡ t.items ++ implied_by clauses t.items (n / 2) other ∷ [] =
    grown_from clauses t.items new.items c.clause-id.result (n / 2) other (to_z w32 (of_z w32 c.other-other.result)) c.true_level-level.result c.lits-clause.result.now
    other_is c.clause-id.ensures clause_is c.true_level-level.ensures c.assign.ensures.items in
    let same : IsSameBut t new = record { variables = c.assign.ensures.variables; level = c.assign.ensures.level; seen = c.assign.ensures.seen } in
    let ready : IsReady clauses v new = ready_implied clauses v t n c.requires.ready c.requires.stands new here grown same in
    let on : is_true new.items other ≡ true = now_true clauses v t n c.requires.ready c.requires.stands new here grown same in
    ready

pub returns-else-highest-from-clause-steps : goal.returns-else-highest-from-clause-steps
returns-else-highest-from-clause-steps c =
    let clauses = c.args.arena.now.clauses in
    let v : ListsView = c.args.watches.now in
    let t : TrailView = c.args.trail.now in
    let n : ℕ = c.args.watch.place in
    let two : IsOneOfTwo v clauses n = two_of v clauses n c.requires.ready.watching c.requires.stands in
    let clause_is : c.lits-clause.result.now ≡ get_or clauses (n / 2) [] = c.lits-clause.ensures.clause ∙ ap (λ i. get_or clauses i []) c.clause-id.ensures in
    let other : ℤ = lit_of v (partner n) in
    let other_fits : SFits w32 c.other-other.result = search rules in
    let other_is : to_z w32 (of_z w32 c.other-other.result) ≡ other = to_z-of_z w32 c.other-other.result other_fits ∙ c.other-other.ensures in
    let other_named : IsLiteralOf t.variables other = watch_named t.variables clauses (n / 2) other c.requires.ready.named two.inside two.other_among in
    let all_named : All (IsLiteralOf t.variables) c.lits-clause.result.now = subst (All (IsLiteralOf t.variables)) (sym clause_is) (c.requires.ready.named (n / 2) [] two.inside) in
    let off : is_false t.items other ≡ false = subst (λ z. is_false t.items z ≡ false) other_is (sym c.is_false.ensures ∙ c.if-is_false.false) in
    let rest : list_all (is_or_false t.items other) (get_or clauses (n / 2) []) ≡ true =
    subst (λ xs. list_all (is_or_false t.items other) xs ≡ true) clause_is (subst (λ z. list_all (is_or_false t.items z) c.lits-clause.result.now ≡ true) other_is c.in_default.ensures) in
    let here : IsUnit t.items other (get_or clauses (n / 2) []) = unit clauses v t n c.requires.ready c.requires.stands (subst (λ z. is_true t.items z ≡ false) other_is (sym c.is_true.ensures ∙ c.if-is_true.false)) off rest in
    let new : TrailView = c.assign.new.self in
    let grown : new.items ≡ t.items ++ implied_by clauses t.items (n / 2) other ∷ [] =
    grown_from clauses t.items new.items c.clause-id.result (n / 2) other (to_z w32 (of_z w32 c.other-other.result)) c.true_level-level.result c.lits-clause.result.now
    other_is c.clause-id.ensures clause_is c.true_level-level.ensures c.assign.ensures.items in
    let same : IsSameBut t new = record { variables = c.assign.ensures.variables; level = c.assign.ensures.level; seen = c.assign.ensures.seen } in
    let ready : IsReady clauses v new = ready_implied clauses v t n c.requires.ready c.requires.stands new here grown same in
    let on : is_true new.items other ≡ true = now_true clauses v t n c.requires.ready c.requires.stands new here grown same in
    one_step clauses t.items new.items (n / 2) other two.inside here grown
