use Rattle.std.proofs.Common.{◌≡◌, ◌+◌, ◌*◌, ◌<◌, ◌≤◌, ap, sym, subst, ◌∙◌, length, [], refl, arith}
use Rattle.std.specs.List.{All}
use Rattle.std.proofs.lemmas.List.{length-map}
use Rattle.sat_terms.specs.CubeOrder.{key}
use Rattle.watch_lists.specs.declared.nodes.Node.{Node}
use Rattle.watch_lists.specs.Nodes.{lists_view}
use Rattle.watch_lists.specs.Views.{ListsView}
use Rattle.watch_lists.proofs.AllLists.{count_is}
use Rattle.watch_lists.proofs.Seen.{placed_is, watched_lits, watched_lists}
use Rattle.watch_lists.proofs.Watching.{IsUpto, upto_next, upto_all}
use Rattle.watch_lists.proofs.watches.watch_all.Goals as goal

pub watch_first_two-requires-clause-inside : goal.watch_first_two-requires-clause-inside
watch_first_two-requires-clause-inside c =
    let places = c.loop-id.invariant.upto.places in
    let long = length-map c.loop-id.nodes.items (λ (m : Node). m.lit) in
    omega arith

pub watch_first_two-requires-clause-listed : goal.watch_first_two-requires-clause-listed
watch_first_two-requires-clause-listed c =
    let below : c.loop-id.id < length c.args.arena.now.clauses = omega arith in
    subst (λ n. All (λ l. key l < n) c.lits.result.now) (sym c.loop-id.invariant.count)
    (subst (All (λ l. key l < length c.args.heads.now.items)) (sym c.lits.ensures.clause) (c.requires.listed c.loop-id.id [] below))

pub watch_first_two-requires-clause-first : goal.watch_first_two-requires-clause-first
watch_first_two-requires-clause-first c = c.loop-id.invariant.upto.free (2 * c.loop-id.id) (omega arith)

pub watch_first_two-requires-clause-second : goal.watch_first_two-requires-clause-second
watch_first_two-requires-clause-second c = c.loop-id.invariant.upto.free (2 * c.loop-id.id + 1) (omega arith)

pub loop-id-init : goal.loop-id-init
loop-id-init c = record {
  linked = c.requires.linked;
  long = refl;
  count = refl;
  upto = record {
    places = subst (λ n. 2 * length c.args.arena.now.clauses ≤ n) (sym (length-map c.args.nodes.now.items (λ (m : Node). m.lit))) c.requires.places;
    watched = λ id h. absurd (omega arith);
    free = λ n h. c.requires.free n;
  };
}

pub loop-id-preserved : goal.loop-id-preserved
loop-id-preserved c =
    let nodes = c.loop-id.nodes.items in
    let heads = c.loop-id.heads.items in
    let nodes' = c.watch_first_two.new.nodes.items in
    let heads' = c.watch_first_two.new.heads.items in
    let v = lists_view nodes heads in
    let id = c.loop-id.id in
    let lits = c.lits.result.now in
    let below : c.loop-id.id < length c.args.arena.now.clauses = omega arith in
    let count = count_is nodes heads ∙ c.loop-id.invariant.count in
    let listed : All (λ l. key l < length v.lists) lits =
    subst (λ n. All (λ l. key l < n) lits) (sym count)
    (subst (All (λ l. key l < length c.args.heads.now.items)) (sym c.lits.ensures.clause) (c.requires.listed id [] below)) in
    record {
      linked = c.watch_first_two.ensures.linked;
      long = sym (length-map nodes' (λ (m : Node). m.lit)) ∙ ap (λ (w : ListsView). length w.lits) c.watch_first_two.ensures.watched
          ∙ watched_lits v (2 * id) lits ∙ length-map nodes (λ (m : Node). m.lit) ∙ c.loop-id.invariant.long;
      count = sym (count_is nodes' heads') ∙ ap (λ (w : ListsView). length w.lists) c.watch_first_two.ensures.watched
          ∙ watched_lists v (2 * id) lits ∙ count;
      upto = upto_next v (lists_view nodes' heads') c.args.arena.now.clauses id lits c.loop-id.invariant.upto below
          c.lits.ensures.clause c.lits.ensures.once listed c.watch_first_two.ensures.watched;
    }

pub returns-clause-watching : goal.returns-clause-watching
returns-clause-watching c =
    let nodes = c.loop-id.nodes.items in
    let heads = c.loop-id.heads.items in
    let all : c.loop-id.id ≡ length c.args.arena.now.clauses = omega arith in
    upto_all (lists_view nodes heads) c.args.arena.now.clauses (placed_is nodes heads c.loop-id.invariant.linked)
    (subst (IsUpto (lists_view nodes heads) c.args.arena.now.clauses) all c.loop-id.invariant.upto)
