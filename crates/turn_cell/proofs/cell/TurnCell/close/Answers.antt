use Rattle.std.proofs.Common.{◌≡◌, ◌<◌, ◌≤◌, [], ◌∷◌, ◌++◌, length, map, sym, ap, subst, ◌∙◌, arith, get_or}
use Rattle.std.specs.Prelude.{All, Contains}
use Rattle.std.proofs.lemmas.List.{append-nil}
use Rattle.turn_cell.specs.Rule.{claim_count}
use Rattle.turn_cell.specs.Passes.{IsPassOf}
use Rattle.turn_cell.specs.Idle.{claim_of}
use Rattle.turn_cell.proofs.Lists.{Has, Contains-from_Has, All-Has, All-from_Has, has_claim}
use Rattle.turn_cell.proofs.Closing.{all_last, all_front, claims_next, nothing_left, has_mapped, has_number}
use Rattle.turn_cell.proofs.cell.TurnCell.close.Goals as goal

pub unreachable-requires : goal.unreachable-requires
unreachable-requires g c = let some : 1 ≤ c.args.self.passes = subst (λ k. 1 ≤ k) (ap (λ v. v.passes) c.self.view_is) c.self.invariant.some in
    let none : c.args.passes.items ≡ [] = nothing_left _ _ c.args.passes.ok.0 c.in_default.ensures.variant.1 in omega (arith, ap length none, c.requires.all)

pub loop-pass-init : goal.loop-pass-init
loop-pass-init g c = let items = c.in-Some.ensures.items in let own = subst (All (IsPassOf c.args.self)) items c.requires.own in
    let idle = c.into_seat-seat.ensures.idle in let same = c.into_seat-seat.ensures.same in
    let claims = idle.one_claim ∙ ap (λ q. claim_of q ∷ []) same in record {
      table = ap (λ q. q.table) same ∙ ((all_last (IsPassOf c.args.self) _ _ own).table ∙ sym (ap (λ v. v.table) c.self.view_is));
      turn = idle.no_turn;
      some_claim = omega (arith, ap length claims);
      claims = ap (λ l. map claim_of c.pop.new.self.items ++ l) claims ∙ (claims_next _ _ _ [] items ∙ append-nil _);
      own = all_front (IsPassOf c.args.self) _ _ own;
    }

pub take_over-requires-clause-other : goal.take_over-requires-clause-other
take_over-requires-clause-other g c = let own = subst (All (IsPassOf c.args.self)) c.in-Some-pop.ensures.items c.loop-pass.invariant.own in
    ap (λ q. q.table) c.into_seat.ensures.same ∙ ((all_last (IsPassOf c.args.self) _ _ own).table ∙ sym (ap (λ v. v.table) c.self.view_is))

pub loop-pass-preserved : goal.loop-pass-preserved
loop-pass-preserved g c = let items = c.in-Some-pop.ensures.items in let own = subst (All (IsPassOf c.args.self)) items c.loop-pass.invariant.own in
    let old = c.loop-pass.invariant in let did = c.take_over.ensures.claims in
    let claims = c.into_seat.ensures.idle.one_claim ∙ ap (λ q. claim_of q ∷ []) c.into_seat.ensures.same in
    let now : c.take_over.new.seat.me.0.claims ≡ (claim_of c.in-Some-pop.pass ∷ []) ++ c.loop-pass.seat.me.0.claims = ap (λ m. m.0.claims) did ∙ ap (λ l. l ++ c.loop-pass.seat.me.0.claims) claims in record {
      table = c.take_over.ensures.seat.table ∙ old.table;
      turn = ap (λ m. m.0.turn) did ∙ old.turn;
      some_claim = omega (arith, ap length now);
      claims = ap (λ l. map claim_of c.pop-in-loop-pass.new.self.items ++ l) now ∙ (claims_next _ _ _ c.loop-pass.seat.me.0.claims items ∙ old.claims);
      own = all_front (IsPassOf c.args.self) _ _ own;
    }

pub returns-clause-seen : goal.returns-clause-seen
returns-clause-seen g c k d lt = let none : c.loop-pass.passes.items ≡ [] = nothing_left _ _ c.loop-pass.passes.ok.0 c.in_default-pop.ensures.variant.1 in
    let all : c.loop-pass.seat.me.0.claims ≡ map claim_of c.args.passes.items = ap (λ l. map claim_of l ++ c.loop-pass.seat.me.0.claims) (sym none) ∙ c.loop-pass.invariant.claims in
    let has = subst (Has (claim_of (get_or c.args.passes.items k d))) (sym all) (has_mapped claim_of c.args.passes.items k d lt) in
    (c.finish.ensures.known (claim_of (get_or c.args.passes.items k d)) (Contains-from_Has _ _ has)).begins

pub returns-clause-own : goal.returns-clause-own
returns-clause-own g c k d lt = let none : c.loop-pass.passes.items ≡ [] = nothing_left _ _ c.loop-pass.passes.ok.0 c.in_default-pop.ensures.variant.1 in
    let all : c.loop-pass.seat.me.0.claims ≡ map claim_of c.args.passes.items = ap (λ l. map claim_of l ++ c.loop-pass.seat.me.0.claims) (sym none) ∙ c.loop-pass.invariant.claims in
    let has = subst (Has (claim_of (get_or c.args.passes.items k d))) (sym all) (has_mapped claim_of c.args.passes.items k d lt) in
    sym (c.finish.ensures.known (claim_of (get_or c.args.passes.items k d)) (Contains-from_Has _ _ has)).own

pub returns-clause-entries : goal.returns-clause-entries
returns-clause-entries g c = let j = g.T.Journalled in let none : c.loop-pass.passes.items ≡ [] = nothing_left _ _ c.loop-pass.passes.ok.0 c.in_default-pop.ensures.variant.1 in
    let all : c.loop-pass.seat.me.0.claims ≡ map claim_of c.args.passes.items = ap (λ l. map claim_of l ++ c.loop-pass.seat.me.0.claims) (sym none) ∙ c.loop-pass.invariant.claims in
    All-from_Has (λ e. Contains (map (λ p. p.number) c.args.passes.items) (j.pass_of e)) _
    (λ e h. let one = has_claim _ c.loop-pass.seat.me.0.claims (All-Has (λ z. 0 < claim_count (j.pass_of z) c.loop-pass.seat.me.0.claims) _ c.finish.ensures.entries e h) in
    Contains-from_Has _ _ (subst (λ n. Has n (map (λ p. p.number) c.args.passes.items)) one.2 (has_number one.0 c.args.passes.items (subst (Has one.0) all one.1))))
