use Rattle.std.proofs.Common.{◌++◌, [], ◌∷◌, ◌∙◌, ℤ, pos, nat_abs, get_or, ap, sym, subst, refl, arith}
use mir.Syntax.{w32}
use mir.Val.{SFits}
use Rattle.std.proofs.lemmas.Int.{to_z-of_z}
use Rattle.chrono_trail.specs.declared.item.Kind.TheVariants.{Assumed}
use Rattle.chrono_trail.specs.declared.item.Item.{Item}
use Rattle.chrono_trail.specs.Items.{item_of}
use Rattle.chrono_trail.specs.Reasons.{AreReasoned}
use Rattle.chrono_trail.proofs.Reasoned.{needs_none, appending_keeps}
use Rattle.chrono_trail.specs.Pictures.{picture_of}
use Rattle.live_engine.proofs.Literals.{literal_fits}
use Rattle.live_engine.proofs.Prefixes.{fresh_next, assume_more}
use Rattle.live_engine.proofs.starting.assume.Goals as goal

fits : (c : goal.After-assign-arg-in-loop-lit-1) → SFits w32 (get_or c.args.prefix.now c.loop-lit.lit-index (pos 0))
fits c =
    let named = c.requires.named c.loop-lit.lit-index (pos 0) c.loop-lit-test.true in
    let low = named.1 in
    let few = c.requires.small in
    literal_fits (get_or c.args.prefix.now c.loop-lit.lit-index (pos 0)) (omega arith)

pub assign-requires-clause-unassigned : goal.assign-requires-clause-unassigned
assign-requires-clause-unassigned c =
    ap (λ z. item_of c.loop-lit.trail.items (nat_abs z)) (to_z-of_z w32 (get_or c.args.prefix.now c.loop-lit.lit-index (pos 0)) (fits c))
    ∙ fresh_next c.loop-lit.trail.items c.args.prefix.now c.loop-lit.lit-index (pos 0) c.requires.rising c.loop-lit-test.true (c.loop-lit.invariant.items [])

pub loop-lit-preserved : goal.loop-lit-preserved
loop-lit-preserved c =
    let named = c.requires.named c.loop-lit.lit-index (pos 0) c.loop-lit-test.true in
    let low = named.1 in
    let few = c.requires.small in
    let e : Item = record { lit = get_or c.args.prefix.now c.loop-lit.lit-index (pos 0); level = 0; kind = Assumed } in
    let fit : SFits w32 (get_or c.args.prefix.now c.loop-lit.lit-index (pos 0)) = literal_fits (get_or c.args.prefix.now c.loop-lit.lit-index (pos 0)) (omega arith) in
    let grown = c.assign.ensures.items
    ∙ ap (λ (z : ℤ). c.loop-lit.trail.items ++ record { lit = z; level = 0; kind = Assumed } ∷ []) (to_z-of_z w32 (get_or c.args.prefix.now c.loop-lit.lit-index (pos 0)) fit) in
    record {
      items = λ f. ap (picture_of f) grown ∙ assume_more f c.loop-lit.trail.items c.args.prefix.now c.loop-lit.lit-index (pos 0) c.loop-lit-test.true (c.loop-lit.invariant.items f);
      reasoned = λ f. subst (AreReasoned f) (sym grown) (appending_keeps f c.loop-lit.trail.items e (c.loop-lit.invariant.reasoned f) (needs_none f c.loop-lit.trail.items e refl));
      level = c.assign.ensures.level ∙ c.loop-lit.invariant.level;
      variables = c.assign.ensures.variables ∙ c.loop-lit.invariant.variables;
      seen = c.assign.ensures.seen ∙ c.loop-lit.invariant.seen;
      trail = c.assign.ensures.trail;
    }
