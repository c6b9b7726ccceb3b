use Rattle.std.proofs.Common.{◌≡◌, ◌+◌, ◌*◌, ◌<◌, ◌≤◌, ◌++◌, ◌∷◌, [], List, ℕ, ℤ, length, map, get_or, refl, sym, ap, subst, ◌∙◌, arith, take_all}
use Rattle.std.specs.List.{All}
use Rattle.std.specs.Vec.{with_items}
use Rattle.std.proofs.lemmas.List.{get_or_default, with_items_is}
use Rattle.std.proofs.lemmas.List.Elements.{All-replicate}
use Rattle.sat_terms.specs.CubeOrder.{key}
use Rattle.sat_terms.specs.Literals.{IsLiteralOf}
use Rattle.sat_terms.specs.Subjects.{IsFormula}
use Rattle.clause_arena.specs.Once.{once}
use Rattle.clause_arena.proofs.Kept.{all_once_named}
use Rattle.sat_terms.proofs.Keys.{key-lt}
use Rattle.clause_arena.proofs.Making.{IsMade, made_none, made_more, made_short, made_count, made_laid}
use Rattle.clause_arena.proofs.arena.Arena.make.Goals as goal

pub loop-id-init : goal.loop-id-init
loop-id-init c = record {
  made =
      subst (λ (es : List ℕ). IsMade c.new-lits.result.items es c.as_slice-clause-items.result.now 0) (sym c.new-ends.ensures.items)
      (subst (λ (ls : List ℤ). IsMade ls [] c.as_slice-clause-items.result.now 0) (sym c.new-lits.ensures.items) (made_none c.as_slice-clause-items.result.now));
  stamped =
      subst (λ (s : List ℕ). All (λ x. x ≤ 0) s) (sym (c.in_ok-stamps.ensures.items_if_clones_equal (λ y e. e)))
      (All-replicate (λ x. x ≤ 0) (2 * (c.args.formula.now.variables + 1)) 0 (omega arith));
  wide = (let len = c.in_ok-stamps.ensures.len in let same = c.in_ok-stamps.stamps.ok.0 in omega arith);
}

pub append_once-requires-clause-older : goal.append_once-requires-clause-older
append_once-requires-clause-older c =
    subst (λ (s : List ℕ). All (λ x. x < c.loop-id.id + 1) s) (sym c.deref_mut.ensures.value)
    (λ k d h. let le = c.loop-id.invariant.stamped k d h in omega arith)

pub append_once-requires-clause-places : goal.append_once-requires-clause-places
append_once-requires-clause-places c =
    let f : List (List ℤ) = c.as_slice-clause-items.result.now in
    let i : ℕ = c.loop-id.id in
    let inside : i < length f = c.loop-id-test.true in
    let same : c.lits.result.now ≡ get_or f i [] = c.lits.ensures.same ∙ c.clause-item.is ∙ get_or_default f i c.clause-item.result [] inside in
    let named : All (All (IsLiteralOf c.args.formula.now.variables)) f = subst (λ g. All (All (IsLiteralOf c.args.formula.now.variables)) g) (sym c.as_slice-clause-items.ensures) c.requires.named in
    subst (λ (d : List ℤ). All (λ l. key l < length c.deref_mut.result.now) d) (sym same)
    (λ k d h.
    let low = key-lt c.args.formula.now.variables (get_or (get_or f i []) k d) (named i [] inside k d h) in
    let wide = c.loop-id.invariant.wide in
    let table = ap (λ (s : List ℕ). length s) c.deref_mut.ensures.value in
    omega arith)

pub overflow_cast-len : goal.overflow_cast-len
overflow_cast-len c =
    let f : List (List ℤ) = c.as_slice-clause-items.result.now in
    let i : ℕ = c.loop-id.id in
    let inside : i < length f = c.loop-id-test.true in
    let same : c.lits.result.now ≡ get_or f i [] = c.lits.ensures.same ∙ c.clause-item.is ∙ get_or_default f i c.clause-item.result [] inside in
    let grown : c.append_once.new.lits.items ≡ c.loop-id.lits.items ++ once (get_or f i []) = c.in_ok-append_once.ensures.lits ∙ ap (λ (d : List ℤ). c.loop-id.lits.items ++ once d) same in
    let made = made_more c.loop-id.lits.items c.loop-id.ends.items f i (length (c.loop-id.lits.items ++ once (get_or f i []))) inside c.loop-id.invariant.made refl in
    let formula : IsFormula c.args.formula.now.variables f = subst (λ (g : List (List ℤ)). IsFormula c.args.formula.now.variables g) (sym c.as_slice-clause-items.ensures) c.requires in
    let short = made_short c.args.formula.now.variables (c.loop-id.lits.items ++ once (get_or f i [])) (c.loop-id.ends.items ++ length (c.loop-id.lits.items ++ once (get_or f i [])) ∷ []) f (i + 1) formula made in
    let long = c.append_once.new.lits.ok.0 in
    let whole = ap (λ (ls : List ℤ). length ls) grown in
    let len = c.len.ensures in
    omega arith

pub loop-id-preserved : goal.loop-id-preserved
loop-id-preserved c =
    let f : List (List ℤ) = c.as_slice-clause-items.result.now in
    let i : ℕ = c.loop-id.id in
    let inside : i < length f = c.loop-id-test.true in
    let same : c.lits.result.now ≡ get_or f i [] = c.lits.ensures.same ∙ c.clause-item.is ∙ get_or_default f i c.clause-item.result [] inside in
    let grown : c.append_once.new.lits.items ≡ c.loop-id.lits.items ++ once (get_or f i []) = c.in_ok-append_once.ensures.lits ∙ ap (λ (d : List ℤ). c.loop-id.lits.items ++ once d) same in
    let long = c.append_once.new.lits.ok.0 in
    let whole = ap (λ (ls : List ℤ). length ls) grown in
    let len = c.len.ensures in
    let kept = c.append_once.auto.stamps in
    let table = ap (λ (s : List ℕ). length s) c.deref_mut.ensures.value in
    let places = c.loop-id.stamps.ok.0 in
    let wide = c.loop-id.invariant.wide in
    let back : (with_items c.loop-id.stamps c.append_once.new.stamps).items ≡ c.append_once.new.stamps = with_items_is c.loop-id.stamps c.append_once.new.stamps (omega arith) in
    record {
      made =
          subst (λ (es : List ℕ). IsMade c.append_once.new.lits.items es f (i + 1)) (sym c.in_ok-push.ensures.items)
          (subst (λ (ls : List ℤ). IsMade ls (c.loop-id.ends.items ++ c.len.result ∷ []) f (i + 1)) (sym grown)
          (made_more c.loop-id.lits.items c.loop-id.ends.items f i c.len.result inside c.loop-id.invariant.made (omega arith)));
      stamped = subst (λ (s : List ℕ). All (λ x. x ≤ i + 1) s) (sym back) c.in_ok-append_once.ensures.stamps;
      wide = ap (λ (s : List ℕ). length s) back ∙ kept ∙ table ∙ wide;
    }

pub overflow_cast-base : goal.overflow_cast-base
overflow_cast-base c =
    let f : List (List ℤ) = c.as_slice-clause-items.result.now in
    let same = ap (λ (cs : List (List ℤ)). length cs) c.as_slice-clause-items.ensures in
    let count = made_count c.loop-id.lits.items c.loop-id.ends.items f c.loop-id.id c.loop-id-test.false c.loop-id.invariant.made in
    let len = c.len-base.ensures in
    let long = c.loop-id.ends.ok.0 in
    let few = c.requires.clauses in
    omega arith

pub invariant_of-result : goal.invariant_of-result
invariant_of-result c =
    let f : List (List ℤ) = c.as_slice-clause-items.result.now in
    let formula : IsFormula c.args.formula.now.variables f = subst (λ (g : List (List ℤ)). IsFormula c.args.formula.now.variables g) (sym c.as_slice-clause-items.ensures) c.requires in
    made_laid c.args.formula.now.variables c.loop-id.lits.items c.loop-id.ends.items f c.loop-id.id c.len-base.result formula c.loop-id-test.false (c.len-base.ensures ∙ c.loop-id.ends.ok.0) c.loop-id.invariant.made

pub returns-clause-clauses : goal.returns-clause-clauses
returns-clause-clauses c =
    c.loop-id.invariant.made.clauses
    ∙ ap (map once) (take_all c.loop-id.id c.as_slice-clause-items.result.now c.loop-id-test.false ∙ c.as_slice-clause-items.ensures)

pub returns-clause-base : goal.returns-clause-base
returns-clause-base c =
    c.len-base.ensures ∙ c.loop-id.ends.ok.0
    ∙ made_count c.loop-id.lits.items c.loop-id.ends.items c.as_slice-clause-items.result.now c.loop-id.id c.loop-id-test.false c.loop-id.invariant.made
    ∙ ap (λ (cs : List (List ℤ)). length cs) c.as_slice-clause-items.ensures

pub returns-clause-variables : goal.returns-clause-variables
returns-clause-variables c =
    let clauses = c.loop-id.invariant.made.clauses ∙ ap (map once) (take_all c.loop-id.id c.as_slice-clause-items.result.now c.loop-id-test.false ∙ c.as_slice-clause-items.ensures) in
    subst (All (All (IsLiteralOf c.args.formula.now.variables))) (sym clauses) (all_once_named c.args.formula.now.variables c.args.formula.now.clauses c.requires.named)
