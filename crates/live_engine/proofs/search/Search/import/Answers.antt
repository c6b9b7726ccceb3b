use Rattle.std.proofs.Common.{◌≡◌, true, false, [], ◌∷◌, ◌++◌, length, ◌∙◌, ap, sym, subst, rules}
use Rattle.std.specs.List.{All}
use Rattle.sat_terms.specs.Literals.{IsLiteralOf}
use Rattle.search_region.specs.Steady.{Follows}
use Rattle.clause_arena.specs.Clauses.{HasDistinctVariables, has_room}
use Rattle.live_engine.specs.Searching.{search_formula}
use Rattle.live_engine.proofs.Negated.{imports_pair, imports_full, imports_kept, lemma_named, lemma_distinct, lemma_follows}
use Rattle.live_engine.proofs.search.Search.import.Goals as goal

pub returns-in-Pair-clause-imports : goal.returns-in-Pair-clause-imports
returns-in-Pair-clause-imports c = imports_pair c.args.self.now c.requires.ground c.args.lits.now c.requires.named c.try_negations.new.self c.try_negations.ensures.rest c.in-Pair.ensures.tells

pub keep-requires-clause-named : goal.keep-requires-clause-named
keep-requires-clause-named c =
    let tells = c.in-Conflict.ensures.tells in
    subst (All (IsLiteralOf c.try_negations.new.self.variables)) (sym c.deref.ensures.value)
    (lemma_named c.args.self.now c.requires.ground c.args.lits.now c.requires.named c.try_negations.new.self c.try_negations.ensures.rest tells.0 tells.1 c.try_negations.new.lemma.items (c.try_negations.ensures.lemma tells.0))

pub keep-requires-clause-distinct : goal.keep-requires-clause-distinct
keep-requires-clause-distinct c =
    let tells = c.in-Conflict.ensures.tells in
    subst HasDistinctVariables (sym c.deref.ensures.value)
    (lemma_distinct c.args.self.now c.requires.ground c.args.lits.now c.requires.named c.try_negations.new.self c.try_negations.ensures.rest tells.0 tells.1 c.try_negations.new.lemma.items (c.try_negations.ensures.lemma tells.0))

pub keep-requires-clause-follows : goal.keep-requires-clause-follows
keep-requires-clause-follows c =
    let tells = c.in-Conflict.ensures.tells in
    subst (Follows (search_formula c.try_negations.new.self)) (sym c.deref.ensures.value)
    (lemma_follows c.args.self.now c.requires.ground c.args.lits.now c.requires.named c.try_negations.new.self c.try_negations.ensures.rest tells.0 tells.1 c.try_negations.new.lemma.items (c.try_negations.ensures.lemma tells.0))

pub returns-then-not-has_room-clause-imports : goal.returns-then-not-has_room-clause-imports
returns-then-not-has_room-clause-imports c =
    let tells = c.in-Conflict.ensures.tells in
    let tried = c.try_negations.new.self in
    let full : has_room tried.arena (length c.try_negations.new.lemma.items) ≡ false =
    ap (has_room tried.arena) (let same : length c.try_negations.new.lemma.items ≡ c.len.result = search rules in same) ∙ sym c.has_room.ensures ∙ c.if-not-has_room.true in
    imports_full c.args.self.now c.requires.ground c.args.lits.now c.requires.named tried c.try_negations.ensures.rest tells.0 tells.1 c.try_negations.new.lemma.items (c.try_negations.ensures.lemma tells.0) full

pub returns-clause-imports : goal.returns-clause-imports
returns-clause-imports c =
    let tells = c.in-Conflict.ensures.tells in
    let tried = c.try_negations.new.self in
    let lemma = c.try_negations.new.lemma.items in
    let free : has_room tried.arena (length lemma) ≡ true =
    ap (has_room tried.arena) (let same : length c.try_negations.new.lemma.items ≡ c.len.result = search rules in same) ∙ sym c.has_room.ensures ∙ c.if-not-has_room.false in
    imports_kept c.args.self.now c.requires.ground c.args.lits.now c.requires.named tried c.try_negations.ensures.rest tells.0 tells.1 lemma (c.try_negations.ensures.lemma tells.0) free
    c.keep.new.self (c.in_ok-keep-in-Conflict.ensures.clauses ∙ ap (λ x. tried.arena.clauses ++ x ∷ []) c.deref.ensures.value)
    c.in_ok-keep-in-Conflict.ensures.base c.in_ok-keep-in-Conflict.ensures.rest
