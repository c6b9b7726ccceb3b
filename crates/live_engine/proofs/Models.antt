-- A model whose least level was found, and whose cube was read off.
use Rattle.std.proofs.Common.{◌≡◌, ℕ, ◌≤◌, ◌<◌, Bool, List, [], ◌∷◌, ◌++◌, true, take, length, ℤ, Vec, Global, refl, ap, sym, subst, ◌∙◌, arith}
use Rattle.std.specs.List.{list_all}
use Rattle.std.proofs.lemmas.List.{take_all}
use Rattle.implicant_shrink.specs.Levels.{marked}
use Rattle.live_engine.specs.Values.{has_value}
use Rattle.live_engine.proofs.Grounds.{ground_with, same_stands}
use Rattle.live_engine.specs.declared.search.Search.{Search}
use Rattle.live_engine.specs.declared.search.Leaf.TheVariants.{Found}
use Rattle.live_engine.specs.Searching.{IsGround, IsSearching}
use Rattle.live_engine.specs.Steps.{counted, ShrinksModel, CopiesModel, cube_at_level, FlipsDecision, ComesToLeaf, ComesToLast}
use Rattle.live_engine.proofs.Leasts.{least_within}
use Rattle.live_engine.proofs.Turns.{with_cube, cube_ground, model_last, model_goes}

module _ (old : Search) (h : IsSearching old) (mid : Search) (level : ℕ) (shrinks : ShrinksModel old mid level) where
  pub model_within : (end : Search) → CopiesModel mid end → level ≤ end.trail.level
  model_within end copies = subst (λ (s : Search). level ≤ s.trail.level) (sym copies.rest)
      (subst (λ (s : Search). level ≤ s.trail.level) (sym shrinks.rest) (least_within old level shrinks.least h))

  -- the trail is copied while the job is searching
  pub shrunk_searches : IsSearching mid
  shrunk_searches = subst IsSearching (sym shrinks.rest) (record {
    ground = ground_with old h.ground old.arena old.propagator old.trail old.order mid.shrinker old.prefix old.base old.counts old.leaves old.found
        (same_stands old h.ground) refl refl shrinks.formula h.ground.prefix refl h.ground.capped h.ground.cubes;
    working = h.working;
    current = h.current;
    passed = h.passed;
    copied = h.copied;
  })

  module _ (end : Search) (copies : CopiesModel mid end) (found : Vec (List ℤ) Global) (cube : List ℤ) (more : found.items ≡ end.found.items ++ cube ∷ []) (is : cube ≡ cube_at_level mid level) (leaves : ℕ) (count : leaves ≡ counted end.leaves) where
    ends : end ≡ record old { shrinker = mid.shrinker; values = end.values; has_model = end.has_model; copied = end.copied }
    ends = copies.rest ∙ ap (λ (s : Search). record s { values = end.values; has_model = end.has_model; copied = end.copied }) shrinks.rest

    here : found.items ≡ old.found.items ++ cube_at_level old level ∷ []
    here =
        more
        ∙ ap (λ (s : Search). s.found.items ++ cube ∷ []) ends
        ∙ ap (λ (c : List ℤ). old.found.items ++ c ∷ []) (is ∙ ap (λ (s : Search). cube_at_level s level) shrinks.rest)

    number : leaves ≡ counted old.leaves
    number = count ∙ ap (λ (s : Search). counted s.leaves) ends

    valued : length end.values.items ≡ length old.values.items
    valued = copies.long ∙ ap (λ (s : Search). length s.values.items) shrinks.rest

    all : list_all (has_value (marked end.values.items)) old.trail.items ≡ true
    all = subst (λ (s : Search). list_all (has_value (marked end.values.items)) s.trail.items ≡ true) shrinks.rest
        (subst (λ xs. list_all (has_value (marked end.values.items)) xs ≡ true) (ap (λ n. take n mid.trail.items) copies.all ∙ take_all (length mid.trail.items) mid.trail.items (omega arith)) copies.copied.same)

    abbrev pub found_there : Search
    found_there = record end { leaves = leaves; found = found }

    there : found_there ≡ with_cube old h level shrinks.least mid.shrinker shrinks.formula end.values end.has_model end.copied valued copies.some all found here leaves number
    there = ap (λ (s : Search). record s { leaves = leaves; found = found }) ends

    pub found_ground : IsGround found_there
    found_ground = subst IsGround (sym there) (cube_ground old h level shrinks.least mid.shrinker shrinks.formula end.values end.has_model end.copied valued copies.some all found here leaves number)

    pub found_last : level ≤ end.base → ComesToLast old found_there Found
    found_last low = subst (λ s. ComesToLast old s Found) (sym there)
        (model_last old h level shrinks.least mid.shrinker shrinks.formula end.values end.has_model end.copied valued copies.some all found here leaves number (subst (λ (s : Search). level ≤ s.base) ends low))

    pub found_goes : (after : Search) (shows : Bool) → FlipsDecision found_there after level shows → end.base < level → ComesToLeaf old after Found
    found_goes after shows flips above =
        model_goes old h level shrinks.least mid.shrinker shrinks.formula end.values end.has_model end.copied valued copies.some all found here leaves number after shows
        (subst (λ s. FlipsDecision s after level shows) there flips) (subst (λ (s : Search). s.base < level) ends above)
