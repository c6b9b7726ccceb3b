-- Gives: what is read off the items, and what the search goes on with.
use Rattle.std.proofs.Common.{◌≡◌, ℕ, zero, suc, ◌-◌, ◌<◌, ◌≤◌, Bool, true, false, not, ℤ, nat_abs, nat_eq, List, [], ◌∷◌, ◌++◌, length, get_or, map, take, drop, filter, append_assoc, Some, refl, sym, ap, ap₂, subst, ◌∙◌, arith, All, Vec, Global}
use Rattle.std.proofs.lemmas.Bool.{and_parts, eqb-true}
use Rattle.std.proofs.lemmas.List.{take_all, take-append-drop, length-map}
use Rattle.std.proofs.lemmas.List.Elements.{All-filter, All-weaker}
use Rattle.std.proofs.Math.Seq.{drop-cons}
use Rattle.sat_terms.specs.Cubes.{IsCube, is_among, rises_above, within}
use Rattle.search_region.specs.Trail as picture
use Rattle.search_region.specs.Steady.{Steady}
use Rattle.search_region.specs.Region.{front, root, untried}
use Rattle.search_region.proofs.Root.{root_whole}
use Rattle.search_job.specs.Open.{untried_cubes}
use Rattle.search_job.specs.Give.{next_count, GivesCubes}
use Rattle.search_job.specs.Same.{front_cube, other_cube}
use Rattle.search_job.specs.Weights.{weight}
use Rattle.search_job.specs.Working.{Working}
use Rattle.search_job.proofs.Cubes.{give_keeps_working, working_recount}
use Rattle.search_job.proofs.Counted.{next_count_few, next_count_low, next_count_shown, next_count_hidden, untried_hidden, untried_none}
use Rattle.search_job.proofs.Kept.{root_next}
use Rattle.search_job.proofs.Open.{untried_cubes_none, untried_cubes_first}
use Rattle.prefix_jobs.proofs.Joined.{give_fits_prefix}
use Rattle.chrono_trail.specs.declared.item.Kind.{Kind}
use Rattle.chrono_trail.specs.declared.item.Kind.TheVariants.{Assumed, Decided, Flipped, Turned, Implied}
use Rattle.chrono_trail.specs.declared.item.Item.{Item}
use Rattle.chrono_trail.specs.Items.{is_decision, decides, IsDecisionAt}
use Rattle.chrono_trail.specs.Pictures.{pictured, picture_of, kind_of}
use Rattle.chrono_trail.proofs.Pictures.{picture-append}
use Rattle.live_engine.specs.declared.search.Search.{Search}
use Rattle.live_engine.specs.Searching.{search_formula, pictured_trail, count_of, IsSearching}
use Rattle.live_engine.specs.Gives.{pictured_before, IsNextShown, IsKeptPlace, leaves_gone, KeepsWithin, HandsOut}
use Rattle.live_engine.proofs.Grounds.{same_stands, ground_with}
use Rattle.live_engine.proofs.Moves.{level_bound}

-- ---- the decision of a level in the picture

decided_kind : (k : Kind) → is_decision k ≡ true → k ≡ Decided
decided_kind Assumed h = cc
decided_kind Decided h = refl
decided_kind Flipped h = cc
decided_kind (Turned id) h = cc
decided_kind (Implied id) h = cc

-- the picture is split where the decision of level k stands
pub record StandsAt (s : Search) (k place : ℕ) (d : Item) : Type 0 where
  pub newer : List picture.Item
  pub parts : pictured_trail s ≡ newer ++ pictured s.arena.clauses d ∷ pictured_before s place
  pub decided : (pictured s.arena.clauses d).kind ≡ picture.Decided
  pub level : d.level ≡ k

pub stands_at : (s : Search) (k place : ℕ) (none d : Item) → IsDecisionAt k s.trail.items place → d ≡ get_or s.trail.items place none → StandsAt s k place d
stands_at s k place none d at is =
    let items = s.trail.items in
    let f = s.arena.clauses in
    let (deciding, same) = and_parts (is_decision d.kind) (nat_eq d.level k) (subst (λ i. decides k i ≡ true) (sym is) (at.opens none)) in
    let whole : items ≡ take place items ++ d ∷ drop (suc place) items =
    sym (take-append-drop place items) ∙ ap (λ xs. take place items ++ xs) (drop-cons items place none at.inside ∙ ap (λ i. i ∷ drop (suc place) items) (sym is)) in
    record {
      newer = picture_of f (drop (suc place) items);
      parts = ap (picture_of f) whole ∙ picture-append f (take place items) (d ∷ drop (suc place) items)
          ∙ append_assoc (picture_of f (drop (suc place) items)) (pictured f d ∷ []) (picture_of f (take place items));
      decided = ap (kind_of f) (decided_kind d.kind deciding);
      level = eqb-true d.level k same;
    }

module _ (s : Search) (h : IsSearching s) where
  abbrev shown : ℕ → Bool
  shown = is_among s.shown.items

  abbrev f : List (List ℤ)
  f = search_formula s

  pub based : s.base ≤ s.trail.level
  based = let region = h.working.running.region.based in let same = h.current in omega arith

  pub level_small : s.trail.level ≤ s.variables
  level_small = let bound = level_bound s.trail.variables s.trail.items s.trail.level h.ground.stands in let same = h.ground.trail in omega arith

  -- ---- where nothing is untried

  pub none_above : s.trail.level ≤ s.base → untried_cubes s.shown.items s.base (pictured_trail s) ≡ []
  none_above low = untried_cubes_none s.shown.items s.base (pictured_trail s)
      (untried_none f shown s.base (pictured_trail s) h.working.running.steady (let same = h.current in omega arith))

  module _ (k place : ℕ) (none d : Item) (at : IsDecisionAt k s.trail.items place) (is : d ≡ get_or s.trail.items place none) where
    there : StandsAt s k place d
    there = stands_at s k place none d at is

    steady : Steady f shown (there.newer ++ pictured s.arena.clauses d ∷ pictured_before s place)
    steady = subst (Steady f shown) there.parts h.working.running.steady

    pub none_hidden : k ≡ suc s.base → shown (nat_abs d.lit) ≡ false → untried_cubes s.shown.items s.base (pictured_trail s) ≡ []
    none_hidden next hides = untried_cubes_none s.shown.items s.base (pictured_trail s)
        (ap (untried shown s.base) there.parts
        ∙ untried_hidden f shown s.base there.newer (pictured s.arena.clauses d) (pictured_before s place) steady there.decided (there.level ∙ next) hides)

    -- ---- the prefix that is kept

    pub kept_before : k ≡ suc (suc s.base) → IsKeptPlace s place
    kept_before next = record {
      within = (let inside = at.inside in omega arith);
      root = sym (ap (root (suc s.base)) there.parts
          ∙ root_next f shown (suc s.base) there.newer (pictured s.arena.clauses d) (pictured_before s place) steady there.decided (there.level ∙ next));
    }

    -- ---- the leaves that go

    pub gone_shown : k ≡ suc (suc s.base) → shown (nat_abs d.lit) ≡ true → leaves_gone s ≡ count_of s k
    gone_shown next shows = ap (next_count shown (suc s.base) (count_of s) s.leaves) there.parts
        ∙ next_count_shown f shown (suc s.base) (count_of s) s.leaves there.newer (pictured s.arena.clauses d) (pictured_before s place) steady there.decided (there.level ∙ next) shows
        ∙ ap (count_of s) (sym next)

    pub gone_hidden : k ≡ suc (suc s.base) → shown (nat_abs d.lit) ≡ false → leaves_gone s ≡ s.leaves
    gone_hidden next hides = ap (next_count shown (suc s.base) (count_of s) s.leaves) there.parts
        ∙ next_count_hidden f shown (suc s.base) (count_of s) s.leaves there.newer (pictured s.arena.clauses d) (pictured_before s place) steady there.decided (there.level ∙ next) hides

  pub kept_whole : s.trail.level ≤ suc s.base → IsKeptPlace s (length s.trail.items)
  kept_whole low = record {
    within = omega arith;
    root = ap (picture_of s.arena.clauses) (take_all (length s.trail.items) s.trail.items (omega arith))
        ∙ sym (root_whole (suc s.base) (pictured_trail s) (let same = h.current in omega arith));
  }

  pub gone_low : s.trail.level ≤ suc s.base → leaves_gone s ≡ s.leaves
  gone_low low = next_count_low f shown (suc s.base) (count_of s) s.leaves (pictured_trail s) h.working.running.steady (let same = h.current in omega arith)

-- ---- what the search goes on with

at_map : (g : ℕ → ℕ) (xs : List ℕ) (k : ℕ) → g 0 ≡ 0 → get_or (map g xs) k 0 ≡ g (get_or xs k 0)
at_map g [] k zero_stays = sym zero_stays
at_map g (x ∷ xs) zero zero_stays = refl
at_map g (x ∷ xs) (suc k) zero_stays = at_map g xs k zero_stays

module _ (s : Search) (h : IsSearching s) where
  pub gone_few : leaves_gone s ≤ s.leaves
  gone_few = next_count_few (is_among s.shown.items) (length s.shown.items) s.base s.prefix (suc s.base) (count_of s) (weight (length s.shown.items) (front (is_among s.shown.items) (pictured_trail s))) s.leaves (pictured_trail s) (omega arith) h.working.weights

  module _ (place : ℕ) (next : IsNextShown s place) (end : ℕ) (stops : IsKeptPlace s end) (none : Item) where
    abbrev d : picture.Item
    d = pictured s.arena.clauses (get_or s.trail.items place none)

    abbrev pub given : List ℤ
    given = other_cube (pictured s.arena.clauses (get_or s.trail.items place none)) (pictured_before s place) s.shown.items

    abbrev pub kept : List ℤ
    kept = front_cube (pictured_before s end) s.shown.items

    at : StandsAt s (suc s.base) place (get_or s.trail.items place none)
    at = stands_at s (suc s.base) place none (get_or s.trail.items place none) next.decision refl

    named : All (λ v. 0 < v) s.shown.items
    named = All-weaker (λ v. (0 < v) × (v ≤ s.variables)) (λ v. 0 < v) (λ v k. k.0) s.shown.items h.ground.shown.named

    gives : GivesCubes (search_formula s) s.shown.items (length s.shown.items) s.base (count_of s) s.prefix (pictured_trail s) s.found.items s.leaves given kept (leaves_gone s)
    gives = subst (λ t. GivesCubes (search_formula s) s.shown.items (length s.shown.items) s.base (count_of s) s.prefix (pictured_trail s) s.found.items s.leaves given (front_cube t s.shown.items) (leaves_gone s)) (sym stops.root)
        (subst (λ t. GivesCubes (search_formula s) s.shown.items (length s.shown.items) s.base (count_of s) s.prefix t s.found.items s.leaves given (front_cube (root (suc s.base) t) s.shown.items) (next_count (is_among s.shown.items) (suc s.base) (count_of s) s.leaves t)) (sym at.parts)
        (give_keeps_working (search_formula s) s.shown.items (length s.shown.items) s.base (count_of s) s.prefix at.newer d (pictured_before s place) s.found.items s.leaves
        h.ground.shown.rising named
        (subst (λ t. Working (search_formula s) (is_among s.shown.items) (length s.shown.items) s.base (count_of s) s.prefix t s.found.items s.leaves) at.parts h.working)
        (All-weaker (IsCube s.shown.items) (λ c. rises_above 0 c ≡ true) (λ c k. k.rising) s.found.items h.ground.cubes)
        at.decided at.level (next.shows none)))

    first : untried_cubes s.shown.items s.base (pictured_trail s) ≡ given ∷ untried_cubes s.shown.items (suc s.base) (pictured_trail s)
    first = subst (λ t. untried_cubes s.shown.items s.base t ≡ given ∷ untried_cubes s.shown.items (suc s.base) t) (sym at.parts)
        (untried_cubes_first (search_formula s) s.shown.items s.base at.newer d (pictured_before s place)
        (subst (Steady (search_formula s) (is_among s.shown.items)) at.parts h.working.running.steady) at.decided at.level (next.shows none))

    -- with the cubes and the counts that the code leaves
    module _ (found : Vec (List ℤ) Global) (counts : Vec ℕ Global) (stays : found.items ≡ filter (λ c. within c kept) s.found.items) (lowered : counts.items ≡ map (λ k. k - leaves_gone s) s.counts.items) where
      abbrev after : Search
      after = record s { prefix = kept; base = suc s.base; counts = counts; leaves = s.leaves - leaves_gone s; found = found }

      searches : IsSearching after
      searches = record {
        ground = ground_with s h.ground s.arena s.propagator s.trail s.order s.shrinker kept (suc s.base) counts (s.leaves - leaves_gone s) found
            (same_stands s h.ground) refl refl h.ground.shrinker gives.kept_is
            (ap length lowered ∙ length-map s.counts.items (λ k. k - leaves_gone s))
            (let few = h.ground.capped in omega arith)
            (subst (All (IsCube s.shown.items)) (sym stays) (All-filter (λ c. within c kept) (IsCube s.shown.items) s.found.items h.ground.cubes));
        working = working_recount (search_formula s) (is_among s.shown.items) (length s.shown.items) (suc s.base) (λ k. count_of s k - leaves_gone s) (count_of after) kept (pictured_trail s) found.items (s.leaves - leaves_gone s)
            (λ k. ap (λ xs. get_or xs k 0) lowered ∙ at_map (λ j. j - leaves_gone s) s.counts.items k (omega arith))
            (subst (λ xs. Working (search_formula s) (is_among s.shown.items) (length s.shown.items) (suc s.base) (λ k. count_of s k - leaves_gone s) kept (pictured_trail s) xs (s.leaves - leaves_gone s)) (sym stays) gives.works);
        current = h.current;
        passed = h.passed;
        copied = h.copied;
      }

      hands : HandsOut s after given kept (record { cubes = filter (λ c. not (within c kept)) s.found.items; rest = given ∷ []; kept = Some kept; leaves = leaves_gone s })
      hands = record {
        searching = searches;
        keeps = record { found = stays; counts = lowered; rest = refl };
        first = first;
        few = gives.few;
        outcome = refl;
        fits = give_fits_prefix (search_formula s) s.shown.items s.base (count_of s) s.prefix (pictured_trail s) s.found.items s.leaves given kept (leaves_gone s) h.ground.shown.rising h.ground.prefix h.ground.cubes gives;
      }

    pub hands_out : (new : Search) (prefix : List ℤ) (gone : ℕ) (cubes rest : List (List ℤ)) → prefix ≡ kept → gone ≡ leaves_gone s → KeepsWithin s new prefix gone →
        cubes ≡ filter (λ c. not (within c prefix)) s.found.items → rest ≡ given ∷ [] →
        HandsOut s new given prefix (record { cubes = cubes; rest = rest; kept = Some prefix; leaves = gone })
    hands_out new prefix gone cubes rest is count keeps goes one =
        let stays : new.found.items ≡ filter (λ c. within c kept) s.found.items = keeps.found ∙ ap (λ q. filter (λ c. within c q) s.found.items) is in
        let lowered : new.counts.items ≡ map (λ k. k - leaves_gone s) s.counts.items = keeps.counts ∙ ap (λ g. map (λ k. k - g) s.counts.items) count in
        rw (goes, one, is, count) (subst (λ n. HandsOut s n given kept (record { cubes = filter (λ c. not (within c kept)) s.found.items; rest = given ∷ []; kept = Some kept; leaves = leaves_gone s }))
        (sym (keeps.rest ∙ ap₂ (λ q g. record s { prefix = q; base = suc s.base; counts = new.counts; leaves = s.leaves - g; found = new.found }) is count))
        (hands new.found new.counts stays lowered))
