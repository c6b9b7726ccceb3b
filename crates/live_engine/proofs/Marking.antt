-- Marks follow the trail, item by item.
use Rattle.std.proofs.Common.{◌≡◌, ℕ, ◌+◌, ◌<◌, ◌≤◌, true, false, cond, ℤ, neg_ℤ, nat_abs, List, [], ◌∷◌, ◌++◌, length, get_or, set, take, Option, Some, None, option_to_list, filter_map, refl, sym, ap, ◌∙◌, inl, inr, All, get_or-set_same, get_or-set_other}
use Rattle.std.proofs.lemmas.Bool.{cases_eq, eq-eqb, ne_eqb}
use Rattle.std.proofs.lemmas.List.{take_more}
use Rattle.std.proofs.lemmas.List.Elements.{filter_map-append, All-head, All-tail}
use Rattle.sat_terms.proofs.CubeLemmas.{nat_abs-neg}
use Rattle.search_region.specs.Trail as picture
use Rattle.search_region.specs.Region.{is_open}
use Rattle.search_region.specs.ReadCube.{picked_literal, read_cube}
use Rattle.search_job.specs.Open.{untried_cubes}
use Rattle.search_job.specs.Same.{is_plain, other_cube}
use Rattle.chrono_trail.specs.declared.item.Kind.{Kind}
use Rattle.chrono_trail.specs.declared.item.Kind.TheVariants.{Assumed, Decided, Flipped, Turned, Implied}
use Rattle.chrono_trail.specs.declared.item.Item.{Item}
use Rattle.chrono_trail.specs.Pictures.{pictured, kind_of}
use Rattle.sat_terms.specs.Cubes.{is_among}
use Rattle.live_engine.specs.Marks.{AreMarkedBy, is_propagated, plain_literal}

-- the marks but for the variable k
abbrev pub AreMarkedBeside : ℕ → ℕ → List (Option ℤ) → List picture.Item → Type 0
AreMarkedBeside k n marks trail = (v : ℕ) → v ≤ n → (v ≡ k → ⊥) → get_or marks v None ≡ picked_literal is_plain trail v

pub beside : (k n : ℕ) (marks : List (Option ℤ)) (trail : List picture.Item) → AreMarkedBy n marks trail → AreMarkedBeside k n marks trail
beside k n marks trail h = λ v low other. h v low

pub set_beside : (k n : ℕ) (marks : List (Option ℤ)) (trail : List picture.Item) (m : Option ℤ) → AreMarkedBeside k n marks trail →
    AreMarkedBeside k n (set marks k m) trail
set_beside k n marks trail m h = λ v low other. get_or-set_other marks k v m None other ∙ h v low other

-- an item that is marked at its variable
pub marked : (n : ℕ) (marks : List (Option ℤ)) (trail : List picture.Item) (i : picture.Item) (k : ℕ) (m : Option ℤ) → k ≡ nat_abs i.lit → k < length marks →
    m ≡ cond (is_plain i) (Some i.lit) None → AreMarkedBeside k n marks trail → AreMarkedBy n (set marks k m) (i ∷ trail)
marked n marks trail i k m at room same h = λ v low. elim (cases_eq v k) [
  | inl here ↦
      ap (λ x. get_or (set marks k m) x None) here ∙ get_or-set_same marks k m None room ∙ same
      ∙ ap (λ b. cond b (cond (is_plain i) (Some i.lit) None) (picked_literal is_plain trail v)) (sym (eq-eqb v (nat_abs i.lit) (here ∙ at)))
  | inr other ↦
      get_or-set_other marks k v m None other ∙ h v low other
      ∙ ap (λ b. cond b (cond (is_plain i) (Some i.lit) None) (picked_literal is_plain trail v)) (sym (ne_eqb v (nat_abs i.lit) (λ same_v. other (same_v ∙ sym at))))
]

pub plain_is : (f : List (List ℤ)) (i : Item) → plain_literal i ≡ cond (is_plain (pictured f i)) (Some i.lit) None
plain_is f i = by_kind i.kind
  where
    by_kind : (k : Kind) → cond (is_propagated k) None (Some i.lit) ≡ cond (is_plain (record { lit = i.lit; level = i.level; kind = kind_of f k })) (Some i.lit) None
    by_kind Assumed = refl
    by_kind Decided = refl
    by_kind Flipped = refl
    by_kind (Turned id) = refl
    by_kind (Implied id) = refl

-- the cube of the marks is that of the trail
alike : (g h : ℕ → Option ℤ) (p : List ℕ) → All (λ v. g v ≡ h v) p → filter_map g p ≡ filter_map h p
alike g h [] all = refl
alike g h (v ∷ p) all = rw (All-head (λ x. g x ≡ h x) v p all, alike g h p (All-tail (λ x. g x ≡ h x) v p all)) refl

pub marks_cube : (n : ℕ) (marks : List (Option ℤ)) (trail : List picture.Item) (p : List ℕ) → All (λ v. (0 < v) × (v ≤ n)) p → AreMarkedBy n marks trail →
    filter_map (λ v. get_or marks v None) p ≡ read_cube is_plain trail p
marks_cube n marks trail p named h =
    alike (λ v. get_or marks v None) (picked_literal is_plain trail) p (λ k d inside. h (get_or p k d) (named k d inside).1)

-- one more variable
pub marks_more : (marks : List (Option ℤ)) (p : List ℕ) (i d : ℕ) → i < length p →
    filter_map (λ v. get_or marks v None) (take (i + 1) p)
    ≡ filter_map (λ v. get_or marks v None) (take i p) ++ option_to_list (get_or marks (get_or p i d) None)
marks_more marks p i d inside =
    ap (filter_map (λ v. get_or marks v None)) (take_more p i d inside)
    ∙ filter_map-append (λ v. get_or marks v None) (take i p) (get_or p i d ∷ [])
    ∙ ap (λ rest. filter_map (λ v. get_or marks v None) (take i p) ++ rest) (as_list (get_or marks (get_or p i d) None))
  where
    as_list : (o : Option ℤ) → filter_map (λ (x : ℕ). o) (0 ∷ []) ≡ option_to_list o
    as_list None = refl
    as_list (Some l) = refl

-- ---- one more item

-- the other side of an item
pub side_marked : (n : ℕ) (marks : List (Option ℤ)) (older : List picture.Item) (d : picture.Item) (k : ℕ) → k ≡ nat_abs d.lit → k < length marks →
    AreMarkedBy n marks older → AreMarkedBy n (set marks k (Some (neg_ℤ d.lit))) (picture.flip (picture.depth older) d ∷ older)
side_marked n marks older d k at room told =
    marked n marks older (picture.flip (picture.depth older) d) k (Some (neg_ℤ d.lit)) (at ∙ sym (nat_abs-neg d.lit)) room refl (beside k n marks older told)

pub open_step : (n : ℕ) (marks : List (Option ℤ)) (p : List ℕ) (base : ℕ) (older : List picture.Item) (d : picture.Item) (k : ℕ) → All (λ v. (0 < v) × (v ≤ n)) p →
    k ≡ nat_abs d.lit → k < length marks → AreMarkedBy n marks older → is_open (is_among p) base d ≡ true → (cubes : List (List ℤ)) (cube : List ℤ) →
    cubes ≡ untried_cubes p base older → cube ≡ filter_map (λ v. get_or (set marks k (Some (neg_ℤ d.lit))) v None) p →
    cubes ++ cube ∷ [] ≡ untried_cubes p base (d ∷ older)
open_step n marks p base older d k named at room told opens cubes cube before is =
    ap (λ x. cubes ++ x ∷ []) (is ∙ marks_cube n (set marks k (Some (neg_ℤ d.lit))) (picture.flip (picture.depth older) d ∷ older) p named (side_marked n marks older d k at room told))
    ∙ ap (λ xs. xs ++ other_cube d older p ∷ []) before
    ∙ ap (λ b. cond b (untried_cubes p base older ++ other_cube d older p ∷ []) (untried_cubes p base older)) (sym opens)

pub shut_step : (p : List ℕ) (base : ℕ) (older : List picture.Item) (d : picture.Item) → is_open (is_among p) base d ≡ false → (cubes : List (List ℤ)) →
    cubes ≡ untried_cubes p base older → cubes ≡ untried_cubes p base (d ∷ older)
shut_step p base older d shut cubes before =
    before ∙ ap (λ b. cond b (untried_cubes p base older ++ other_cube d older p ∷ []) (untried_cubes p base older)) (sym shut)

-- what an item that may be open has come to, before it is marked itself
pub record HasSided (n k : ℕ) (p : List ℕ) (base : ℕ) (table : List (Option ℤ)) (sides : List (List ℤ)) (d : picture.Item) (older : List picture.Item) : Type 0 where
  pub long : length table ≡ n + 1
  pub marks : AreMarkedBeside k n table older
  pub cubes : sides ≡ untried_cubes p base (d ∷ older)
