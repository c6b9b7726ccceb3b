-- What looks at the trail tell: of its picture, of models, and of the literals of a cube.
use Rattle.std.proofs.Common.{◌≡◌, ℕ, ◌<◌, Bool, true, false, cond, nat_eq, nat_le, ℤ, nat_abs, List, [], ◌∷◌, ◌++◌, length, get_or, take, Option, Some, None, is_some, is_none, refl, sym, ap, subst, ◌∙◌, append_assoc, append-nil, inl, inr, ◌+◌, filter_map, option_to_list, All}
use Rattle.std.specs.List.{list_all}
use Rattle.std.proofs.lemmas.Bool.{and_parts, and_from, cases_Bool}
use Rattle.std.proofs.lemmas.List.{take_more}
use Rattle.std.proofs.lemmas.List.Elements.{filter_map-append, All-head, All-tail}
use Rattle.search_region.specs.Trail as picture
use Rattle.search_region.specs.Steady.{Steady}
use Rattle.search_region.specs.ReadCube.{picked_literal, read_cube}
use Rattle.search_region.proofs.Back.{unassigned_newer}
use Rattle.search_region.proofs.ReadCube.{picked_literal-oldest}
use Rattle.chrono_trail.specs.declared.item.Item.{Item}
use Rattle.chrono_trail.specs.Items.{item_of, are_distinct}
use Rattle.chrono_trail.specs.Pictures.{pictured, picture_of}
use Rattle.chrono_trail.proofs.Items.{none_is}
use Rattle.chrono_trail.proofs.Pictures.{is_assigned-picture}

-- what follows from what holds of each
pub all_tests : {X : Type 0} (P : X → Type 0) (test : X → Bool) → ((x : X) → P x → test x ≡ true) → (xs : List X) → All P xs →
    list_all test xs ≡ true
all_tests P test h [] all = refl
all_tests P test h (x ∷ xs) all =
    and_from (test x) (list_all test xs) (h x (All-head P x xs all)) (all_tests P test h xs (All-tail P x xs all))

-- the items of a steady trail are of distinct variables
none_from : (o : Option Item) → is_some o ≡ false → is_none o ≡ true
none_from None h = refl
none_from (Some i) h = cc

distinct_over : (f clauses : List (List ℤ)) (shown : ℕ → Bool) (items : List Item) (older : List picture.Item) →
    Steady f shown (picture_of clauses items ++ older) → are_distinct items ≡ true
distinct_over f clauses shown [] older s = refl
distinct_over f clauses shown (i ∷ later) older s =
    let whole = subst (Steady f shown) (append_assoc (picture_of clauses later) (pictured clauses i ∷ []) older) s in
    and_from (is_none (item_of later (nat_abs i.lit))) (are_distinct later)
    (none_from (item_of later (nat_abs i.lit)) (sym (is_assigned-picture clauses (nat_abs i.lit) later)
    ∙ unassigned_newer f shown (picture_of clauses later) (pictured clauses i) older whole))
    (distinct_over f clauses shown later (pictured clauses i ∷ older) whole)

pub steady_distinct : (f clauses : List (List ℤ)) (shown : ℕ → Bool) (items : List Item) → Steady f shown (picture_of clauses items) →
    are_distinct items ≡ true
steady_distinct f clauses shown items s =
    distinct_over f clauses shown items [] (subst (Steady f shown) (sym (append-nil (picture_of clauses items))) s)

-- the literal that an item gives to the cube of a level
abbrev pub literal_upto : ℕ → Option Item → Option ℤ
literal_upto b None = None
literal_upto b (Some i) = cond (nat_le i.level b) (Some i.lit) None

pub picked_item : (f : List (List ℤ)) (b : ℕ) (items : List Item) (v : ℕ) → are_distinct items ≡ true →
    picked_literal (picture.upto b) (picture_of f items) v ≡ literal_upto b (item_of items v)
picked_item f b [] v d = refl
picked_item f b (i ∷ later) v d =
    let (alone, apart) = and_parts (is_none (item_of later (nat_abs i.lit))) (are_distinct later) d in
    let none = none_is (item_of later (nat_abs i.lit)) alone in
    picked_literal-oldest (picture.upto b) (picture_of f later) (pictured f i) v
    (is_assigned-picture f (nat_abs i.lit) later ∙ ap is_some none)
    ∙ ap (λ o. cond (nat_eq v (nat_abs i.lit)) (cond (nat_le i.level b) (Some i.lit) None) o) (picked_item f b later v apart)
    ∙ elim (cases_Bool (nat_eq v (nat_abs i.lit))) [ inl same ↦ rw same refl | inr other ↦ rw other refl ]

-- ---- walks over variables

-- one more variable
pub cube_more : (pick : picture.Item → Bool) (trail : List picture.Item) (p : List ℕ) (i d : ℕ) → i < length p →
    read_cube pick trail (take (i + 1) p) ≡ read_cube pick trail (take i p) ++ option_to_list (picked_literal pick trail (get_or p i d))
cube_more pick trail p i d inside =
    ap (read_cube pick trail) (take_more p i d inside)
    ∙ filter_map-append (picked_literal pick trail) (take i p) (get_or p i d ∷ [])
    ∙ ap (λ rest. read_cube pick trail (take i p) ++ rest) (as_list (picked_literal pick trail (get_or p i d)))
  where
    as_list : (o : Option ℤ) → filter_map (λ (x : ℕ). o) (0 ∷ []) ≡ option_to_list o
    as_list None = refl
    as_list (Some l) = refl
