-- What the picture says of the items of the code.
use Rattle.std.proofs.Common.{◌≡◌, ℕ, Bool, true, false, cond, ◌&&◌, ◌||◌, nat_eq, nat_le, List, [], ◌∷◌, ◌++◌, length, filter, ℤ, neg_ℤ, nat_abs, is_some, refl, sym, ap, ◌∙◌, append_assoc, append-nil, inl, inr}
use Rattle.std.specs.Ordering.{int_eq}
use Rattle.std.specs.List.{list_all, list_any}
use Rattle.std.proofs.lemmas.Bool.{cases_Bool, and_parts, ltb-true}
use Rattle.std.proofs.Math.ListN.{get_or-append}
use Rattle.std.proofs.lemmas.List.Folds.{list_any-append, list_all-append}
use Rattle.std.proofs.lemmas.List.Elements.{filter-append}
use Rattle.search_region.specs.Trail as picture
use Rattle.chrono_trail.specs.declared.item.Kind.{Kind}
use Rattle.chrono_trail.specs.declared.item.Kind.TheVariants.{Assumed, Decided, Flipped, Turned, Implied}
use Rattle.chrono_trail.specs.declared.item.Item.{Item}
use Rattle.chrono_trail.specs.Items.{item_of, is_decision, is_inside, are_inside, depth_from, is_upto}
use Rattle.chrono_trail.specs.Clauses.{false_upto}
use Rattle.chrono_trail.specs.Pictures.{kind_of, pictured, picture_of}

decided_same : (clauses : List (List ℤ)) (k : Kind) → picture.is_decided (kind_of clauses k) ≡ is_decision k
decided_same clauses Assumed = refl
decided_same clauses Decided = refl
decided_same clauses Flipped = refl
decided_same clauses (Turned id) = refl
decided_same clauses (Implied id) = refl

-- an appended item is the newest
pub picture-push : (clauses : List (List ℤ)) (items : List Item) (e : Item) → picture_of clauses (items ++ e ∷ []) ≡ pictured clauses e ∷ picture_of clauses items
picture-push clauses [] e = refl
picture-push clauses (i ∷ later) e = ap (λ rest. rest ++ pictured clauses i ∷ []) (picture-push clauses later e)

or_swap : (a b : Bool) → (a || (b || false)) ≡ (b || a)
or_swap true true = refl
or_swap true false = refl
or_swap false true = refl
or_swap false false = refl

and_swap : (a b : Bool) → (a && (b && true)) ≡ (b && a)
and_swap true true = refl
and_swap true false = refl
and_swap false true = refl
and_swap false false = refl

-- items that follow are newer
pub picture-append : (clauses : List (List ℤ)) (xs ys : List Item) → picture_of clauses (xs ++ ys) ≡ picture_of clauses ys ++ picture_of clauses xs
picture-append clauses [] ys = sym (append-nil (picture_of clauses ys))
picture-append clauses (x ∷ xs) ys =
    ap (λ rest. rest ++ pictured clauses x ∷ []) (picture-append clauses xs ys)
    ∙ append_assoc (picture_of clauses ys) (picture_of clauses xs) (pictured clauses x ∷ [])

-- a test of the picture's items is one of the items
pub all-picture : (clauses : List (List ℤ)) (p : picture.Item → Bool) (items : List Item) → list_all p (picture_of clauses items) ≡ list_all (λ i. p (pictured clauses i)) items
all-picture clauses p [] = refl
all-picture clauses p (i ∷ later) =
    list_all-append p (picture_of clauses later) (pictured clauses i ∷ [])
    ∙ ap (λ b. b && (p (pictured clauses i) && true)) (all-picture clauses p later)
    ∙ and_swap (list_all (λ j. p (pictured clauses j)) later) (p (pictured clauses i))

pub any-picture : (clauses : List (List ℤ)) (p : picture.Item → Bool) (items : List Item) → list_any p (picture_of clauses items) ≡ list_any (λ i. p (pictured clauses i)) items
any-picture clauses p [] = refl
any-picture clauses p (i ∷ later) =
    list_any-append p (picture_of clauses later) (pictured clauses i ∷ [])
    ∙ ap (λ b. b || (p (pictured clauses i) || false)) (any-picture clauses p later)
    ∙ or_swap (list_any (λ j. p (pictured clauses j)) later) (p (pictured clauses i))

-- a clause stays where others join behind it
kind-grown : (clauses more : List (List ℤ)) (k : Kind) → is_inside (length clauses) k ≡ true → kind_of (clauses ++ more) k ≡ kind_of clauses k
kind-grown clauses more Assumed h = refl
kind-grown clauses more Decided h = refl
kind-grown clauses more Flipped h = refl
kind-grown clauses more (Turned id) h = ap picture.Turned (get_or-append clauses more [] id (ltb-true id (length clauses) h))
kind-grown clauses more (Implied id) h = ap picture.Implied (get_or-append clauses more [] id (ltb-true id (length clauses) h))

-- and the picture stays
pub picture-grown : (clauses more : List (List ℤ)) (items : List Item) → are_inside (length clauses) items ≡ true → picture_of (clauses ++ more) items ≡ picture_of clauses items
picture-grown clauses more [] h = refl
picture-grown clauses more (i ∷ later) h =
    let (now, rest) = and_parts (is_inside (length clauses) i.kind) (are_inside (length clauses) later) h in
    ap (λ k. picture_of (clauses ++ more) later ++ record { lit = i.lit; level = i.level; kind = k } ∷ []) (kind-grown clauses more i.kind now)
    ∙ ap (λ xs. xs ++ pictured clauses i ∷ []) (picture-grown clauses more later rest)

depth_over : (clauses : List (List ℤ)) (items : List Item) (older : List picture.Item) → picture.depth (picture_of clauses items ++ older) ≡ depth_from (picture.depth older) items
depth_over clauses [] older = refl
depth_over clauses (i ∷ later) older =
    ap picture.depth (append_assoc (picture_of clauses later) (pictured clauses i ∷ []) older)
    ∙ depth_over clauses later (pictured clauses i ∷ older)
    ∙ ap (λ b. depth_from (cond b i.level (picture.depth older)) later) (decided_same clauses i.kind)

-- the current level is that of the picture
pub depth-picture : (clauses : List (List ℤ)) (items : List Item) → picture.depth (picture_of clauses items) ≡ depth_from 0 items
depth-picture clauses items = ap picture.depth (sym (append-nil (picture_of clauses items))) ∙ depth_over clauses items []

-- levels taken back are taken back in the picture
pub back-picture : (clauses : List (List ℤ)) (k : ℕ) (items : List Item) → picture.back k (picture_of clauses items) ≡ picture_of clauses (filter (is_upto k) items)
back-picture clauses k [] = refl
back-picture clauses k (i ∷ later) =
    filter-append (λ j. nat_le j.level k) (picture_of clauses later) (pictured clauses i ∷ [])
    ∙ ap (λ xs. xs ++ picture.back k (pictured clauses i ∷ [])) (back-picture clauses k later)
    ∙ elim (cases_Bool (nat_le i.level k)) [
      | inl stays ↦ rw stays refl
      | inr leaves ↦ rw leaves (append-nil (picture_of clauses (filter (is_upto k) later)))
    ]

-- what is false is so in the picture
pub false_by-picture : (clauses : List (List ℤ)) (k : ℕ) (items : List Item) (l : ℤ) → picture.false_by k (picture_of clauses items) l ≡ false_upto k items l
false_by-picture clauses k [] l = refl
false_by-picture clauses k (i ∷ later) l =
    list_any-append (λ j. int_eq l (neg_ℤ j.lit) && nat_le j.level k) (picture_of clauses later) (pictured clauses i ∷ [])
    ∙ ap (λ b. b || ((int_eq l (neg_ℤ i.lit) && nat_le i.level k) || false)) (false_by-picture clauses k later l)
    ∙ or_swap (false_upto k later l) (int_eq l (neg_ℤ i.lit) && nat_le i.level k)

-- what is assigned is so in the picture
pub is_assigned-picture : (clauses : List (List ℤ)) (v : ℕ) (items : List Item) → picture.is_assigned v (picture_of clauses items) ≡ is_some (item_of items v)
is_assigned-picture clauses v [] = refl
is_assigned-picture clauses v (i ∷ later) =
    list_any-append (λ j. nat_eq v (nat_abs j.lit)) (picture_of clauses later) (pictured clauses i ∷ [])
    ∙ ap (λ b. b || (nat_eq v (nat_abs i.lit) || false)) (is_assigned-picture clauses v later)
    ∙ or_swap (is_some (item_of later v)) (nat_eq v (nat_abs i.lit))
    ∙ elim (cases_Bool (nat_eq v (nat_abs i.lit))) [
      | inl same ↦ rw same refl
      | inr other ↦ rw other refl
    ]
