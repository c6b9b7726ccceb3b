-- The flips of a trail, by the last of them.
use Rattle.std.proofs.Common.{◌≡◌, ℕ, zero, suc, ◌<◌, ◌≤◌, Bool, true, false, ◌&&◌, ◌||◌, not, nat_le, List, [], ◌∷◌, length, get_or, take, ℤ, pos, nat_abs, refl, sym, ap, ◌∙◌, inl, inr, arith}
use Rattle.std.specs.List.{list_all}
use Rattle.std.proofs.lemmas.Bool.{and_parts, and_from, or_right, cases_lt, cases_eq, le-leb, lt-leb, leb-true}
use Rattle.std.proofs.lemmas.List.Folds.{list_all_at}
use Rattle.search_region.specs.Trail as picture
use Rattle.search_region.specs.Model.{keeps_flips}
use Rattle.chrono_trail.specs.declared.item.Kind.TheVariants.{Assumed}
use Rattle.chrono_trail.specs.declared.item.Item.{Item}
use Rattle.chrono_trail.specs.Items.{is_upto}
use Rattle.chrono_trail.specs.Pictures.{kind_of, picture_of}
use Rattle.chrono_trail.proofs.Pictures.{all-picture}
use Rattle.implicant_shrink.specs.Levels.{is_flip_of_shown, AreNoFlips, IsLastFlip}
use Rattle.implicant_shrink.proofs.Kept.{flipped_same}

-- what holds of the first items holds of fewer
pub fewer : (p : Item → Bool) (m n : ℕ) (items : List Item) → m ≤ n → list_all p (take n items) ≡ true → list_all p (take m items) ≡ true
fewer p zero n items low h = refl
fewer p (suc m) zero items low h = absurd (omega arith)
fewer p (suc m) (suc n) [] low h = refl
fewer p (suc m) (suc n) (i ∷ later) low h =
    let (now, rest) = and_parts (p i) (list_all p (take n later)) h in
    and_from (p i) (list_all p (take m later)) now (fewer p m n later (omega arith) rest)

front_at : (p : Item → Bool) (n : ℕ) (items : List Item) (j : ℕ) (d : Item) → j < n → j < length items → list_all p (take n items) ≡ true →
    p (get_or items j d) ≡ true
front_at p n [] j d below inside h = absurd (omega arith)
front_at p zero (i ∷ later) j d below inside h = absurd (omega arith)
front_at p (suc n) (i ∷ later) zero d below inside h = (and_parts (p i) (list_all p (take n later)) h).0
front_at p (suc n) (i ∷ later) (suc j) d below inside h =
    front_at p n later j d (omega arith) (omega arith) (and_parts (p i) (list_all p (take n later)) h).1

all_items : (p : Item → Bool) (items : List Item) (d : Item) → ((j : ℕ) → j < length items → p (get_or items j d) ≡ true) → list_all p items ≡ true
all_items p [] d h = refl
all_items p (i ∷ later) d h =
    and_from (p i) (list_all p later) (h 0 (omega arith)) (all_items p later d (λ j inside. h (suc j) (omega arith)))

all_alike : (p q : Item → Bool) (items : List Item) → ((i : Item) → p i ≡ q i) → list_all p items ≡ list_all q items
all_alike p q [] same = refl
all_alike p q (i ∷ later) same = ap (λ b. b && list_all p later) (same i) ∙ ap (λ b. q i && b) (all_alike p q later same)

-- the item is no shown flipped one above the level b
abbrev keeps : (ℕ → Bool) → ℕ → Item → Bool
keeps shown b i = not (is_flip_of_shown shown i) || nat_le i.level b

flips_seen : (clauses : List (List ℤ)) (shown : ℕ → Bool) (b : ℕ) (items : List Item) → keeps_flips shown b (picture_of clauses items) ≡ list_all (keeps shown b) items
flips_seen clauses shown b items =
    all-picture clauses (λ i. not (picture.is_flipped i.kind && picture.seen shown i) || nat_le i.level b) items
    ∙ all_alike (λ i. not (picture.is_flipped (kind_of clauses i.kind) && shown (nat_abs i.lit)) || nat_le i.level b) (keeps shown b) items
    (λ i. ap (λ x. not (x && shown (nat_abs i.lit)) || nat_le i.level b) (flipped_same clauses i.kind))

no_flip_keeps : (shown : ℕ → Bool) (b : ℕ) (i : Item) → is_flip_of_shown shown i ≡ false → keeps shown b i ≡ true
no_flip_keeps shown b i none = ap (λ x. not x || nat_le i.level b) none

abbrev pub nothing : Item
nothing = record { lit = pos 0; level = 0; kind = Assumed }

-- there is none
pub no_flips : (clauses : List (List ℤ)) (shown : ℕ → Bool) (items : List Item) → AreNoFlips shown items 0 → (b : ℕ) →
    keeps_flips shown b (picture_of clauses items) ≡ nat_le 0 b
no_flips clauses shown items none b =
    flips_seen clauses shown b items
    ∙ all_items (keeps shown b) items nothing (λ j inside. no_flip_keeps shown b (get_or items j nothing) (none j nothing (omega arith) inside))
    ∙ sym (le-leb 0 b (omega arith))

-- the last one is of the greatest level
pub flips_by_last : (clauses : List (List ℤ)) (shown : ℕ → Bool) (items : List Item) (place : ℕ) → IsLastFlip shown items place →
    list_all (is_upto (get_or items place nothing).level) (take place items) ≡ true → (b : ℕ) →
    keeps_flips shown b (picture_of clauses items) ≡ nat_le (get_or items place nothing).level b
flips_by_last clauses shown items place last low b = let level : ℕ = (get_or items place nothing).level in flips_seen clauses shown b items ∙ elim (cases_lt b level) [
  | inl under ↦
      list_all_at (keeps shown b) items place nothing last.inside
      (ap (λ x. not x || nat_le (get_or items place nothing).level b) (last.here nothing)
      ∙ lt-leb level b under)
      ∙ sym (lt-leb level b under)
  | inr over ↦
      all_items (keeps shown b) items nothing (λ j inside. elim (cases_lt j place) [
        | inl before ↦
            let own : nat_le (get_or items j nothing).level level ≡ true = front_at (is_upto level) place items j nothing before inside low in
            or_right (not (is_flip_of_shown shown (get_or items j nothing))) (nat_le (get_or items j nothing).level b) (let under = leb-true (get_or items j nothing).level level own in le-leb (get_or items j nothing).level b (omega arith))
        | inr from ↦ elim (cases_eq j place) [
          | inl same ↦
              or_right (not (is_flip_of_shown shown (get_or items j nothing))) (nat_le (get_or items j nothing).level b)
              (ap (λ k. nat_le (get_or items k nothing).level b) same ∙ le-leb level b over)
          | inr other ↦ no_flip_keeps shown b (get_or items j nothing) (last.after j nothing (omega (arith, other)) inside)
        ]
      ])
      ∙ sym (le-leb level b over)
]
