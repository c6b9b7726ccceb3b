-- The table of a trail.
use Rattle.std.proofs.Common.{◌≡◌, ℕ, ◌-◌, ◌<◌, ◌≤◌, true, ◌&&◌, nat_eq, nat_lt, nat_le, List, [], ◌∷◌, ◌++◌, length, set, Option, Some, None, nat_abs, refl, sym, ap, subst, ◌∙◌, inl, inr, arith, length-append, length-set}
use Rattle.std.specs.List.{list_all}
use Rattle.std.proofs.lemmas.Bool.{and_from, cases_Bool, eqb-true, eqb-false, lt-ltb, le-leb}
use Rattle.std.proofs.lemmas.List.{get_or-set_same, get_or-set_other}
use Rattle.std.proofs.lemmas.List.Folds.{list_all-append}
use Rattle.chrono_trail.specs.declared.item.Item.{Item}
use Rattle.chrono_trail.specs.Items.{item_of, is_within, level_after, may_stand, decisions_from}
use Rattle.chrono_trail.specs.Trails.{IsTrail, IsKept}
use Rattle.chrono_trail.proofs.Items.{item_of-push, distinct_push, depth_from-append, stand_push}

pub trail_push : (n : ℕ) (items : List Item) (level : ℕ) (e : Item) → IsTrail n items level → 0 < nat_abs e.lit → nat_abs e.lit ≤ n → item_of items (nat_abs e.lit) ≡ None → may_stand level e ≡ true → IsTrail n (items ++ e ∷ []) (level_after level e)
trail_push n items level e t above below free stands = record {
  small = t.small;
  within = list_all-append (is_within n) items (e ∷ []) ∙ and_from (list_all (is_within n) items) (is_within n e && true) t.within
      (and_from (is_within n e) true (and_from (nat_lt 0 (nat_abs e.lit)) (nat_le (nat_abs e.lit) n) (lt-ltb 0 (nat_abs e.lit) above) (le-leb (nat_abs e.lit) n below)) refl);
  distinct = distinct_push items e t.distinct free;
  stands = stand_push 0 items e t.stands (subst (λ k. may_stand k e ≡ true) t.current stands);
  current = ap (λ k. level_after k e) t.current ∙ sym (depth_from-append 0 items (e ∷ []));
}

pub kept_push : (items : List Item) (given : List (Option Item)) (decided more : List ℕ) (seen level wide deep wider deeper : ℕ) (e : Item) → IsKept items given decided seen level wide deep → 0 < nat_abs e.lit → nat_abs e.lit ≤ length given - 1 → item_of items (nat_abs e.lit) ≡ None → may_stand level e ≡ true → more ≡ decisions_from 0 (items ++ e ∷ []) → wider ≡ wide → deeper ≡ deep → IsKept (items ++ e ∷ []) (set given (nat_abs e.lit) (Some e)) more seen (level_after level e) wider deeper
kept_push items given decided more seen level wide deep wider deeper e k above below free stands stack same_wide same_deep =
    let same = length-set given (nat_abs e.lit) (Some e) in
    let places = k.places in
    let room = k.room in
    let depth_room = k.depth_room in
    let marked = k.marked in
    let longer = length-append items (e ∷ []) in
    record {
      trail = subst (λ m. IsTrail (m - 1) (items ++ e ∷ []) (level_after level e)) (sym same) (trail_push (length given - 1) items level e k.trail above below free stands);
      places = omega arith;
      tells = λ w h. elim (cases_Bool (nat_eq w (nat_abs e.lit))) [
        | inl now ↦ rw (item_of-push items e w free, now) (rw (eqb-true w (nat_abs e.lit) now) (get_or-set_same given (nat_abs e.lit) (Some e) None (omega arith)))
        | inr other ↦ rw (item_of-push items e w free, other) (get_or-set_other given (nat_abs e.lit) w (Some e) None (eqb-false w (nat_abs e.lit) other) ∙ k.tells w (omega arith))
      ];
      stack = stack;
      marked = omega arith;
      room = omega arith;
      depth_room = omega arith;
    }
