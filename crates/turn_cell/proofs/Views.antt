-- The tickets and the numbers of all views, after a change of one view.
use Rattle.std.proofs.Common.{◌≡◌, ◌≢◌, ℕ, zero, suc, ◌+◌, ◌-◌, ◌%◌, ◌^◌, ◌<◌, List, [], ◌∷◌, ◌++◌, length, set, refl, sym, ap, subst, ◌∙◌, ⊎_elim, arith, Some, None, length-append}
use Rattle.std.proofs.Math.Nat.{mod-add-mod}
use mathlib.Core.Option.{some, some-injective, some-ne-none}
use mathlib.Core.Logic.{dite}
use native.Mathlib.Decide.{ℕ_discrete}
use lib.ListN.{get_elem?}
use Rattle.atomic_table.proofs.Lists.{at_set, set_here, at_longer, at_snoc, one_turn}
use Rattle.turn_cell.specs.declared.rule.Claim.{Claim}
use Rattle.turn_cell.specs.declared.rule.View.{View}
use Rattle.turn_cell.specs.Rule.{total, claim_count, ticket_count, spent_view, IsOut, IsQueue, IsRoll}
use Rattle.turn_cell.specs.Steps.{with_next_number, new_view, with_claims}
use Rattle.turn_cell.proofs.Lists.{total_append, total_set, total_same, one_same, one_other}

pub Some_injective : {A : Type 0} (a b : A) → Some a ≡ Some b → a ≡ b
Some_injective a b e = cc

module _ {V : Type 0} where
  pub at_below : (vs : List V) (i : ℕ) (v : V) → get_elem? vs i ≡ some v → i < length vs
  at_below [] i v e = absurd (some-ne-none v (sym e))
  at_below (x ∷ xs) zero v e = omega arith
  at_below (x ∷ xs) (suc i) v e = let h = at_below xs i v e in omega arith

  pub at_one : (vs : List V) (i j : ℕ) (v w : V) → get_elem? vs i ≡ some v → get_elem? vs j ≡ some w → i ≡ j → v ≡ w
  at_one vs i j v w e d s = some-injective v w (sym e ∙ (ap (get_elem? vs) s ∙ d))

  pub each_set : (P : ℕ → V → Type 0) (vs : List V) (me : ℕ) (w : V) → P me w → ((j : ℕ) (u : V) → j ≢ me → get_elem? vs j ≡ some u → P j u) → (j : ℕ) (u : V) → get_elem? (set vs me w) j ≡ some u → P j u
  each_set P vs me w mine others j u e = ⊎_elim (λ (t : (j ≡ me) × (w ≡ u)). subst (λ (x : ℕ × V). P x.0 x.1) (λ i. (sym t.0 i, t.1 i)) mine)
      (λ (t : (j ≢ me) × (get_elem? vs j ≡ some u)). others j u t.0 t.1) (at_set vs me j w u e)

-- one turn of the counter further on
pub mod_step : (s d : ℕ) → 0 < d → (s + d) % 2 ^ 64 ≡ ((s + 1) % 2 ^ 64 + (d - 1)) % 2 ^ 64
mod_step s d h = let a : (s + 1) + (d - 1) ≡ s + d = omega arith in sym (mod-add-mod (s + 1) (2 ^ 64) (d - 1) ∙ ap (λ k. k % 2 ^ 64) a)

module _ {E F : Type 0} where
  Apart : List (View E F) → Type 0
  Apart vs = (i j t : ℕ) (v w : View E F) → get_elem? vs i ≡ some v → get_elem? vs j ≡ some w → v.ticket ≡ Some t → w.ticket ≡ Some t → i ≡ j

  apart_set : (vs : List (View E F)) (me : ℕ) (w : View E F) → Apart vs
      → ((j t : ℕ) (u : View E F) → j ≢ me → get_elem? vs j ≡ some u → w.ticket ≡ Some t → u.ticket ≡ Some t → ⊥) → Apart (set vs me w)
  unfolding Apart
  apart_set vs me w old other i j t a b ea eb ta tb = ⊎_elim (λ (p : (i ≡ me) × (w ≡ a)). ⊎_elim (λ (q : (j ≡ me) × (w ≡ b)). p.0 ∙ sym q.0)
      (λ (q : (j ≢ me) × (get_elem? vs j ≡ some b)). absurd (other j t b q.0 q.1 (ap (λ (z : View E F). z.ticket) p.1 ∙ ta) tb)) (at_set vs me j w b eb))
      (λ (p : (i ≢ me) × (get_elem? vs i ≡ some a)). ⊎_elim (λ (q : (j ≡ me) × (w ≡ b)). absurd (other i t a p.0 p.1 (ap (λ (z : View E F). z.ticket) q.1 ∙ tb) ta))
      (λ (q : (j ≢ me) × (get_elem? vs j ≡ some b)). old i j t a b p.1 q.1 ta tb) (at_set vs me j w b eb))
      (at_set vs me i w a ea)

  Inside : ℕ → ℕ → ℕ → View E F → Type 0
  Inside served out j u = (t : ℕ) → u.ticket ≡ Some t → IsOut served out t

  module _ (served out : ℕ) (vs : List (View E F)) (q : IsQueue served out vs) (me : ℕ) (v w : View E F) (at : get_elem? vs me ≡ some v) where
    pub queue_same : w.ticket ≡ v.ticket → IsQueue served out (set vs me w)
    unfolding Apart Inside
    queue_same same = record {
      counted = total_same (λ (u : View E F). ticket_count u.ticket) vs me v w at (ap ticket_count same) ∙ q.counted;
      inside = λ i t u e. each_set (Inside served out) vs me w (λ k h. q.inside me k v at (sym same ∙ h)) (λ j x _ f k h. q.inside j k x f h) i u e t;
      apart = apart_set vs me w q.apart (λ j t u other e a b. other (q.apart j me t u v e at b (sym same ∙ a)));
    }

    pub queue_draw : v.ticket ≡ None → out < 2 ^ 64 → w.ticket ≡ Some ((served + out) % 2 ^ 64) → IsQueue served (out + 1) (set vs me w)
    unfolding Apart Inside
    queue_draw none_yet small drawn = record {
      counted = (
          let h = total_set (λ (u : View E F). ticket_count u.ticket) vs me v w at in let a : ticket_count v.ticket ≡ 0 = ap ticket_count none_yet in let b : ticket_count w.ticket ≡ 1 = ap ticket_count drawn in let c = q.counted in omega arith
          );
      inside = λ i t u e. each_set (Inside served (out + 1)) vs me w (λ k h. record { distance = out; near = omega arith; is = sym (Some_injective _ _ (sym drawn ∙ h)) })
          (λ j x _ f k h. let p = q.inside j k x f h in record { distance = p.distance; near = omega (arith, p.near); is = p.is }) i u e t;
      apart = apart_set vs me w q.apart (λ j t u other e a b.
          let p = q.inside j t u e b in let lt : p.distance < out = p.near in let here : (served + out) % 2 ^ 64 ≡ t = Some_injective _ _ (sym drawn ∙ a) in
          let k : served + p.distance ≡ served + out = one_turn (served + p.distance) (served + out) (2 ^ 64) (omega arith) (omega arith) (sym p.is ∙ sym here) in absurd (omega arith));
    }

    pub queue_pass : served < 2 ^ 64 → v.ticket ≡ Some served → w.ticket ≡ None → IsQueue ((served + 1) % 2 ^ 64) (out - 1) (set vs me w)
    unfolding Apart Inside
    queue_pass small mine gone = record {
      counted = (
          let h = total_set (λ (u : View E F). ticket_count u.ticket) vs me v w at in let a : ticket_count v.ticket ≡ 1 = ap ticket_count mine in let b : ticket_count w.ticket ≡ 0 = ap ticket_count gone in let c = q.counted in omega arith
          );
      inside = λ i t u e. each_set (Inside ((served + 1) % 2 ^ 64) (out - 1)) vs me w (λ k h. absurd (let z : None ≡ Some k = sym gone ∙ h in cc))
          (λ j x other f k h. let p = q.inside j k x f h in let lt : p.distance < out = p.near in
          dite (ℕ_discrete p.distance 0) (λ z. let first : k ≡ served = p.is ∙ (let s : (served + p.distance) ≡ served = omega arith in ap (λ (n : ℕ). n % 2 ^ 64) s ∙ omega arith) in
          absurd (other (q.apart j me served x v f at (h ∙ ap (λ (n : ℕ). Some n) first) mine)))
          (λ z. record { distance = p.distance - 1; near = omega arith; is = p.is ∙ mod_step served p.distance (omega arith) })) i u e t;
      apart = apart_set vs me w q.apart (λ j t u other e a b. let z : None ≡ Some t = sym gone ∙ a in cc);
    }

  pub queue_more : (served out : ℕ) (vs : List (View E F)) (w : View E F) → w.ticket ≡ None → IsQueue served out vs → IsQueue served out (vs ++ w ∷ [])
  queue_more served out vs w none_yet q = record {
    counted = let h = total_append (λ (u : View E F). ticket_count u.ticket) vs (w ∷ []) in let a : ticket_count w.ticket ≡ 0 = ap ticket_count none_yet in let c = q.counted in omega arith;
    inside = λ i t u e h. ⊎_elim (λ (f : get_elem? vs i ≡ some u). q.inside i t u f h) (λ (s : w ≡ u). absurd (let z : None ≡ Some t = sym none_yet ∙ (ap (λ (x : View E F). x.ticket) s ∙ h) in cc)) (at_snoc vs w u i e);
    apart = λ i j t a b ea eb ta tb. ⊎_elim (λ (f : get_elem? vs i ≡ some a). ⊎_elim (λ (g : get_elem? vs j ≡ some b). q.apart i j t a b f g ta tb)
        (λ (s : w ≡ b). absurd (let z : None ≡ Some t = sym none_yet ∙ (ap (λ (x : View E F). x.ticket) s ∙ tb) in cc)) (at_snoc vs w b j eb))
        (λ (s : w ≡ a). absurd (let z : None ≡ Some t = sym none_yet ∙ (ap (λ (x : View E F). x.ticket) s ∙ ta) in cc)) (at_snoc vs w a i ea);
  }

  module _ (made passes : ℕ) (vs : List (View E F)) (r : IsRoll made passes vs) where
    pub roll_same : (me : ℕ) (v w : View E F) → get_elem? vs me ≡ some v → ((n : ℕ) → claim_count n w.claims ≡ claim_count n v.claims) → length w.claims ≡ length v.claims → w.made ≡ v.made → IsRoll made passes (set vs me w)
    roll_same me v w at counts sizes same = record {
      once = λ n h. total_same (λ (u : View E F). claim_count n u.claims) vs me v w at (counts n) ∙ r.once n h;
      never = λ n h. total_same (λ (u : View E F). claim_count n u.claims) vs me v w at (counts n) ∙ r.never n h;
      all = total_same (λ (u : View E F). length u.claims) vs me v w at sizes ∙ r.all;
      within = r.within;
      few = r.few;
      first = λ u e live. ⊎_elim (λ (t : (0 ≡ me) × (w ≡ u)). let mine : w.made ≡ u.made = ap (λ (x : View E F). x.made) t.1 in let long : length w.claims ≡ length u.claims = ap (λ (x : View E F). length x.claims) t.1 in
          let lv : 0 < length v.claims = omega arith in sym mine ∙ (same ∙ r.first v (ap (get_elem? vs) t.0 ∙ at) lv))
          (λ (t : (0 ≢ me) × (get_elem? vs 0 ≡ some u)). r.first u t.1 live) (at_set vs me 0 w u e);
    }

    pub roll_split : (v : View E F) → get_elem? vs 0 ≡ some v → 0 < length v.claims → v.made < passes → IsRoll (made + 1) passes (set vs 0 (with_next_number v) ++ new_view v ∷ [])
    roll_split v at live room = let now : v.made ≡ made = r.first v at live in
        let more : (f : View E F → ℕ) → f (with_next_number v) ≡ f v → total f (set vs 0 (with_next_number v) ++ new_view v ∷ []) ≡ total f vs + f (new_view v) =
        λ f same. let a = total_append f (set vs 0 (with_next_number v)) (new_view v ∷ []) in let b = total_same f vs 0 v (with_next_number v) at same in omega arith in record {
          once = λ n h. let t = more (λ (u : View E F). claim_count n u.claims) refl in dite (ℕ_discrete v.made n) (λ e. let one = one_same n v.made e in let z = r.never n (omega arith) in omega arith)
              (λ e. let no_one = one_other n v.made e in let z = r.once n (omega arith) in omega arith);
          never = λ n h. let t = more (λ (u : View E F). claim_count n u.claims) refl in let no_one = one_other n v.made (λ e. absurd (omega arith)) in let z = r.never n (omega arith) in omega arith;
          all = let t = more (λ (u : View E F). length u.claims) refl in let z = r.all in omega arith;
          within = omega arith;
          few = r.few;
          first = λ u e lu. let here : get_elem? (set vs 0 (with_next_number v) ++ new_view v ∷ []) 0 ≡ some (with_next_number v) = at_longer (set vs 0 (with_next_number v)) (new_view v ∷ []) 0 (with_next_number v) (set_here vs 0 (with_next_number v) (at_below vs 0 v at)) in
              let same : with_next_number v ≡ u = some-injective _ _ (sym here ∙ e) in let m : v.made + 1 ≡ u.made = ap (λ (x : View E F). x.made) same in omega arith;
        }

    pub roll_join : (me other : ℕ) (v w : View E F) → get_elem? vs me ≡ some v → ¬ (other ≡ me) → get_elem? (set vs me (with_claims v w)) other ≡ some w → 0 < length v.claims
        → IsRoll made passes (set (set vs me (with_claims v w)) other spent_view)
    roll_join me other v w at apart at_w live =
        let whole : (f : Claim E → ℕ) → total (λ (u : View E F). total f u.claims) (set (set vs me (with_claims v w)) other spent_view) ≡ total (λ (u : View E F). total f u.claims) vs =
        λ f. let a = total_set (λ (u : View E F). total f u.claims) vs me v (with_claims v w) at in let b = total_set (λ (u : View E F). total f u.claims) (set vs me (with_claims v w)) other w spent_view at_w in
        let c = total_append f w.claims v.claims in omega arith in record {
          once = λ n h. whole _ ∙ r.once n h;
          never = λ n h. whole _ ∙ r.never n h;
          all = (
              let a = total_set (λ (u : View E F). length u.claims) vs me v (with_claims v w) at in let b = total_set (λ (u : View E F). length u.claims) (set vs me (with_claims v w)) other w spent_view at_w in
              let c = length-append w.claims v.claims in let d = r.all in omega arith
              );
          within = r.within;
          few = r.few;
          first = λ u e lu. ⊎_elim (λ (t : (0 ≡ other) × (spent_view ≡ u)). let z : 0 ≡ length u.claims = ap (λ (x : View E F). length x.claims) t.1 in absurd (omega arith))
              (λ (t : (0 ≢ other) × (get_elem? (set vs me (with_claims v w)) 0 ≡ some u)). ⊎_elim (λ (k : (0 ≡ me) × (with_claims v w ≡ u)). let m : v.made ≡ u.made = ap (λ (x : View E F). x.made) k.1 in sym m ∙ r.first v (ap (get_elem? vs) k.0 ∙ at) live)
              (λ (k : (0 ≢ me) × (get_elem? vs 0 ≡ some u)). r.first u k.1 lu) (at_set vs me 0 (with_claims v w) u t.1))
              (at_set (set vs me (with_claims v w)) other 0 spent_view u e);
        }
