-- Each step keeps the rule of the table.
use Rattle.std.proofs.Common.{◌≡◌, ◌≢◌, ◌⊎◌, ℕ, zero, suc, ◌+◌, ◌-◌, ◌%◌, ◌^◌, ◌<◌, ◌≤◌, List, [], ◌∷◌, ◌++◌, length, get_or, set, refl, sym, ap, subst, ◌∙◌, inl, inr, ⊎_elim, arith, Bool, Option, Some, None, true, false, ◌==◌, length-append, drop, lit<}
use Rattle.std.proofs.Math.Nat.{mod-add-mod, mod-eq_of_lt, mod-lt}
use Rattle.std.proofs.lemmas.List.{append-nil, append_assoc}
use Rattle.std.proofs.lemmas.List.Elements.{filter-append}
use mathlib.Core.Option.{none, some, some-injective, some-ne-none}
use mathlib.Core.Option as maybe
use mathlib.Core.Logic.{dite}
use native.Mathlib.Decide.{ℕ_discrete, dec_lt}
use lib.ListN.{get_elem?}
use lib.Seq.{set-get_or}
use Rattle.atomic_table.specs.Table.{State, Me, step, Act, keeps, takes, gives, stepped, Allows, Splits, Joins, opening, Final, Seen}
use Rattle.atomic_table.proofs.Lists.{set_here, set_else, set_again, at_longer, at_snoc}
use Rattle.turn_cell.specs.declared.rule.Claim.{Claim}
use Rattle.turn_cell.specs.declared.rule.View.{View}
use Rattle.turn_cell.specs.Rule.{total, as_number, claim_count, ticket_count, entries_of, IsTrueOf, new_claim, spent_view, first_view, FitsSeat, IsHome, IsLent, KeepsJournal}
use Rattle.turn_cell.specs.Steps.{claim_after, claims_after, with_ticket, with_turn, with_journal, without_turn, with_next_number, new_view, with_claims, DrawsTicket, LooksForTurn, EntersJournal, PassesOn}
use Rattle.std.specs.Prelude.{All, Contains}
use Rattle.turn_cell.proofs.Lists.{Has, Has-from_Contains, Contains-from_Has, All-Has, All-from_Has, total_at, total_set, total_two, total_within, has_append, drop_added, one_same, one_other, claim_count_has, entries_all, entries_none}
use Rattle.turn_cell.proofs.Views.{Some_injective, at_below, at_one, each_set, mod_step, queue_same, queue_draw, queue_pass, queue_more, roll_same, roll_split, roll_join}

held_within : (o : Option ℕ) (n : ℕ) → ((t : ℕ) → o ≡ Some t → 0 < n) → ticket_count o ≤ n
held_within None n h = omega arith
held_within (Some t) n h = let k = h t refl in omega arith

one_small : (b : Bool) → as_number b ≤ 1
one_small true = omega arith
one_small false = omega arith

not_both : true ≡ false → ⊥
not_both e = cc

none_some : (t : ℕ) → ◌≡◌ {A = Option ℕ} None (Some t) → ⊥
none_some t e = cc

at_only : {V : Type 0} (v : V) (j : ℕ) (u : V) → get_elem? (v ∷ []) j ≡ some u → v ≡ u
at_only v zero u e = some-injective v u e
at_only v (suc j) u e = absurd (some-ne-none u (sym e))

module _ {E : Type 0} where
  claim_count-after : (found journal : List E) (n : ℕ) (cs : List (Claim E)) → claim_count n (claims_after found journal cs) ≡ claim_count n cs
  claim_count-after found journal n [] = refl
  claim_count-after found journal n (c ∷ cs) = refl

  length-after : (found journal : List E) (cs : List (Claim E)) → length (claims_after found journal cs) ≡ length cs
  length-after found journal [] = refl
  length-after found journal (c ∷ cs) = refl

  claim_count_within : (n : ℕ) (cs : List (Claim E)) → claim_count n cs ≤ length cs
  claim_count_within n [] = omega arith
  claim_count_within n (c ∷ cs) = let a = one_small (c.pass == n) in let b = claim_count_within n cs in omega arith

module _ {T : Type 0} where
  value_or : T → List (ℕ × Option T) → T
  value_or d [] = d
  value_or d (x ∷ xs) = elim x.1 [ None ↦ d | Some y ↦ y ]

  pub slot_value : (a b : T) → ◌≡◌ {A = List (ℕ × Option T)} ((0, Some a) ∷ []) ((0, Some b) ∷ []) → a ≡ b
  unfolding value_or
  slot_value a b e = ap (value_or a) e

module _ {T E F : Type 0} where
  lent_set : (home : maybe.Option (Option T)) (vs : List (View E F)) (me : ℕ) (v w : View E F) → get_elem? vs me ≡ some v → w.turn ≡ v.turn → IsLent home vs → IsLent home (set vs me w)
  lent_set home vs me v w at same l = let i = l.seat in let u = l.view in dite (ℕ_discrete i me)
      (λ e. let one : u ≡ v = at_one vs i me u v l.at at e in record {
        out = l.out;
        seat = me;
        view = w;
        at = set_here vs me w (at_below vs me v at);
        turn = same ∙ (ap (λ (x : View E F). x.turn) (sym one) ∙ l.turn);
      })
      (λ ne. record { out = l.out; seat = i; view = u; at = set_else vs me i w ne ∙ l.at; turn = l.turn })

module _ {T E F : Type 0} (journal : T → List E) (pass_of : E → ℕ) (fixed : T → F) (start : F) (passes : ℕ) where
  Rule : State (Option T) (View E F) → Type 0
  Rule = KeepsJournal journal pass_of fixed start passes

  few_out : (s : State (Option T) (View E F)) (r : KeepsJournal journal pass_of fixed start passes s) → r.out ≤ 64
  few_out s r = let h = total_within (λ (v : View E F). ticket_count v.ticket) (λ (v : View E F). length v.claims) s.views (λ i x e. held_within x.ticket (length x.claims) ((r.each i x e).seated)) in
      let a = r.queue.counted in let b = r.roll.all in let c = r.roll.within in let d = r.roll.few in omega arith

  -- nothing changes but the view, to one that makes the same claims and has the turn as before
  module _ (s : State (Option T) (View E F)) (r : KeepsJournal journal pass_of fixed start passes s) (id : ℕ) (v : View E F) (at : get_elem? s.views id ≡ some v) where
    place_set : (w : View E F) → w.turn ≡ v.turn → IsHome journal pass_of fixed r.home r.present start ⊎ IsLent r.home (set s.views id w)
    place_set w same = ⊎_elim (λ (h : IsHome journal pass_of fixed r.home r.present start). inl h) (λ (l : IsLent r.home s.views). inr (lent_set r.home s.views id v w at same l)) r.place

    -- the seat with the turn has the ticket that is served, so no other has the turn
    only_turn : v.ticket ≡ Some r.served → (j : ℕ) (u : View E F) → get_elem? s.views j ≡ some u → u.turn ≡ true → j ≡ id
    only_turn mine j u e turn = r.queue.apart j id r.served u v e at ((r.each j u e).lent turn).ticket mine

    pub unmoved : (i : ℕ) → KeepsJournal journal pass_of fixed start passes record { words = set s.words i (get_or s.words i 0); homes = s.homes; views = set s.views id v }
    unmoved i = subst (λ (x : List ℕ × List (View E F)). KeepsJournal journal pass_of fixed start passes record { words = x.0; homes = s.homes; views = x.1 })
        (λ k. (sym (set-get_or s.words i 0) k, sym (set_again s.views id v at) k)) r

  pub draw_keeps : (slots id : ℕ) (m : Me (Option T) (View E F)) → m.0.ticket ≡ None → 0 < length m.0.claims
      → Allows (KeepsJournal journal pass_of fixed start passes) slots id m 0 (λ n. (n + 1) % 2 ^ 64) (DrawsTicket (step slots 0 1 0 none) m)
  draw_keeps slots id m none_yet live s r deep at small =
      let t : ℕ = get_or s.words 0 0 in let w : View E F = with_ticket t m.0 in let few = few_out s r in
      let next : t ≡ (r.served + r.out) % 2 ^ 64 = ap (λ (ws : List ℕ). get_or ws 0 0) r.words in
      let up : (t + 1) % 2 ^ 64 ≡ (r.served + (r.out + 1)) % 2 ^ 64 = ap (λ (k : ℕ). (k + 1) % 2 ^ 64) next ∙ (mod-add-mod (r.served + r.out) (2 ^ 64) 1 ∙ (let a : (r.served + r.out) + 1 ≡ r.served + (r.out + 1) = omega arith in ap (λ (k : ℕ). k % 2 ^ 64) a)) in (
        w,
        keeps,
        tt,
        record {
          served = r.served;
          out = r.out + 1;
          made = r.made;
          present = r.present;
          home = r.home;
          words = ap (λ (ws : List ℕ). set ws 0 ((t + 1) % 2 ^ 64)) r.words ∙ ap (λ (k : ℕ). k ∷ r.served ∷ length r.present ∷ []) up;
          homes = r.homes;
          served_small = r.served_small;
          present_small = r.present_small;
          queue = queue_draw r.served r.out s.views r.queue id m.0 w at none_yet (omega arith) (ap (λ (k : ℕ). Some k) next);
          place = place_set s r id m.0 at w refl;
          each = each_set (λ j u. FitsSeat journal pass_of fixed r.served r.present r.home start u) s.views id w
              (let old = r.each id m.0 at in record { seated = λ k e. live; lent = λ h. absurd (none_some r.served (sym none_yet ∙ (old.lent h).ticket)); known = old.known; same = old.same }) (λ j u other e. r.each j u e);
          roll = roll_same r.made passes s.views r.roll id m.0 w at (λ n. refl) refl refl;
          entered = r.entered;
        },
        refl,
      )

  pub look_keeps : (slots id t : ℕ) (m : Me (Option T) (View E F)) → m.0.ticket ≡ Some t → m.0.turn ≡ false
      → Allows (KeepsJournal journal pass_of fixed start passes) slots id m 1 (λ n. n) (LooksForTurn journal pass_of fixed (step slots 1 0 0 none) m)
  look_keeps slots id t m drawn no_turn s r deep at small =
      let n : ℕ = get_or s.words 1 0 in let found : n ≡ r.served = ap (λ (ws : List ℕ). get_or ws 1 0) r.words in let old = r.each id m.0 at in
      dite (ℕ_discrete n t)
      (λ (e : n ≡ t). let mine : m.0.ticket ≡ Some r.served = drawn ∙ ap (λ (k : ℕ). Some k) (sym e ∙ found) in
      let home : IsHome journal pass_of fixed r.home r.present start = ⊎_elim (λ (h : IsHome journal pass_of fixed r.home r.present start). h)
      (λ (l : IsLent r.home s.views). let same : l.seat ≡ id = only_turn s r id m.0 at mine l.seat l.view l.at l.turn in
      absurd (not_both (sym l.turn ∙ (ap (λ (x : View E F). x.turn) (at_one s.views l.seat id l.view m.0 l.at at same) ∙ no_turn)))) r.place in
      let x : T = home.value in let w : View E F = with_turn (journal x) m.0 in (
        w,
        takes 0 (Some x),
        ap (λ (hs : List (maybe.Option (Option T))). get_elem? hs 0) r.homes ∙ ap some home.there,
        record {
          served = r.served;
          out = r.out;
          made = r.made;
          present = r.present;
          home = none;
          words = ap (λ (ws : List ℕ). set ws 1 (get_or ws 1 0)) r.words;
          homes = ap (λ (hs : List (maybe.Option (Option T))). set hs 0 none) r.homes;
          served_small = r.served_small;
          present_small = r.present_small;
          queue = queue_same r.served r.out s.views r.queue id m.0 w at refl;
          place = inr record { out = refl; seat = id; view = w; at = set_here s.views id w (at_below s.views id m.0 at); turn = refl };
          each = each_set (λ j u. FitsSeat journal pass_of fixed r.served r.present none start u) s.views id w
              record { seated = old.seated; lent = λ h. record { ticket = mine; out = refl; found = home.whole }; known = old.known; same = old.same }
              (λ j u other f. let o = r.each j u f in record { seated = o.seated; lent = λ h. record { ticket = (o.lent h).ticket; out = refl; found = (o.lent h).found }; known = o.known; same = o.same });
          roll = roll_same r.made passes s.views r.roll id m.0 w at (λ k. refl) refl refl;
          entered = r.entered;
        },
        record {
          served = λ t' is e'. record {
            value = x;
            taken = refl;
            suits = record {
              known = λ c h. subst (λ (p : List E). IsTrueOf pass_of p c) (sym home.whole) (old.known c h);
              same = λ f g. home.same ∙ Some_injective _ _ (sym (old.same (old.seated t drawn)) ∙ g);
            };
          };
          waits = λ t' is ne. absurd (ne (e ∙ Some_injective _ _ (sym drawn ∙ is)));
        },
      ))
      (λ ne. (
        m.0,
        keeps,
        tt,
        unmoved s r id m.0 at 1,
        record {
          served = λ t' is e'. absurd (ne (e' ∙ Some_injective _ _ (sym is ∙ drawn)));
          waits = λ t' is _. refl;
        },
      ))

  -- a number of a claim is one that was made, and is no other claim's
  module _ (s : State (Option T) (View E F)) (r : KeepsJournal journal pass_of fixed start passes s) (id : ℕ) (v : View E F) (at : get_elem? s.views id ≡ some v) (c : Claim E) (claims : Has c v.claims) where
    number_made : c.pass < r.made
    number_made = dite (dec_lt c.pass r.made) (λ lt. lt) (λ no. let z = r.roll.never c.pass (omega arith) in let a = total_at (λ (u : View E F). claim_count c.pass u.claims) s.views id v at in
        let b = claim_count_has c v.claims claims in absurd (omega arith))

    number_apart : (j : ℕ) (u : View E F) → j ≢ id → get_elem? s.views j ≡ some u → (d : Claim E) → Has d u.claims → d.pass ≢ c.pass
    number_apart j u other e d has same = let z = r.roll.once c.pass number_made in let a = total_two (λ (x : View E F). claim_count c.pass x.claims) s.views j id u v e at other in
        let b = claim_count_has c v.claims claims in let k : 0 < claim_count c.pass u.claims = subst (λ (n : ℕ). 0 < claim_count n u.claims) same (claim_count_has d u.claims has) in absurd (omega arith)

  pub enter_keeps : (slots id k : ℕ) (m : Me (Option T) (View E F)) (y : T) (added : List E) (c : Claim E) → m.0.turn ≡ true → m.0.claims ≡ c ∷ [] → m.1 ≡ (0, Some y) ∷ []
      → journal y ≡ m.0.found ++ added → length (journal y) < 2 ^ 64 → length added ≡ k → All (λ e. pass_of e ≡ c.pass) added
      → Allows (KeepsJournal journal pass_of fixed start passes) slots id m 2 (λ n. (n + k) % 2 ^ 64) (EntersJournal journal (step slots 2 k 0 none) m)
  enter_keeps slots id k m y added c turn one_claim carried grows fits counted all_numbers s r deep at small =
      let numbers : (e : E) → Has e added → pass_of e ≡ c.pass = All-Has (λ e. pass_of e ≡ c.pass) added all_numbers in
      let v : View E F = m.0 in let old = r.each id v at in let mine = old.lent turn in let w : View E F = with_journal (journal y) v in
      let n : ℕ = get_or s.words 2 0 in let found : n ≡ length r.present = ap (λ (ws : List ℕ). get_or ws 2 0) r.words in
      let longer : journal y ≡ r.present ++ added = grows ∙ ap (λ (l : List E). l ++ added) mine.found in
      let count : length (journal y) ≡ length r.present + k = ap length longer ∙ (length-append r.present added ∙ ap (λ (z : ℕ). length r.present + z) counted) in
      let up : (n + k) % 2 ^ 64 ≡ length (journal y) = ap (λ (z : ℕ). (z + k) % 2 ^ 64) found ∙ (ap (λ (z : ℕ). z % 2 ^ 64) (sym count) ∙ mod-eq_of_lt fits) in
      let claims : w.claims ≡ claim_after v.found (journal y) c ∷ [] = ap (claims_after v.found (journal y)) one_claim in
      let has : Has c v.claims = subst (λ (cs : List (Claim E)). Has c cs) (sym one_claim) (inl refl) in let knew = old.known c (Contains-from_Has v.claims c has) in
      let own : c.own ++ drop (length v.found) (journal y) ≡ entries_of pass_of c.pass (journal y) =
      (λ i. knew.own i ++ (ap (drop (length v.found)) grows ∙ drop_added v.found added) i)
      ∙ ((λ i. entries_of pass_of c.pass r.present ++ sym (entries_all pass_of c.pass added numbers) i)
      ∙ (sym (filter-append (λ e. pass_of e == c.pass) r.present added) ∙ ap (entries_of pass_of c.pass) (sym longer))) in (
        w,
        keeps,
        tt,
        record {
          served = r.served;
          out = r.out;
          made = r.made;
          present = journal y;
          home = r.home;
          words = ap (λ (ws : List ℕ). set ws 2 ((n + k) % 2 ^ 64)) r.words ∙ ap (λ (z : ℕ). (r.served + r.out) % 2 ^ 64 ∷ r.served ∷ z ∷ []) up;
          homes = r.homes;
          served_small = r.served_small;
          present_small = fits;
          queue = queue_same r.served r.out s.views r.queue id v w at refl;
          place = inr record { out = mine.out; seat = id; view = w; at = set_here s.views id w (at_below s.views id v at); turn = turn };
          each = each_set (λ j u. FitsSeat journal pass_of fixed r.served (journal y) r.home start u) s.views id w record {
            seated = λ t e. let a = length-after v.found (journal y) v.claims in let b = old.seated t e in omega arith;
            lent = λ h. record { ticket = mine.ticket; out = mine.out; found = refl };
            known = λ d h. ⊎_elim (λ (e : claim_after v.found (journal y) c ≡ d). subst (λ (z : Claim E). IsTrueOf pass_of (journal y) z) e record { begins = ([], append-nil (journal y)); own = own })
                (λ (no : ⊥). absurd no) (subst (λ (cs : List (Claim E)). Has d cs) claims (Has-from_Contains w.claims d h));
            same = λ h. let a = length-after v.found (journal y) v.claims in old.same (omega arith);
          } (λ j u other e. let o = r.each j u e in record {
            seated = o.seated;
            lent = λ h. absurd (other (only_turn s r id v at mine.ticket j u e h));
            known = λ d h. let o_knew = o.known d h in record {
              begins = (o_knew.begins.0 ++ added, sym (append_assoc d.seen o_knew.begins.0 added) ∙ (ap (λ (l : List E). l ++ added) o_knew.begins.1 ∙ sym longer));
              own = let apart = number_apart s r id v at c has j u other e d (Has-from_Contains u.claims d h) in
                  o_knew.own ∙ (sym (append-nil (entries_of pass_of d.pass r.present)) ∙ ((λ i. entries_of pass_of d.pass r.present ++ sym (entries_none pass_of d.pass added (λ a b same. apart (sym same ∙ numbers a b))) i)
                  ∙ (sym (filter-append (λ a. pass_of a == d.pass) r.present added) ∙ ap (entries_of pass_of d.pass) (sym longer))));
            };
            same = o.same;
          });
          roll = roll_same r.made passes s.views r.roll id v w at (λ z. claim_count-after v.found (journal y) z v.claims) (length-after v.found (journal y) v.claims) refl;
          entered = All-from_Has (λ e. pass_of e < r.made) (journal y) (λ e h. ⊎_elim (λ (a : Has e r.present). All-Has (λ z. pass_of z < r.made) r.present r.entered e a)
              (λ (b : Has e added). let z = numbers e b in let lt = number_made s r id v at c has in omega arith)
              (has_append e r.present added (subst (λ (l : List E). Has e l) longer h)));
        },
        λ y' is. ap (λ (x : T). (with_journal (journal x) v, m.1)) (slot_value y y' (sym carried ∙ is)),
      )

  pub pass_on_keeps : (slots id : ℕ) (m : Me (Option T) (View E F)) (y : T) → m.0.turn ≡ true → 0 < length m.0.claims → m.1 ≡ (0, Some y) ∷ [] → journal y ≡ m.0.found → Some (fixed y) ≡ m.0.fixed
      → Allows (KeepsJournal journal pass_of fixed start passes) slots id m 1 (λ n. (n + 1) % 2 ^ 64) (PassesOn (step slots 1 1 0 none) m)
  pass_on_keeps slots id m y turn live carried whole same s r deep at small =
      let v : View E F = m.0 in let old = r.each id v at in let mine = old.lent turn in let w : View E F = without_turn v in
      let n : ℕ = get_or s.words 1 0 in let found : n ≡ r.served = ap (λ (ws : List ℕ). get_or ws 1 0) r.words in
      let inside = r.queue.inside id r.served v at mine.ticket in let some_out : 0 < r.out = omega (arith, inside.near) in
      let up : (n + 1) % 2 ^ 64 ≡ (r.served + 1) % 2 ^ 64 = ap (λ (z : ℕ). (z + 1) % 2 ^ 64) found in
      let kept : fixed y ≡ start = Some_injective _ _ (same ∙ old.same live) in (
        w,
        gives,
        tt,
        record {
          served = (r.served + 1) % 2 ^ 64;
          out = r.out - 1;
          made = r.made;
          present = r.present;
          home = some (Some y);
          words = ap (λ (ws : List ℕ). set ws 1 ((n + 1) % 2 ^ 64)) r.words ∙ (λ i. mod_step r.served r.out some_out i ∷ up i ∷ length r.present ∷ []);
          homes = (λ i. Rattle.atomic_table.specs.Table.put_back (r.homes i) (carried i));
          served_small = mod-lt (r.served + 1) (omega arith);
          present_small = r.present_small;
          queue = queue_pass r.served r.out s.views r.queue id v w at r.served_small mine.ticket refl;
          place = inl record { value = y; there = refl; whole = whole ∙ mine.found; same = kept };
          each = each_set (λ j u. FitsSeat journal pass_of fixed ((r.served + 1) % 2 ^ 64) r.present (some (Some y)) start u) s.views id w
              record { seated = λ t e. absurd (none_some t e); lent = λ h. absurd (not_both (sym h)); known = old.known; same = old.same }
              (λ j u other e. let o = r.each j u e in record { seated = o.seated; lent = λ h. absurd (other (only_turn s r id v at mine.ticket j u e h)); known = o.known; same = o.same });
          roll = roll_same r.made passes s.views r.roll id v w at (λ z. refl) refl refl;
          entered = r.entered;
        },
        ap (λ (cs : List (ℕ × Option T)). (w, Rattle.atomic_table.specs.Table.rest cs)) carried,
      )

  pub split_keeps : (id : ℕ) (v : View E F) → id ≡ 0 → 0 < length v.claims → v.made < passes → Splits (KeepsJournal journal pass_of fixed start passes) id v (with_next_number v) (new_view v)
  split_keeps id v first live room s r at =
      let at0 : get_elem? s.views 0 ≡ some v = ap (get_elem? s.views) (sym first) ∙ at in let now : v.made ≡ r.made = r.roll.first v at0 live in let old = r.each id v at in
      let next : State (Option T) (View E F) = record { words = s.words; homes = s.homes; views = set s.views 0 (with_next_number v) ++ new_view v ∷ [] } in
      let kept : KeepsJournal journal pass_of fixed start passes next = record {
        served = r.served;
        out = r.out;
        made = r.made + 1;
        present = r.present;
        home = r.home;
        words = r.words;
        homes = r.homes;
        served_small = r.served_small;
        present_small = r.present_small;
        queue = queue_more r.served r.out (set s.views 0 (with_next_number v)) (new_view v) refl (queue_same r.served r.out s.views r.queue 0 v (with_next_number v) at0 refl);
        place = ⊎_elim (λ (h : IsHome journal pass_of fixed r.home r.present start). inl h)
            (λ (l : IsLent r.home s.views). inr (let k = lent_set r.home s.views 0 v (with_next_number v) at0 refl l in record {
              out = k.out;
              seat = k.seat;
              view = k.view;
              at = at_longer (set s.views 0 (with_next_number v)) (new_view v ∷ []) k.seat k.view k.at;
              turn = k.turn;
            })) r.place;
        each = λ j u e. ⊎_elim (λ (f : get_elem? (set s.views 0 (with_next_number v)) j ≡ some u). each_set (λ i x. FitsSeat journal pass_of fixed r.served r.present r.home start x) s.views 0 (with_next_number v)
            record { seated = old.seated; lent = λ h. let t = old.lent h in record { ticket = t.ticket; out = t.out; found = t.found }; known = old.known; same = old.same } (λ i x other f. r.each i x f) j u f)
            (λ (is : new_view v ≡ u). subst (λ (x : View E F). FitsSeat journal pass_of fixed r.served r.present r.home start x) is record {
              seated = λ t h. absurd (none_some t h);
              lent = λ h. absurd (not_both (sym h));
              known = λ c h. ⊎_elim (λ (e : new_claim v.made ≡ c). subst (λ (z : Claim E). IsTrueOf pass_of r.present z) e record {
                begins = (r.present, refl);
                own = sym (entries_none pass_of v.made r.present (λ a b same. let lt = All-Has (λ z. pass_of z < r.made) r.present r.entered a b in absurd (omega arith)));
              }) (λ (no : ⊥). absurd no) (Has-from_Contains (new_claim v.made ∷ []) c h);
              same = λ h. old.same live;
            }) (at_snoc (set s.views 0 (with_next_number v)) (new_view v) u j e);
        roll = roll_split r.made passes s.views r.roll v at0 live room;
        entered = All-from_Has (λ e. pass_of e < r.made + 1) r.present (λ e h. let lt = All-Has (λ z. pass_of z < r.made) r.present r.entered e h in omega arith);
      } in
      subst (λ (i : ℕ). KeepsJournal journal pass_of fixed start passes record { words = s.words; homes = s.homes; views = set s.views i (with_next_number v) ++ new_view v ∷ [] }) (sym first) kept

  pub join_keeps : (id other : ℕ) (v w : View E F) → 0 < length v.claims → w.ticket ≡ None → w.turn ≡ false → Joins (KeepsJournal journal pass_of fixed start passes) id v other w (with_claims v w) spent_view
  join_keeps id other v w live no_ticket no_turn s r at apart at_w =
      let b : View E F = with_claims v w in let old = r.each id v at in let first = set s.views id b in
      let own_at : get_elem? s.views other ≡ some w = sym (set_else s.views id other b apart) ∙ at_w in let old_w = r.each other w own_at in record {
        served = r.served;
        out = r.out;
        made = r.made;
        present = r.present;
        home = r.home;
        words = r.words;
        homes = r.homes;
        served_small = r.served_small;
        present_small = r.present_small;
        queue = queue_same r.served r.out first (queue_same r.served r.out s.views r.queue id v b at refl) other w spent_view at_w (sym no_ticket);
        place = ⊎_elim (λ (h : IsHome journal pass_of fixed r.home r.present start). inl h) (λ (l : IsLent r.home s.views). inr (lent_set r.home first other w spent_view at_w (sym no_turn) (lent_set r.home s.views id v b at refl l))) r.place;
        each = each_set (λ i x. FitsSeat journal pass_of fixed r.served r.present r.home start x) first other spent_view
            record { seated = λ t e. absurd (none_some t e); lent = λ h. absurd (not_both (sym h)); known = λ c h. absurd (Has-from_Contains [] c h); same = λ h. absurd (omega arith) }
            (λ j u ne e. each_set (λ i x. FitsSeat journal pass_of fixed r.served r.present r.home start x) s.views id b record {
              seated = λ t h. let k = old.seated t h in let z = length-append w.claims v.claims in omega arith;
              lent = λ h. let t = old.lent h in record { ticket = t.ticket; out = t.out; found = t.found };
              known = λ c h. ⊎_elim (λ (x : Has c w.claims). old_w.known c (Contains-from_Has w.claims c x)) (λ (x : Has c v.claims). old.known c (Contains-from_Has v.claims c x)) (has_append c w.claims v.claims (Has-from_Contains (w.claims ++ v.claims) c h));
              same = λ h. old.same live;
            } (λ i x other' f. r.each i x f) j u e);
        roll = roll_join r.made passes s.views r.roll id other v w at apart at_w live;
        entered = r.entered;
      }

  pub opening_kept : (x : T) → journal x ≡ [] → fixed x ≡ start → 1 ≤ passes → passes ≤ 64 → KeepsJournal journal pass_of fixed start passes (opening (0 ∷ 0 ∷ 0 ∷ []) (Some x ∷ []) (first_view start))
  opening_kept x none_yet same some_pass few = record {
    served = 0;
    out = 0;
    made = 1;
    present = [];
    home = some (Some x);
    words = refl;
    homes = refl;
    served_small = lit< tt;
    present_small = lit< tt;
    queue = record {
      counted = refl;
      inside = λ i t u e h. absurd (none_some t (ap (λ (z : View E F). z.ticket) (at_only (first_view start) i u e) ∙ h));
      apart = λ i j t u v e f h k. absurd (none_some t (ap (λ (z : View E F). z.ticket) (at_only (first_view start) i u e) ∙ h));
    };
    place = inl record { value = x; there = refl; whole = none_yet; same = same };
    each = λ j u e. subst (λ (z : View E F). FitsSeat journal pass_of fixed 0 [] (some (Some x)) start z) (at_only (first_view start) j u e) record {
      seated = λ t h. absurd (none_some t h);
      lent = λ h. absurd (not_both (sym h));
      known = λ c h. ⊎_elim (λ (k : new_claim 0 ≡ c). subst (λ (z : Claim E). IsTrueOf pass_of [] z) k record { begins = ([], refl); own = refl }) (λ (no : ⊥). absurd no) (Has-from_Contains (new_claim 0 ∷ []) c h);
      same = λ h. refl;
    };
    roll = record {
      once = λ n h. let k = one_same n 0 (omega arith) in omega arith;
      never = λ n h. let k = one_other n 0 (λ z. absurd (omega arith)) in omega arith;
      all = refl;
      within = some_pass;
      few = few;
      first = λ u e h. sym (ap (λ (z : View E F). z.made) (at_only (first_view start) 0 u e));
    };
    entered = All-from_Has (λ e. pass_of e < 1) [] (λ e h. absurd h);
  }

  -- what the seat with this view knows of the value x at home, once it took over every pass
  pub record KnowsAll (v : View E F) (slots : List (Option T)) (x : T) : Type 0 where
    pub there : get_elem? slots 0 ≡ some (Some x)
    pub same : fixed x ≡ start
    pub known : (c : Claim E) → Contains v.claims c → IsTrueOf pass_of (journal x) c
    pub entries : All (λ e. 0 < claim_count (pass_of e) v.claims) (journal x)

  -- The seat that took over every pass, with no turn, finds the value at home: it knows the journal
  -- of each pass, and every entry is of one of them.
  pub closing_known : (id : ℕ) (v : View E F) (words : List ℕ) (slots : List (Option T)) → length v.claims ≡ passes → v.turn ≡ false
      → Final (Seen (KeepsJournal journal pass_of fixed start passes) id v) words slots → (x : T) × KnowsAll v slots x
  closing_known id v words slots all no_turn final =
      let s : State (Option T) (View E F) = final.0 in let r : KeepsJournal journal pass_of fixed start passes s = final.1.0 in let at : get_elem? s.views id ≡ some v = final.1.1 in let old = r.each id v at in
      let sum = r.roll.all in let few = r.roll.within in
      let alone : (j : ℕ) (u : View E F) → j ≢ id → get_elem? s.views j ≡ some u → length u.claims ≡ 0 = λ j u other e. let two = total_two (λ (z : View E F). length z.claims) s.views j id u v e at other in omega arith in
      let home : IsHome journal pass_of fixed r.home r.present start = ⊎_elim (λ (h : IsHome journal pass_of fixed r.home r.present start). h)
      (λ (l : IsLent r.home s.views). absurd (dite (ℕ_discrete l.seat id)
      (λ same. not_both (sym l.turn ∙ (ap (λ (x : View E F). x.turn) (at_one s.views l.seat id l.view v l.at at same) ∙ no_turn)))
      (λ other. let u = r.each l.seat l.view l.at in let some_claim = u.seated r.served (u.lent l.turn).ticket in let no_claim = alone l.seat l.view other l.at in absurd (omega arith)))) r.place in
      let x : T = home.value in let mine = total_at (λ (z : View E F). length z.claims) s.views id v at in
      let rest_empty : total (λ (z : View E F). length z.claims) (set s.views id spent_view) ≡ 0 = let h = total_set (λ (z : View E F). length z.claims) s.views id v spent_view at in omega arith in (
        x,
        record {
          there = final.4 0 (Some x) (ap (λ (hs : List (maybe.Option (Option T))). get_elem? hs 0) r.homes ∙ ap some home.there);
          same = home.same;
          known = λ c h. subst (λ (p : List E). IsTrueOf pass_of p c) (sym home.whole) (old.known c h);
          entries = All-from_Has (λ e. 0 < claim_count (pass_of e) v.claims) (journal x) (λ e h. let n : ℕ = pass_of e in let there : Has e r.present = subst (λ (p : List E). Has e p) home.whole h in
              let once = r.roll.once n (All-Has (λ z. pass_of z < r.made) r.present r.entered e there) in
              let rest_none = total_within (λ (z : View E F). claim_count n z.claims) (λ (z : View E F). length z.claims) (set s.views id spent_view) (λ i z f. claim_count_within n z.claims) in
              let moved = total_set (λ (z : View E F). claim_count n z.claims) s.views id v spent_view at in omega arith);
        },
      )
