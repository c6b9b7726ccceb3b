-- Moves and attaching keep the clauses watched.
use Rattle.std.proofs.Common.{◌≡◌, ◌≢◌, ℕ, ◌+◌, ◌-◌, ◌*◌, ◌/◌, ◌%◌, ◌<◌, ◌≤◌, ◌||◌, Bool, true, false, List, [], ◌∷◌, ◌++◌, length, replicate, set, get_or, ℤ, pos, refl, sym, ap, subst, ◌∙◌, inl, inr, arith, get_or-set_other, length-set, length-append}
use Rattle.std.proofs.lemmas.Bool.{cases_eq, cases_lt, eq-eqb, ne_eqb}
use Rattle.std.proofs.lemmas.List.{length-map, length-replicate, get_or-replicate, get_or_append_left, get_or-append_right, get_or_push}
use Rattle.std.proofs.lemmas.Grind.{get_or-set_at}
use Rattle.std.proofs.Math.ListN.{get_or-map, get_or-eq_default}
use Rattle.std.specs.List.{All}
use Rattle.sat_terms.specs.CubeOrder.{key}
use Rattle.sat_terms.specs.Cubes.{has_literal}
use Rattle.clause_arena.specs.Once.{HasEachOnce}
use Rattle.watch_lists.specs.Places.{has, delete}
use Rattle.watch_lists.specs.Views.{ListsView, list_of, lit_of, Stands, IsFree, IsPlaced, taken, pushed, moved, with_places, watched, partner}
use Rattle.watch_lists.specs.Watching.{IsWatched, IsWatching, attached}
use Rattle.watch_lists.proofs.Places.{delete_has}
use Rattle.watch_lists.proofs.OneList.{set_at}
use Rattle.watch_lists.proofs.Seen.{watched_lits}
use Rattle.std.specs.Ordering.{int_eq}
use Rattle.std.proofs.lemmas.Bool.Decides.{Decides-int_eq}

pub nowhere : (v : ListsView) (n : ℕ) → IsFree v n → Stands v n → ⊥
nowhere v n free stands = let bad : true ≡ false = sym stands ∙ free (key (lit_of v n)) in grind arith

has_one : (x : ℤ) (c : List ℤ) → has_literal (x ∷ c) x ≡ true
has_one x c = ap (λ b. b || has_literal c x) ((Decides-int_eq x x).1 refl)

or_true : (b : Bool) → (b || true) ≡ true
or_true true = refl
or_true false = refl

has_two : (x y : ℤ) (c : List ℤ) → has_literal (x ∷ y ∷ c) y ≡ true
has_two x y c = ap (λ b. int_eq y x || b) (has_one y c) ∙ or_true (int_eq y x)

-- what a view says of one place
pub record Keeps (v w : ListsView) (m : ℕ) : Type 0 where
  pub lit : lit_of w m ≡ lit_of v m
  pub lists : (k : ℕ) → has m (list_of w k) ≡ has m (list_of v k)

pub keeps_trans : (u v w : ListsView) (m : ℕ) → Keeps u v m → Keeps v w m → Keeps u w m
keeps_trans u v w m a b = record { lit = b.lit ∙ a.lit; lists = λ k. b.lists k ∙ a.lists k }

pub pushed_keeps : (v : ListsView) (n m : ℕ) (l : ℤ) → m ≢ n → Keeps v (pushed v n l) m
pushed_keeps v n m l other = record {
  lit = get_or-set_other v.lits n m l (pos 0) other;
  lists = λ k. elim (cases_lt k (length v.lists)) [
    | inl inside ↦
        ap (λ xs. has m xs) (set_at v.lists (key l) k (n ∷ list_of v (key l)) [] inside)
        ∙ elim (cases_eq k (key l)) [
          | inl here ↦ rw (eq-eqb k (key l) here) (rw (ne_eqb m n other) (ap (λ j. has m (list_of v j)) (sym here)))
          | inr there ↦ rw (ne_eqb k (key l) there) refl
        ]
    | inr past ↦
        ap (λ xs. has m xs) (get_or-eq_default (set v.lists (key l) (n ∷ list_of v (key l))) [] (omega (arith, length-set v.lists (key l) (n ∷ list_of v (key l))))
        ∙ sym (get_or-eq_default v.lists [] past))
  ];
}

taken_keeps : (v : ListsView) (n m : ℕ) → m ≢ n → Keeps v (taken v n) m
taken_keeps v n m other = record {
  lit = refl;
  lists = λ k. ap (λ xs. has m xs) (get_or-map (delete n) v.lists k []) ∙ delete_has n m (list_of v k) other;
}

pub moved_keeps : (v : ListsView) (n m : ℕ) (l : ℤ) → m ≢ n → Keeps v (moved v n l) m
moved_keeps v n m l other = keeps_trans v (taken v n) (moved v n l) m (taken_keeps v n m other) (pushed_keeps (taken v n) n m l other)

pub stands_kept : (v w : ListsView) (m : ℕ) → Keeps v w m → Stands v m → Stands w m
stands_kept v w m k h = ap (λ l. has m (list_of w (key l))) k.lit ∙ k.lists (key (lit_of v m)) ∙ h

watched_kept : (v w : ListsView) (p : ℕ) (c : List ℤ) → Keeps v w p → Keeps v w (p + 1) → IsWatched v p c → IsWatched w p c
watched_kept v w p [] a b h = (λ k. a.lists k ∙ h.0 k, λ k. b.lists k ∙ h.1 k)
watched_kept v w p (x ∷ []) a b h = (λ k. a.lists k ∙ h.0 k, λ k. b.lists k ∙ h.1 k)
watched_kept v w p (x ∷ y ∷ c) a b h = record {
  first = stands_kept v w p a h.first;
  second = stands_kept v w (p + 1) b h.second;
  has_first = ap (has_literal (x ∷ y ∷ c)) a.lit ∙ h.has_first;
  has_second = ap (has_literal (x ∷ y ∷ c)) b.lit ∙ h.has_second;
  differ = λ e. h.differ (sym a.lit ∙ e ∙ b.lit);
}

-- the place that was put in
pub lit_here : (v : ListsView) (n : ℕ) (l : ℤ) → n < length v.lits → lit_of (pushed v n l) n ≡ l
lit_here v n l inside = get_or-set_at v.lits n n l (pos 0) refl inside

stands_here : (v : ListsView) (n : ℕ) (l : ℤ) → n < length v.lits → key l < length v.lists → Stands (pushed v n l) n
stands_here v n l inside list =
    ap (λ m. has n (list_of (pushed v n l) (key m))) (lit_here v n l inside)
    ∙ ap (λ xs. has n xs) (get_or-set_at v.lists (key l) (key l) (n ∷ list_of v (key l)) [] refl list)
    ∙ ap (λ b. b || has n (list_of v (key l))) (eq-eqb n n refl)

pub partner_of_first : (id : ℕ) → partner (2 * id) ≡ 2 * id + 1
partner_of_first id = let even : (2 * id) % 2 ≡ 0 = omega arith in rw (eq-eqb ((2 * id) % 2) 0 even) refl

pub partner_of_second : (id : ℕ) → partner (2 * id + 1) ≡ 2 * id
partner_of_second id =
    let odd : (2 * id + 1) % 2 ≢ 0 = omega arith in
    rw (ne_eqb ((2 * id + 1) % 2) 0 odd) (omega arith)

-- the first of a clause's two places moves, or the second
first_moved : (v : ListsView) (p : ℕ) (c : List ℤ) (l : ℤ) → p < length v.lits → key l < length v.lists →
    Stands v p → IsWatched v p c → has_literal c l ≡ true → l ≢ lit_of v (p + 1) → IsWatched (moved v p l) p c
first_moved v p [] l inside list stands h among other = absurd (nowhere v p (h.0) stands)
first_moved v p (x ∷ []) l inside list stands h among other = absurd (nowhere v p (h.0) stands)
first_moved v p (x ∷ y ∷ c) l inside list stands h among other =
    let next : p + 1 ≢ p = omega arith in
    let k = moved_keeps v p (p + 1) l next in
    let here = lit_here (taken v p) p l inside in
    record {
      first = stands_here (taken v p) p l inside (omega (arith, length-map v.lists (delete p)));
      second = stands_kept v (moved v p l) (p + 1) k h.second;
      has_first = ap (has_literal (x ∷ y ∷ c)) here ∙ among;
      has_second = ap (has_literal (x ∷ y ∷ c)) k.lit ∙ h.has_second;
      differ = λ e. other (sym here ∙ e ∙ k.lit);
    }

second_moved : (v : ListsView) (p : ℕ) (c : List ℤ) (l : ℤ) → p + 1 < length v.lits → key l < length v.lists →
    Stands v (p + 1) → IsWatched v p c → has_literal c l ≡ true → l ≢ lit_of v p → IsWatched (moved v (p + 1) l) p c
second_moved v p [] l inside list stands h among other = absurd (nowhere v (p + 1) (h.1) stands)
second_moved v p (x ∷ []) l inside list stands h among other = absurd (nowhere v (p + 1) (h.1) stands)
second_moved v p (x ∷ y ∷ c) l inside list stands h among other =
    let next : p ≢ p + 1 = omega arith in
    let k = moved_keeps v (p + 1) p l next in
    let here = lit_here (taken v (p + 1)) (p + 1) l inside in
    record {
      first = stands_kept v (moved v (p + 1) l) p k h.first;
      second = stands_here (taken v (p + 1)) (p + 1) l inside (omega (arith, length-map v.lists (delete (p + 1))));
      has_first = ap (has_literal (x ∷ y ∷ c)) k.lit ∙ h.has_first;
      has_second = ap (has_literal (x ∷ y ∷ c)) here ∙ among;
      differ = λ e. other (sym here ∙ sym e ∙ k.lit);
    }

clause_moved : (v : ListsView) (clauses : List (List ℤ)) (n : ℕ) (l : ℤ) → IsWatching v clauses → Stands v n →
    key l < length v.lists → has_literal (get_or clauses (n / 2) []) l ≡ true → l ≢ lit_of v (partner n) →
    (id : ℕ) → id < length clauses → IsWatched (moved v n l) (2 * id) (get_or clauses id [])
clause_moved v clauses n l w stands list among other id below =
    let inside : n < length v.lits = w.placed.inside (key (lit_of v n)) n stands in
    let h = w.watched id below in
    elim (cases_eq n (2 * id)) [
      | inl first ↦
          let half : n / 2 ≡ id = omega arith in
          subst (λ m. IsWatched (moved v m l) (2 * id) (get_or clauses id [])) (sym first)
          (first_moved v (2 * id) (get_or clauses id []) l (omega (arith, inside, first)) list (subst (Stands v) first stands) h
          (subst (λ i. has_literal (get_or clauses i []) l ≡ true) half among)
          (λ e. other (e ∙ ap (lit_of v) (sym (ap partner first ∙ partner_of_first id)))))
      | inr away ↦ elim (cases_eq n (2 * id + 1)) [
        | inl second ↦
            let half : n / 2 ≡ id = omega arith in
            subst (λ m. IsWatched (moved v m l) (2 * id) (get_or clauses id [])) (sym second)
            (second_moved v (2 * id) (get_or clauses id []) l (omega (arith, inside, second)) list (subst (Stands v) second stands) h
            (subst (λ i. has_literal (get_or clauses i []) l ≡ true) half among)
            (λ e. other (e ∙ ap (lit_of v) (sym (ap partner second ∙ partner_of_second id)))))
        | inr apart ↦
            watched_kept v (moved v n l) (2 * id) (get_or clauses id [])
            (moved_keeps v n (2 * id) l (λ e. away (sym e))) (moved_keeps v n (2 * id + 1) l (λ e. apart (sym e))) h
      ]
    ]

pub moves_keep : (v : ListsView) (clauses : List (List ℤ)) (n : ℕ) (l : ℤ) → IsWatching v clauses → Stands v n →
    key l < length v.lists → has_literal (get_or clauses (n / 2) []) l ≡ true → l ≢ lit_of v (partner n) →
    IsPlaced (moved v n l) → IsWatching (moved v n l) clauses
moves_keep v clauses n l w stands list among other placed = record {
  placed = placed;
  places = subst (λ m. 2 * length clauses ≤ m) (sym (length-set v.lits n l)) w.places;
  watched = clause_moved v clauses n l w stands list among other;
  idle = λ m past k. (moved_keeps v n m l (λ same. nowhere v n (w.idle n (subst (λ j. 2 * length clauses ≤ j) same past)) stands)).lists k ∙ w.idle m past k;
}

-- one clause more
pub wider_keeps : (v : ListsView) (places m : ℕ) → Keeps v (with_places places v) m
wider_keeps v places m = record {
  lit = elim (cases_lt m (length v.lits)) [
    | inl inside ↦ get_or_append_left v.lits (replicate (places - length v.lits) (pos 0)) (pos 0) m inside
    | inr past ↦ get_or-append_right v.lits (replicate (places - length v.lits) (pos 0)) (length v.lits) m (pos 0) refl past
        ∙ zeros (places - length v.lits) (m - length v.lits) ∙ sym (get_or-eq_default v.lits (pos 0) past)
  ];
  lists = λ k. refl;
}
  where
    zeros : (k n : ℕ) → get_or (replicate k (pos 0)) n (pos 0) ≡ pos 0
    zeros k n = elim (cases_lt n k) [
      | inl inside ↦ get_or-replicate k n (pos 0) (pos 0) inside
      | inr past ↦ get_or-eq_default (replicate k (pos 0)) (pos 0) (omega (arith, length-replicate k (pos 0)))
    ]

pub wider_room : (v : ListsView) (places : ℕ) → (places ≤ length (with_places places v).lits) × (length v.lits ≤ length (with_places places v).lits)
wider_room v places =
    let long = length-append v.lits (replicate (places - length v.lits) (pos 0)) in
    let many = length-replicate (places - length v.lits) (pos 0) in
    (omega arith, omega arith)

pub watched_keeps : (v : ListsView) (p m : ℕ) (c : List ℤ) → m ≢ p → m ≢ p + 1 → Keeps v (watched v p c) m
watched_keeps v p m [] one two = record { lit = refl; lists = λ k. refl }
watched_keeps v p m (x ∷ []) one two = record { lit = refl; lists = λ k. refl }
watched_keeps v p m (x ∷ y ∷ c) one two =
    keeps_trans v (pushed v p x) (watched v p (x ∷ y ∷ c)) m (pushed_keeps v p m x one)
    (pushed_keeps (pushed v p x) (p + 1) m y two)

new_watched : (v : ListsView) (p : ℕ) (c : List ℤ) → p + 1 < length v.lits → IsFree v p → IsFree v (p + 1) →
    HasEachOnce c → All (λ l. key l < length v.lists) c → IsWatched (watched v p c) p c
new_watched v p [] room free free' once listed = (free, free')
new_watched v p (x ∷ []) room free free' once listed = (free, free')
new_watched v p (x ∷ y ∷ c) room free free' once listed =
    let mid = pushed v p x in
    let next : p ≢ p + 1 = omega arith in
    let k = pushed_keeps mid (p + 1) p y next in
    let key_x : key x < length v.lists = listed 0 (pos 0) (omega arith) in
    let key_y : key y < length v.lists = listed 1 (pos 0) (omega arith) in
    let first_in : p < length v.lits = omega arith in
    let second_in : p + 1 < length mid.lits = omega (arith, length-set v.lits p x) in
    let lit_x : lit_of (pushed mid (p + 1) y) p ≡ x = k.lit ∙ lit_here v p x first_in in
    let lit_y : lit_of (pushed mid (p + 1) y) (p + 1) ≡ y = lit_here mid (p + 1) y second_in in
    record {
      first = stands_kept mid (pushed mid (p + 1) y) p k (stands_here v p x first_in key_x);
      second = stands_here mid (p + 1) y second_in (omega (arith, key_y, length-set v.lists (key x) (p ∷ list_of v (key x))));
      has_first = ap (has_literal (x ∷ y ∷ c)) lit_x ∙ has_one x (y ∷ c);
      has_second = ap (has_literal (x ∷ y ∷ c)) lit_y ∙ has_two x y c;
      differ = λ e. once 0 1 (pos 0) (omega arith) (omega arith) (sym lit_x ∙ e ∙ lit_y);
    }

pub attaching_keeps : (v : ListsView) (clauses : List (List ℤ)) (c : List ℤ) → IsWatching v clauses → HasEachOnce c →
    All (λ l. key l < length v.lists) c → IsPlaced (attached (length clauses) c v) →
    IsWatching (attached (length clauses) c v) (clauses ++ c ∷ [])
attaching_keeps v clauses c w once listed placed =
    let n : ℕ = length clauses in
    let p : ℕ = 2 * n in
    let more = length-append clauses (c ∷ []) in
    let wide : ListsView = with_places (p + 2) v in
    let u : ListsView = watched wide p c in
    let room = wider_room v (p + 2) in
    let room_here = room.0 in
    let past : (m : ℕ) → m ≢ p → m ≢ p + 1 → Keeps v u m = λ m one two. keeps_trans v wide u m (wider_keeps v (p + 2) m) (watched_keeps wide p m c one two) in
    record {
      placed = placed;
      places = let same = watched_lits wide p c in omega arith;
      watched = λ id below. elim (cases_lt id n) [
        | inl old ↦
            subst (IsWatched u (2 * id)) (sym (get_or_append_left clauses (c ∷ []) [] id old))
            (watched_kept v u (2 * id) (get_or clauses id []) (past (2 * id) (omega arith) (omega arith)) (past (2 * id + 1) (omega arith) (omega arith)) (w.watched id old))
        | inr late ↦
            let last : id ≡ n = omega arith in
            subst (λ i. IsWatched u (2 * i) (get_or (clauses ++ c ∷ []) i [])) (sym last)
            (subst (IsWatched u p) (sym (get_or_push clauses c [] n refl))
            (new_watched wide p c (omega arith) (w.idle p (omega arith)) (w.idle (p + 1) (omega arith)) once listed))
      ];
      idle = λ m late k. (past m (omega arith) (omega arith)).lists k ∙ w.idle m (omega arith) k;
    }

-- the clauses below `upto` are watched, and the places from there on in no list
pub record IsUpto (v : ListsView) (clauses : List (List ℤ)) (upto : ℕ) : Type 0 where
  pub places : 2 * length clauses ≤ length v.lits
  pub watched : (id : ℕ) → id < upto → IsWatched v (2 * id) (get_or clauses id [])
  pub free : (n : ℕ) → 2 * upto ≤ n → IsFree v n

pub upto_next : (v w : ListsView) (clauses : List (List ℤ)) (id : ℕ) (c : List ℤ) → IsUpto v clauses id → id < length clauses →
    c ≡ get_or clauses id [] → HasEachOnce c → All (λ l. key l < length v.lists) c →
    w ≡ watched v (2 * id) c → IsUpto w clauses (id + 1)
upto_next v w clauses id c u below is once listed made =
    subst (λ x. IsUpto x clauses (id + 1)) (sym made) (record {
      places = subst (λ m. 2 * length clauses ≤ m) (sym (watched_lits v (2 * id) c)) u.places;
      watched = λ j h. elim (cases_eq j id) [
        | inl same ↦
            let places = u.places in
            subst (λ i. IsWatched (watched v (2 * id) c) (2 * i) (get_or clauses i [])) (sym same)
            (subst (IsWatched (watched v (2 * id) c) (2 * id)) is
            (new_watched v (2 * id) c (omega arith) (u.free (2 * id) (omega arith)) (u.free (2 * id + 1) (omega arith)) once listed))
        | inr other ↦
            let one : 2 * j ≢ 2 * id = omega arith in
            let one' : 2 * j ≢ 2 * id + 1 = omega arith in
            let two : 2 * j + 1 ≢ 2 * id = omega arith in
            let two' : 2 * j + 1 ≢ 2 * id + 1 = omega arith in
            watched_kept v (watched v (2 * id) c) (2 * j) (get_or clauses j [])
            (watched_keeps v (2 * id) (2 * j) c one one') (watched_keeps v (2 * id) (2 * j + 1) c two two') (u.watched j (omega arith))
      ];
      free = λ n h k.
          let one : n ≢ 2 * id = omega arith in
          let two : n ≢ 2 * id + 1 = omega arith in
          (watched_keeps v (2 * id) n c one two).lists k ∙ u.free n (omega arith) k;
    })

pub upto_all : (v : ListsView) (clauses : List (List ℤ)) → IsPlaced v → IsUpto v clauses (length clauses) → IsWatching v clauses
upto_all v clauses placed u = record { placed = placed; places = u.places; watched = u.watched; idle = u.free }
