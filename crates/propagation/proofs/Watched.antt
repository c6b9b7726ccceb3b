-- The two watches of a clause.
use Rattle.std.proofs.Common.{◌≡◌, ◌≢◌, ℕ, ◌+◌, ◌*◌, ◌/◌, ◌<◌, ◌≤◌, true, List, [], ◌∷◌, length, get_or, ℤ, sym, ap, subst, ◌∙◌, inl, inr, ◌⊎◌, arith}
use Rattle.std.proofs.lemmas.Bool.{cases_eq, cases_lt}
use Rattle.sat_terms.specs.Cubes.{has_literal}
use Rattle.watch_lists.specs.Views.{ListsView, Stands, lit_of, partner}
use Rattle.watch_lists.specs.Watching.{IsWatched, WatchesTwo, IsWatching}
use Rattle.watch_lists.proofs.Watching.{nowhere, partner_of_first, partner_of_second}
use Rattle.watch_lists.proofs.Seen.{stands_inside}

-- a place is the first or the second one of its clause
pub halves : (n : ℕ) → (n ≡ 2 * (n / 2)) ⊎ (n ≡ 2 * (n / 2) + 1)
halves n = elim (cases_eq n (2 * (n / 2))) [
  | inl first ↦ inl first
  | inr other ↦ inr (omega arith)
]

pub partner_back : (n : ℕ) → partner (partner n) ≡ n
partner_back n = elim (halves n) [
  | inl first ↦ subst (λ m. partner (partner m) ≡ m) (sym first) (ap partner (partner_of_first (n / 2)) ∙ partner_of_second (n / 2))
  | inr second ↦ subst (λ m. partner (partner m) ≡ m) (sym second) (ap partner (partner_of_second (n / 2)) ∙ partner_of_first (n / 2))
]

pub partner_differs : (n : ℕ) → partner n ≢ n
partner_differs n = elim (halves n) [
  | inl first ↦ subst (λ m. partner m ≢ m) (sym first) (λ e. let p = partner_of_first (n / 2) in omega arith)
  | inr second ↦ subst (λ m. partner m ≢ m) (sym second) (λ e. let p = partner_of_second (n / 2) in omega arith)
]

-- what a watch that stands says of its clause
pub record IsOneOfTwo (v : ListsView) (clauses : List (List ℤ)) (n : ℕ) : Type 0 where
  pub inside : n / 2 < length clauses
  pub long : 2 ≤ length (get_or clauses (n / 2) [])
  pub among : has_literal (get_or clauses (n / 2) []) (lit_of v n) ≡ true
  pub other_among : has_literal (get_or clauses (n / 2) []) (lit_of v (partner n)) ≡ true
  pub other_stands : Stands v (partner n)
  pub differ : lit_of v n ≢ lit_of v (partner n)
  pub below : n < length v.lits
  pub other_below : partner n < length v.lits

-- a clause one of whose places stands watches two
two_at : (v : ListsView) (p : ℕ) (c : List ℤ) → IsWatched v p c → Stands v p ⊎ Stands v (p + 1) → (2 ≤ length c) × WatchesTwo v p c
two_at v p [] w (inl stands) = absurd (nowhere v p w.0 stands)
two_at v p [] w (inr stands) = absurd (nowhere v (p + 1) w.1 stands)
two_at v p (a ∷ []) w (inl stands) = absurd (nowhere v p w.0 stands)
two_at v p (a ∷ []) w (inr stands) = absurd (nowhere v (p + 1) w.1 stands)
two_at v p (a ∷ b ∷ c) w either = (omega arith, w)

pub two_of : (v : ListsView) (clauses : List (List ℤ)) (n : ℕ) → IsWatching v clauses → Stands v n → IsOneOfTwo v clauses n
two_of v clauses n w stands = elim (halves n) [
  | inl first ↦
      let (long, two) = two_at v (2 * (n / 2)) (get_or clauses (n / 2) []) (w.watched (n / 2) inside) (inl (subst (Stands v) first stands)) in
      let other : partner n ≡ 2 * (n / 2) + 1 = ap partner first ∙ partner_of_first (n / 2) in
      make other long (ap (λ m. has_literal (get_or clauses (n / 2) []) (lit_of v m)) first ∙ two.has_first) two.has_second two.second (λ e. two.differ (ap (lit_of v) (sym first) ∙ e))
  | inr second ↦
      let (long, two) = two_at v (2 * (n / 2)) (get_or clauses (n / 2) []) (w.watched (n / 2) inside) (inr (subst (Stands v) second stands)) in
      let other : partner n ≡ 2 * (n / 2) = ap partner second ∙ partner_of_second (n / 2) in
      make other long (ap (λ m. has_literal (get_or clauses (n / 2) []) (lit_of v m)) second ∙ two.has_second) two.has_first two.first (λ e. two.differ (sym e ∙ ap (lit_of v) second))
]
  where
    inside : n / 2 < length clauses
    inside = elim (cases_lt (n / 2) (length clauses)) [
      | inl h ↦ h
      | inr past ↦ absurd (nowhere v n (w.idle n (omega arith)) stands)
    ]

    make : {m : ℕ} → partner n ≡ m → 2 ≤ length (get_or clauses (n / 2) []) → has_literal (get_or clauses (n / 2) []) (lit_of v n) ≡ true →
        has_literal (get_or clauses (n / 2) []) (lit_of v m) ≡ true → Stands v m → lit_of v n ≢ lit_of v m → IsOneOfTwo v clauses n
    make {m} same long among other_among other_stands differ = record {
      inside = inside;
      long = long;
      among = among;
      other_among = ap (λ j. has_literal (get_or clauses (n / 2) []) (lit_of v j)) same ∙ other_among;
      other_stands = subst (Stands v) (sym same) other_stands;
      differ = λ e. differ (e ∙ ap (lit_of v) same);
      below = stands_inside v n w.placed stands;
      other_below = stands_inside v (partner n) w.placed (subst (Stands v) (sym same) other_stands);
    }
