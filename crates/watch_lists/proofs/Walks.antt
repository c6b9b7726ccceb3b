-- A walk over a list, from which watches move away.
use Rattle.std.proofs.Common.{◌≡◌, ◌≢◌, ℕ, false, List, [], ◌∷◌, ◌++◌, map, get_or, ℤ, refl, sym, ap, subst, ◌∙◌, arith, get_or-set_other}
use Rattle.std.proofs.lemmas.Bool.{eq-eqb, ne_eqb}
use Rattle.std.proofs.Math.ListN.{get_or-map}
use Rattle.sat_terms.specs.CubeOrder.{key}
use Rattle.watch_lists.specs.Places.{has, AreApart, delete}
use Rattle.watch_lists.specs.Views.{ListsView, list_of, IsPlaced, moved, head_of, follower}
use Rattle.watch_lists.specs.Watching.{WalksOn}

-- a place behind others is none of them
pub before_differ : (x n : ℕ) (xs later : List ℕ) → has x (xs ++ n ∷ later) ≡ false → n ≢ x
before_differ x n [] later out e = let now = eq-eqb x n (sym e) in grind arith
before_differ x n (y ∷ ys) later out e =
    let rest : has x (ys ++ n ∷ later) ≡ false = grind arith in
    before_differ x n ys later rest e

follower_middle : (passed : List ℕ) (n : ℕ) (later : List ℕ) → AreApart (passed ++ n ∷ later) →
    follower (passed ++ n ∷ later) n ≡ head_of later
follower_middle [] n later apart = rw (eq-eqb n n refl) refl
follower_middle (x ∷ xs) n later apart =
    rw (ne_eqb n x (before_differ x n xs later apart.0)) (follower_middle xs n later apart.1)

delete_middle : (passed : List ℕ) (n : ℕ) (later : List ℕ) → AreApart (passed ++ n ∷ later) →
    delete n (passed ++ n ∷ later) ≡ passed ++ later
delete_middle [] n later apart = rw (eq-eqb n n refl) refl
delete_middle (x ∷ xs) n later apart =
    rw (ne_eqb n x (before_differ x n xs later apart.0)) (ap (λ ys. x ∷ ys) (delete_middle xs n later apart.1))

-- a list that a place leaves
pub left_list : (v : ListsView) (n k : ℕ) (l : ℤ) → key l ≢ k → list_of (moved v n l) k ≡ delete n (list_of v k)
left_list v n k l other =
    get_or-set_other (map (delete n) v.lists) (key l) k (n ∷ get_or (map (delete n) v.lists) (key l) []) [] (λ e. other (sym e))
    ∙ get_or-map (delete n) v.lists k []

pub walks_on : (v : ListsView) (k : ℕ) (passed : List ℕ) (n : ℕ) (later : List ℕ) → IsPlaced v →
    list_of v k ≡ passed ++ n ∷ later → WalksOn v k passed n later
walks_on v k passed n later placed is =
    let apart : AreApart (passed ++ n ∷ later) = subst AreApart is (placed.apart k) in
    record {
      next = ap (λ xs. follower xs n) is ∙ follower_middle passed n later apart;
      stay = λ l other. left_list v n k l other ∙ ap (delete n) is ∙ delete_middle passed n later apart;
    }
