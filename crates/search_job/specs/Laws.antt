-- The laws of a job: each move keeps it working, and what a job found and left open fits its
-- prefix.
use Rattle.std.specs.Prelude.{◌≡◌, ℕ, suc, ◌+◌, ◌<◌, ◌≤◌, Bool, true, false, ◌&&◌, ◌||◌, cond, nat_le, nat_lt, List, [], ◌∷◌, ◌++◌, length, ℤ, neg_ℤ, nat_abs}
use Rattle.std.specs.List.{All, list_all, list_any}
use Rattle.std.specs.List.Sorted.{IsStrictlyIncreasing}
use Rattle.std.specs.Ordering.{int_eq}
use Rattle.sat_terms.specs.Cubes.{is_among, has_literal, rises_above}
use Rattle.search_region.specs.Trail.{Item, Decided, Implied, depth, back, false_by, is_assigned, is_decided, is_implied, is_reason, seen, turn_over, turn_with}
use Rattle.search_region.specs.Steady.{Steady, Follows, IsFull}
use Rattle.search_region.specs.Cubes.{over}
use Rattle.search_region.specs.Region.{front, root, untried, left_open}
use Rattle.search_region.specs.Running.{Running}
use Rattle.search_region.specs.Conflict.{is_false_upto}
use Rattle.search_region.specs.Model.{is_met, keeps_flips, reaches, are_named, CubeOf}
use Rattle.search_job.specs.Reasons.{are_reasoned, assumed, assume_all, turned}
use Rattle.search_job.specs.Weights.{weights, shown_count, AreShownUpto, FitsWeighed}
use Rattle.search_job.specs.Working.{Working}
use Rattle.search_job.specs.Give.{next_count, GivesCubes}
use Rattle.search_job.specs.Open.{untried_cubes, left_cubes, Exposes}
use Rattle.search_job.specs.Same.{front_cube, other_cube}

-- On a steady trail each literal that stands by a clause has it as its reason.
abbrev pub SteadyIsReasoned : Type 0
SteadyIsReasoned = (f : List (List ℤ)) (shown : ℕ → Bool) (trail : List Item) →
    Steady f shown trail → are_reasoned trail ≡ true

-- One more literal of the prefix keeps the search running, while nothing is decided or found.
abbrev pub AssumeKeepsRunning : Type 0
AssumeKeepsRunning =
    (f : List (List ℤ)) (shown : ℕ → Bool) (q : List ℤ) (trail : List Item) (l : ℤ) →
    Running f shown 0 q trail [] → depth trail ≡ 0 → shown (nat_abs l) ≡ true →
    0 < nat_abs l → is_assigned (nat_abs l) trail ≡ false →
    Running f shown 0 (q ++ l ∷ []) (assumed l ∷ trail) []

-- A decision that a clause turns over keeps it running, where the clause is a reason for the
-- negation under what stays.
abbrev pub TurnKeepsRunning : Type 0
TurnKeepsRunning =
    (f : List (List ℤ)) (shown : ℕ → Bool) (base : ℕ) (p : List ℤ) (newer : List Item)
    (d : Item) (older : List Item) (found : List (List ℤ)) (m : ℕ) (c : List ℤ) →
    Running f shown base p (newer ++ d ∷ older) found → d.kind ≡ Decided →
    base < d.level → m ≤ depth older → Follows f c →
    is_reason c (turned m c d) (back (depth older) (newer ++ d ∷ older)) ≡ true →
    Running f shown base p (turn_with (turned m c d) newer d older) found

-- A clause is such a reason where its other literals are false by items of a level m below that of
-- the decision.
abbrev pub AssertingIsReason : Type 0
AssertingIsReason =
    (newer : List Item) (d : Item) (older : List Item) (m : ℕ) (c : List ℤ) →
    m ≤ depth older →
    list_all (λ l. int_eq l (neg_ℤ d.lit) || false_by m (newer ++ d ∷ older) l) c ≡ true →
    is_reason c (turned m c d) (back (depth older) (newer ++ d ∷ older)) ≡ true

-- A job begins with the literals of its prefix assumed.
abbrev pub BeginWorks : Type 0
BeginWorks =
    (f : List (List ℤ)) (shown : ℕ → Bool) (n : ℕ) (count : ℕ → ℕ) (q : List ℤ) →
    rises_above 0 q ≡ true → over shown q ≡ true →
    Working f shown n 0 count q (assume_all q []) [] 0

-- So does a search that is running, whose present prefix is q, with nothing
-- decided or found.
abbrev pub StartWorks : Type 0
StartWorks =
    (f : List (List ℤ)) (shown : ℕ → Bool) (n : ℕ) (count : ℕ → ℕ) (q : List ℤ)
    (trail : List Item) →
    Running f shown 0 q trail [] → depth trail ≡ 0 → front shown trail ≡ q →
    Working f shown n 0 count q trail [] 0

-- The shown variables are as many as their list is long.
abbrev pub CountsShown : Type 0
CountsShown =
    (m : ℕ) (p : List ℕ) → IsStrictlyIncreasing p → All (λ v. (0 < v) × (v ≤ m)) p →
    (shown_count m (is_among p) ≡ length p) × AreShownUpto m (is_among p)

-- A decision keeps it working; the leaves so far become the count of its level.
abbrev pub DecideKeepsWorking : Type 0
DecideKeepsWorking =
    (f : List (List ℤ)) (shown : ℕ → Bool) (m base : ℕ) (count next : ℕ → ℕ)
    (q : List ℤ) (trail : List Item) (found : List (List ℤ)) (leaves : ℕ) (i : Item) →
    AreShownUpto m shown →
    Working f shown (shown_count m shown) base count q trail found leaves →
    i.kind ≡ Decided → i.level ≡ suc (depth trail) → 0 < nat_abs i.lit →
    is_assigned (nat_abs i.lit) trail ≡ false →
    (seen shown i ≡ false → IsFull shown trail) →
    ((k : ℕ) → k ≤ depth trail → next k ≡ count k) → next i.level ≡ leaves →
    Working f shown (shown_count m shown) base next q (i ∷ trail) found leaves

-- So does a literal that a clause implies.
abbrev pub ImplyKeepsWorking : Type 0
ImplyKeepsWorking =
    (f : List (List ℤ)) (shown : ℕ → Bool) (n base : ℕ) (count : ℕ → ℕ) (q : List ℤ)
    (trail : List Item) (found : List (List ℤ)) (leaves : ℕ) (i : Item) (c : List ℤ) →
    Working f shown n base count q trail found leaves → i.kind ≡ Implied c →
    i.level ≤ depth trail → 0 < nat_abs i.lit →
    is_assigned (nat_abs i.lit) trail ≡ false → Follows f c → is_reason c i trail ≡ true →
    Working f shown n base count q (i ∷ trail) found leaves

-- So does a conflict above the base; where its decision is shown, it may count as a leaf.
abbrev pub ConflictKeepsWorking : Type 0
ConflictKeepsWorking =
    (f : List (List ℤ)) (shown : ℕ → Bool) (n base : ℕ) (count : ℕ → ℕ) (q : List ℤ)
    (newer : List Item) (d : Item) (older : List Item) (found : List (List ℤ)) (leaves then : ℕ)
    (c : List ℤ) →
    Working f shown n base count q (newer ++ d ∷ older) found leaves → d.kind ≡ Decided →
    base < d.level → Follows f c → is_false_upto d.level (newer ++ d ∷ older) c ≡ true →
    leaves ≤ then → then ≤ leaves + cond (seen shown d) 1 0 →
    Working f shown n base count q (turn_over newer d older) found then

-- So does a decision that a clause turns over.
abbrev pub TurnKeepsWorking : Type 0
TurnKeepsWorking =
    (f : List (List ℤ)) (shown : ℕ → Bool) (n base : ℕ) (count : ℕ → ℕ) (q : List ℤ)
    (newer : List Item) (d : Item) (older : List Item) (found : List (List ℤ))
    (leaves then m : ℕ) (c : List ℤ) →
    Working f shown n base count q (newer ++ d ∷ older) found leaves → d.kind ≡ Decided →
    base < d.level → m ≤ depth older → Follows f c →
    is_reason c (turned m c d) (back (depth older) (newer ++ d ∷ older)) ≡ true →
    leaves ≤ then → then ≤ leaves + cond (seen shown d) 1 0 →
    Working f shown n base count q (turn_with (turned m c d) newer d older) found then

-- So does a found model; it may count as a leaf.
abbrev pub ModelKeepsWorking : Type 0
ModelKeepsWorking =
    (f : List (List ℤ)) (shown : ℕ → Bool) (n base : ℕ) (count : ℕ → ℕ) (q : List ℤ)
    (newer : List Item) (d : Item) (older : List Item) (found : List (List ℤ)) (leaves then : ℕ)
    (c : List ℤ) →
    Working f shown n base count q (newer ++ d ∷ older) found leaves → d.kind ≡ Decided →
    base < d.level → are_named f ≡ true →
    reaches shown d.level (newer ++ d ∷ older) ≡ true →
    keeps_flips shown d.level (newer ++ d ∷ older) ≡ true →
    list_all (is_met shown d.level (newer ++ d ∷ older)) f ≡ true →
    CubeOf shown d.level (newer ++ d ∷ older) c → leaves ≤ then → then ≤ leaves + 1 →
    Working f shown n base count q (turn_over newer d older) (found ++ c ∷ []) then

-- What takes the place of a shown decision, of the same variable and neither decided nor implied,
-- leaves less open than before; in the place of a hidden one no more than before.
abbrev pub TurnLeavesLess : Type 0
TurnLeavesLess =
    (f : List (List ℤ)) (shown : ℕ → Bool) (n base : ℕ) (newer : List Item) (d e : Item)
    (older : List Item) →
    Steady f shown (newer ++ d ∷ older) → d.kind ≡ Decided → base < d.level →
    is_decided e.kind ≡ false → is_implied e.kind ≡ false →
    nat_abs e.lit ≡ nat_abs d.lit →
    weights n (left_open shown base (turn_with e newer d older)) + cond (seen shown d) 1 0
    ≤ weights n (left_open shown base (newer ++ d ∷ older))

-- What a working job has found and left open fits its prefix, and each leaf is paid for.
abbrev pub WorkingFits : Type 0
WorkingFits =
    (f : List (List ℤ)) (shown : ℕ → Bool) (n base : ℕ) (count : ℕ → ℕ) (q : List ℤ)
    (trail : List Item) (found : List (List ℤ)) (leaves : ℕ) →
    Working f shown n base count q trail found leaves →
    FitsWeighed f shown n q found (left_open shown base trail) leaves

-- After a conflict at the base what was found does so alone, with this leaf too.
abbrev pub ConflictEndsWorking : Type 0
ConflictEndsWorking =
    (f : List (List ℤ)) (shown : ℕ → Bool) (n base : ℕ) (count : ℕ → ℕ) (q : List ℤ)
    (k : ℕ) (c : List ℤ) (trail : List Item) (found : List (List ℤ)) (leaves then : ℕ) →
    Working f shown n base count q trail found leaves → k ≤ base → Follows f c →
    is_false_upto k trail c ≡ true → then ≤ leaves + 1 →
    FitsWeighed f shown n q found [] then

-- And so it does, with its cube, after a model whose cube needs no level above the base.
abbrev pub ModelEndsWorking : Type 0
ModelEndsWorking =
    (f : List (List ℤ)) (shown : ℕ → Bool) (n base : ℕ) (count : ℕ → ℕ) (q : List ℤ)
    (c : List ℤ) (trail : List Item) (found : List (List ℤ)) (leaves then : ℕ) →
    Working f shown n base count q trail found leaves → are_named f ≡ true →
    keeps_flips shown base trail ≡ true → list_all (is_met shown base trail) f ≡ true →
    CubeOf shown base trail c → then ≤ leaves + 1 →
    FitsWeighed f shown n q (found ++ c ∷ []) [] then

-- The lowest untried cube is that of the base's next decision, where this is shown; the others are
-- those above its level.
abbrev pub LowestUntried : Type 0
LowestUntried =
    (f : List (List ℤ)) (p : List ℕ) (base : ℕ) (newer : List Item) (d : Item)
    (older : List Item) →
    Steady f (is_among p) (newer ++ d ∷ older) → d.kind ≡ Decided → d.level ≡ suc base →
    seen (is_among p) d ≡ true →
    untried_cubes p base (newer ++ d ∷ older)
    ≡ other_cube d older p ∷ untried_cubes p (suc base) (newer ++ d ∷ older)

-- A job gives away the lowest untried prefix, and goes on within what is left of its own.
abbrev pub GiveKeepsWorking : Type 0
GiveKeepsWorking =
    (f : List (List ℤ)) (p : List ℕ) (n base : ℕ) (count : ℕ → ℕ) (q : List ℤ)
    (newer : List Item) (d : Item) (older : List Item) (found : List (List ℤ)) (leaves : ℕ) →
    IsStrictlyIncreasing p → All (λ v. 0 < v) p →
    Working f (is_among p) n base count q (newer ++ d ∷ older) found leaves →
    All (λ c. rises_above 0 c ≡ true) found → d.kind ≡ Decided → d.level ≡ suc base →
    seen (is_among p) d ≡ true →
    GivesCubes f p n base count q (newer ++ d ∷ older) found leaves (other_cube d older p)
    (front_cube (root (suc base) (newer ++ d ∷ older)) p)
    (next_count (is_among p) (suc base) count leaves (newer ++ d ∷ older))

-- The leaves that go with it are the count of the level after that, where this has a shown
-- decision, and else those of now.
pub record ReadsNextCount (f : List (List ℤ)) (shown : ℕ → Bool) (k : ℕ)
    (count : ℕ → ℕ) (now : ℕ) : Type 0 where
  pub none : (trail : List Item) → Steady f shown trail → depth trail ≤ k →
      next_count shown k count now trail ≡ now
  pub shows : (newer : List Item) (d : Item) (older : List Item) →
      Steady f shown (newer ++ d ∷ older) → d.kind ≡ Decided → d.level ≡ suc k →
      seen shown d ≡ true →
      next_count shown k count now (newer ++ d ∷ older) ≡ count (suc k)
  pub hides : (newer : List Item) (d : Item) (older : List Item) →
      Steady f shown (newer ++ d ∷ older) → d.kind ≡ Decided → d.level ≡ suc k →
      seen shown d ≡ false → next_count shown k count now (newer ++ d ∷ older) ≡ now

abbrev pub NextCountIsRead : Type 0
NextCountIsRead =
    (f : List (List ℤ)) (shown : ℕ → Bool) (k : ℕ) (count : ℕ → ℕ) (now : ℕ) →
    ReadsNextCount f shown k count now

-- The items up to the level k are those that stand before the decision of the next level, whether
-- that is shown or hidden; where there is none, all.
pub record ReadsRoot (f : List (List ℤ)) (shown : ℕ → Bool) (k : ℕ) : Type 0 where
  pub none : (trail : List Item) → depth trail ≤ k → root k trail ≡ trail
  pub next : (newer : List Item) (d : Item) (older : List Item) →
      Steady f shown (newer ++ d ∷ older) → d.kind ≡ Decided → d.level ≡ suc k →
      root k (newer ++ d ∷ older) ≡ older

abbrev pub RootIsRead : Type 0
RootIsRead = (f : List (List ℤ)) (shown : ℕ → Bool) (k : ℕ) → ReadsRoot f shown k

-- Nothing is untried where no level is above the base, or the next one's decision is hidden.
pub record NoneUntried (f : List (List ℤ)) (shown : ℕ → Bool) (base : ℕ) : Type 0 where
  pub none : (trail : List Item) → Steady f shown trail → depth trail ≤ base →
      untried shown base trail ≡ []
  pub hides : (newer : List Item) (d : Item) (older : List Item) →
      Steady f shown (newer ++ d ∷ older) → d.kind ≡ Decided → d.level ≡ suc base →
      seen shown d ≡ false → untried shown base (newer ++ d ∷ older) ≡ []

abbrev pub NoneUntriedIsRead : Type 0
NoneUntriedIsRead =
    (f : List (List ℤ)) (shown : ℕ → Bool) (base : ℕ) → NoneUntried f shown base

-- A least level above the base, at which a cube is enough, is that of some shown item.
abbrev pub LeastReachesAbove : Type 0
LeastReachesAbove =
    (f : List (List ℤ)) (shown : ℕ → Bool) (trail : List Item) (base level : ℕ) →
    base < level →
    ((b : ℕ) →
    (nat_le base b && (keeps_flips shown b trail && list_all (is_met shown b trail) f))
    ≡ nat_le level b) →
    reaches shown level trail ≡ true

-- A working job can end at any time: what it found and left open fits its prefix.
abbrev pub ExposeFits : Type 0
ExposeFits =
    (f : List (List ℤ)) (p : List ℕ) (n base : ℕ) (count : ℕ → ℕ) (q : List ℤ)
    (trail : List Item) (found : List (List ℤ)) (leaves : ℕ) →
    IsStrictlyIncreasing p → All (λ v. 0 < v) p →
    Working f (is_among p) n base count q trail found leaves →
    Exposes f p n q found (left_cubes p base trail) leaves

-- A clause follows from the formula where its negation comes to a conflict: the negations of some
-- of its literals are assumed, with every variable shown.
abbrev pub ImportFollows : Type 0
ImportFollows =
    (f : List (List ℤ)) (c q : List ℤ) (trail : List Item) (k : ℕ) (d : List ℤ) →
    Running f (λ v. true) 0 q trail [] →
    list_all (λ l. nat_lt 0 (nat_abs l) && has_literal c (neg_ℤ l)) q ≡ true →
    k ≤ 0 → Follows f d → is_false_upto k trail d ≡ true →
    Follows f c

-- And where these negations imply a literal of it.
abbrev pub ImpliedLiteralFollows : Type 0
ImpliedLiteralFollows =
    (f : List (List ℤ)) (c q : List ℤ) (trail : List Item) (l : ℤ) →
    Running f (λ v. true) 0 q trail [] → depth trail ≡ 0 →
    list_all (λ m. nat_lt 0 (nat_abs m) && has_literal c (neg_ℤ m)) q ≡ true →
    has_literal c l ≡ true → list_any (λ i. int_eq l i.lit) trail ≡ true →
    Follows f c
