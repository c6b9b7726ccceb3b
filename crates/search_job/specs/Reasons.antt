-- Literals that stand by a clause, and decisions that a clause turned over.
use Rattle.std.specs.Prelude.{ℕ, Bool, true, ◌&&◌, List, [], ◌∷◌, ℤ, neg_ℤ}
use Rattle.search_region.specs.Trail.{Kind, Assumed, Decided, Flipped, Turned, Implied, Item, is_reason}

-- Where it stands by a clause, this is a reason for it under the older items.
abbrev pub has_reason : Kind → Item → List Item → Bool
has_reason Assumed i older = true
has_reason Decided i older = true
has_reason Flipped i older = true
has_reason (Turned c) i older = is_reason c i older
has_reason (Implied c) i older = is_reason c i older

abbrev pub are_reasoned : List Item → Bool
are_reasoned [] = true
are_reasoned (i ∷ older) = has_reason i.kind i older && are_reasoned older

-- The decision d turned over by the clause c, on the level m.
abbrev pub turned : ℕ → List ℤ → Item → Item
turned m c d = record { lit = neg_ℤ d.lit; level = m; kind = Turned c }

-- The literal l of a job's prefix.
abbrev pub assumed : ℤ → Item
assumed l = record { lit = l; level = 0; kind = Assumed }

-- The literals of a prefix, put on the trail one after another.
abbrev pub assume_all : List ℤ → List Item → List Item
assume_all [] trail = trail
assume_all (l ∷ q) trail = assume_all q (assumed l ∷ trail)
