-- The order of numbers.
use Rattle.std.specs.Prelude.{Bool, ◌&&◌, ◌||◌, nat_eq, nat_lt}
use Rattle.prefix_jobs.specs.declared.number.Number.{Number}

-- By place, then by index.
abbrev pub is_before : Number → Number → Bool
is_before m n = nat_lt m.place n.place || (nat_eq m.place n.place && nat_lt m.index n.index)
