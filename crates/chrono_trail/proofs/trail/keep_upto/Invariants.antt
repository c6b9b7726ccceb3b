use Rattle.std.proofs.Common.{◌≡◌, length, filter, take, vec_capacity}
use Rattle.std.proofs.lemmas.List.Filters.{FiltersInPlace}
use Rattle.chrono_trail.specs.Items.{is_upto}
use Rattle.chrono_trail.proofs.trail.keep_upto.Given as goal

abbrev pub invariant-loop-at : goal.invariant-loop-at
invariant-loop-at l = record {
  filters : FiltersInPlace (is_upto l.level) l.initial.items.items l.items.items l.kept l.at;
  marked : l.kept_seen ≡ length (filter (is_upto l.level) (take l.at (take l.seen l.initial.items.items)));
  wide : vec_capacity l.items ≡ vec_capacity l.initial.items;
}
