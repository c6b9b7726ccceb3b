use Rattle.plain_search.specs.Searching.{IsListing, work_left}
use Rattle.plain_search.proofs.search.enumerate_plain.Given as goal

abbrev pub invariant-loop-search : goal.invariant-loop-search
invariant-loop-search l = IsListing l.subject l.search

abbrev pub decreases-loop-search : goal.decreases-loop-search
decreases-loop-search l = work_left l.subject l.search
