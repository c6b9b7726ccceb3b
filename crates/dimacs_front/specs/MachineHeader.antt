-- The machine in a header's line.
use Rattle.std.specs.Prelude.{ℕ, cond, codes, Option, Some, None}
use Rattle.std.specs.Str.{bytes_eq}
use Rattle.dimacs_tokens.specs.Numbers.{value_of}
use Rattle.dimacs_tokens.specs.Seen.{SeenView}
use Rattle.dimacs_front.specs.declared.header_place.HeaderPlace.{HeaderPlace}
use Rattle.dimacs_front.specs.declared.header_place.HeaderPlace.TheVariants.{Word, Variables, Clauses, End, Broken}
use Rattle.dimacs_front.specs.HeaderLines.{natural}

abbrev pub header_begun : SeenView → HeaderPlace
header_begun t = cond (bytes_eq t.head (codes "p")) Word Broken

abbrev pub behind_variables : Option ℕ → HeaderPlace
behind_variables (Some v) = Clauses v
behind_variables None = Broken

abbrev pub behind_clauses : ℕ → Option ℕ → HeaderPlace
behind_clauses v (Some c) = End v c
behind_clauses v None = Broken

abbrev pub header_after : HeaderPlace → SeenView → HeaderPlace
header_after Word t = cond (bytes_eq t.head (codes "cnf")) Variables Broken
header_after Variables t = behind_variables (natural (value_of t.number))
header_after (Clauses v) t = behind_clauses v (natural (value_of t.number))
header_after (End v c) t = Broken
header_after Broken t = Broken
