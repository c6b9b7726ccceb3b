-- The limits of a text, and the most bytes that are taken from a source at once.
pub use Rattle.dimacs_front.specs.declared.limits.TheConstants.{MOST_BYTES as most_bytes, MOST_VARIABLES as most_variables, MOST_CLAUSES as most_clauses, MOST_LITERALS as most_literals, MOST_SHOWN as most_shown}
pub use Rattle.dimacs_front.specs.declared.read.TheConstants.{PIECE_SIZE as piece_size}
