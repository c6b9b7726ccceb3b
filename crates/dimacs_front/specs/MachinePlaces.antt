-- The place in a line between two tokens. Here n is the line's number, and t what is seen of the
-- next token.
use Rattle.std.specs.Prelude.{ℕ, Bool, cond, ◌||◌, Option, Some, None}
use Rattle.dimacs_tokens.specs.Seen.{SeenView, begins_with}
use Rattle.dimacs_front.specs.declared.refused.TextRefused.{TextRefused}
use Rattle.dimacs_front.specs.declared.refused.TextRefused.TheVariants.{BadStart, ShowUnended, UnderUnended, SavedBad}
use Rattle.dimacs_front.specs.declared.comment_place.CommentPlace.{CommentPlace}
use Rattle.dimacs_front.specs.declared.comment_place.CommentPlace.TheVariants as comment
use Rattle.dimacs_front.specs.declared.saved_lines.SavedList.TheVariants.{Cubes, Pending}
use Rattle.dimacs_front.specs.declared.saved_place.OpenList.TheVariants.{Line, Shown}
use Rattle.dimacs_front.specs.declared.saved_place.SavedPlace.{SavedPlace}
use Rattle.dimacs_front.specs.declared.saved_place.SavedPlace.TheVariants.{First, MetFirst, Listed, End}
use Rattle.dimacs_front.specs.declared.line_place.LinePlace.{LinePlace}
use Rattle.dimacs_front.specs.declared.line_place.LinePlace.TheVariants.{Beginning, Header, Comment, Show, Under, Saved, Over, Refused}
use Rattle.dimacs_front.specs.SavedTexts.{SavedSaid}
use Rattle.dimacs_front.specs.MachineHeader.{header_begun}

-- the bytes that begin a comment, a header, and the line that ends the formula: `c`, `p` and `%`
abbrev pub comment_byte : ℕ
comment_byte = 99

abbrev pub header_byte : ℕ
header_byte = 112

abbrev pub percent : ℕ
percent = 37

-- a line above the header that begins no comment: its first byte has to be `p`
abbrev pub above_begun : ℕ → SeenView → LinePlace
above_begun n t = cond (begins_with t header_byte) (Header (header_begun t)) (Refused (BadStart n))

-- in a line that some texts have of their own: others pass over it, and none stands behind the end
-- line
abbrev pub own_place : Bool → SavedSaid → ℕ → SavedPlace → LinePlace
own_place has k n p =
    cond has (cond k.ended (Refused (SavedBad n)) (Saved p)) (Comment comment.Passed)

-- in a comment with these words
abbrev pub in_comment : SavedSaid → ℕ → CommentPlace → LinePlace
in_comment k n comment.Word = Comment comment.Word
in_comment k n comment.Parted = Comment comment.Parted
in_comment k n comment.Named = Comment comment.Named
in_comment k n comment.Show = Show
in_comment k n comment.Under = Under
in_comment k n comment.Cube = own_place k.named k n (Listed (Line Cubes))
in_comment k n comment.Open = own_place k.named k n (Listed (Line Pending))
in_comment k n comment.End = own_place (k.named || k.met) k n End
in_comment k n comment.MetLine = own_place k.met k n (Listed Shown)
in_comment k n comment.Saved = Saved First
in_comment k n comment.Met = Saved MetFirst
in_comment k n comment.Passed = Comment comment.Passed

-- the refusal of the line, if there is one
abbrev pub refusal_at : LinePlace → Option TextRefused
refusal_at (Refused r) = Some r
refusal_at p = None

-- the place behind the end of a line that is no header
abbrev pub place_closed : LinePlace → ℕ → LinePlace
place_closed Show n = Refused (ShowUnended n)
place_closed Under n = Refused (UnderUnended n)
place_closed (Saved First) n = Refused (SavedBad n)
place_closed (Saved MetFirst) n = Refused (SavedBad n)
place_closed (Saved (Listed l)) n = Refused (SavedBad n)
place_closed Over n = Over
place_closed (Refused r) n = Refused r
place_closed p n = Beginning
