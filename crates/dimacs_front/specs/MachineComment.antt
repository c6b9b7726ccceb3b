-- The machine in a comment line. Here n is the line's number.
use Rattle.std.specs.Prelude.{ℕ, cond, ◌&&◌, ◌==◌, codes}
use Rattle.std.specs.Str.{bytes_eq}
use Rattle.dimacs_tokens.specs.Seen.{SeenView}
use Rattle.dimacs_front.specs.declared.comment_place.CommentPlace.{CommentPlace}
use Rattle.dimacs_front.specs.declared.comment_place.CommentPlace.TheVariants.{Word, Parted, Named, Show, Under, Cube, Open, End, MetLine, Saved, Met, Passed}

abbrev pub comment_begun : SeenView → CommentPlace
comment_begun t = cond (bytes_eq t.head (codes "c")) Word Passed

abbrev pub comment_after : CommentPlace → ℕ → SeenView → CommentPlace
comment_after Word n t =
    cond (bytes_eq t.head (codes "p")) Parted
    (cond ((n == 1) && bytes_eq t.head (codes "allsat")) Named Passed)
comment_after Parted n t =
    cond (bytes_eq t.head (codes "show")) Show
    (cond (bytes_eq t.head (codes "under")) Under
    (cond (bytes_eq t.head (codes "cube")) Cube
    (cond (bytes_eq t.head (codes "open")) Open
    (cond (bytes_eq t.head (codes "end")) End
    (cond (bytes_eq t.head (codes "met")) MetLine Passed)))))
comment_after Named n t =
    cond (bytes_eq t.head (codes "met")) Met
    (cond (bytes_eq t.head (codes "saved")) Saved Passed)
comment_after c n t = Passed
