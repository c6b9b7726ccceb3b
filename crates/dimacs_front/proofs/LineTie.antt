-- Any line says to the machine what it says.
use Rattle.std.proofs.Common.{◌≡◌, ℕ, Bool, true, false, not, cond, List, [], ◌∷◌, map, ℤ, Option, Some, None, Ok, refl, subst, ap, ◌∙◌}
use Rattle.std.proofs.lemmas.Bool.{cond-false}
use Rattle.dimacs_tokens.specs.Numbers.{token_value}
use Rattle.dimacs_tokens.specs.Seen.{seen_token, begins_with, list_begins}
use Rattle.dimacs_front.specs.declared.under_lines.Given.{Given}
use Rattle.dimacs_front.specs.declared.refused.TextRefused.TheVariants.{BadStart, HeaderTwice}
use Rattle.dimacs_front.specs.declared.line_place.LinePlace.TheVariants.{Beginning, Header, Over, Refused}
use Rattle.dimacs_front.specs.Steps.{and_then, needs}
use Rattle.dimacs_front.specs.HeaderLines.{Below, header_says}
use Rattle.dimacs_front.specs.NumberLines.{numbers_say}
use Rattle.dimacs_front.specs.ListLines.{ListLine}
use Rattle.dimacs_front.specs.SavedTexts.{SavedSaid}
use Rattle.dimacs_front.specs.TextLines.{Said, with_below, comment_says, plain_says, line_says}
use Rattle.dimacs_front.specs.MachineHeader.{header_begun}
use Rattle.dimacs_front.specs.Machine.{StateView, at_place, refuse, number_eaten, eaten, closed}
use Rattle.dimacs_front.proofs.MachineLines.{tokens_said, line_said}
use Rattle.dimacs_front.proofs.Ties.{standing, state_of, Met, met_same, met_map, refused_line}
use Rattle.dimacs_front.proofs.HeaderTie.{header_met}
use Rattle.dimacs_front.proofs.PassedLines.{over_line}
use Rattle.dimacs_front.proofs.NumberTie.{number_line_met}
use Rattle.dimacs_front.proofs.CommentTie.{comment_met}

seen_begins : (t : List ℕ) (b : ℕ) → begins_with (seen_token t) b ≡ list_begins t b
unfolding seen_token
seen_begins [] b = refl
seen_begins (c ∷ cs) b = refl

module _ (n : ℕ) (ms : List ListLine) (gs : List Given) (k : SavedSaid) where
  -- ---- up to the header

  abbrev above : Said
  above = record { below = None; shows = ms; given = gs; saved = k; over = false }

  begun_above : (t : List ℕ) → begins_with (seen_token t) 99 ≡ false →
      eaten n (standing Beginning None ms gs k) (seen_token t) ≡
      at_place (standing Beginning None ms gs k) (cond (begins_with (seen_token t) 112) (Header (header_begun (seen_token t))) (Refused (BadStart n)))
  unfolding eaten
  begun_above t h = cond-false _ _ _ h

  above_line-at : (q : Bool) (t : List ℕ) (ts : List (List ℕ)) →
      Met state_of (needs q (BadStart n) (and_then (λ w. Ok (with_below above w)) (header_says n (t ∷ ts))))
      (closed n (tokens_said n (at_place (standing Beginning None ms gs k) (cond q (Header (header_begun (seen_token t))) (Refused (BadStart n)))) ts))
  above_line-at true t ts =
      met_map state_of (with_below above) (header_says n (t ∷ ts)) _ (header_met n ms gs k t ts)
  above_line-at false t ts =
      refused_line n (refuse (standing Beginning None ms gs k) (BadStart n)) (BadStart n) ts refl

  above_line : (t : List ℕ) (ts : List (List ℕ)) → begins_with (seen_token t) 99 ≡ false →
      Met state_of (plain_says n above None t ts) (line_said n (standing Beginning None ms gs k) (t ∷ ts))
  above_line t ts h =
      met_same state_of (plain_says n above None t ts) _ _
      (ap (λ x. closed n (tokens_said n x ts)) (begun_above t h)
      ∙ (λ i. closed n (tokens_said n (at_place (standing Beginning None ms gs k) (cond (seen_begins t 112 i) (Header (header_begun (seen_token t))) (Refused (BadStart n)))) ts)))
      (above_line-at (list_begins t 112) t ts)

  -- ---- below it

  module _ (w : Below) where
    abbrev here : StateView
    here = standing Beginning (Some w) ms gs k

    abbrev below : Said
    below = record { below = Some w; shows = ms; given = gs; saved = k; over = false }

    abbrev ends : StateView → List (List ℕ) → StateView
    ends s ts = closed n (tokens_said n s ts)

    over_met : (ts : List (List ℕ)) → ends (at_place here Over) ts ≡ at_place here Over
    over_met ts = over_line n here ts

    below_met : (p d : Bool) (o : Option ℤ) (ts : List (List ℕ)) →
        Met state_of (needs (not p) (HeaderTwice n) (cond d (Ok (record below { over = true })) (and_then (λ v. Ok (with_below below v)) (numbers_say n w (o ∷ map token_value ts)))))
        (ends (cond p (refuse here (HeaderTwice n)) (cond d (at_place here Over) (number_eaten n here o))) ts)
    below_met true d o ts = refused_line n (refuse here (HeaderTwice n)) (HeaderTwice n) ts refl
    below_met false true o ts = over_met ts
    below_met false false o ts =
        met_map state_of (with_below below) (numbers_say n w (o ∷ map token_value ts)) _
        (number_line_met n ms gs k w o ts)

    begun_below : (t : List ℕ) → begins_with (seen_token t) 99 ≡ false →
        eaten n here (seen_token t) ≡
        cond (list_begins t 112) (refuse here (HeaderTwice n)) (cond (list_begins t 37) (at_place here Over) (number_eaten n here (token_value t)))
    unfolding eaten seen_token
    begun_below t h =
        cond-false _ _ _ h
        ∙ (λ i. cond (seen_begins t 112 i) (refuse here (HeaderTwice n)) (cond (seen_begins t 37 i) (at_place here Over) (number_eaten n here (token_value t))))

    below_line : (t : List ℕ) (ts : List (List ℕ)) → begins_with (seen_token t) 99 ≡ false →
        Met state_of (plain_says n below (Some w) t ts) (line_said n here (t ∷ ts))
    below_line t ts h =
        met_same state_of (plain_says n below (Some w) t ts) _ _
        (ap (λ x. ends x ts) (begun_below t h))
        (below_met (list_begins t 112) (list_begins t 37) (token_value t) ts)

  plain_met : (o : Option Below) (t : List ℕ) (ts : List (List ℕ)) →
      begins_with (seen_token t) 99 ≡ false →
      Met state_of (plain_says n (record { below = o; shows = ms; given = gs; saved = k; over = false }) o t ts)
      (line_said n (standing Beginning o ms gs k) (t ∷ ts))
  plain_met None t ts h = above_line t ts h
  plain_met (Some w) t ts h = below_line w t ts h

  -- ---- any line

  begun-at : (b : Bool) (o : Option Below) (t : List ℕ) (ts : List (List ℕ)) →
      begins_with (seen_token t) 99 ≡ b →
      Met state_of (cond b (comment_says n (record { below = o; shows = ms; given = gs; saved = k; over = false }) (t ∷ ts)) (plain_says n (record { below = o; shows = ms; given = gs; saved = k; over = false }) o t ts))
      (line_said n (standing Beginning o ms gs k) (t ∷ ts))
  begun-at true o t ts h = comment_met n o ms gs k t ts h
  begun-at false o t ts h = plain_met o t ts h

  nothing_ends : (o : Option Below) (over : Bool) →
      closed n (state_of (record { below = o; shows = ms; given = gs; saved = k; over = over })) ≡
      state_of (record { below = o; shows = ms; given = gs; saved = k; over = over })
  unfolding closed
  nothing_ends o true = refl
  nothing_ends o false = refl

  line_met-at : (o : Option Below) (over : Bool) (ts : List (List ℕ)) →
      Met state_of (line_says n (record { below = o; shows = ms; given = gs; saved = k; over = over }) ts)
      (line_said n (state_of (record { below = o; shows = ms; given = gs; saved = k; over = over })) ts)
  unfolding line_says
  line_met-at o over [] = nothing_ends o over
  line_met-at o true (t ∷ ts) = over_line n (standing Beginning o ms gs k) (t ∷ ts)
  line_met-at o false (t ∷ ts) =
      subst (λ b. Met state_of (cond b (comment_says n (record { below = o; shows = ms; given = gs; saved = k; over = false }) (t ∷ ts)) (plain_says n (record { below = o; shows = ms; given = gs; saved = k; over = false }) o t ts)) (line_said n (standing Beginning o ms gs k) (t ∷ ts)))
      (seen_begins t 99)
      (begun-at (begins_with (seen_token t) 99) o t ts refl)

pub line_met : (n : ℕ) (s : Said) (ts : List (List ℕ)) →
    Met state_of (line_says n s ts) (line_said n (state_of s) ts)
line_met n s ts = line_met-at n s.shows s.given s.saved s.below s.over ts
