-- The reader's machine between two lines, and when it says the same as a definition.
use Rattle.std.proofs.Common.{◌≡◌, ℕ, Bool, true, false, not, cond, List, [], fold, map, nat_abs, Option, Some, None, Result, Ok, Err, sym, subst, ap, ◌∙◌}
use Rattle.dimacs_tokens.specs.Seen.{is_nil}
use Rattle.dimacs_front.specs.declared.under_lines.Given.{Given}
use Rattle.dimacs_front.specs.declared.refused.TextRefused.{TextRefused}
use Rattle.dimacs_front.specs.declared.line_place.LinePlace.{LinePlace}
use Rattle.dimacs_front.specs.declared.line_place.LinePlace.TheVariants.{Beginning, Over, Refused}
use Rattle.dimacs_front.specs.declared.show_lines.Named.{Named}
use Rattle.dimacs_front.specs.Steps.{and_then}
use Rattle.dimacs_front.specs.HeaderLines.{Below}
use Rattle.dimacs_front.specs.NumberLines.{literals_of}
use Rattle.dimacs_front.specs.ListLines.{ListLine}
use Rattle.dimacs_front.specs.SavedTexts.{SavedSaid}
use Rattle.dimacs_front.specs.TextLines.{Said}
use Rattle.dimacs_front.specs.Machine.{WrittenView, nothing_written, StateView, at_place, closed}
use Rattle.dimacs_front.proofs.MachineLines.{tokens_said, names_behind}
use Rattle.dimacs_front.proofs.PassedLines.{refused_tokens, refused_end}

-- the names of these show lines
abbrev pub names_of : List Named → List ListLine → List Named
names_of named ms = fold (λ ks m. names_behind (ListLine.line m) ks (map nat_abs (ListLine.values m))) named ms

-- the formula so far, with a count of its literals
abbrev pub counted : Below → ℕ → WrittenView
counted w k = record {
  variables = w.variables;
  said = w.said;
  clauses = w.clauses;
  open_clause = w.open_clause;
  literals = k;
}

abbrev pub formula_of : Option Below → WrittenView
formula_of None = nothing_written 0 0
formula_of (Some w) = counted w (literals_of w)

abbrev pub is_begun : Option Below → Bool
is_begun None = false
is_begun (Some w) = true

-- the machine at a place of the next line
abbrev pub standing : LinePlace → Option Below → List ListLine → List Given → SavedSaid → StateView
standing p o ms gs k = record {
  place = p;
  started = is_begun o;
  formula = formula_of o;
  given = not (is_nil ms);
  named = names_of [] ms;
  under = gs;
  saved = k;
  lits = [];
  first = [];
}

abbrev pub place_of : Bool → LinePlace
place_of over = cond over Over Beginning

abbrev pub state_of : Said → StateView
state_of s = standing (place_of s.over) s.below s.shows s.given s.saved

-- the machine stands where the definition says, or at its refusal
abbrev pub Met : {A : Type 0} → (A → StateView) → Result A TextRefused → StateView → Type 0
Met f (Ok a) s = s ≡ f a
Met f (Err r) s = s.place ≡ Refused r

pub met_either : {A : Type 0} (f : A → StateView) (b : Bool) (x y : Result A TextRefused)
    (s u : StateView) → Met f x s → Met f y u → Met f (cond b x y) (cond b s u)
met_either f true x y s u h k = h
met_either f false x y s u h k = k

pub met_same : {A : Type 0} (f : A → StateView) (x : Result A TextRefused) (s u : StateView) →
    s ≡ u → Met f x u → Met f x s
met_same f x s u e h = subst (Met f x) (sym e) h

pub met_map : {A B : Type 0} (f : B → StateView) (g : A → B) (x : Result A TextRefused)
    (s : StateView) → Met (λ a. f (g a)) x s → Met f (and_then (λ a. Ok (g a)) x) s
met_map f g (Ok a) s h = h
met_map f g (Err r) s h = h

pub met_as : {A : Type 0} (f g : A → StateView) (x : Result A TextRefused) (s : StateView) →
    ((a : A) → f a ≡ g a) → Met f x s → Met g x s
met_as f g (Ok a) s e h = h ∙ e a
met_as f g (Err r) s e h = h

-- behind a refusal nothing changes
pub refused_more : (n : ℕ) (s : StateView) (r : TextRefused) (us : List (List ℕ)) →
    s.place ≡ Refused r → (tokens_said n s us).place ≡ Refused r
refused_more n s r us h =
    let same : s ≡ at_place s (Refused r) = ap (at_place s) h in
    ap (λ x. StateView.place (tokens_said n x us)) same
    ∙ ap (λ x. StateView.place x) (refused_tokens n s r us)

pub refused_closed : (n : ℕ) (s : StateView) (r : TextRefused) → s.place ≡ Refused r →
    (closed n s).place ≡ Refused r
refused_closed n s r h =
    let same : s ≡ at_place s (Refused r) = ap (at_place s) h in
    ap (λ x. StateView.place (closed n x)) same ∙ ap (λ x. StateView.place x) (refused_end n s r)

pub refused_line : (n : ℕ) (s : StateView) (r : TextRefused) (us : List (List ℕ)) →
    s.place ≡ Refused r → (closed n (tokens_said n s us)).place ≡ Refused r
refused_line n s r us h = refused_closed n (tokens_said n s us) r (refused_more n s r us h)

-- further tokens, and the end of the line
pub met_more : {A B : Type 0} (f : A → StateView) (g : B → StateView) (n : ℕ)
    (k : A → Result B TextRefused) (x : Result A TextRefused) (s : StateView)
    (ts : List (List ℕ)) → Met f x s → ((a : A) → Met g (k a) (tokens_said n (f a) ts)) →
    Met g (and_then k x) (tokens_said n s ts)
met_more f g n k (Ok a) s ts h more =
    met_same g (k a) (tokens_said n s ts) (tokens_said n (f a) ts) (ap (λ u. tokens_said n u ts) h) (more a)
met_more f g n k (Err r) s ts h more = refused_more n s r ts h

pub met_closed : {A : Type 0} (f g : A → StateView) (n : ℕ) (x : Result A TextRefused)
    (s : StateView) → Met f x s → ((a : A) → closed n (f a) ≡ g a) → Met g x (closed n s)
met_closed f g n (Ok a) s h end = ap (closed n) h ∙ end a
met_closed f g n (Err r) s h end = refused_closed n s r h
