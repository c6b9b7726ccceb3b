-- What `clap` makes of options with their numbers.
use Rattle.std.proofs.Common.{◌≡◌, ℕ, ◌==◌, Bool, true, false, cond, List, [], ◌∷◌, ◌++◌, Option, Some, None, option_map, sym, refl, ap, subst, ◌∙◌, inl, inr, arith, append-nil, pos}
use Rattle.std.specs.List.{find, fold, list_all, list_any}
use Rattle.std.specs.Option.{option_and_then, option_or}
use Rattle.std.specs.Str.{all_ascii_digits, bytes_eq}
use Rattle.std.proofs.lemmas.Bool.{or_parts, ne_eqb}
use Rattle.std.proofs.lemmas.List.Folds.{find-append}
use Rattle.std.proofs.lemmas.Str.Parse.{tells_all_ascii_digits}
use Rattle.clap.specs.Lexer.{long_of, long_of_rest, short_of, short_of_rest, strip_byte}
use Rattle.clap.specs.Values.{reading_of}
use Rattle.clap.specs.ValueTests.{accepts}
use Rattle.clap.specs.Walk.{Held, Row, Rule, Text, Walk, arg_by_id, arg_by_long, at_row, finished, has_row, idle, more_values, nothing_held, option, settled_rows, used, walk_from, walked, with_default}
use Rattle.clap.specs.Simple.{App, Shape}
use Rattle.clap.specs.Takes.{built_takes, default_passes, is_valid, settle_passes, turn_passes, use_passes, walk_passes}
use Rattle.clap.specs.declared.builder.action.ArgAction.TheVariants.{Set}
use Rattle.clap.specs.declared.builder.value_parser.ValueParser.{ValueParser}
use Rattle.clap.specs.declared.builder.value_parser.ValueParser.TheVariants.{Signed, Unsigned}
use Rattle.clap.specs.declared.parser.matches.ValueSource.TheVariants.{CommandLine}
use Rattle.command_words.specs.declared.reading.Setting.{Setting}
use Rattle.command_words.specs.declared.reading.Setting.TheVariants.{Workers, Budget, Size}
use Rattle.command_words.proofs.Uses.{AreNew, History, Use, alone_word, apart, chosen, in_range, is_same, joined, joined_word, name_of, pushed_on, text_of, words_of}

abbrev pub parser_of : Setting → ValueParser
parser_of Workers = Signed (pos 1) (pos 16)
parser_of Budget = Unsigned 1 4611686018427387904
parser_of Size = Signed (pos 1) (pos 48)

abbrev pub is_needed : Setting → Bool
is_needed Size = true
is_needed _ = false

-- the rule of an option in a command that is built
abbrev pub built_rule : Setting → Rule
built_rule s = record {
  id = name_of s;
  long = Some (name_of s);
  aliases = [];
  short = None;
  short_aliases = [];
  index = None;
  action = Some Set;
  range = Some (record { start_inclusive = 1; end_inclusive = 1 });
  value_names = 0;
  defaults = [];
  missing = [];
  trailing_var_arg = false;
  parser = Some (parser_of s);
  ignore_case = false;
  required = is_needed s;
  is_simple = true;
  is_free = true;
}

abbrev pub built_shape : Text → List Rule → Shape
built_shape name rules = record {
  name = name;
  aliases = [];
  rules = rules;
  is_plain = true;
  is_leaf = true;
  no_binary_name = true;
  disable_help_flag = true;
  disable_help_subcommand = true;
  disable_version_flag = true;
  propagate_version = false;
  has_version = false;
  has_long_version = false;
  args_override_self = false;
  arg_required_else_help = false;
  subcommand_required = false;
  subcommand_negates_reqs = false;
  is_built = true;
}

abbrev pub built_app : Text → List Rule → App
built_app name rules = record { top = built_shape name rules; subs = [] }

-- the command has the option
pub record Knows (rules : List Rule) (s : Setting) : Type 0 where
  pub by_long : arg_by_long rules (name_of s) ≡ Some (built_rule s)
  pub by_id : arg_by_id rules (name_of s) ≡ Some (built_rule s)

abbrev pub KnowsAll : List Rule → List Use → Type 0
KnowsAll rules [] = Unit {0}
KnowsAll rules (apart s v ∷ uses) = Knows rules s × KnowsAll rules uses
KnowsAll rules (joined s v ∷ uses) = Knows rules s × KnowsAll rules uses

abbrev pub Pending : Type 0
Pending = Option (Text × List Text)

abbrev pub held_at : List Row → Pending → Held
held_at rows pending = record { rows = rows; pending = pending; skip = 0 }

-- between two options
abbrev pub ready : List Row → Pending → Walk
ready rows pending =
    record { held = held_at rows pending; waiting = idle; position = 1; is_trailing = false; stopped = None }

-- behind the name of an option
abbrev pub asking : Setting → List Row → Walk
asking s rows = record {
  held = held_at rows (Some (name_of s, []));
  waiting = option (name_of s);
  position = 1;
  is_trailing = false;
  stopped = None;
}

-- ---- words

alone_goes_on : (s : Setting) → bytes_eq (alone_word s) (45 ∷ (45 ∷ [])) ≡ false
alone_goes_on Workers = refl
alone_goes_on Budget = refl
alone_goes_on Size = refl

alone_long : (s : Setting) → long_of (alone_word s) ≡ Some (name_of s, None)
alone_long Workers = refl
alone_long Budget = refl
alone_long Size = refl

joined_goes_on : (s : Setting) (v : List ℕ) → bytes_eq (joined_word s v) (45 ∷ (45 ∷ [])) ≡ false
joined_goes_on Workers v = refl
joined_goes_on Budget v = refl
joined_goes_on Size v = refl

joined_long : (s : Setting) (v : List ℕ) → long_of (joined_word s v) ≡ Some (name_of s, Some v)
joined_long Workers v = refl
joined_long Budget v = refl
joined_long Size v = refl

same_name : (s : Setting) → bytes_eq (name_of s) (name_of s) ≡ true
same_name Workers = refl
same_name Budget = refl
same_name Size = refl

first_digit : (d : ℕ) (ds : List ℕ) → all_ascii_digits (d ∷ ds) ≡ true → (d == 45) ≡ false
first_digit d ds h = let k = (tells_all_ascii_digits.parts d ds h).0 in ne_eqb d 45 (λ e. omega (arith, k))

pub no_minus : (v : List ℕ) → all_ascii_digits v ≡ true → strip_byte 45 v ≡ None
no_minus [] h = refl
no_minus (d ∷ ds) h = rw (first_digit d ds h) refl

digits_go_on : (v : List ℕ) → all_ascii_digits v ≡ true → bytes_eq v (45 ∷ (45 ∷ [])) ≡ false
digits_go_on [] h = refl
digits_go_on (d ∷ ds) h = rw (first_digit d ds h) refl

digits_no_long : (v : List ℕ) → all_ascii_digits v ≡ true → long_of v ≡ None
digits_no_long v d = ap (λ o. option_and_then long_of_rest (option_and_then (strip_byte 45) o)) (no_minus v d)

digits_no_short : (v : List ℕ) → all_ascii_digits v ≡ true → short_of v ≡ None
digits_no_short v d = ap (option_and_then short_of_rest) (no_minus v d)

-- ---- steps

step_alone : (rules : List Rule) (s : Setting) (rows : List Row) (p : Pending) → Knows rules s
    → walked rules [] (ready rows p) (alone_word s) ≡ asking s (settled_rows rules p rows)
unfolding walked
step_alone rules s rows p k = rw (alone_goes_on s, alone_long s, k.by_long) refl

step_value : (rules : List Rule) (s : Setting) (v : List ℕ) (rows : List Row) → Knows rules s → all_ascii_digits v ≡ true
    → walked rules [] (asking s rows) v ≡ ready rows (Some (name_of s, v ∷ []))
unfolding walked
step_value rules s v rows k d = rw (digits_go_on v d, digits_no_long v d, digits_no_short v d, k.by_id, same_name s) refl

step_joined : (rules : List Rule) (s : Setting) (v : List ℕ) (rows : List Row) (p : Pending) → Knows rules s
    → walked rules [] (ready rows p) (joined_word s v) ≡ ready (used (built_rule s) (v ∷ []) (settled_rows rules p rows)) None
unfolding walked
step_joined rules s v rows p k = rw (joined_goes_on s v, joined_long s v, k.by_long) refl

turn_alone : (name : Text) (rules : List Rule) (s : Setting) (rows : List Row) (p : Pending) → Knows rules s
    → settle_passes rules false (held_at rows p) ≡ true → turn_passes (built_shape name rules) [] (ready rows p) (alone_word s) ≡ true
turn_alone name rules s rows p k settles = rw (alone_goes_on s, alone_long s, k.by_long, settles) refl

turn_value : (name : Text) (rules : List Rule) (s : Setting) (v : List ℕ) (rows : List Row) → all_ascii_digits v ≡ true
    → turn_passes (built_shape name rules) [] (asking s rows) v ≡ true
turn_value name rules s v rows d = rw (digits_go_on v d, digits_no_long v d, digits_no_short v d) refl

turn_joined : (name : Text) (rules : List Rule) (s : Setting) (v : List ℕ) (rows : List Row) (p : Pending) → Knows rules s
    → settle_passes rules false (held_at rows p) ≡ true → use_passes false (built_rule s) (v ∷ []) (settled_rows rules p rows) ≡ true
    → turn_passes (built_shape name rules) [] (ready rows p) (joined_word s v) ≡ true
turn_joined name rules s v rows p k settles passes = rw (joined_goes_on s v, joined_long s v, k.by_long, settles, passes) refl

passes_more : (name : Text) (rules : List Rule) (w next : Walk) (word : Text) (words : List Text)
    → turn_passes (built_shape name rules) [] w word ≡ true → walked rules [] w word ≡ next
    → walk_passes (built_shape name rules) [] next words ≡ true → walk_passes (built_shape name rules) [] w (word ∷ words) ≡ true
unfolding walk_passes
passes_more name rules w next word words turn step later = rw (turn, step) later

passes_none : (name : Text) (rules : List Rule) (w : Walk) → walk_passes (built_shape name rules) [] w [] ≡ true
unfolding walk_passes
passes_none name rules w = refl

fold_more : (rules : List Rule) (w next end : Walk) (word : Text) (words : List Text) → walked rules [] w word ≡ next
    → fold (walked rules []) next words ≡ end → fold (walked rules []) w (word ∷ words) ≡ end
fold_more rules w next end word words step later = ap (λ x. fold (walked rules []) x words) step ∙ later

-- ---- rows

abbrev pub row_for : Setting → List ℕ → Row
row_for s v = record {
  id = name_of s;
  values = v ∷ [];
  count = None;
  source = Some CommandLine;
  reading = reading_of (parser_of s);
}

-- the rows are those of the options so far
abbrev pub Tells : History → List Row → Type 0
Tells seen rows = (t : Setting) → find (λ r. bytes_eq r.id (name_of t)) rows ≡ option_map (row_for t) (text_of t seen)

at_absent : (id : Text) (change : Row → List Row) (missing rows : List Row) → has_row id rows ≡ false → at_row id change missing rows ≡ rows ++ missing
at_absent id change missing [] h = refl
at_absent id change missing (r ∷ rows) h =
    let (here, later) = or_parts (bytes_eq r.id id) (has_row id rows) h in
    rw here (ap (λ l. r ∷ l) (at_absent id change missing rows later))

used_fresh : (s : Setting) (v : List ℕ) (rows : List Row) → has_row (name_of s) rows ≡ false
    → used (built_rule s) (v ∷ []) rows ≡ rows ++ row_for s v ∷ []
used_fresh s v rows h =
    ap (at_row (name_of s) (more_values CommandLine (v ∷ [])) (row_for s v ∷ [])) (at_absent (name_of s) (λ _. []) [] rows h ∙ append-nil rows)
    ∙ at_absent (name_of s) (more_values CommandLine (v ∷ [])) (row_for s v ∷ []) rows h

none_any : (p : Row → Bool) (rows : List Row) → find p rows ≡ None → list_any p rows ≡ false
none_any p [] h = refl
none_any p (r ∷ rows) h = elim (chosen (p r) (Some r) (find p rows) None h) [
  | inl hit ↦ absurd cc
  | inr miss ↦ rw miss.0 (none_any p rows miss.1)
]

fresh_row : (seen : History) (rows : List Row) (s : Setting) → Tells seen rows → text_of s seen ≡ None → has_row (name_of s) rows ≡ false
fresh_row seen rows s tells new = none_any (λ r. bytes_eq r.id (name_of s)) rows (tells s ∙ ap (option_map (row_for s)) new)

or_none : {X : Type 0} (o : Option X) → option_or o None ≡ o
or_none None = refl
or_none (Some x) = refl

one_more : (t s : Setting) (v : List ℕ) (seen : History) → text_of s seen ≡ None
    → option_or (option_map (row_for t) (text_of t seen)) (cond (bytes_eq (name_of s) (name_of t)) (Some (row_for s v)) None)
    ≡ option_map (row_for t) (cond (is_same t s) (Some v) (text_of t seen))
one_more Workers Workers v seen new = rw new refl
one_more Budget Budget v seen new = rw new refl
one_more Size Size v seen new = rw new refl
one_more Workers Budget v seen new = or_none _
one_more Workers Size v seen new = or_none _
one_more Budget Workers v seen new = or_none _
one_more Budget Size v seen new = or_none _
one_more Size Workers v seen new = or_none _
one_more Size Budget v seen new = or_none _

tells_more : (seen : History) (rows : List Row) (s : Setting) (v : List ℕ) → Tells seen rows → text_of s seen ≡ None
    → Tells ((s, v) ∷ seen) (rows ++ row_for s v ∷ [])
tells_more seen rows s v tells new t =
    let p : Row → Bool = λ r. bytes_eq r.id (name_of t) in
    find-append p rows (row_for s v ∷ [])
    ∙ ap (λ o. option_or o (cond (bytes_eq (name_of s) (name_of t)) (Some (row_for s v)) None)) (tells t)
    ∙ one_more t s v seen new

use_fresh : (s : Setting) (v : List ℕ) (rows : List Row) → has_row (name_of s) rows ≡ false → accepts false (parser_of s) v ≡ true
    → use_passes false (built_rule s) (v ∷ []) rows ≡ true
use_fresh s v rows none fits = rw (none, fits) refl

-- ---- options in turn

-- where the walk stands behind options that it takes
pub record Stands (name : Text) (rules : List Rule) (from : Walk) (words : List Text) (seen : History) : Type 0 where
  pub rows : List Row
  pub pending : Pending
  pub end : fold (walked rules []) from words ≡ ready rows pending
  pub passes : walk_passes (built_shape name rules) [] from words ≡ true
  pub tells : Tells seen (settled_rows rules pending rows)
  pub settles : settle_passes rules false (held_at rows pending) ≡ true

settled_value : (rules : List Rule) (s : Setting) (v : List ℕ) (rows : List Row) → Knows rules s
    → settled_rows rules (Some (name_of s, v ∷ [])) rows ≡ used (built_rule s) (v ∷ []) rows
settled_value rules s v rows k = rw k.by_id refl

settles_value : (rules : List Rule) (s : Setting) (v : List ℕ) (rows : List Row) → Knows rules s
    → use_passes false (built_rule s) (v ∷ []) rows ≡ true
    → settle_passes rules false (held_at rows (Some (name_of s, v ∷ []))) ≡ true
settles_value rules s v rows k passes = rw (k.by_id, passes) refl

-- options that are new and in their ranges are taken
pub stands : (name : Text) (rules : List Rule) (uses : List Use) (seen : History) (rows : List Row) (p : Pending)
    → ((s : Setting) (v : List ℕ) → in_range s v ≡ true → (all_ascii_digits v ≡ true) × (accepts false (parser_of s) v ≡ true))
    → AreNew seen uses → KnowsAll rules uses → Tells seen (settled_rows rules p rows) → settle_passes rules false (held_at rows p) ≡ true
    → Stands name rules (ready rows p) (words_of uses) (pushed_on uses seen)
stands name rules [] seen rows p fits new known tells settles = record {
  rows = rows;
  pending = p;
  end = refl;
  passes = passes_none name rules (ready rows p);
  tells = tells;
  settles = settles;
}
stands name rules (apart s v ∷ uses) seen rows p fits new known tells settles =
    let before = settled_rows rules p rows in
    let (digits, accepted) = fits s v new.1.0 in
    let absent = fresh_row seen before s tells new.0 in
    let more = tells_more seen before s v tells new.0 in
    let same : before ++ row_for s v ∷ [] ≡ settled_rows rules (Some (name_of s, v ∷ [])) before =
    sym (settled_value rules s v before known.0 ∙ used_fresh s v before absent) in
    let later = stands name rules uses ((s, v) ∷ seen) before (Some (name_of s, v ∷ [])) fits new.1.1 known.1
    (subst (Tells ((s, v) ∷ seen)) same more) (settles_value rules s v before known.0 (use_fresh s v before absent accepted)) in
    let one = step_alone rules s rows p known.0 in
    let two = step_value rules s v before known.0 digits in
    record {
      rows = later.rows;
      pending = later.pending;
      end = fold_more rules _ _ _ (alone_word s) (v ∷ words_of uses) one (fold_more rules _ _ _ v (words_of uses) two later.end);
      passes = passes_more name rules _ _ (alone_word s) (v ∷ words_of uses) (turn_alone name rules s rows p known.0 settles) one
          (passes_more name rules _ _ v (words_of uses) (turn_value name rules s v before digits) two later.passes);
      tells = later.tells;
      settles = later.settles;
    }
stands name rules (joined s v ∷ uses) seen rows p fits new known tells settles =
    let before = settled_rows rules p rows in
    let (digits, accepted) = fits s v new.1.0 in
    let absent = fresh_row seen before s tells new.0 in
    let more = tells_more seen before s v tells new.0 in
    let same : before ++ row_for s v ∷ [] ≡ used (built_rule s) (v ∷ []) before = sym (used_fresh s v before absent) in
    let later = stands name rules uses ((s, v) ∷ seen) (used (built_rule s) (v ∷ []) before) None fits new.1.1 known.1
    (subst (Tells ((s, v) ∷ seen)) same more) refl in
    let one = step_joined rules s v rows p known.0 in
    record {
      rows = later.rows;
      pending = later.pending;
      end = fold_more rules _ _ _ (joined_word s v) (words_of uses) one later.end;
      passes = passes_more name rules _ _ (joined_word s v) (words_of uses)
          (turn_joined name rules s v rows p known.0 settles (use_fresh s v before absent accepted)) one later.passes;
      tells = later.tells;
      settles = later.settles;
    }

-- ---- the end

-- where the walk stands so, and what is required is there, the parse passes
pub taken : (name : Text) (rules : List Rule) (words : List Text) (seen : History) (s : Stands name rules (walk_from nothing_held) words seen)
    → list_all default_passes rules ≡ true → is_valid (built_shape name rules) (finished rules (held_at s.rows s.pending)) false ≡ true
    → built_takes (built_app name rules) nothing_held words ≡ true
taken name rules words seen s defaults valid = rw (s.end, s.passes, s.settles, defaults, valid) refl

if_same : {X : Type 0} (b : Bool) (x : X) → cond b x x ≡ x
if_same true x = refl
if_same false x = refl

no_default : (s : Setting) (rows : List Row) → with_default rows (built_rule s) ≡ rows
no_default s rows = if_same (has_row (name_of s) rows) rows

-- with two options, which have no defaults
pub finished_two : (s t : Setting) (rows : List Row) (p : Pending)
    → finished (built_rule s ∷ (built_rule t ∷ [])) (held_at rows p) ≡ settled_rows (built_rule s ∷ (built_rule t ∷ [])) p rows
finished_two s t rows p =
    let before = settled_rows (built_rule s ∷ (built_rule t ∷ [])) p rows in
    ap (λ l. with_default l (built_rule t)) (no_default s before) ∙ no_default t before
