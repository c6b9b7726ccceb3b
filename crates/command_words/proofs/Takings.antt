-- The command that the words make is the one that `clap` gives.
use Rattle.std.proofs.Common.{◌≡◌, ℕ, ◌≤◌, Bool, true, false, cond, ◌||◌, List, [], ◌∷◌, Option, Some, None, is_some, option_map, unwrap_or, Result, codes, sym, refl, ap, ap₂, subst, ◌∙◌, inl, inr, arith}
use Rattle.std.specs.Option.{option_and_then, option_map_or}
use Rattle.std.specs.Str.Parse.{ParsesUnsigned, digits_value}
use Rattle.std.proofs.lemmas.Bool.{or_parts}
use Rattle.clap.specs.Facts.{explicit_source}
use Rattle.clap.specs.Matches.{ReadsOne, found_of, one_text}
use Rattle.clap.specs.Walk.{Rule, Row, Text, finished, nothing_held, one_of, row_text, rows_of, settled_rows, walk_from}
use Rattle.clap.specs.Simple.{HasMatchesOf}
use Rattle.clap.specs.Takes.{is_given, is_valid, takes}
use Rattle.clap.specs.declared.parser.matches.ArgMatches.{ArgMatches}
use Rattle.clap.proofs.OnLiterals.{clap_on_literals}
use Rattle.clap.proofs.WalkLemmas.{one_text-rows}
use Rattle.command_words.specs.declared.reading.Setting.{Setting}
use Rattle.command_words.specs.declared.reading.Setting.TheVariants.{Workers, Budget, Size}
use Rattle.command_words.specs.declared.reading.Reading.{Reading}
use Rattle.command_words.specs.declared.command.Command.{Command}
use Rattle.command_words.specs.declared.command.Command.TheVariants.{Enumerate, Drill}
use Rattle.command_words.specs.Commands.{IsInRange, drill_by, enumerate_by, options_of}
use Rattle.command_words.specs.Options.{check_app, drill_app, enumerate_app}
use Rattle.command_words.proofs.Uses.{AreNew, History, Use, apart, chosen, in_range, is_same, joined, name_of, pushed_on, some_same, text_of, then_parts, told, uses_told}
use Rattle.command_words.proofs.Walks.{Knows, KnowsAll, Stands, Tells, built_rule, built_shape, finished_two, held_at, row_for, stands, taken}
use Rattle.command_words.proofs.Numbers.{InRange, fits_parser, least, most, numbers_read, range_parts, texts_read}

-- ---- the options of a reading

kept : (s t : Setting) (v : List ℕ) (seen : History) → is_some (text_of s seen) ≡ true → is_some (text_of s ((t, v) ∷ seen)) ≡ true
kept s t v seen h = go (is_same s t)
  where
    go : (b : Bool) → is_some (cond b (Some v) (text_of s seen)) ≡ true
    go true = refl
    go false = h

kept_on : (s : Setting) (uses : List Use) (seen : History) → is_some (text_of s seen) ≡ true → is_some (text_of s (pushed_on uses seen)) ≡ true
kept_on s [] seen h = h
kept_on s (apart t v ∷ uses) seen h = kept_on s uses ((t, v) ∷ seen) (kept s t v seen h)
kept_on s (joined t v ∷ uses) seen h = kept_on s uses ((t, v) ∷ seen) (kept s t v seen h)

self_same : (s : Setting) → is_same s s ≡ true
self_same Workers = refl
self_same Budget = refl
self_same Size = refl

first_some : (s : Setting) (v : List ℕ) (seen : History) → is_some (text_of s ((s, v) ∷ seen)) ≡ true
first_some s v seen = rw (self_same s) refl

all_known : (rules : List Rule) (uses : List Use) (seen : History)
    → ((s : Setting) → is_some (text_of s (pushed_on uses seen)) ≡ true → Knows rules s) → KnowsAll rules uses
all_known rules [] seen h = tt
all_known rules (apart s v ∷ uses) seen h = (h s (kept_on s uses ((s, v) ∷ seen) (first_some s v seen)), all_known rules uses ((s, v) ∷ seen) h)
all_known rules (joined s v ∷ uses) seen h = (h s (kept_on s uses ((s, v) ∷ seen) (first_some s v seen)), all_known rules uses ((s, v) ∷ seen) h)

same_setting : (s t : Setting) → is_same s t ≡ true → t ≡ s
same_setting Workers Workers h = refl
same_setting Budget Budget h = refl
same_setting Size Size h = refl
same_setting Workers Budget h = absurd cc
same_setting Workers Size h = absurd cc
same_setting Budget Workers h = absurd cc
same_setting Budget Size h = absurd cc
same_setting Size Workers h = absurd cc
same_setting Size Budget h = absurd cc

abbrev AllInRange : History → Type 0
AllInRange seen = (s : Setting) → InRange s (text_of s seen)

range_more : (t : Setting) (w : List ℕ) (seen : History) → in_range t w ≡ true → AllInRange seen → AllInRange ((t, w) ∷ seen)
range_more t w seen here before s v h = elim (chosen (is_same s t) (Some w) (text_of s seen) (Some v) h) [
  | inl hit ↦ subst (λ x. in_range s x ≡ true) (some_same hit.1) (subst (λ x. in_range x w ≡ true) (same_setting s t hit.0) here)
  | inr miss ↦ before s v miss.1
]

ranges : (uses : List Use) (seen : History) → AreNew seen uses → AllInRange seen → AllInRange (pushed_on uses seen)
ranges [] seen new before = before
ranges (apart t w ∷ uses) seen new before = ranges uses ((t, w) ∷ seen) new.1.1 (range_more t w seen new.1.0 before)
ranges (joined t w ∷ uses) seen new before = ranges uses ((t, w) ∷ seen) new.1.1 (range_more t w seen new.1.0 before)

nothing_ranged : AllInRange []
nothing_ranged s v h = absurd cc

-- words that make a reading, as the walk over them leaves it
pub record Read (name : Text) (rules : List Rule) (words : List Text) (r : Reading) : Type 0 where
  pub seen : History
  pub said : told None seen ≡ r
  pub ranged : AllInRange seen
  pub stood : Stands name rules (walk_from nothing_held) words seen

read : (name : Text) (rules : List Rule) (words : List Text) (r : Reading) → options_of words ≡ Some r → r.waiting ≡ None
    → ((s : Setting) (seen : History) → told None seen ≡ r → is_some (text_of s seen) ≡ true → Knows rules s) → Read name rules words r
read name rules words r h idle knows =
    let u = uses_told words None [] r h idle in
    let seen = pushed_on u.uses [] in
    let known = all_known rules u.uses [] (λ s some. knows s seen u.said some) in
    let stood = stands name rules u.uses [] [] None fits_parser u.new known (λ t. refl) refl in
    record {
      seen = seen;
      said = u.said;
      ranged = ranges u.uses [] u.new nothing_ranged;
      stood = subst (λ ws. Stands name rules (walk_from nothing_held) ws seen) (sym u.words_are) stood;
    }

-- the text that a getter reads
text_found : (rows : List Row) (seen : History) (s : Setting) → Tells seen rows → AllInRange seen → one_of (name_of s) rows ≡ text_of s seen
text_found rows seen s tells ranged = ap (option_and_then row_text) (tells s) ∙ texts_read s (text_of s seen) (ranged s)

-- ---- enumerate

abbrev enumerate_rules : List Rule
enumerate_rules = built_rule Workers ∷ (built_rule Budget ∷ [])

none_of : {X : Type 0} (o : Option X) → is_some o ≡ false → o ≡ None
none_of None h = refl
none_of (Some x) h = absurd cc

enumerate_knows : (s : Setting) (seen : History) → text_of Size seen ≡ None → is_some (text_of s seen) ≡ true → Knows enumerate_rules s
enumerate_knows Workers seen none some = record { by_long = refl; by_id = refl }
enumerate_knows Budget seen none some = record { by_long = refl; by_id = refl }
enumerate_knows Size seen none some =
    let bad : false ≡ true = ap is_some (sym none) ∙ some in
    absurd cc

no_text : (o : Option (List ℕ)) → option_map (digits_value 10) o ≡ None → o ≡ None
no_text None h = refl
no_text (Some v) h = absurd cc

pub record Enumerates (words : List Text) (c : Command) : Type 0 where
  pub reading : Reading
  pub made : Read (codes "enumerate") enumerate_rules words reading
  pub is : Enumerate (unwrap_or reading.workers 1) reading.budget ≡ c

enumerates : (words : List Text) (c : Command) → option_and_then enumerate_by (options_of words) ≡ Some c → Enumerates words c
enumerates words c h =
    let (r, options, by) = then_parts enumerate_by (options_of words) c h in
    elim (chosen (is_some r.waiting || is_some r.size) None (Some (Enumerate (unwrap_or r.workers 1) r.budget)) (Some c) by) [
      | inl bad ↦ absurd (let no = bad.1 in cc)
      | inr ok ↦
          let (waiting, size) = or_parts (is_some r.waiting) (is_some r.size) ok.0 in
          record {
            reading = r;
            made = read (codes "enumerate") enumerate_rules words r options (none_of r.waiting waiting)
                (λ s seen said some. enumerate_knows s seen
                (no_text (text_of Size seen) (ap (λ x. x.size) said ∙ none_of r.size size)) some);
            is = some_same ok.1;
          }
    ]

pub enumerate_takes : (words : List Text) (c : Command) → option_and_then enumerate_by (options_of words) ≡ Some c → takes enumerate_app words ≡ true
enumerate_takes words c h =
    let e = enumerates words c h in
    taken (codes "enumerate") enumerate_rules words e.made.seen e.made.stood refl refl

enumerate_found : (words : List Text) (c : Command) (h : option_and_then enumerate_by (options_of words) ≡ Some c) (m : ArgMatches)
    → HasMatchesOf enumerate_app words m → (s : Setting) → one_text (found_of m) (name_of s) ≡ text_of s (enumerates words c h).made.seen
enumerate_found words c h m matches s =
    let e = enumerates words c h in
    let stood = e.made.stood in
    let rows : rows_of (found_of m) ≡ settled_rows enumerate_rules stood.pending stood.rows =
    (matches refl).0 ∙ ap (λ w. finished enumerate_rules w.held) stood.end ∙ finished_two Workers Budget stood.rows stood.pending in
    one_text-rows (found_of m) (name_of s) ∙ ap (one_of (name_of s)) rows
    ∙ text_found (settled_rows enumerate_rules stood.pending stood.rows) e.made.seen s stood.tells e.made.ranged

workers_in_range : (o : Option (List ℕ)) → InRange Workers o → (1 ≤ unwrap_or (option_map (digits_value 10) o) 1) × (unwrap_or (option_map (digits_value 10) o) 1 ≤ 16)
workers_in_range None h = (omega arith, omega arith)
workers_in_range (Some v) h = let f = range_parts Workers v (h v refl) in (least Workers v f, most Workers v f)

-- the getter of an option, by what its type reads
abbrev pub Gets : {E : Type 0} → (List ℕ → Result ℕ E → Type 0) → ArgMatches → Text → Option ℕ → Type 0
Gets G m id r = (one_text (found_of m) id ≡ None → r ≡ None) × ((t : List ℕ) → one_text (found_of m) id ≡ Some t → ReadsOne G t r)

abbrev pub IsReader : {E : Type 0} → (List ℕ → Result ℕ E → Type 0) → ℕ → Type 0
IsReader {E} G k = (u : List ℕ) (x : Result ℕ E) → G u x → ParsesUnsigned k 10 u x

pub enumerate_says : {E F : Type 0} (G : List ℕ → Result ℕ E → Type 0) (H : List ℕ → Result ℕ F → Type 0) → IsReader G 32 → IsReader H 64
    → (words : List Text) (c : Command) → option_and_then enumerate_by (options_of words) ≡ Some c
    → (m : ArgMatches) → HasMatchesOf enumerate_app words m
    → (w b : Option ℕ) → Gets G m (codes "workers") w → Gets H m (codes "budget") b
    → (option_and_then enumerate_by (options_of words) ≡ Some (Enumerate (unwrap_or w 1) b)) × IsInRange (Enumerate (unwrap_or w 1) b)
enumerate_says G H reads_g reads_h words c h m matches w b gets_w gets_b =
    let e = enumerates words c h in
    let seen = e.made.seen in
    let workers : w ≡ option_map (digits_value 10) (text_of Workers seen) =
    numbers_read G 32 reads_g Workers _ (text_of Workers seen) w (enumerate_found words c h m matches Workers) (e.made.ranged Workers) (omega arith) gets_w.0 gets_w.1 in
    let budget : b ≡ option_map (digits_value 10) (text_of Budget seen) =
    numbers_read H 64 reads_h Budget _ (text_of Budget seen) b (enumerate_found words c h m matches Budget) (e.made.ranged Budget) (omega arith) gets_b.0 gets_b.1 in
    let same : Enumerate (unwrap_or w 1) b ≡ c =
    ap₂ (λ x y. Enumerate (unwrap_or x 1) y) (workers ∙ ap (λ x. x.workers) e.made.said) (budget ∙ ap (λ x. x.budget) e.made.said) ∙ e.is in
    (h ∙ ap Some (sym same), subst (λ x. (1 ≤ unwrap_or x 1) × (unwrap_or x 1 ≤ 16)) (sym workers) (workers_in_range (text_of Workers seen) (e.made.ranged Workers)))

-- ---- drill

abbrev drill_rules : List Rule
drill_rules = built_rule Size ∷ (built_rule Workers ∷ [])

drill_knows : (s : Setting) (seen : History) → text_of Budget seen ≡ None → is_some (text_of s seen) ≡ true → Knows drill_rules s
drill_knows Workers seen none some = record { by_long = refl; by_id = refl }
drill_knows Size seen none some = record { by_long = refl; by_id = refl }
drill_knows Budget seen none some =
    let bad : false ≡ true = ap is_some (sym none) ∙ some in
    absurd cc

map_parts : {X Y : Type 0} (f : X → Y) (o : Option X) (y : Y) → option_map f o ≡ Some y → (x : X) × (o ≡ Some x) × (f x ≡ y)
map_parts f None y h = absurd cc
map_parts f (Some x) y h = (x, refl, some_same h)

pub record Drills (words : List Text) (c : Command) : Type 0 where
  pub reading : Reading
  pub made : Read (codes "drill") drill_rules words reading
  pub size : ℕ
  pub size_is : reading.size ≡ Some size
  pub is : Drill size (unwrap_or reading.workers 1) ≡ c

drills : (words : List Text) (c : Command) → option_and_then drill_by (options_of words) ≡ Some c → Drills words c
drills words c h =
    let (r, options, by) = then_parts drill_by (options_of words) c h in
    elim (chosen (is_some r.waiting || is_some r.budget) None (option_map (λ n. Drill n (unwrap_or r.workers 1)) r.size) (Some c) by) [
      | inl bad ↦ absurd (let no = bad.1 in cc)
      | inr ok ↦
          let (waiting, budget) = or_parts (is_some r.waiting) (is_some r.budget) ok.0 in
          let (n, size, is) = map_parts (λ n. Drill n (unwrap_or r.workers 1)) r.size c ok.1 in
          record {
            reading = r;
            made = read (codes "drill") drill_rules words r options (none_of r.waiting waiting)
                (λ s seen said some. drill_knows s seen
                (no_text (text_of Budget seen) (ap (λ x. x.budget) said ∙ none_of r.budget budget)) some);
            size = n;
            size_is = size;
            is = is;
          }
    ]

given_from : (o : Option (List ℕ)) (n : ℕ) → option_map (digits_value 10) o ≡ Some n
    → option_map_or (λ r. explicit_source r.source) (option_map (row_for Size) o) false ≡ true
given_from None n h = absurd cc
given_from (Some v) n h = refl

pub drill_takes : (words : List Text) (c : Command) → option_and_then drill_by (options_of words) ≡ Some c → takes drill_app words ≡ true
drill_takes words c h =
    let d = drills words c h in
    let stood = d.made.stood in
    let given : is_given (name_of Size) (finished drill_rules (held_at stood.rows stood.pending)) ≡ true =
    ap (is_given (name_of Size)) (finished_two Size Workers stood.rows stood.pending)
    ∙ ap (λ o. option_map_or (λ r. explicit_source r.source) o false) (stood.tells Size)
    ∙ given_from (text_of Size d.made.seen) d.size (ap (λ x. x.size) d.made.said ∙ d.size_is) in
    let valid : is_valid (built_shape (codes "drill") drill_rules) (finished drill_rules (held_at stood.rows stood.pending)) false ≡ true = rw given refl in
    taken (codes "drill") drill_rules words d.made.seen stood refl valid

drill_found : (words : List Text) (c : Command) (h : option_and_then drill_by (options_of words) ≡ Some c) (m : ArgMatches)
    → HasMatchesOf drill_app words m → (s : Setting) → one_text (found_of m) (name_of s) ≡ text_of s (drills words c h).made.seen
drill_found words c h m matches s =
    let d = drills words c h in
    let stood = d.made.stood in
    let rows : rows_of (found_of m) ≡ settled_rows drill_rules stood.pending stood.rows =
    (matches refl).0 ∙ ap (λ w. finished drill_rules w.held) stood.end ∙ finished_two Size Workers stood.rows stood.pending in
    one_text-rows (found_of m) (name_of s) ∙ ap (one_of (name_of s)) rows
    ∙ text_found (settled_rows drill_rules stood.pending stood.rows) d.made.seen s stood.tells d.made.ranged

size_in_range : (o : Option (List ℕ)) (n : ℕ) → InRange Size o → option_map (digits_value 10) o ≡ Some n → n ≤ 48
size_in_range None n h e = absurd cc
size_in_range (Some v) n h e =
    let f = range_parts Size v (h v refl) in
    subst (λ x. x ≤ 48) (some_same e) (most Size v f)

-- the size is there, and it and the workers are those of the command
pub drill_says : {E : Type 0} (G : List ℕ → Result ℕ E → Type 0) → IsReader G 32
    → (words : List Text) (c : Command) → option_and_then drill_by (options_of words) ≡ Some c
    → (m : ArgMatches) → HasMatchesOf drill_app words m
    → (z w : Option ℕ) → Gets G m (codes "size") z → Gets G m (codes "workers") w
    → (n : ℕ) × (z ≡ Some n) × (option_and_then drill_by (options_of words) ≡ Some (Drill n (unwrap_or w 1))) × IsInRange (Drill n (unwrap_or w 1))
drill_says G reads words c h m matches z w gets_z gets_w =
    let d = drills words c h in
    let seen = d.made.seen in
    let size : z ≡ option_map (digits_value 10) (text_of Size seen) =
    numbers_read G 32 reads Size _ (text_of Size seen) z (drill_found words c h m matches Size) (d.made.ranged Size) (omega arith) gets_z.0 gets_z.1 in
    let workers : w ≡ option_map (digits_value 10) (text_of Workers seen) =
    numbers_read G 32 reads Workers _ (text_of Workers seen) w (drill_found words c h m matches Workers) (d.made.ranged Workers) (omega arith) gets_w.0 gets_w.1 in
    let said : option_map (digits_value 10) (text_of Size seen) ≡ Some d.size = ap (λ x. x.size) d.made.said ∙ d.size_is in
    let same : Drill d.size (unwrap_or w 1) ≡ c = ap (λ x. Drill d.size (unwrap_or x 1)) (workers ∙ ap (λ x. x.workers) d.made.said) ∙ d.is in
    let below : d.size ≤ 48 = size_in_range (text_of Size seen) d.size (d.made.ranged Size) said in
    let few = subst (λ x. (1 ≤ unwrap_or x 1) × (unwrap_or x 1 ≤ 16)) (sym workers) (workers_in_range (text_of Workers seen) (d.made.ranged Workers)) in
    (d.size, size ∙ said, h ∙ ap Some (sym same), (below, few))

-- ---- check

pub check_takes : takes check_app [] ≡ true
unfolding clap_on_literals
check_takes = refl

pub some_of : {X : Type 0} (o : Option X) → is_some o ≡ true → (x : X) × (o ≡ Some x)
some_of None h = absurd cc
some_of (Some x) h = (x, refl)
