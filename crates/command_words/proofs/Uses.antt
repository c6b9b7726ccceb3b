-- The words of a command as a list of options with their numbers.
use Rattle.std.proofs.Common.{◌≡◌, ℕ, ◌^◌, Bool, true, false, cond, ◌&&◌, nat_le, List, [], ◌∷◌, ◌++◌, length, take, drop, Option, Some, None, is_some, option_map, codes, sym, refl, ap, ap₂, subst, ◌∙◌, inl, inr, ◌⊎◌, take-append-drop}
use Rattle.std.specs.Option.{option_and_then}
use Rattle.std.specs.Str.{all_ascii_digits, bytes_eq}
use Rattle.std.specs.Str.Parse.{digits_value}
use Rattle.std.proofs.lemmas.Slice.Eq.{bytes_eq-Decides}
use Rattle.command_words.specs.declared.reading.Setting.{Setting}
use Rattle.command_words.specs.declared.reading.Setting.TheVariants.{Workers, Budget, Size}
use Rattle.command_words.specs.declared.reading.Reading.{Reading}
use Rattle.command_words.specs.Commands.{rest_behind, with_rest, with_value, with_name, with_word, with_words}

abbrev pub name_of : Setting → List ℕ
name_of Workers = codes "workers"
name_of Budget = codes "budget"
name_of Size = codes "size"

-- `--workers`
abbrev pub alone_word : Setting → List ℕ
alone_word s = 45 ∷ (45 ∷ name_of s)

-- `--workers=4`
abbrev pub joined_word : Setting → List ℕ → List ℕ
joined_word s value = 45 ∷ (45 ∷ (name_of s ++ (61 ∷ value)))

-- an option with its number, in two words or in one
pub data Use : Type 0 where
  apart : Setting → List ℕ → Use
  joined : Setting → List ℕ → Use

-- options with their numbers, the newest first
abbrev pub History : Type 0
History = List (Setting × List ℕ)

abbrev pub words_of : List Use → List (List ℕ)
words_of [] = []
words_of (apart s v ∷ uses) = alone_word s ∷ (v ∷ words_of uses)
words_of (joined s v ∷ uses) = joined_word s v ∷ words_of uses

abbrev pub pushed_on : List Use → History → History
pushed_on [] seen = seen
pushed_on (apart s v ∷ uses) seen = pushed_on uses ((s, v) ∷ seen)
pushed_on (joined s v ∷ uses) seen = pushed_on uses ((s, v) ∷ seen)

abbrev pub is_same : Setting → Setting → Bool
is_same Workers Workers = true
is_same Budget Budget = true
is_same Size Size = true
is_same _ _ = false

-- the text behind an option
abbrev pub text_of : Setting → History → Option (List ℕ)
text_of s [] = None
text_of s (u ∷ seen) = cond (is_same s u.0) (Some u.1) (text_of s seen)

abbrev pub most_of : Setting → ℕ
most_of Workers = 16
most_of Budget = 2 ^ 62
most_of Size = 48

abbrev pub in_range : Setting → List ℕ → Bool
in_range s v = all_ascii_digits v && (nat_le 1 (digits_value 10 v) && nat_le (digits_value 10 v) (most_of s))

-- what the options say
abbrev pub told : Option Setting → History → Reading
told waiting seen = record {
  waiting = waiting;
  workers = option_map (digits_value 10) (text_of Workers seen);
  budget = option_map (digits_value 10) (text_of Budget seen);
  size = option_map (digits_value 10) (text_of Size seen);
}

-- each option is new, and its number in its range
abbrev pub AreNew : History → List Use → Type 0
AreNew seen [] = Unit {0}
AreNew seen (apart s v ∷ uses) = (text_of s seen ≡ None) × ((in_range s v ≡ true) × AreNew ((s, v) ∷ seen) uses)
AreNew seen (joined s v ∷ uses) = (text_of s seen ≡ None) × ((in_range s v ≡ true) × AreNew ((s, v) ∷ seen) uses)

pub some_same : {X : Type 0} {x y : X} → Some x ≡ Some y → x ≡ y
some_same h = cc

pub chosen : {X : Type 0} (b : Bool) (x y z : X) → cond b x y ≡ z → ((b ≡ true) × (x ≡ z)) ⊎ ((b ≡ false) × (y ≡ z))
chosen true x y z h = inl (refl, h)
chosen false x y z h = inr (refl, h)

pub then_parts : {X Y : Type 0} (f : X → Option Y) (o : Option X) (y : Y) → option_and_then f o ≡ Some y → (x : X) × (o ≡ Some x) × (f x ≡ Some y)
then_parts f None y h = absurd cc
then_parts f (Some x) y h = (x, refl, h)

-- ---- one value

opened : (o : Option (List ℕ)) (test : Bool) (n : ℕ) (f : ℕ → Reading) (r : Reading)
    → cond (is_some (option_map (digits_value 10) o)) None (option_map f (cond test (Some n) None)) ≡ Some r
    → (o ≡ None) × (test ≡ true) × (f n ≡ r)
opened (Some x) test n f r h = absurd cc
opened None true n f r h = (refl, refl, some_same h)
opened None false n f r h = absurd cc

value_told : (s : Setting) (v : List ℕ) (w : Option Setting) (seen : History) (r : Reading) → with_value s v (told w seen) ≡ Some r
    → (text_of s seen ≡ None) × (in_range s v ≡ true) × (told None ((s, v) ∷ seen) ≡ r)
value_told Workers v w seen r h = opened (text_of Workers seen) (in_range Workers v) (digits_value 10 v) (λ n. record (told w seen) { waiting = None; workers = Some n }) r h
value_told Budget v w seen r h = opened (text_of Budget seen) (in_range Budget v) (digits_value 10 v) (λ n. record (told w seen) { waiting = None; budget = Some n }) r h
value_told Size v w seen r h = opened (text_of Size seen) (in_range Size v) (digits_value 10 v) (λ n. record (told w seen) { waiting = None; size = Some n }) r h

-- ---- one word

behind : (s : Setting) (r : Reading) (other : Option Reading) (front word : List ℕ) (next : Reading) → with_rest s r other (rest_behind front word) ≡ Some next
    → ((word ≡ front ++ drop (length front) word) × (with_value s (drop (length front) word) r ≡ Some next)) ⊎ (other ≡ Some next)
behind s r other front word next h = go (bytes_eq (take (length front) word) front) refl h
  where
    go : (b : Bool) → bytes_eq (take (length front) word) front ≡ b → with_rest s r other (cond b (Some (drop (length front) word)) None) ≡ Some next
        → ((word ≡ front ++ drop (length front) word) × (with_value s (drop (length front) word) r ≡ Some next)) ⊎ (other ≡ Some next)
    go true e h = inl (sym (take-append-drop (length front) word) ∙ ap (λ t. t ++ drop (length front) word) ((bytes_eq-Decides (take (length front) word) front).0 e), h)
    go false e h = inr h

-- what a word is where no option waits for its number
abbrev IsNamed : List ℕ → Reading → Reading → Type 0
IsNamed word r next =
    ((s : Setting) × (word ≡ alone_word s) × (record r { waiting = Some s } ≡ next))
    ⊎ ((s : Setting) × (v : List ℕ) × (word ≡ joined_word s v) × (with_value s v r ≡ Some next))

named : (word : List ℕ) (r next : Reading) → with_name word r ≡ Some next → IsNamed word r next
named word r next h = elim (chosen (bytes_eq word (codes "--workers")) _ _ _ h) [
  | inl w ↦ inl (Workers, (bytes_eq-Decides word (codes "--workers")).0 w.0, some_same w.1)
  | inr w ↦ elim (chosen (bytes_eq word (codes "--budget")) _ _ _ w.1) [
    | inl b ↦ inl (Budget, (bytes_eq-Decides word (codes "--budget")).0 b.0, some_same b.1)
    | inr b ↦ elim (chosen (bytes_eq word (codes "--size")) _ _ _ b.1) [
      | inl z ↦ inl (Size, (bytes_eq-Decides word (codes "--size")).0 z.0, some_same z.1)
      | inr z ↦ both z.1
    ]
  ]
]
  where
    third : with_rest Size r None (rest_behind (codes "--size=") word) ≡ Some next → IsNamed word r next
    third k = elim (behind Size r None (codes "--size=") word next k) [
      | inl v ↦ inr (Size, drop 7 word, v.0, v.1)
      | inr none ↦ absurd cc
    ]

    second : with_rest Budget r (with_rest Size r None (rest_behind (codes "--size=") word)) (rest_behind (codes "--budget=") word) ≡ Some next → IsNamed word r next
    second k = elim (behind Budget r _ (codes "--budget=") word next k) [
      | inl v ↦ inr (Budget, drop 9 word, v.0, v.1)
      | inr other ↦ third other
    ]

    both : with_rest Workers r (with_rest Budget r (with_rest Size r None (rest_behind (codes "--size=") word)) (rest_behind (codes "--budget=") word)) (rest_behind (codes "--workers=") word) ≡ Some next
        → IsNamed word r next
    both k = elim (behind Workers r _ (codes "--workers=") word next k) [
      | inl v ↦ inr (Workers, drop 10 word, v.0, v.1)
      | inr other ↦ second other
    ]

-- ---- all the words

-- the words from the name of the option that waits on
abbrev from_waiting : Option Setting → List (List ℕ) → List (List ℕ)
from_waiting None words = words
from_waiting (Some s) words = alone_word s ∷ words

pub record AreUses (waiting : Option Setting) (seen : History) (words : List (List ℕ)) (r : Reading) : Type 0 where
  pub uses : List Use
  pub words_are : from_waiting waiting words ≡ words_of uses
  pub said : told None (pushed_on uses seen) ≡ r
  pub new : AreNew seen uses

-- words that make a reading where nothing waits are options with their numbers
pub uses_told : (words : List (List ℕ)) (waiting : Option Setting) (seen : History) (r : Reading)
    → with_words words (told waiting seen) ≡ Some r → r.waiting ≡ None → AreUses waiting seen words r
uses_told [] None seen r h idle = record { uses = []; words_are = refl; said = some_same h; new = tt }
uses_told [] (Some s) seen r h idle =
    let bad : Some s ≡ None = ap (λ x. x.waiting) (some_same h) ∙ idle in
    absurd cc
uses_told (word ∷ words) (Some s) seen r h idle =
    let (x, step, rest) = then_parts (λ x. with_words words x) (with_word word (told (Some s) seen)) r h in
    let value = value_told s word (Some s) seen x step in
    let later = uses_told words None ((s, word) ∷ seen) r (subst (λ y. with_words words y ≡ Some r) (sym value.2) rest) idle in
    record {
      uses = apart s word ∷ later.uses;
      words_are = ap (λ ws. alone_word s ∷ (word ∷ ws)) later.words_are;
      said = later.said;
      new = (value.0, (value.1, later.new));
    }
uses_told (word ∷ words) None seen r h idle =
    let (x, step, rest) = then_parts (λ x. with_words words x) (with_word word (told None seen)) r h in
    elim (named word (told None seen) x step) [
      | inl (s, is, next) ↦
          let later = uses_told words (Some s) seen r (subst (λ y. with_words words y ≡ Some r) (sym next) rest) idle in
          record {
            uses = later.uses;
            words_are = ap (λ w. w ∷ words) is ∙ later.words_are;
            said = later.said;
            new = later.new;
          }
      | inr (s, v, is, next) ↦
          let value = value_told s v None seen x next in
          let later = uses_told words None ((s, v) ∷ seen) r (subst (λ y. with_words words y ≡ Some r) (sym value.2) rest) idle in
          record {
            uses = joined s v ∷ later.uses;
            words_are = ap₂ (λ w ws. w ∷ ws) is later.words_are;
            said = later.said;
            new = (value.0, (value.1, later.new));
          }
    ]
