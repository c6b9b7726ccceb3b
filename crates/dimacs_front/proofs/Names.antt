-- Behind a show line a variable is named just if it was named before, or is one of its variables.
use Rattle.std.proofs.Common.{◌≡◌, ℕ, Bool, true, false, cond, ◌||◌, eqb, List, [], ◌∷◌, ◌++◌, refl, sym, ap, ◌∙◌}
use Rattle.std.specs.List.{list_any}
use Rattle.std.proofs.lemmas.Bool.{eqb-true}
use Rattle.std.proofs.Math.Bool.{or-false, or_assoc}
use Rattle.std.proofs.lemmas.List.Folds.{list_any-append}
use Rattle.dimacs_front.specs.declared.show_lines.Named.{Named}
use Rattle.dimacs_front.specs.Machine.{is_named, name_once}
use Rattle.dimacs_front.proofs.MachineLines.{named_in, names_behind}

-- a test that the first one follows from
or_implied : (x y : Bool) → (y ≡ true → x ≡ true) → x ≡ (x || y)
or_implied true y h = refl
or_implied false true h = h refl
or_implied false false h = refl

-- one more name
once_named-at : (q : Bool) (named : List Named) (m : Named) (v : ℕ) →
    is_named named m.variable ≡ q →
    is_named (cond q named (named ++ m ∷ [])) v ≡ (is_named named v || eqb m.variable v)
once_named-at true named m v e =
    or_implied (is_named named v) (eqb m.variable v)
    (λ same. ap (is_named named) (sym (eqb-true m.variable v same)) ∙ e)
once_named-at false named m v e =
    list_any-append (λ (k : Named). eqb k.variable v) named (m ∷ [])
    ∙ ap (λ b. is_named named v || b) (or-false (eqb m.variable v))

pub once_named : (named : List Named) (m : Named) (v : ℕ) →
    is_named (name_once named m) v ≡ (is_named named v || eqb m.variable v)
once_named named m v = once_named-at (is_named named m.variable) named m v refl

pub names_told : (n : ℕ) (named : List Named) (vs : List ℕ) (v : ℕ) →
    is_named (names_behind n named vs) v ≡ (is_named named v || list_any (λ w. eqb w v) vs)
names_told n named [] v = sym (or-false (is_named named v))
names_told n named (w ∷ vs) v =
    names_told n (name_once named (named_in n w)) vs v
    ∙ ap (λ b. b || list_any (λ u. eqb u v) vs) (once_named named (named_in n w) v)
    ∙ or_assoc (is_named named v) (eqb w v) (list_any (λ u. eqb u v) vs)
