use Rattle.std.proofs.Common.{◌≡◌, ◌<◌, ◌-◌, ◌+◌, ◌*◌, ◌^◌, min, true, false, length, get_or, ap₂, ◌∙◌, rules}
use Rattle.std.specs.Char.{is_ascii_digit}
use Rattle.command_words.proofs.Digits.{no_number, digits_more, value_more}
use Rattle.command_words.proofs.number.number_upto.Goals as goal

pub returns-then-not-is_ascii_digit-clause-number :
    goal.returns-then-not-is_ascii_digit-clause-number
returns-then-not-is_ascii_digit-clause-number c =
    let text = c.args.text.now in
    let i = c.loop-byte.byte-index in
    let inside : i < length text = c.loop-byte-test.true in
    let none : is_ascii_digit (get_or text i 0) ≡ false = search rules in
    no_number c.args.most text i 0 inside none

pub loop-byte-preserved : goal.loop-byte-preserved
loop-byte-preserved c =
    let text = c.args.text.now in
    let i = c.loop-byte.byte-index in
    let inside : i < length text = c.loop-byte-test.true in
    let here : is_ascii_digit (get_or text i 0) ≡ true = search rules in
    let cap = 2 ^ 64 - 1 in
    let digit : c.from.result ≡ get_or text i 0 - 48 = search rules in
    let product : c.saturating_mul.result ≡ min (c.loop-byte.value * 10) cap = c.saturating_mul.ensures in
    let sum : c.saturating_add-value.result ≡ min (c.saturating_mul.result + c.from.result) cap = c.saturating_add-value.ensures in
    record {
      digits = digits_more text i 0 inside c.loop-byte.invariant.digits here;
      value = sum ∙ ap₂ (λ x y. min (x + y) cap) product digit ∙ value_more text i 0 c.loop-byte.value cap inside here c.loop-byte.invariant.value;
    }
