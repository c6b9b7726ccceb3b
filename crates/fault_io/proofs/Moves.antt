-- Bytes that move between a list and a buffer, and a piece that goes out in parts.
use Rattle.std.proofs.Common.{◌≡◌, ℕ, ◌+◌, ◌-◌, ◌<◌, ◌≤◌, List, [], ◌++◌, length, take, drop, min, sym, ◌∙◌, ap, subst, arith, length-take, length-drop}
use Rattle.std.proofs.lemmas.List.{take-append-drop, take_at, take_all, drop-drop, drop_all}
use Rattle.std.proofs.Math.Seq.{take-add}
use Rattle.fault_io.specs.Sinks.{SinkView, TakesBytes, SinkFails, TakesFront}
use Rattle.fault_io.proofs.Taking.{takes_more, takes_and_fails, front_longer}

-- the rest of a list, cut at its own length, is the rest
rest_is : (at : ℕ) (xs : List ℕ) → take (length xs - at) (drop at xs) ≡ drop at xs
rest_is at xs = take_all (length xs - at) (drop at xs) (omega (arith, length-drop at xs))

-- n bytes of what is left stand at the front of the buffer, and the others are left
pub moved : (bytes seen copied behind left : List ℕ) (at n : ℕ) → left ≡ drop at bytes → seen ≡ bytes →
    copied ≡ take n (take (length seen - at) (drop at seen)) → n ≤ length (take (length seen - at) (drop at seen)) →
    left ≡ take n (copied ++ behind) ++ drop (at + n) bytes
moved bytes seen copied behind left at n left_is seen_is copied_is fits =
    let rest : take (length seen - at) (drop at seen) ≡ left = rest_is at seen ∙ ap (λ (l : List ℕ). drop at l) seen_is ∙ sym left_is in
    let front : copied ≡ take n left = copied_is ∙ ap (λ (l : List ℕ). take n l) rest in
    let within : n ≤ length left = subst (λ (l : List ℕ). n ≤ length l) rest fits in
    let size : length copied ≡ n = omega (arith, ap length front, length-take n left) in
    let behind_is : drop n left ≡ drop (at + n) bytes = ap (λ (l : List ℕ). drop n l) left_is ∙ drop-drop n at bytes in
    sym (ap (λ (l : List ℕ). l ++ drop (at + n) bytes) (take_at copied behind n size ∙ front)
    ∙ ap (λ (l : List ℕ). take n left ++ l) (sym behind_is)
    ∙ take-append-drop n left)

-- no byte moved only where none is left
pub none_moved : (bytes seen : List ℕ) (at n share step room : ℕ) → seen ≡ bytes → n ≡ min share (length (take (length seen - at) (drop at seen))) →
    share ≡ min step room → 0 < step → 0 < room → n ≡ 0 → drop (at + n) bytes ≡ []
none_moved bytes seen at n share step room seen_is count_is share_is some_step some_room none =
    let size : length (take (length seen - at) (drop at seen)) ≡ length bytes - at =
    ap length (rest_is at seen) ∙ length-drop at seen ∙ ap (λ (l : List ℕ). length l - at) seen_is in
    drop_all (at + n) bytes (omega arith)

-- one more part of the piece went out
pub part_more : (a b c : SinkView) (piece : List ℕ) (at n : ℕ) → TakesBytes a b (take at piece) →
    TakesBytes b c (take n (take (length piece - at) (drop at piece))) → TakesBytes a c (take (at + n) piece)
part_more a b c piece at n first second =
    let next : List ℕ = take n (take (length piece - at) (drop at piece)) in
    let parts : take at piece ++ next ≡ take (at + n) piece =
    ap (λ (l : List ℕ). take at piece ++ take n l) (rest_is at piece) ∙ sym (take-add at n piece) in
    subst (λ (l : List ℕ). TakesBytes a c l) parts (takes_more a b c (take at piece) next first second)

-- and no other did
pub part_front : (a b c : SinkView) (piece : List ℕ) (at : ℕ) → TakesBytes a b (take at piece) →
    SinkFails b c → TakesFront a c piece
part_front a b c piece at first fails =
    subst (λ (l : List ℕ). TakesFront a c l) (take-append-drop at piece)
    (front_longer a c (take at piece) (drop at piece) (takes_and_fails a b c (take at piece) first fails))
