-- A buffered writer's steps: what it was handed goes out, or is kept back.
use Rattle.std.proofs.Common.{◌≡◌, ℕ, Bool, true, false, List, [], ◌++◌, Result, Ok, Err, is_err, sym, ◌∙◌, ap, subst, append_assoc}
use Rattle.std.proofs.lemmas.List.{append-nil}
use Rattle.fault_io.specs.Sinks.{SinkView, TakesBytes, TakesFront, TakesWhole}
use Rattle.fault_io.proofs.Taking.{takes_nothing, takes_more, takes_front, front_longer}
use Rattle.cube_text.specs.Buffered.{BufferedView, WentOut, IsWrittenOut, Wrote}

-- the step of a writer from b, over what the sink showed, to c
abbrev pub Hands : SinkView → BufferedView → SinkView → BufferedView → List ℕ → Type 0
Hands old b new c piece = (start : SinkView) (text : List ℕ) →
    Wrote start old text b → Wrote start new (text ++ piece) c

-- a writer that was just made was handed nothing
pub Wrote-nil : (start : SinkView) → Wrote start start [] (record { kept = []; failed = false })
Wrote-nil start = record { gone = []; all = append-nil []; taken = takes_nothing start }

-- the piece is kept back behind what was
IsOut-keep : (start now : SinkView) (text kept piece : List ℕ) (failed : Bool) →
    IsWrittenOut start now text kept failed → IsWrittenOut start now (text ++ piece) (kept ++ piece) failed
IsOut-keep start now text kept piece false out = record {
  gone = out.gone;
  all = sym (append_assoc out.gone kept piece) ∙ ap (λ (l : List ℕ). l ++ piece) out.all;
  taken = out.taken;
}
IsOut-keep start now text kept piece true out = front_longer start now text piece out

-- a piece that is kept back is handed in
pub Hands-keep : (old : SinkView) (b c : BufferedView) (piece : List ℕ) →
    c ≡ record b { kept = b.kept ++ piece } → Hands old b old c piece
Hands-keep old b c piece is start text wrote =
    subst (λ (v : BufferedView). Wrote start old (text ++ piece) v) (sym is)
    (IsOut-keep start old text b.kept piece b.failed wrote)

-- what went out and what was kept back, and then the piece
all_of : (gone kept piece all text : List ℕ) → all ≡ kept ++ piece → gone ++ kept ≡ text →
    gone ++ all ≡ text ++ piece
all_of gone kept piece all text all_is text_is =
    ap (λ (l : List ℕ). gone ++ l) all_is
    ∙ sym (append_assoc gone kept piece)
    ∙ ap (λ (l : List ℕ). l ++ piece) text_is

-- what was kept back and the piece were put, in one call
pub Wrote-put : {T E : Type 0} (start old now : SinkView) (text piece all : List ℕ)
    (b c : BufferedView) (result : Result T E) → b.failed ≡ false → all ≡ b.kept ++ piece →
    TakesWhole old now all result → c.kept ≡ [] → c.failed ≡ is_err result →
    Wrote start old text b → Wrote start now (text ++ piece) c
Wrote-put start old now text piece all b c (Ok r) going all_is put kept_is failed_is wrote =
    let out = subst (λ (f : Bool). IsWrittenOut start old text b.kept f) going wrote in
    let whole = all_of out.gone b.kept piece all text all_is out.all in
    let now_out : WentOut start now (text ++ piece) [] = record {
      gone = out.gone ++ all;
      all = append-nil (out.gone ++ all) ∙ whole;
      taken = takes_more start old now out.gone all out.taken put;
    } in
    subst (λ (f : Bool). IsWrittenOut start now (text ++ piece) c.kept f) (sym failed_is)
    (subst (λ (k : List ℕ). WentOut start now (text ++ piece) k) (sym kept_is) now_out)
Wrote-put start old now text piece all b c (Err e) going all_is put kept_is failed_is wrote =
    let out = subst (λ (f : Bool). IsWrittenOut start old text b.kept f) going wrote in
    let whole = all_of out.gone b.kept piece all text all_is out.all in
    subst (λ (f : Bool). IsWrittenOut start now (text ++ piece) c.kept f) (sym failed_is)
    (subst (λ (l : List ℕ). TakesFront start now l) whole
    (takes_front start old now out.gone all out.taken put))

-- one piece after another
pub Hands-more : (old : SinkView) (b : BufferedView) (mid : SinkView) (c : BufferedView)
    (new : SinkView) (d : BufferedView) (xs ys : List ℕ) →
    Hands old b mid c xs → Hands mid c new d ys → Hands old b new d (xs ++ ys)
Hands-more old b mid c new d xs ys first second start text wrote =
    subst (λ (l : List ℕ). Wrote start new l d) (append_assoc text xs ys)
    (second start (text ++ xs) (first start text wrote))

-- a writer that is left as it was, and then a piece
pub Hands-same : (old : SinkView) (a b : BufferedView) (new : SinkView) (c : BufferedView)
    (piece : List ℕ) → a ≡ b → Hands old a new c piece → Hands old b new c piece
Hands-same old a b new c piece same hands =
    subst (λ (v : BufferedView). Hands old v new c piece) same hands

-- where nothing is kept back and nothing failed, all is out
pub Wrote-whole : (start now : SinkView) (text : List ℕ) (b : BufferedView) →
    b.kept ≡ [] → b.failed ≡ false → Wrote start now (text ++ []) b → TakesBytes start now text
Wrote-whole start now text b empty going wrote =
    let out = subst (λ (f : Bool). IsWrittenOut start now (text ++ []) b.kept f) going wrote in
    let all : out.gone ≡ text =
    sym (append-nil out.gone) ∙ ap (λ (l : List ℕ). out.gone ++ l) (sym empty) ∙ out.all ∙ append-nil text in
    subst (λ (l : List ℕ). TakesBytes start now l) all out.taken

-- where the sink failed, a front is out
pub Wrote-front : (start now : SinkView) (text : List ℕ) (b : BufferedView) → b.failed ≡ true →
    Wrote start now text b → TakesFront start now text
Wrote-front start now text b fell wrote =
    subst (λ (f : Bool). IsWrittenOut start now text b.kept f) fell wrote

-- the same bytes, written otherwise
pub Hands-along : (old : SinkView) (b : BufferedView) (new : SinkView) (c : BufferedView)
    (xs ys : List ℕ) → xs ≡ ys → Hands old b new c xs → Hands old b new c ys
Hands-along old b new c xs ys same hands =
    subst (λ (l : List ℕ). Hands old b new c l) same hands

pub Wrote-along : (start now : SinkView) (xs ys : List ℕ) (b : BufferedView) → xs ≡ ys →
    Wrote start now xs b → Wrote start now ys b
Wrote-along start now xs ys b same wrote = subst (λ (l : List ℕ). Wrote start now l b) same wrote
