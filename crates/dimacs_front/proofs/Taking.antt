-- The bytes taken from a source so far, the reader behind them, and what an answer then says of them.
use Rattle.std.proofs.Common.{◌≡◌, ℕ, ◌+◌, ◌-◌, ◌<◌, ◌≤◌, ◌⊎◌, false, List, [], ◌++◌, length, take, drop, Option, Some, None, Result, Ok, Err, refl, sym, ap, ◌∙◌, inl, inr, ⊎_elim, subst, append-nil, append_assoc, take-append-drop, length-append, arith}
use Rattle.std.proofs.lemmas.Bool.{cases_lt}
use Rattle.dimacs_tokens.specs.Cuts.{cut_lines, cut_tokens}
use Rattle.dimacs_tokens.specs.Seen.{seen_token}
use Rattle.dimacs_tokens.specs.Reading.{Reading, reading_at, eats, lines_read, reading_of, text_ends}
use Rattle.dimacs_tokens.proofs.ReadingSteps.{reading_append}
use Rattle.std.specs.Result.{IsErrAnd}
use Rattle.std.specs.declared.alloc.AllocError.{AllocError}
use Rattle.fault_io.specs.Bytes.{Consumes, IsAtEnd}
use Rattle.fault_io.specs.Sources.{SourceView, GivesBytes, SourceFails}
use Rattle.fault_io.proofs.Consumes.{Consumes-Keeps}
use Rattle.fault_io.proofs.Giving.{gives_nothing, gives_more}
use Rattle.fault_io.proofs.Taking.{rose_behind}
use Rattle.dimacs_front.specs.declared.refused.TextRefused.{TextRefused}
use Rattle.dimacs_front.specs.declared.refused.ReadRefused.{ReadRefused}
use Rattle.dimacs_front.specs.declared.refused.ReadRefused.TheVariants.{Text, ReadFault, OutOfMemory}
use Rattle.dimacs_front.specs.declared.input.Input.{Input}
use Rattle.dimacs_front.specs.Limits.{most_bytes, piece_size}
use Rattle.dimacs_front.specs.Whole.{reads, stops}
use Rattle.dimacs_front.specs.MachineText.{TextView, text_at_start, eat_token, close_line, answer, long_by, long_answer}
use Rattle.dimacs_front.specs.Pieces.{Answered, behind, IsStopped, IsBeyond, FeedsOn}
use Rattle.dimacs_front.specs.Answers.{IsTooMuch, IsRefused, SaysOf, CountsFaults, IsAskedFor, ReadsText, TellsText}
use Rattle.dimacs_front.proofs.Stopping.{text_behind, lines_behind}
use Rattle.dimacs_front.proofs.ReadingOn.{stops_behind, stops_stay, reads-short, reads-longer, reads-beyond, reads-stopped}

-- the reader stands behind the bytes taken, and no complete line of them is refused
pub record TookText (old new : SourceView) (reader : Reading TextView) (count : ℕ) : Type 0 where
  pub bytes : List ℕ
  pub given : GivesBytes old new bytes
  pub read : reader ≡ text_behind bytes
  pub counted : length bytes ≡ count
  pub going : stops bytes ≡ None

behind_nothing : text_behind [] ≡ reading_at text_at_start (seen_token []) false
unfolding reading_of lines_read cut_lines cut_tokens eats
behind_nothing = refl

pub text_begun : (a : SourceView) (r : Reading TextView) →
    r ≡ reading_at text_at_start (seen_token []) false → TookText a a r 0
text_begun a r e = record {
  bytes = [];
  given = gives_nothing a;
  read = e ∙ sym behind_nothing;
  counted = refl;
  going = sym (stops_behind []) ∙ ap (λ (r : Reading TextView). r.state.stopped) behind_nothing;
}

behind_more : (bs piece : List ℕ) (r : Reading TextView) → r ≡ text_behind bs →
    behind r piece ≡ text_behind (bs ++ piece)
behind_more bs piece r e =
    ap (λ x. behind x piece) e ∙ sym (reading_append eat_token close_line text_at_start bs piece)

-- a piece was asked for
piece_asked : (old now : SourceView) (r : Reading TextView) (n : ℕ) (piece : List ℕ)
    (t : TookText old now r n) → n ≤ most_bytes → length piece ≤ piece_size →
    IsAskedFor (TookText.bytes t ++ piece)
piece_asked old now r n piece t within small = record {
  front = t.bytes;
  piece = piece;
  parts = refl;
  small = small;
  within = omega (arith, t.counted);
  going = t.going;
}

no_piece_asked : (old now : SourceView) (r : Reading TextView) (n : ℕ)
    (t : TookText old now r n) → n ≤ most_bytes → IsAskedFor (TookText.bytes t ++ [])
no_piece_asked old now r n t within = piece_asked old now r n [] t within (omega arith)

-- before the first byte
pub nothing_asked : IsAskedFor []
unfolding text_begun
nothing_asked =
    let a : SourceView = record { left = None; faults = 0 } in
    no_piece_asked a a (text_behind []) 0 (text_begun a (text_behind []) behind_nothing) (omega arith)

pub nothing_taken : (a : SourceView) (result : Result Input ReadRefused) →
    SaysOf a.left [] result → CountsFaults a.faults a.faults result → ReadsText a a result
nothing_taken a result says counted = record {
  bytes = [];
  consumed = (gives_nothing a).consumed;
  asked = nothing_asked;
  says = says;
  counted = counted;
}

pub nothing_read : (a : SourceView) (error : AllocError) (result : Result Input ReadRefused) →
    IsErrAnd result (λ e. e ≡ OutOfMemory error) → ReadsText a a result
nothing_read a error (Ok input) wanting = absurd wanting
nothing_read a error (Err failed) wanting =
    subst (λ (e : ReadRefused). ReadsText a a (Err e)) (sym wanting)
    (nothing_taken a (Err (OutOfMemory error)) tt refl)

pub text_more : (old now new : SourceView) (r s : Reading TextView) (n k : ℕ) (piece : List ℕ) →
    TookText old now r n → GivesBytes now new piece → s ≡ behind r piece → k ≡ n + length piece →
    s.state.stopped ≡ None → TookText old new s k
text_more old now new r s n k piece t c e f going =
    let read : s ≡ text_behind (t.bytes ++ piece) = e ∙ behind_more t.bytes piece r t.read in
    record {
      bytes = t.bytes ++ piece;
      given = gives_more old now new t.bytes piece t.given c;
      read = read;
      counted = length-append t.bytes piece ∙ ap (λ m. m + length piece) t.counted ∙ sym f;
      going = sym (stops_behind (t.bytes ++ piece))
          ∙ ap (λ (x : Reading TextView). x.state.stopped) (sym read)
          ∙ going;
    }

-- the source failed
pub text_fault : (old now new : SourceView) (r : Reading TextView) (n line : ℕ) →
    TookText old now r n → n ≤ most_bytes → SourceFails now new → line ≡ r.state.lines →
    ReadsText old new (Err (ReadFault (line + 1)))
text_fault old now new r n line t within fails e = record {
  bytes = t.bytes;
  consumed = Consumes-Keeps old.left now.left new.left t.bytes t.given.consumed fails.kept;
  asked = subst IsAskedFor (append-nil t.bytes) (no_piece_asked old now r n t within);
  says = record {
    going = t.going;
    open_line = ap (λ x. x + 1) (e ∙ ap (λ (x : Reading TextView). x.state.lines) t.read ∙ lines_behind t.bytes);
  };
  counted = rose_behind old.faults now.faults new.faults t.given.stands fails.rose;
}

gives_says : (left : Option (List ℕ)) (bs : List ℕ) (r : Reading TextView)
    (result : Result Input ReadRefused) → r ≡ text_behind bs → length bs ≤ most_bytes →
    IsAtEnd left → Answered (answer (text_ends eat_token close_line r)) result → SaysOf left bs result
gives_says left bs r (Ok input) e h at_end j = record {
  at_end = at_end;
  says = reads-short bs h ∙ ap (λ x. answer (text_ends eat_token close_line x)) (sym e) ∙ j;
}
gives_says left bs r (Err (Text x)) e h at_end j = record {
  found = inl at_end;
  says = reads-short bs h ∙ ap (λ x. answer (text_ends eat_token close_line x)) (sym e) ∙ j;
}
gives_says left bs r (Err (ReadFault line)) e h at_end j = absurd j
gives_says left bs r (Err (OutOfMemory error)) e h at_end j = tt

-- no answer of the reader itself is a read fault
gives_counted : (before now : ℕ) (o : Result Input TextRefused) (result : Result Input ReadRefused) →
    now ≡ before → Answered o result → CountsFaults before now result
gives_counted before now o (Ok input) stands j = stands
gives_counted before now o (Err (Text x)) stands j = stands
gives_counted before now o (Err (ReadFault line)) stands j = absurd j
gives_counted before now o (Err (OutOfMemory error)) stands j = stands

-- the source is at its end: it gave no byte
pub text_end : (old now new : SourceView) (r : Reading TextView) (n m : ℕ) (buf : List ℕ)
    (result : Result Input ReadRefused) → TookText old now r n → n ≤ most_bytes → m ≡ 0 →
    GivesBytes now new (take m buf) × (m ≡ 0 → IsAtEnd new.left) →
    Answered (answer (text_ends eat_token close_line r)) result → ReadsText old new result
text_end old now new r n m buf result t within e h j =
    let none : GivesBytes now new [] = subst (λ (k : ℕ). GivesBytes now new (take k buf)) e h.0 in
    let given = gives_more old now new t.bytes [] t.given none in
    record {
      bytes = t.bytes ++ [];
      consumed = given.consumed;
      asked = no_piece_asked old now r n t within;
      says = gives_says new.left (t.bytes ++ []) r result (t.read ∙ ap text_behind (sym (append-nil t.bytes))) (omega (arith, t.counted, ap length (append-nil t.bytes))) (h.1 e) j;
      counted = gives_counted old.faults new.faults (answer (text_ends eat_token close_line r)) result given.stands j;
    }

-- the refusal of a text that is too long
long_found : (new : Option (List ℕ)) (bs : List ℕ) (o : Option TextRefused) (n : ℕ)
    (r : TextRefused) → most_bytes < length bs →
    ((x : TextRefused) → o ≡ Some x → stops bs ≡ Some x) → long_by o n ≡ r →
    IsAtEnd new ⊎ ((stops bs ≡ Some r) ⊎ IsTooMuch bs r)
long_found new bs (Some x) n r long stay e = inr (inl (stay x refl ∙ ap Some e))
long_found new bs None n r long stay e =
    inr (inr (record { beyond = long; line = n + 1; named = sym e }))

-- a refusal of the bytes fed so far is one of all the bytes taken
fed_stays : (bs ps qs : List ℕ) (r : Reading TextView) (x : TextRefused) → r ≡ text_behind bs →
    (behind r ps).state.stopped ≡ Some x → stops (bs ++ (ps ++ qs)) ≡ Some x
fed_stays bs ps qs r x e h =
    let here : stops (bs ++ ps) ≡ Some x = sym (stops_behind (bs ++ ps)) ∙ ap (λ (y : Reading TextView). y.state.stopped) (sym (behind_more bs ps r e)) ∙ h in
    ap stops (sym (append_assoc bs ps qs))
    ∙ sym (stops_behind ((bs ++ ps) ++ qs))
    ∙ stops_stay x (bs ++ ps) qs here

-- the piece is refused, or there was no memory for what it says
stopped_says : (new : Option (List ℕ)) (bs piece : List ℕ) (n : ℕ) (r : Reading TextView)
    (x : TextRefused) → r ≡ text_behind bs → length bs ≡ n → IsStopped r n piece x →
    IsRefused new (bs ++ piece) x
stopped_says new bs piece n r x e counted s =
    let stop : stops (bs ++ piece) ≡ Some x = sym (stops_behind (bs ++ piece)) ∙ ap (λ (y : Reading TextView). y.state.stopped) (sym (behind_more bs piece r e)) ∙ s.stopped in
    let same : (bs ++ piece) ++ [] ≡ bs ++ piece = append-nil (bs ++ piece) in
    record {
      found = inr (inl stop);
      says = ap reads (sym same) ∙ reads-stopped x (bs ++ piece) [] (omega (arith, s.within, counted, length-append bs piece)) stop;
    }

beyond_says : (new : Option (List ℕ)) (bs piece : List ℕ) (n : ℕ) (r : Reading TextView)
    (x : TextRefused) → r ≡ text_behind bs → length bs ≡ n → n ≤ most_bytes → IsBeyond r n piece x →
    IsRefused new (bs ++ piece) x
beyond_says new bs piece n r x e counted within s =
    let k : ℕ = most_bytes - n in
    let fed : Reading TextView = behind r (take k piece) in
    let long : most_bytes < length (bs ++ piece) = omega (arith, s.beyond, counted, length-append bs piece) in
    let whole : take k piece ++ drop k piece ≡ piece = take-append-drop k piece in
    record {
      found = long_found new (bs ++ piece) fed.state.stopped fed.state.lines x long (λ y h. ap (λ ps. stops (bs ++ ps)) (sym whole) ∙ fed_stays bs (take k piece) (drop k piece) r y e h) s.judged;
      says = reads-beyond bs piece (omega (arith, counted, within)) (omega (arith, counted, s.beyond))
          ∙ ap (λ m. Err (long_answer (behind (text_behind bs) (take (most_bytes - m) piece)).state)) counted
          ∙ ap (λ (y : Reading TextView). Err (long_answer (behind y (take k piece)).state)) (sym e)
          ∙ ap Err s.judged;
    }

pub text_refused : (old now new : SourceView) (r s : Reading TextView) (n : ℕ) (piece : List ℕ)
    (failed : ReadRefused) → TookText old now r n → n ≤ most_bytes → length piece ≤ piece_size →
    GivesBytes now new piece → FeedsOn r n piece s (Err failed) → ReadsText old new (Err failed)
text_refused old now new r s n piece (Text x) t within small c h =
    let given = gives_more old now new t.bytes piece t.given c in
    record {
      bytes = t.bytes ++ piece;
      consumed = given.consumed;
      asked = piece_asked old now r n piece t within small;
      says = ⊎_elim
          (stopped_says new.left t.bytes piece n r x t.read t.counted)
          (beyond_says new.left t.bytes piece n r x t.read t.counted within)
          h;
      counted = given.stands;
    }
text_refused old now new r s n piece (ReadFault line) t within small c h = absurd h
text_refused old now new r s n piece (OutOfMemory error) t within small c h =
    let given = gives_more old now new t.bytes piece t.given c in
    record {
      bytes = t.bytes ++ piece;
      consumed = given.consumed;
      asked = piece_asked old now r n piece t within small;
      says = tt;
      counted = given.stands;
    }

-- all the bytes were taken
all_bytes : (xs bs ys : List ℕ) → xs ≡ bs ++ ys → ys ≡ [] → xs ≡ bs
all_bytes xs bs ys e none = e ∙ ap (λ zs. bs ++ zs) none ∙ append-nil bs

refused_told : (xs bs ys : List ℕ) (x : TextRefused) → xs ≡ bs ++ ys → IsRefused (Some ys) bs x →
    reads xs ≡ Err x
refused_told xs bs ys x e r =
    elim (cases_lt most_bytes (length bs)) [
      | inl long ↦ ap reads e ∙ reads-longer bs ys long ∙ r.says
      | inr short ↦
          ⊎_elim
          (λ at_end. ap reads (all_bytes xs bs ys e at_end) ∙ r.says)
          (λ h. ⊎_elim
          (λ stop. ap reads e ∙ reads-stopped x bs ys short stop)
          (λ much. absurd (omega (arith, IsTooMuch.beyond much, short)))
          h)
          r.found
    ]

-- the answer for the bytes taken is right for all the bytes that the source had
told_at : (left now : Option (List ℕ)) (bs : List ℕ) (result : Result Input ReadRefused) →
    Consumes left now bs → SaysOf now bs result → TellsText left result
told_at None now bs result c says = tt
told_at (Some xs) None bs result c says = absurd c
told_at (Some xs) (Some ys) bs (Ok input) c says =
    ap reads (all_bytes xs bs ys c says.at_end) ∙ says.says
told_at (Some xs) (Some ys) bs (Err (Text x)) c says = refused_told xs bs ys x c says
told_at (Some xs) (Some ys) bs (Err (ReadFault line)) c says = tt
told_at (Some xs) (Some ys) bs (Err (OutOfMemory error)) c says = tt

pub text_told : (old new : SourceView) (result : Result Input ReadRefused) →
    ReadsText old new result → TellsText old.left result
text_told old new result r = told_at old.left new.left r.bytes result r.consumed r.says
