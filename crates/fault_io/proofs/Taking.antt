-- Several calls of a sink in a row.
use Rattle.std.proofs.Common.{◌≡◌, ℕ, List, [], ◌++◌, length, refl, sym, ◌∙◌, ap, subst, append_assoc, length-append}
use Rattle.std.proofs.lemmas.List.{append-nil}
use Rattle.fault_io.specs.Faults.{Rose}
use Rattle.fault_io.specs.Finish.{FinishedAfter}
use Rattle.fault_io.specs.Sinks.{SinkView, TakesBytes, SinkFails, TakesFront}
use Rattle.fault_io.proofs.Appends.{Appends-nil, Appends-more, Appends-Keeps}
use Rattle.fault_io.proofs.FinishedAfter.{FinishedAfter-none, FinishedAfter-more}

-- no call at all
pub takes_nothing : (a : SinkView) → TakesBytes a a []
takes_nothing a = record {
  appended = Appends-nil a.held;
  stands = refl;
  finished = FinishedAfter-none a.finished;
}

-- a fault behind calls that did not fail
pub rose_behind : (a b c : ℕ) → b ≡ a → Rose b c → Rose a c
rose_behind a b c stands rose = subst (λ (n : ℕ). Rose n c) stands rose

-- some bytes, and then more
pub takes_more : (a b c : SinkView) (xs ys : List ℕ) → TakesBytes a b xs → TakesBytes b c ys →
    TakesBytes a c (xs ++ ys)
takes_more a b c xs ys first second = record {
  appended = Appends-more a.held b.held c.held xs ys first.appended second.appended;
  stands = second.stands ∙ first.stands;
  finished = subst (λ (n : ℕ). FinishedAfter n a.finished c.finished) (sym (length-append xs ys))
      (FinishedAfter-more (length xs) (length ys) a.finished b.finished c.finished first.finished second.finished);
}

-- the text begins with what went out
pub front_longer : (a b : SinkView) (xs ys : List ℕ) → TakesFront a b xs → TakesFront a b (xs ++ ys)
front_longer a b xs ys front = record {
  gone = front.gone;
  rest = front.rest ++ ys;
  is_front = sym (append_assoc front.gone front.rest ys) ∙ ap (λ (l : List ℕ). l ++ ys) front.is_front;
  appended = front.appended;
  rose = front.rose;
  finished = front.finished;
}

-- some bytes, and then a front of a text
pub takes_front : (a b c : SinkView) (xs ys : List ℕ) → TakesBytes a b xs → TakesFront b c ys →
    TakesFront a c (xs ++ ys)
takes_front a b c xs ys first second = record {
  gone = xs ++ second.gone;
  rest = second.rest;
  is_front = append_assoc xs second.gone second.rest ∙ ap (λ (l : List ℕ). xs ++ l) second.is_front;
  appended = Appends-more a.held b.held c.held xs second.gone first.appended second.appended;
  rose = rose_behind a.faults b.faults c.faults first.stands second.rose;
  finished = subst (λ (n : ℕ). FinishedAfter n a.finished c.finished) (sym (length-append xs second.gone))
      (FinishedAfter-more (length xs) (length second.gone) a.finished b.finished c.finished first.finished second.finished);
}

-- some bytes, and then a fault
pub takes_and_fails : (a b c : SinkView) (xs : List ℕ) → TakesBytes a b xs → SinkFails b c →
    TakesFront a c xs
takes_and_fails a b c xs first fails = record {
  gone = xs;
  rest = [];
  is_front = append-nil xs;
  appended = Appends-Keeps a.held b.held c.held xs first.appended fails.kept;
  rose = rose_behind a.faults b.faults c.faults first.stands fails.rose;
  finished = subst (λ f. FinishedAfter (length xs) a.finished f) (sym fails.finished) first.finished;
}
