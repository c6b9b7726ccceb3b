-- A text that is written, and then an output that is finished, where one of the two fails.
use Rattle.std.proofs.Common.{◌≡◌, ℕ, true, false, List, Result, Ok, Err}
use Rattle.std.specs.Prelude.{is_err}
use Rattle.fault_io.specs.Sinks.{SinkView, TakesFront, TakesWhole, Finishes}
use Rattle.fault_io.proofs.Taking.{takes_and_fails}

pub write_fails : {T E : Type 0} (old new : SinkView) (text : List ℕ) (r : Result T E) → TakesWhole old new text r → is_err r ≡ true → TakesFront old new text
write_fails old new text (Ok x) put e = absurd (cc)
write_fails old new text (Err x) put e = put

pub finish_fails : {T E U F : Type 0} (old mid new : SinkView) (text : List ℕ) (r : Result T E) (s : Result U F) →
    TakesWhole old mid text r → is_err r ≡ false → Finishes mid new s → is_err s ≡ true → TakesFront old new text
finish_fails old mid new text (Err x) s put e finish f = absurd (cc)
finish_fails old mid new text (Ok x) (Ok y) put e finish f = absurd (cc)
finish_fails old mid new text (Ok x) (Err y) put e finish f = takes_and_fails old mid new text put finish
