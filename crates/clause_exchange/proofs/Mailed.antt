-- Each step keeps the rule of a queue, under which anything may lie in it.
use Rattle.std.proofs.Common.{◌≡◌, ℕ, List, refl}
use Rattle.crossbeam_queue.specs.Fifo.{Pushes, Pops}
use Rattle.prefix_jobs.specs.declared.lemma.Lemma.{Lemma}
use Rattle.clause_exchange.specs.declared.mail.Mail.{Mail}
use Rattle.clause_exchange.specs.Mails.{mail_with_sent, mail_with_fetched}

abbrev holds_all : List Lemma → List Mail → Type 0
holds_all items views = Unit {0}

pub sends : (n port : ℕ) (v : Mail) (l : Lemma) →
    Pushes holds_all n port v l (λ w. w ≡ mail_with_sent v l)
sends n port v l items views room h at = (mail_with_sent v l, tt, refl)

pub fetches : (port : ℕ) (v : Mail) → Pops holds_all port v (λ l w. w ≡ mail_with_fetched v l)
fetches port v l items views h at = (mail_with_fetched v l, tt, refl)
