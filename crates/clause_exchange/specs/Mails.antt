-- What a pass knows of a queue.
use Rattle.std.specs.Prelude.{[], ◌∷◌, ◌++◌}
use Rattle.prefix_jobs.specs.declared.lemma.Lemma.{Lemma}
use Rattle.clause_exchange.specs.declared.mail.Mail.{Mail}

abbrev pub no_mail : Mail
no_mail = record { sent = []; fetched = [] }

-- what it knows once this lemma is sent, and once it is fetched
abbrev pub mail_with_sent : Mail → Lemma → Mail
mail_with_sent v l = record { sent = v.sent ++ l ∷ []; fetched = v.fetched }

abbrev pub mail_with_fetched : Mail → Lemma → Mail
mail_with_fetched v l = record { sent = v.sent; fetched = v.fetched ++ l ∷ [] }
