-- A lemma is offered to one address after another.
use Rattle.std.proofs.Common.{◌≡◌, ◌≢◌, ◌⊎◌, ℕ, ◌+◌, ◌<◌, ◌≤◌, List, set, get_or, length, option_map, sym, ap, ◌∙◌, subst, arith, ⊎_elim, inl, inr}
use Rattle.std.proofs.lemmas.Bool.{cases_lt}
use Rattle.std.proofs.lemmas.List.{map-set, length-map, get_or-set_same, get_or-set_other}
use Rattle.std.proofs.lemmas.Option.{slice_get-get_or, slice_get-map, get_or_from_slice_get}
use Rattle.atomic_table.specs.Seated.{TableId}
use Rattle.crossbeam_queue.specs.Passes.{view}
use Rattle.prefix_jobs.specs.declared.lemma.Lemma.{Lemma}
use Rattle.clause_exchange.specs.declared.mail.Mail.{Mail}
use Rattle.clause_exchange.specs.declared.mail.Anything.{Anything}
use Rattle.clause_exchange.specs.declared.inbox.Inbox.{Inbox}
use Rattle.clause_exchange.specs.Mails.{mail_with_sent}
use Rattle.clause_exchange.specs.Posts.{Address, address_of, addresses_of, WasOffered}

address_at : (os : List (Inbox Mail Anything)) (k : ℕ) (d : Inbox Mail Anything)
    (e : Address Mail) → k < length os → get_or (addresses_of os) k e ≡ address_of (get_or os k d)
address_at os k d e below =
    get_or_from_slice_get (addresses_of os) k (address_of (get_or os k d)) e
    (slice_get-map address_of os k ∙ ap (option_map address_of) (slice_get-get_or os k d below))

-- What one offer does to an address.
pub was_offered : (l : Lemma) (o p : Inbox Mail Anything) →
    (address_of p).queue ≡ (address_of o).queue →
    (view p.pass ≡ view o.pass) ⊎ (view p.pass ≡ mail_with_sent (view o.pass) l) →
    WasOffered l (address_of o) (address_of p)
was_offered l o p queue mail =
    let made : TableId × Mail → Address Mail = λ q. record { queue = q.0; mail = q.1 } in
    ⊎_elim
    (λ (same : view p.pass ≡ view o.pass). inl (λ i. made (queue i, same i)))
    (λ (sent : view p.pass ≡ mail_with_sent (view o.pass) l). inr (λ i. made (queue i, sent i)))
    mail

module _ (l : Lemma) (olds : List (Address Mail)) (os : List (Inbox Mail Anything)) (k : ℕ)
    (d p : Inbox Mail Anything) (below : k < length os) where
  -- The addresses behind the place k are as they were.
  pub left_over :
      ((j : ℕ) (e : Address Mail) → k ≤ j → get_or (addresses_of os) j e ≡ get_or olds j e) →
      (j : ℕ) (e : Address Mail) → k + 1 ≤ j →
      get_or (addresses_of (set os k p)) j e ≡ get_or olds j e
  left_over left j e behind =
      let other : j ≢ k = λ i. omega arith in
      ap (λ cs. get_or cs j e) (map-set address_of os k p)
      ∙ get_or-set_other (addresses_of os) k j (address_of p) e other
      ∙ left j e (omega arith)

  -- Up to the place k the lemma was offered.
  pub offered :
      ((j : ℕ) (e : Address Mail) → k ≤ j → get_or (addresses_of os) j e ≡ get_or olds j e) →
      ((j : ℕ) (e : Address Mail) → j < k →
      WasOffered l (get_or olds j e) (get_or (addresses_of os) j e)) →
      WasOffered l (address_of (get_or os k d)) (address_of p) →
      (j : ℕ) (e : Address Mail) → j < k + 1 →
      WasOffered l (get_or olds j e) (get_or (addresses_of (set os k p)) j e)
  offered left done here j e less =
      let long = length-map os address_of in
      let inside : k < length (addresses_of os) = omega arith in
      let now = map-set address_of os k p in
      ⊎_elim
      (λ (low : j < k).
      let other : j ≢ k = λ i. omega arith in
      subst (WasOffered l (get_or olds j e))
      (sym (ap (λ cs. get_or cs j e) now
      ∙ get_or-set_other (addresses_of os) k j (address_of p) e other))
      (done j e low))
      (λ (high : k ≤ j).
      let same : k ≡ j = omega arith in
      subst (λ n. WasOffered l (get_or olds n e) (get_or (addresses_of (set os k p)) n e)) same
      (subst (λ (q : Address Mail × Address Mail). WasOffered l q.0 q.1)
      (λ i. (
        (sym (address_at os k d e below) ∙ left k e (omega arith)) i,
        (sym (ap (λ cs. get_or cs k e) now
            ∙ get_or-set_same (addresses_of os) k (address_of p) e inside)) i,
      ))
      here))
      (cases_lt j k)
