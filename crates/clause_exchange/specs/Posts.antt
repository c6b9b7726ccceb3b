-- What contracts see of a post.
use Rattle.std.specs.Prelude.{◌≡◌, ◌⊎◌, ℕ, ◌+◌, ◌<◌, List, ◌++◌, length, map, take, drop, get_or, slice_get, Some}
use Rattle.std.specs.List.{All}
use Rattle.std.specs.Arc.{arc_value}
use Rattle.std.specs.declared.sync.Arc.{Arc}
use Rattle.atomic_table.specs.Seated.{TableId}
use Rattle.crossbeam_queue.specs.declared.array_queue.Slotted.{Slotted}
use Rattle.crossbeam_queue.specs.Passes.{view}
use Rattle.prefix_jobs.specs.declared.lemma.Lemma.{Lemma}
use Rattle.clause_exchange.specs.declared.mail.Mail.{Mail}
use Rattle.clause_exchange.specs.declared.mail.Anything.{Anything}
use Rattle.clause_exchange.specs.declared.inbox.Inbox.{Inbox}
use Rattle.clause_exchange.specs.Mails.{no_mail, mail_with_sent, mail_with_fetched}

module _ {S D Q A Z : Type 0} where
  -- which queue it is
  abbrev pub queue_id : Arc (Slotted S D Q A) Z → TableId
  queue_id q = (arc_value q).table.shared.table_id

  abbrev pub queue_ids : List (Arc (Slotted S D Q A) Z) → List TableId
  queue_ids qs = map queue_id qs

-- a queue, and what a pass to it knows
pub record Address (V : Type 0) : Type 0 where
  pub queue : TableId
  pub mail : V

module _ {V P : Type 0} where
  abbrev pub address_of : Inbox V P → Address V
  address_of i = record { queue = queue_id i.queue; mail = view i.pass }

  abbrev pub addresses_of : List (Inbox V P) → List (Address V)
  addresses_of is = map address_of is

-- its own queue, and those of the others
pub record PostView : Type 0 where
  pub own : Address Mail
  pub others : List (Address Mail)

abbrev pub post_view : Inbox Mail Anything → List (Inbox Mail Anything) → PostView
post_view own others = record { own = address_of own; others = addresses_of others }

-- the address once this lemma is sent there
abbrev pub address_with_sent : Address Mail → Lemma → Address Mail
address_with_sent a l = record a { mail = mail_with_sent a.mail l }

-- the post once its worker fetched this lemma
abbrev pub post_with_fetched : PostView → Lemma → PostView
post_with_fetched p l =
    record p { own = record p.own { mail = mail_with_fetched p.own.mail l } }

-- To this address the lemma was sent once, or not at all.
abbrev pub WasOffered : Lemma → Address Mail → Address Mail → Type 0
WasOffered l old new = (new ≡ old) ⊎ (new ≡ address_with_sent old l)

-- So it was to each of these.
pub record AreOffered (l : Lemma) (olds news : List (Address Mail)) : Type 0 where
  pub count : length news ≡ length olds
  pub each : (k : ℕ) (d : Address Mail) → k < length olds →
      WasOffered l (get_or olds k d) (get_or news k d)

-- The lemma was offered to all others, and nothing was done to the own queue.
pub record IsOffered (l : Lemma) (old new : PostView) : Type 0 where
  pub own : new.own ≡ old.own
  pub others : AreOffered l old.others new.others

-- a pass to this queue that has sent nothing and fetched nothing
abbrev pub new_address : TableId → Address Mail
new_address d = record { queue = d; mail = no_mail }

abbrev pub queues_of : List PostView → List TableId
queues_of ps = map (λ p. p.own.queue) ps

-- a pass to each queue after the place k, and then to each before it
abbrev pub other_addresses : ℕ → List TableId → List (Address Mail)
other_addresses k ds = map new_address (drop (k + 1) ds ++ take k ds)

-- The post fetches from the queue at the place k, and offers to those after it and before it.
pub record IsPostAt (k : ℕ) (ds : List TableId) (p : PostView) : Type 0 where
  pub own : slice_get ds k ≡ Some p.own.queue
  pub empty : p.own.mail ≡ no_mail
  pub others : p.others ≡ other_addresses k ds

-- Each post fetches from a queue of its own, with room for 256 lemmas, and offers to all others.
pub record IsExchange (ps : List PostView) : Type 0 where
  pub room : All (λ d. d.slots ≡ 256) (queues_of ps)
  pub posts : (k : ℕ) (d : PostView) → k < length ps → IsPostAt k (queues_of ps) (get_or ps k d)
