-- The queues of an exchange, one after another.
use Rattle.std.proofs.Common.{◌≡◌, ℕ, ◌+◌, ◌-◌, ◌<◌, ◌≤◌, List, [], ◌∷◌, ◌++◌, get_or, length, map, take, drop, sym, ap, ◌∙◌, subst, arith, append_assoc, ⊎_elim}
use Rattle.std.specs.List.{All, slice_range}
use Rattle.std.proofs.lemmas.Bool.{cases_lt}
use Rattle.std.proofs.lemmas.List.{map-append, get_or-drop, take_more, take_all, length-drop}
use Rattle.std.proofs.Math.ListN.{get_or-append, get_or-map}
use Rattle.std.proofs.Math.Seq.{get_or-append_seam}
use Rattle.std.proofs.lemmas.Option.{slice_get_within, get_or_from_slice_get}
use Rattle.std.specs.declared.sync.Arc.{Arc}
use Rattle.atomic_table.specs.Seated.{TableId}
use Rattle.crossbeam_queue.specs.declared.array_queue.Slotted.{Slotted}
use Rattle.clause_exchange.specs.declared.mail.Mail.{Mail}
use Rattle.clause_exchange.specs.declared.mail.Anything.{Anything}
use Rattle.clause_exchange.specs.declared.inbox.Inbox.{Inbox}
use Rattle.clause_exchange.specs.Posts.{Address, PostView, address_of, addresses_of, new_address, queue_id, queue_ids, queues_of, IsPostAt, IsExchange}

-- A range that is one longer has one element more.
range_more : {X : Type 0} (xs : List X) (a k : ℕ) (d : X) → a ≤ k → k < length xs →
    slice_range xs a (k + 1) ≡ slice_range xs a k ++ get_or xs k d ∷ []
range_more {X} xs a k d low below =
    let rest : List X = drop a xs in
    let more : k + 1 - a ≡ (k - a) + 1 = omega arith in
    let here : a + (k - a) ≡ k = omega arith in
    let long = length-drop a xs in
    let inside : k - a < length rest = omega arith in
    ap (λ n. take n rest) more
    ∙ take_more rest (k - a) d inside
    ∙ ap (λ x. take (k - a) rest ++ x ∷ [])
    (get_or-drop a xs (k - a) d ∙ ap (λ n. get_or xs n d) here)

module _ {S D Q A Z : Type 0} where
  -- A new address of the queue at a place is that of the place.
  pub new_at : (qs : List (Arc (Slotted S D Q A) Z)) (k : ℕ) (q : Arc (Slotted S D Q A) Z)
      (a : Address Mail) → q ≡ get_or qs k q → a ≡ new_address (queue_id q) →
      a ≡ new_address (get_or (queue_ids qs) k (queue_id q))
  new_at qs k q a is new =
      new ∙ ap (λ p. new_address (queue_id p)) is
      ∙ ap new_address (sym (get_or-map queue_id qs k q))

-- One more pass is added, to the queue at the place k.
pub addressed : (os : List (Inbox Mail Anything)) (o : Inbox Mail Anything)
    (olds : List (Address Mail)) (ds : List TableId) (a k : ℕ) (d : TableId) → a ≤ k →
    k < length ds → addresses_of os ≡ olds ++ map new_address (slice_range ds a k) →
    address_of o ≡ new_address (get_or ds k d) →
    addresses_of (os ++ o ∷ []) ≡ olds ++ map new_address (slice_range ds a (k + 1))
addressed os o olds ds a k d low below known new =
    let range : List TableId = slice_range ds a k in
    map-append address_of os (o ∷ [])
    ∙ ap (λ vs. vs ++ address_of o ∷ []) known
    ∙ append_assoc olds (map new_address range) (address_of o ∷ [])
    ∙ ap (λ v. olds ++ (map new_address range ++ v ∷ [])) new
    ∙ ap (λ vs. olds ++ vs) (sym (map-append new_address range (get_or ds k d ∷ [])))
    ∙ ap (λ es. olds ++ map new_address es) (sym (range_more ds a k d low below))

-- One more post is made.
pub gathered : (ps : List PostView) (p : PostView) (ds : List TableId) (k : ℕ) →
    queues_of ps ≡ take k ds → IsPostAt k ds p → queues_of (ps ++ p ∷ []) ≡ take (k + 1) ds
gathered ps p ds k known new =
    let queue : PostView → TableId = λ q. q.own.queue in
    let d = p.own.queue in
    map-append queue ps (p ∷ [])
    ∙ ap (λ qs. qs ++ d ∷ []) known
    ∙ ap (λ x. take k ds ++ x ∷ []) (sym (get_or_from_slice_get ds k d d new.own))
    ∙ sym (take_more ds k d (slice_get_within ds k d new.own))

pub seats : (ps : List PostView) (p : PostView) (ds : List TableId) (k : ℕ) → length ps ≡ k →
    ((j : ℕ) (d : PostView) → j < k → IsPostAt j ds (get_or ps j d)) → IsPostAt k ds p →
    (j : ℕ) (d : PostView) → j < k + 1 → IsPostAt j ds (get_or (ps ++ p ∷ []) j d)
seats ps p ds k long before new j d less =
    ⊎_elim
    (λ (low : j < k).
    subst (IsPostAt j ds) (sym (get_or-append ps (p ∷ []) d j (omega arith))) (before j d low))
    (λ (high : k ≤ j).
    let same : k ≡ j = omega arith in
    subst (λ n. IsPostAt n ds (get_or (ps ++ p ∷ []) n d)) (long ∙ same)
    (subst (IsPostAt (length ps) ds) (sym (get_or-append_seam ps p [] d))
    (subst (λ n. IsPostAt n ds p) (sym long) new)))
    (cases_lt j k)

-- With a post at each queue the exchange is whole.
pub exchanged : (ps : List PostView) (ds : List TableId) (n : ℕ) → length ps ≡ n →
    length ds ≡ n → queues_of ps ≡ take n ds → All (λ d. d.slots ≡ 256) ds →
    ((j : ℕ) (d : PostView) → j < n → IsPostAt j ds (get_or ps j d)) → IsExchange ps
exchanged ps ds n long count known room posts =
    let same = known ∙ take_all n ds (omega arith) in
    record {
      room = subst (All (λ (d : TableId). d.slots ≡ 256)) (sym same) room;
      posts = λ k d less.
          subst (λ es. IsPostAt k es (get_or ps k d)) (sym same) (posts k d (omega arith));
    }
