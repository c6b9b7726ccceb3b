use Rattle.std.proofs.Common.{◌≡◌, ℕ, ◌<◌, ◌≤◌, get_or}
use Rattle.clause_exchange.specs.declared.mail.Mail.{Mail}
use Rattle.clause_exchange.specs.Posts.{Address, addresses_of, WasOffered}
use Rattle.clause_exchange.proofs.post.offer_each.Given as goal

abbrev pub invariant-loop-place : goal.invariant-loop-place
invariant-loop-place l = record {
  done : (k : ℕ) (d : Address Mail) → k < l.place →
      WasOffered l.lemma (get_or (addresses_of l.initial.others) k d)
      (get_or (addresses_of l.others) k d);
  left : (k : ℕ) (d : Address Mail) → l.place ≤ k →
      get_or (addresses_of l.others) k d ≡ get_or (addresses_of l.initial.others) k d;
}
