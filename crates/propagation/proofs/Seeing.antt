-- An item is marked once the list of its negation was walked.
use Rattle.std.proofs.Common.{◌≡◌, ◌+◌, ◌<◌, ◌≤◌, List, length, length-append, get_or, ℤ, neg_ℤ, sym, ap, subst, ◌∙◌, arith}
use Rattle.std.proofs.lemmas.List.{get_or_append_left}
use Rattle.chrono_trail.specs.declared.item.Item.{Item}
use Rattle.chrono_trail.specs.declared.item.Kind.TheVariants.{Assumed}
use Rattle.chrono_trail.specs.Trails.{TrailView}
use Rattle.watch_lists.specs.Views.{ListsView}
use Rattle.propagation.specs.Steps.{Propagates}
use Rattle.propagation.specs.Walking.{IsReady, IsPassed, IsNextFalse, IsSameBut}
use Rattle.propagation.proofs.Easing.{eased_see}

pub ready_see : (clauses : List (List ℤ)) (v : ListsView) (old new : TrailView) (l : ℤ) → IsNextFalse old l → old.seen < length old.items → Propagates clauses old.items new.items → IsSameBut old new →
    IsReady clauses v new → IsPassed v new.items l → IsReady clauses v (record new { seen = new.seen + 1 })
ready_see clauses v old new l next inside steps same ready passed = record {
  stands = ready.stands;
  named = ready.named;
  count = ready.count;
  watching = ready.watching;
  marked = one_more;
  eased = eased_see v clauses new d new.variables ready.stands.distinct ready.named ready.watching ready.eased now_inside (subst (IsPassed v new.items) literal passed);
}
  where
    d : Item
    d = record { lit = l; level = 0; kind = Assumed }

    long : length new.items ≡ length old.items + length steps.added
    long = ap length steps.grows ∙ length-append old.items steps.added

    now_inside : new.seen < length new.items
    now_inside = let count = long in let seen = same.seen in omega arith

    one_more : new.seen + 1 ≤ length new.items
    one_more = let below = now_inside in omega arith

    literal : l ≡ neg_ℤ (get_or new.items new.seen d).lit
    literal = next d ∙ ap (λ (i : Item). neg_ℤ i.lit) (sym (
        ap (λ k. get_or new.items k d) same.seen ∙ ap (λ xs. get_or xs old.seen d) steps.grows
        ∙ get_or_append_left old.items steps.added d old.seen inside))
