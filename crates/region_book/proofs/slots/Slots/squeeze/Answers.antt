use Rattle.std.proofs.Common.{rules, sym, subst}
use Rattle.std.proofs.lemmas.Fn.{filter_same}
use Rattle.region_book.specs.Slots.{is_live, NumbersRise, IsFirstFree}
use Rattle.region_book.proofs.Rising.{rise_filter}
use Rattle.region_book.proofs.slots.Slots.squeeze.Goals as goal

pub returns-clause-live : goal.returns-clause-live
returns-clause-live c = filter_same _ is_live _ (λ x b f h. (search rules, search rules)) _ _ c.retain.ensures.filtered

pub returns-clause-are : goal.returns-clause-are
returns-clause-are c = record {
  rise = subst NumbersRise (sym (returns-clause-live c)) (rise_filter c.args.self.now.slots.items c.requires.rise);
  first = subst (λ xs. IsFirstFree xs c.first_free_from-self.result) c.deref.ensures.value c.first_free_from-self.ensures;
}
