use Rattle.std.proofs.Common.{sym, subst}
use Rattle.region_book.specs.Slots.{NumbersRise, IsFirstFree}
use Rattle.region_book.proofs.Rising.{more_rise}
use Rattle.region_book.proofs.slots.Slots.append.Goals as goal

pub returns-clause-are : goal.returns-clause-are
returns-clause-are c = record {
  rise = subst NumbersRise (sym c.add_slots.ensures) (more_rise c.args.self.now.slots.items c.args.place c.args.pass c.args.outcome.now c.requires.are.rise c.requires.older);
  first = subst (λ xs. IsFirstFree xs c.first_free_from-self.result) c.deref.ensures.value c.first_free_from-self.ensures;
}
