-- What is done with the book in one turn.
use Rattle.region_book.specs.Books.{BookView}
use Rattle.region_ledger.specs.Calls.{IsLegalBook}

-- The act does this to the book b, and makes c of it.
pub record DoesOn (b c : BookView) (does : BookView → BookView → Type 0) : Type 0 where
  pub was : IsLegalBook b
  pub is : IsLegalBook c
  pub did : does b c
