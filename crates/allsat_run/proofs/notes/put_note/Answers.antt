use Rattle.std.proofs.Common.{sym, ap}
use Rattle.cube_text.proofs.Handing.{Hands-more, Hands-along}
use Rattle.allsat_run.specs.Status.{note_of}
use Rattle.allsat_run.proofs.notes.put_note.Goals as goal

pub returns-in-WordsRefused : goal.returns-in-WordsRefused
returns-in-WordsRefused g c = Hands-along _ _ _ _ _ _ (ap note_of (sym c.in-WordsRefused.is)) c.put.ensures

pub returns-in-InputRefused : goal.returns-in-InputRefused
returns-in-InputRefused g c =
    Hands-along _ _ _ _ _ _ (ap note_of (sym c.in-InputRefused.is))
    (Hands-more _ _ _ _ _ _ _ _ c.put-in-InputRefused.ensures c.put_refusal.ensures)

pub returns-in-BudgetSpent : goal.returns-in-BudgetSpent
returns-in-BudgetSpent g c = Hands-along _ _ _ _ _ _ (ap note_of (sym c.in-BudgetSpent.is)) c.put-in-BudgetSpent.ensures

pub returns-in-OutOfMemory : goal.returns-in-OutOfMemory
returns-in-OutOfMemory g c = Hands-along _ _ _ _ _ _ (ap note_of (sym c.in-OutOfMemory.is)) c.put-in-OutOfMemory.ensures

pub returns-in-ReadFault : goal.returns-in-ReadFault
returns-in-ReadFault g c =
    Hands-along _ _ _ _ _ _ (ap note_of (sym c.in-ReadFault.is))
    (Hands-more _ _ _ _ _ _ _ _ c.put-in-ReadFault.ensures c.put_number_line.ensures)

pub returns-in-WriteFault : goal.returns-in-WriteFault
returns-in-WriteFault g c = Hands-along _ _ _ _ _ _ (ap note_of (sym c.in-WriteFault.is)) c.put-in-WriteFault.ensures

pub returns-in-CheckedNo : goal.returns-in-CheckedNo
returns-in-CheckedNo g c = Hands-along _ _ _ _ _ _ (ap note_of (sym c.in-CheckedNo.is)) c.put-in-CheckedNo.ensures
