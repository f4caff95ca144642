-- The conditions are asked in the order of the list; 1 never holds of a whole table.
use Rattle.answer.proofs.conditions.Laws.{whole_seat}
use Rattle.answer.proofs.conditions.check_seat.Goals as goal

pub returns : goal.returns
returns c = whole_seat _ _ c.table-t.ensures.whole _ (simp (c.is_dealt.ensures, c.table-t.ensures.same) at c.first_refusal.ensures)
