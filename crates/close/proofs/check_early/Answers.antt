-- The table is whole, and the other conditions are asked in the order of the list.
use Rattle.call.specs.Refusal.{first}
use Rattle.close.proofs.Numbers.{early_asked}
use Rattle.close.proofs.check_early.Goals as goal

pub returns : goal.returns
unfolding first
returns c =
    let same = c.table-t.ensures.same in
    early_asked c.args.t.now c.table-t.ensures.nine c.table-t.ensures.whole (rw same at c.is_dealt.ensures) (rw same at c.seat_in_turn.ensures) c.first_refusal.ensures
