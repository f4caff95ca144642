-- Broken is asked first, and what every call of a guest asks; then the position, the card and the stake, in the definition's order.
use mathlib.Core.Path.{refl, sym, ◌∙◌}
use Rattle.call.specs.Refusal.{first}
use Rattle.call.proofs.Refusals.{residual, and_number}
use Rattle.answer.proofs.conditions.Laws.{refuses, guest-passes, handed-on}
use Rattle.host_spec.specs.Arrive.{arrive_conditions}
use Rattle.host.proofs.Outcomes.{broken-first}
use Rattle.host.proofs.arrive.Laws.{whole_table, taken, taken_is, arrive_asks}
use Rattle.host.proofs.leave.Laws.{sits-found}
use Rattle.host.proofs.arrive.check_arrive.Goals as goal

pub returns-then-host_broken : goal.returns-then-host_broken
unfolding arrive_conditions
returns-then-host_broken c = record { number = broken-first _ _ (sym c.host_broken.ensures ∙ c.if-host_broken.true); guest = tt }

pub new-whole-requires : goal.new-whole-requires
new-whole-requires c = whole_table c.args.h (sym c.host_broken.ensures ∙ c.if-host_broken.false)

pub returns-in_err-guest : goal.returns-in_err-guest
returns-in_err-guest c =
    let a = c.args in
    record {
      number =
          refuses _ _ _ c.from_residual.ensures.1 (simp c.new-whole.ensures at c.in_err-guest.ensures.number) (taken a.h a.at.seat a.at.position a.card)
          ∙ sym (arrive_asks a.h a.at.seat a.at.position a.card (sym c.host_broken.ensures ∙ c.if-host_broken.false));
      guest = rw (residual _ c.from_residual.ensures.1) tt;
    }

pub returns : goal.returns
unfolding first
returns c =
    let a = c.args in
    let h = a.h in
    rw c.and.ensures (record {
      number =
          and_number c.first_refusal.result c.in_ok-guest.guest
          ∙ taken_is h a.at.seat a.at.position a.card c.is_some.result c.guest_money-money.result.now (c.is_some.ensures ∙ sits-found h a.card _ c.find_card.ensures)
          (simp (c.table.ensures.same, c.new-whole.ensures, c.in_ok-guest.ensures.guest) at c.guest_money-money.ensures) (simp (c.place.ensures.same, c.in_ok-guest.ensures.guest) at c.first_refusal.ensures)
          ∙ sym (arrive_asks h a.at.seat a.at.position a.card (sym c.host_broken.ensures ∙ c.if-host_broken.false) ∙ guest-passes _ _ _ _ refl (simp c.new-whole.ensures at c.in_ok-guest.ensures.number) (taken h a.at.seat a.at.position a.card));
      guest = handed-on _ _ _ c.in_ok-guest.ensures.guest;
    })
