-- 1, 4 and 29 are asked first; then the stake is asked for where the card sits.
use Rattle.std.proofs.Common.{rules, ◌≡◌, ◌∙◌, ◌/◌, ◌%◌, ◌<◌, length, false, true, sym, arith}
use Rattle.std.specs.Prelude.{Some, None}
use borrow.Author.Tests.{lt-ltb, le-ltb}
use Rattle.call.specs.Refusal.{number_in}
use Rattle.table.specs.Table.{guest_of}
use Rattle.host_spec.specs.Cards.{place_of, sits_here}
use Rattle.host_spec.specs.Leave.{leave_conditions}
use Rattle.host.proofs.Outcomes.{broken-first}
use Rattle.host.proofs.leave.Laws.{place-found, place_nowhere, found_inside, leave_dealt, leave_absent, leave-asked}
use Rattle.host.proofs.leave.check_leave.Goals.{In_ok-place, After-guest_money}
use Rattle.host.proofs.leave.check_leave.Goals as goal

found : (c : In_ok-place) → (place_of c.args.h c.args.card ≡ c.in_ok-place.place) × (sits_here c.args.h c.args.card ≡ true)
found c =
    let at : c.find_card.result ≡ Some c.in_ok-place.place = grind arith in
    place-found c.args.h c.args.card c.in_ok-place.place (sym c.find_card.ensures ∙ at)

inside : (c : In_ok-place) → c.in_ok-place.place < 27
inside c =
    let full : length c.args.h.cards ≡ 27 = search rules in
    found_inside c.args.h c.args.card full (found c)

money : (c : After-guest_money) → c.guest_money.result.now ≡ (guest_of c.args.h.table (c.in_ok-place.place / 3) (c.in_ok-place.place % 3)).money
money c = rw (c.guest_in.ensures.seat, c.guest_in.ensures.position) at c.guest_money.ensures

pub guest_in-requires : goal.guest_in-requires
guest_in-requires c = inside (goal.at.guest_in-requires c).In_ok-place

pub returns-then-host_broken-clause-number : goal.returns-then-host_broken-clause-number
unfolding leave_conditions
returns-then-host_broken-clause-number c = broken-first _ _ (sym c.host_broken.ensures ∙ c.if-host_broken.true)

pub returns-then-is_dealt-clause-number : goal.returns-then-is_dealt-clause-number
returns-then-is_dealt-clause-number c = leave_dealt c.args.h c.args.card (sym c.host_broken.ensures ∙ c.if-host_broken.false) (sym c.is_dealt.ensures ∙ c.if-is_dealt.true)

pub returns-in_err-place-clause-number : goal.returns-in_err-place-clause-number
returns-in_err-place-clause-number c =
    let a = c.args in
    let none : c.find_card.result ≡ None = grind arith in
    let why : number_in c.from_residual.result ≡ 29 = grind arith in
    why ∙ leave_absent a.h a.card (sym c.host_broken.ensures ∙ c.if-host_broken.false) (sym c.is_dealt.ensures ∙ c.if-is_dealt.false) (place_nowhere a.h a.card (sym c.find_card.ensures ∙ none))

pub returns-then-guest_money-gt0-clause-number : goal.returns-then-guest_money-gt0-clause-number
returns-then-guest_money-gt0-clause-number c =
    let at = goal.at.returns-then-guest_money-gt0-clause-number c in
    leave-asked c.args.h c.args.card (sym c.host_broken.ensures ∙ c.if-host_broken.false) c.in_ok-place.place c.guest_money.result.now true (sym c.is_dealt.ensures ∙ c.if-is_dealt.false) (found at.In_ok-place) (money at.After-guest_money) (lt-ltb _ _ c.if-guest_money-gt0.true)

pub returns-clause-number : goal.returns-clause-number
returns-clause-number c =
    let at = goal.at.returns-clause-number c in
    leave-asked c.args.h c.args.card (sym c.host_broken.ensures ∙ c.if-host_broken.false) c.in_ok-place.place c.guest_money.result.now false (sym c.is_dealt.ensures ∙ c.if-is_dealt.false) (found at.In_ok-place) (money at.After-guest_money) (le-ltb _ _ c.if-guest_money-gt0.false)

pub returns-clause-found : goal.returns-clause-found
returns-clause-found c = sym (found (goal.at.returns-clause-found c).In_ok-place).0
