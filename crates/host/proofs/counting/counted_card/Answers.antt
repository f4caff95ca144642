-- No card, a tally at its end and a position without a stake stay as they are; else what is added is small, and a tally that fits has room for it.
use mathlib.Core.Path.{◌≡◌, ◌∙◌, ap, ap₂}
use Prim.Native.Nat.{ℕ, ◌+◌, ◌-◌, ◌/◌, ◌%◌, ◌≤◌}
use native.Mathlib.Omega.{arith}
use Rattle.table.specs.declared.Money.{Money}
use Rattle.table.specs.Seat.{purse, laid, prizes}
use Rattle.table.specs.Table.{guest_of}
use Rattle.host_spec.specs.Broken.{most_laid, most_back}
use Rattle.host_spec.specs.Close.{with_round, came_back}
use Rattle.host.proofs.Fits.{card-fits}
use Rattle.host.proofs.counting.Laws.{not_here, stands_still, not_staked, counts_there, gains, back_small, laid-small}
use Rattle.host.proofs.counting.counted_card.Goals.{After-guest_of-s, After-guest_money-then, After-laid, After-prizes}
use Rattle.host.proofs.counting.counted_card.Goals as goal

-- the guest before the close, and the money after it
guest-is : (c : After-guest_of-s) → c.guest_of-s.result ≡ guest_of c.args.t (c.args.place / 3) (c.args.place % 3)
guest-is c = simp (c.guest_in-guest.ensures.seat, c.guest_in-guest.ensures.position) at c.guest_of-s.ensures

then_is : (c : After-guest_money-then) → c.guest_money-then.result.now ≡ (guest_of c.args.after (c.args.place / 3) (c.args.place % 3)).money
then_is c = simp (c.guest_in-guest.ensures.seat, c.guest_in-guest.ensures.position) at c.guest_money-then.ensures

gained : (c : After-guest_money-then) → purse (guest_of c.args.t (c.args.place / 3) (c.args.place % 3)) ≤ purse (guest_of c.args.after (c.args.place / 3) (c.args.place % 3))
gained c = gains c.args.t c.args.after c.requires.shape c.requires.accepted c.requires.closed c.args.place c.requires.inside

small-back : (c : After-guest_money-then) → came_back c.args.t c.args.after (c.args.place / 3) (c.args.place % 3) ≤ most_back
small-back c = back_small c.args.t c.args.after c.requires.shape c.requires.accepted c.requires.closed c.args.place c.requires.inside

small-laid : (c : After-guest_money-then) → laid (guest_of c.args.t (c.args.place / 3) (c.args.place % 3)) ≤ most_laid
small-laid c = laid-small c.args.t c.args.after c.requires.shape c.requires.accepted c.requires.closed c.args.place c.requires.inside

-- what came back, and what was laid
back_is : (c : After-prizes) → c.guest_money-then.result.now.purse - c.guest_of-s.result.money.purse + c.prizes.result ≡ came_back c.args.t c.args.after (c.args.place / 3) (c.args.place % 3)
back_is c =
    let a = c.args in
    let guest = simp (c.guest_in-guest.ensures.seat, c.guest_in-guest.ensures.position) at c.guest_of-s.ensures in
    let paid = ap (λ (m : Money). m.purse) (simp (c.guest_in-guest.ensures.seat, c.guest_in-guest.ensures.position) at c.guest_money-then.ensures) in
    ap₂ (λ (x y : ℕ). x + y) (ap₂ (λ (x y : ℕ). x - y) paid (ap purse guest)) (c.prizes.ensures ∙ ap (prizes a.t.options) guest)

laid_is : (c : After-laid) → c.laid.result ≡ laid (guest_of c.args.t (c.args.place / 3) (c.args.place % 3))
laid_is c = c.laid.ensures ∙ ap laid (simp (c.guest_in-guest.ensures.seat, c.guest_in-guest.ensures.position) at c.guest_of-s.ensures)

pub returns-then-g-ne1 : goal.returns-then-g-ne1
returns-then-g-ne1 c = let a = c.args in not_here a.t a.after (a.place / 3) (a.place % 3) a.g c.if-g-ne1.true

pub returns-then-g-ge-MOST_ROUNDS : goal.returns-then-g-ge-MOST_ROUNDS
returns-then-g-ge-MOST_ROUNDS c = let a = c.args in stands_still a.t a.after (a.place / 3) (a.place % 3) a.g c.if-g-ge-MOST_ROUNDS.true

pub returns-then-s-eq0 : goal.returns-then-s-eq0
returns-then-s-eq0 c =
    let a = c.args in
    not_staked a.t a.after (a.place / 3) (a.place % 3) a.g c.guest_of-s.result (guest-is (goal.at.returns-then-s-eq0 c).After-guest_of-s) c.if-s-eq0.true

pub guest_in-guest-requires : goal.guest_in-guest-requires
guest_in-guest-requires c = c.requires.inside

pub overflow_sub-back : goal.overflow_sub-back
overflow_sub-back c = omega (arith, gained (goal.at.overflow_sub-back c).After-guest_money-then, ap purse (guest-is (goal.at.overflow_sub-back c).After-guest_of-s), ap (λ (m : Money). m.purse) (then_is (goal.at.overflow_sub-back c).After-guest_money-then))

pub overflow_add-back : goal.overflow_add-back
overflow_add-back c = omega (arith, back_is c, small-back (goal.at.overflow_add-back c).After-guest_money-then)

pub with_round-next-requires : goal.with_round-next-requires
with_round-next-requires c =
    let a = c.args in
    record {
      sound = card-fits a.t.options a.place a.g c.requires.sound;
      room = c.if-g-ge-MOST_ROUNDS.false;
      small = (omega (arith, laid_is (goal.at.with_round-next-requires c).After-laid, small-laid (goal.at.with_round-next-requires c).After-guest_money-then), omega (arith, back_is (goal.at.with_round-next-requires c).After-prizes, small-back (goal.at.with_round-next-requires c).After-guest_money-then));
    }

pub returns : goal.returns
returns c =
    let a = c.args in
    counts_there a.t a.after (a.place / 3) (a.place % 3) a.g c.if-g-ne1.false c.if-g-ge-MOST_ROUNDS.false c.guest_of-s.result (guest-is (goal.at.returns c).After-guest_of-s) c.if-s-eq0.false _
    (c.with_round-next.ensures ∙ ap₂ (with_round a.g.tally) (laid_is (goal.at.returns c).After-laid) (back_is (goal.at.returns c).After-prizes))
