-- The tests decide: no card, or the one in the array's place; a seat that a whole table has is one of the nine.
use mathlib.Core.Path.{◌≡◌, sym, ◌∙◌}
use mathlib.Core.Bool.{false}
use Prim.Native.Nat.{◌<◌}
use native.Mathlib.Omega.{arith}
use borrow.Author.Tests.{le-leb, lt-leb}
use Rattle.table.proofs.Facts.{seat_of-nine}
use Rattle.host_spec.specs.Broken.{host_broken}
use Rattle.host_spec.specs.Cards.{place_at}
use Rattle.host.specs.Shown.{card_or_none}
use Rattle.host.proofs.Fits.{small-card, small-none}
use Rattle.host.proofs.arrive.Laws.{whole_table}
use Rattle.host.proofs.shown.card_or_none.Goals.{Else-position-ge3}
use Rattle.host.proofs.shown.card_or_none.Goals as goal

whole : (c : Else-position-ge3) → host_broken c.args.h ≡ false
whole c = sym c.host_broken.ensures ∙ c.if-host_broken.false

inside : (c : Else-position-ge3) → place_at c.args.seat c.args.position < 27
inside c =
    let a = c.args in
    omega (arith, seat_of-nine a.h.table a.seat (whole_table a.h (whole c)) (lt-leb _ _ c.if-h-seat.false), c.if-position-ge3.false)

pub returns-then-host_broken : goal.returns-then-host_broken
unfolding card_or_none
returns-then-host_broken c = record { same = rw (sym c.host_broken.ensures ∙ c.if-host_broken.true) c.no_card.ensures; small = small-none _ c.no_card.ensures }

pub returns-then-h-seat : goal.returns-then-h-seat
unfolding card_or_none
returns-then-h-seat c = record { same = simp (sym c.host_broken.ensures ∙ c.if-host_broken.false, le-leb _ _ c.if-h-seat.true) c.no_card-then-h-seat.ensures; small = small-none _ c.no_card-then-h-seat.ensures }

pub returns-then-position-ge3 : goal.returns-then-position-ge3
unfolding card_or_none
returns-then-position-ge3 c = record { same = simp (sym c.host_broken.ensures ∙ c.if-host_broken.false, lt-leb _ _ c.if-h-seat.false, le-leb _ _ c.if-position-ge3.true) c.no_card-then-position-ge3.ensures; small = small-none _ c.no_card-then-position-ge3.ensures }

pub new-guest-requires-clause-seat : goal.new-guest-requires-clause-seat
new-guest-requires-clause-seat c = seat_of-nine _ _ (whole_table _ (sym c.host_broken.ensures ∙ c.if-host_broken.false)) (lt-leb _ _ c.if-h-seat.false)

pub returns : goal.returns
unfolding card_or_none
returns c =
    let a = c.args in
    let place = simp c.new-guest.ensures at c.place.ensures.same in
    record { same = simp (whole (goal.at.returns c).Else-position-ge3, lt-leb _ _ c.if-h-seat.false, lt-leb _ _ c.if-position-ge3.false, place); small = rw place (small-card a.h (place_at a.seat a.position) (whole (goal.at.returns c).Else-position-ge3) (inside (goal.at.returns c).Else-position-ge3)) }
