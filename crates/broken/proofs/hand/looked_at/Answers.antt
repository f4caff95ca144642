-- `looked_at` goes hand by hand: before each turn it holds what the hands before it decide and come to, and neither sum is more than stakes of 32 bits can be.
use mathlib.Core.Path.{◌≡◌, ap, ap₂}
use mathlib.Core.Bool.{◌&&◌}
use mathlib.Core.List.{List}
use Prim.Native.Nat.{ℕ, ◌<◌, min}
use native.Mathlib.Numerals.{add-one}
use native.Mathlib.Omega.{arith}
use lib.ListN.{length, take, get_or, length-take}
use lib.Seq.{get_or-take}
use Rattle.lists.specs.Sum.{sum_of}
use Rattle.lists.specs.Tests.{all_of}
use Rattle.lists.proofs.Tests.{all_take}
use Rattle.rules.specs.declared.seat_hand.SeatHand.{SeatHand}
use Rattle.rules.specs.declared.seat_hand.SeatHands.{SeatHands}
use Rattle.rules.specs.SeatHand.{played_of}
use Rattle.rules.proofs.seat_hand.Places.{none}
use Rattle.payment.specs.Wager.{wager}
use Rattle.payment.specs.Prize.{prize}
use Rattle.payment.proofs.Bounds.{wager_bounds, prize_most}
use Rattle.table.specs.Broken.{sound_hand}
use Rattle.money.proofs.seat_money.Hands.{next-hand}
use borrow.Author.Rules.{rules}
use Rattle.broken.proofs.hand.looked_at.Goals as goal

pub loop-h-init : goal.loop-h-init
unfolding all_of sum_of
loop-h-init c = search rules

-- the hand at a place in use is that of the seat's places
at_place : (s : SeatHands) (items : List SeatHand) (i : ℕ) → items ≡ take s.many s.places → i < length items → get_or items i none ≡ get_or s.places i none
at_place s items i e h = rw e (get_or-take s.many s.places i none (omega (arith, ap length e, length-take s.many s.places)))

pub overflow_add-wagers : goal.overflow_add-wagers
overflow_add-wagers c =
    let s = c.args.s.now in
    let full : length s.places ≡ 4 = c.hands_shape.ensures in
    let few = length-take s.many s.places in
    let items = ap length c.in_use-h-items.ensures in
    omega (arith, few, items, c.wager-wagers.ensures, (wager_bounds c.args.stake (played_of (get_or c.in_use-h-items.result.now c.loop-h.h-index none))).1)

pub overflow_add-prizes : goal.overflow_add-prizes
overflow_add-prizes c =
    let s = c.args.s.now in
    let full : length s.places ≡ 4 = c.hands_shape.ensures in
    let few = length-take s.many s.places in
    let items = ap length c.in_use-h-items.ensures in
    omega (arith, few, items, c.prize-prizes.ensures, prize_most c.args.o c.args.stake (played_of (get_or c.in_use-h-items.result.now c.loop-h.h-index none)))

pub loop-h-preserved : goal.loop-h-preserved
loop-h-preserved c =
    let a = c.args in
    let s = a.s.now in
    let i = c.loop-h.h-index in
    let items = c.in_use-h-items.ensures in
    let full : length s.places ≡ 4 = c.hands_shape.ensures in
    let here = at_place s c.in_use-h-items.result.now i items c.loop-h-test.true in
    let h = played_of (get_or s.places i none) in
    let within : i < length (take s.many s.places) = omega (arith, ap length items) in
    let used : i < min s.many 4 = omega (arith, within, length-take s.many s.places) in
    let laid : c.wager-wagers.result ≡ wager a.stake h = rw here at c.wager-wagers.ensures in
    let won : c.prize-prizes.result ≡ prize a.o a.stake h = rw here at c.prize-prizes.ensures in
    let more = (wager_bounds a.stake h).1 in
    let most = prize_most a.o a.stake h in (
      rw (add-one, all_take (sound_hand a.o a.up s.many) (take s.many s.places) i none within) (ap₂ ◌&&◌ c.loop-h.invariant.0 (rw items at c.sound_hand-sound.ensures)),
      rw (next-hand (wager a.stake) s full i used) (omega (arith, laid)),
      rw (next-hand (prize a.o a.stake) s full i used) (omega (arith, won)),
      omega (arith, laid),
      omega (arith, won),
    )
