-- The look at a seat's hands: whether each in use is sound, and what they come to in wagers and prizes at a stake.
use Rattle.std.specs.Prelude.{◌≡◌, ℕ, take}
use Rattle.lists.specs.Sum.{sum_of}
use Rattle.lists.specs.Tests.{all_of}
use Rattle.options.specs.declared.Options.{Options}
use Rattle.rules.specs.declared.seat_hand.SeatHands.{SeatHands}
use Rattle.rules.specs.SeatHand.{hands_of}
use Rattle.payment.specs.Wager.{wager}
use Rattle.payment.specs.Prize.{prize}
use Rattle.table.specs.Broken.{sound_hand}
use Rattle.broken.specs.declared.hand.Looked.{Looked}

pub record LookedAt (o : Options) (up stake : ℕ) (s : SeatHands) (r : Looked) : Type 0 where
  pub each : r.sound ≡ all_of (sound_hand o up s.many) (take s.many s.places)
  pub wagers : r.wagers ≡ sum_of (wager stake) (hands_of s)
  pub prizes : r.prizes ≡ sum_of (prize o stake) (hands_of s)
