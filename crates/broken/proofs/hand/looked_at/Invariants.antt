-- `looked_at` goes hand by hand: before each turn it holds what the hands before it decide and come to, and neither sum is more than stakes of 32 bits can be.
use mathlib.Core.Path.{◌≡◌}
use Prim.Native.Nat.{◌*◌, ◌≤◌}
use lib.ListN.{take}
use Rattle.lists.specs.Sum.{sum_of}
use Rattle.lists.specs.Tests.{all_of}
use Rattle.rules.specs.SeatHand.{hands_of}
use Rattle.payment.specs.Wager.{wager}
use Rattle.payment.specs.Prize.{prize, most_prize}
use Rattle.table.specs.Broken.{sound_hand}
use Rattle.broken.proofs.hand.looked_at.Given as goal

abbrev pub invariant-loop-h : goal.invariant-loop-h
invariant-loop-h l =
    (l.sound ≡ all_of (sound_hand l.o l.up l.fn.s.many) (take l.h-index (take l.fn.s.many l.fn.s.places)))
    × (l.wagers ≡ sum_of (wager l.stake) (take l.h-index (hands_of l.fn.s)))
    × (l.prizes ≡ sum_of (prize l.o l.stake) (take l.h-index (hands_of l.fn.s)))
    × (l.wagers ≤ 2 * 4294967296 * l.h-index)
    × (l.prizes ≤ most_prize 4294967296 * l.h-index)
