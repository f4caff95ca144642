-- A seat's hands as the array of places and their number give them.
use mathlib.Core.Path.{◌≡◌, ap, ◌∙◌}
use Prim.Native.Nat.{ℕ, ◌<◌, min}
use lib.ListN.{length, take, get_or, length-take, length-map, get_or-map}
use lib.Seq.{get_or-take}
use mathlib.Core.List.{[]}
use Rattle.rules.specs.declared.seat_hand.SeatHand.{SeatHand}
use Rattle.rules.specs.declared.seat_hand.SeatHands.{SeatHands}
use Rattle.rules.specs.SeatHand.{played_of, hands_of}

-- what the code's copy of a place past the array would be
abbrev pub none : SeatHand
none = record { hand = record { cards = []; count = 0 }; origin = 0; ended = 0 }

-- how many hands
pub many_hands : (s : SeatHands) → length s.places ≡ 4 → length (hands_of s) ≡ min s.many 4
many_hands s full = length-map (take s.many s.places) played_of ∙ length-take s.many s.places ∙ ap (min s.many) full

-- the hand at a place in use, whatever the default
pub hand_at : (s : SeatHands) (i : ℕ) (d : SeatHand) → i < s.many → get_or (hands_of s) i (played_of d) ≡ played_of (get_or s.places i d)
hand_at s i d h = get_or-map played_of (take s.many s.places) i d ∙ ap played_of (get_or-take s.many s.places i d h)
