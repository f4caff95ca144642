-- Document 01, "The seventeen calls", the guest: an accepted decision is one that the rules permit to the hand that it goes to. Draw, double, even and five ask
-- their rule as it is, for 13. Stand, split and surrender ask its parts one by one, each with its own number: here it stands that together they are the rule.
use Rattle.std.specs.Prelude.{◌≡◌, true, false, ℕ, ◌≤◌, length}
use Rattle.call.specs.Refusal.{first}
use Rattle.cards.specs.Hand.{cards_of}
use Rattle.cards.specs.Pair.{is_pair}
use Rattle.rules.specs.SeatHand.{played_of}
use Rattle.rules.specs.Permits.{permits_stand, permits_split}
use Rattle.rules.specs.Leaving.{permits_surrender}
use Rattle.table.specs.declared.Table.{Table}
use Rattle.table.specs.Seat.{hands, decider}
use Rattle.table.specs.Table.{seat_at, up}
use Rattle.table.specs.Progress.{any_drew}
use Rattle.decisions_spec.specs.Place.{place_of}
use Rattle.decisions_spec.specs.Turn.{waiting_hand_of, may_take}
use Rattle.decisions_spec.specs.Stand.{stand_conditions}
use Rattle.decisions_spec.specs.Split.{split_conditions}
use Rattle.decisions_spec.specs.Surrender.{surrender_conditions}

pub record Permitted (t : Table) (j p : ℕ) : Type 0 where
  pub stand : first (stand_conditions t j p) ≡ 0 → may_take permits_stand t j ≡ true
  pub split : first (split_conditions t j p) ≡ 0 → may_take permits_split t j ≡ true
  -- the hand is the seat's only one; it is late where anyone has drawn, doubled or split
  pub surrender : first (surrender_conditions t j p) ≡ 0 → permits_surrender t.options (up t) (any_drew t) (length (hands (seat_at t j))) (played_of (place_of (seat_at t j) 0)) ≡ true
  -- and the numbers of these parts say why it is not permitted. Split (request 2.5): 19 that the hand is no pair, 20 that it is one, in a seat that has all its
  -- hands; 13 is never its number
  pub split_no_pair : first (split_conditions t j p) ≡ 19 → is_pair (cards_of (waiting_hand_of t j).hand) ≡ false
  pub split_full : first (split_conditions t j p) ≡ 20 → (is_pair (cards_of (waiting_hand_of t j).hand) ≡ true) × (t.options.hands ≤ length (hands (seat_at t j)))
  pub split_not_13 : first (split_conditions t j p) ≡ 13 → ⊥
  -- surrender: 12 and 13
  pub surrender_late : first (surrender_conditions t j p) ≡ 12 → permits_surrender t.options (up t) (any_drew t) (length (hands (seat_at t j))) (played_of (place_of (seat_at t j) 0)) ≡ false
  pub surrender_barred : first (surrender_conditions t j p) ≡ 13 → permits_surrender t.options (up t) (any_drew t) (length (hands (seat_at t j))) (played_of (place_of (seat_at t j) 0)) ≡ false
  -- and who takes it is the seat's deciding guest (request 2.8)
  pub stand_decides : first (stand_conditions t j p) ≡ 0 → decider t.options (seat_at t j) ≡ p
  pub surrender_decides : first (surrender_conditions t j p) ≡ 0 → decider t.options (seat_at t j) ≡ p
