-- The list that meets the premises, computed from the definitions of the calls.
use mathlib.Core.Path.{refl}
use native.Mathlib.Omega.{arith}
use Rattle.lists.specs.Sum.{sum_of}
use Rattle.lists.specs.Tests.{any_of, all_of, first_place}
use Rattle.lists.specs.Below.{all_below}
use Rattle.lists.specs.Flat.{flat}
use Rattle.call.specs.Refusal.{first}
use Rattle.cards.specs.Points.{points_of}
use Rattle.cards.specs.Hand.{with_card}
use Rattle.cards.specs.Total.{total}
use Rattle.cards.specs.Length.{could_be_played}
use Rattle.cards.specs.PrizeHand.{all_sevens, suited_six_seven_eight, is_prize_hand}
use Rattle.options.specs.Device.{bank_at_deal}
use Rattle.options.specs.Decider.{deciding_position}
use Rattle.options.specs.Ranges.{ranges, in_range}
use Rattle.rules.specs.Waits.{cards_wait, waits}
use Rattle.payment.specs.Bank.{must_draw, bank_takes}
use Rattle.rules.specs.Permits.{takes_cards, permits_draw}
use Rattle.payment.specs.Wager.{wager}
use Rattle.payment.specs.Prize.{prize}
use Rattle.table.specs.Seat.{guest_at, with_guest, laid, prizes}
use Rattle.table.specs.Shoe.{valid_order, burns_first}
use Rattle.options.specs.Permitted.{stake_permitted}
use Rattle.table.specs.Broken.{sound_origin, sound_ending, sound_hand, sound_number, sound_stake, sound_insurance, sound_sides, sound_hands, sound_prizes, sound_guest, seated_first, sound_seat, sound_shoe, sound_begun, sound_discards, sound_faces, sound_bank, sound_money, sound}
use Rattle.cashier_spec.specs.Opening.{open_conditions, open_number, opened}
use Rattle.cashier_spec.specs.Fill.{fill_conditions, fill_effect}
use Rattle.answer.specs.Conditions.{seat_conditions, guest_conditions}
use Rattle.cashier_spec.specs.Buy.{buy_conditions, buy_effect}
use Rattle.cashier_spec.specs.Load.{load_conditions, load_effect}
use Rattle.cashier_spec.specs.Stake.{stake_conditions, stake_effect}
use Rattle.deal_spec.specs.Burn.{burn_at_deal}
use Rattle.deal_spec.specs.Pass.{pass}
use Rattle.deal_spec.specs.Deal.{deal_takes, load_due, deal_conditions, dealt_seats, up_card, hidden_card, dealt_bank, deal_effect}
use Rattle.decisions_spec.specs.Turn.{turn_conditions, end_effect}
use Rattle.decisions_spec.specs.Card.{card_effect}
use Rattle.decisions_spec.specs.Draw.{draw_conditions}
use Rattle.close_spec.specs.BankDraw.{bank_burn, bank_at_close}
use Rattle.close_spec.specs.Close.{close_conditions, close_shown}
use Rattle.answer.specs.Reply.{reply_by}
use Rattle.engine.specs.Step.{number, next, step}
use Rattle.engine.specs.Session.{at}
use Rattle.engine.specs.Run.{run}
use Rattle.secret.specs.Secret.{quiet, undrawn}
use Rattle.secret.specs.Example.{box_house, faces, rising, filled, staked, played, calls, bank_closed, Example}

pub example : Example
unfolding guest_at with_guest guest_conditions deciding_position sound_guest seated_first box_house faces rising filled staked played calls bank_closed quiet undrawn run burns_first sound_begun bank_at_deal load_due hidden_card dealt_bank load_conditions load_effect draw_conditions close_shown at sum_of any_of all_of first_place all_below flat first points_of with_card total could_be_played all_sevens suited_six_seven_eight is_prize_hand ranges in_range cards_wait waits must_draw takes_cards permits_draw wager prize laid prizes valid_order stake_permitted sound_origin sound_ending sound_hand sound_number sound_stake sound_insurance sound_sides sound_hands sound_prizes sound_seat sound_shoe sound_discards sound_faces sound_bank sound_money sound open_conditions open_number opened fill_conditions fill_effect seat_conditions buy_conditions buy_effect stake_conditions stake_effect burn_at_deal pass deal_takes deal_conditions dealt_seats up_card deal_effect turn_conditions end_effect card_effect bank_burn bank_takes bank_at_close close_conditions number next step reply_by
example =
    record {
      in_a_load = record { box = refl; loads = refl; hides = record { no_other = refl; dealt = refl; hidden = refl; place = omega arith; not_drawn = refl; no_close = refl } };
      in_the_opening = record { box = refl; opens = refl; hides = record { no_other = refl; dealt = refl; hidden = refl; place = omega arith; not_drawn = refl; no_close = refl } };
      close_tells = refl;
      close_tells_other = refl;
    }
