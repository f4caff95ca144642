-- The marked session, computed from the definitions of the calls.
use mathlib.Core.Path.{refl}
use Rattle.lists.specs.Sum.{sum_of}
use Rattle.lists.specs.Tests.{any_of, all_of, first_place}
use Rattle.lists.specs.Below.{all_below}
use Rattle.lists.specs.Flat.{flat}
use Rattle.call.specs.Refusal.{first}
use Rattle.cards.specs.Points.{points_of}
use Rattle.cards.specs.Hand.{with_card}
use Rattle.cards.specs.Total.{total}
use Rattle.cards.specs.Length.{could_be_played}
use Rattle.cards.specs.Natural.{is_natural}
use Rattle.cards.specs.Pair.{is_pair}
use Rattle.cards.specs.PrizeHand.{all_sevens, suited_six_seven_eight, is_prize_hand}
use Rattle.options.specs.Device.{bank_at_deal}
use Rattle.options.specs.Decider.{deciding_position}
use Rattle.options.specs.Ranges.{ranges, in_range}
use Rattle.rules.specs.SeatHand.{natural, has_two_cards}
use Rattle.rules.specs.OpenCalls.{even_open, five_open}
use Rattle.rules.specs.Waits.{is_two_aces, aces_wait, cards_wait, waits}
use Rattle.payment.specs.Bank.{must_draw, bank_takes}
use Rattle.rules.specs.Permits.{permits_stand, takes_cards, permits_draw, permits_double, permits_split}
use Rattle.rules.specs.Leaving.{permits_even, permits_five, permits_surrender}
use Rattle.rules.specs.Drew.{seat_drew}
use Rattle.payment.specs.Wager.{wager}
use Rattle.payment.specs.HandPay.{hand_back, against_bank, against_natural, by_totals}
use Rattle.payment.specs.Insurance.{insurance_pay}
use Rattle.payment.specs.Pays.{insurance_pays, side_due, side_pays, hand_pays, pays_of}
use Rattle.payment.specs.Prize.{prize}
use Rattle.table.specs.Seat.{guest_at, with_guest, laid, prizes}
use Rattle.table.specs.Shoe.{valid_order, burns_first}
use Rattle.options.specs.Permitted.{stake_permitted, insurance_permitted}
use Rattle.table.specs.Broken.{sound_origin, sound_double, sound_surrender, sound_ending, sound_hand, sound_number, sound_stake, sound_insurance, sound_sides, sound_hands, sound_prizes, sound_guest, seated_first, sound_seat, sound_begun, sound_shoe, sound_discards, sound_faces, sound_bank, sound_money, sound}
use Rattle.cashier_spec.specs.Opening.{open_conditions, open_number, opened}
use Rattle.cashier_spec.specs.Fill.{fill_conditions, fill_effect}
use Rattle.answer.specs.Conditions.{seat_conditions, guest_conditions}
use Rattle.cashier_spec.specs.Buy.{buy_conditions, buy_effect}
use Rattle.cashier_spec.specs.Stake.{stake_conditions, stake_effect}
use Rattle.deal_spec.specs.Burn.{burn_at_deal}
use Rattle.deal_spec.specs.Pass.{pass}
use Rattle.deal_spec.specs.Deal.{deal_takes, load_due, deal_conditions, dealt_seats, up_card, dealt_bank, deal_effect}
use Rattle.table.specs.Progress.{any_drew, any_decided}
use Rattle.decisions_spec.specs.Insure.{insure_conditions, insure_effect}
use Rattle.decisions_spec.specs.Turn.{turn_conditions, end_effect}
use Rattle.decisions_spec.specs.Card.{card_effect}
use Rattle.decisions_spec.specs.Double.{double_conditions}
use Rattle.decisions_spec.specs.Split.{split_conditions, split_effect}
use Rattle.close_spec.specs.BankDraw.{bank_burn, bank_at_close, close_takes}
use Rattle.close_spec.specs.Close.{close_conditions, guest_back, close_effect}
use Rattle.answer.specs.Reply.{reply_by}
use Rattle.engine.specs.Step.{number, next, step}
use Rattle.engine.specs.Session.{house, others, marked, order, at, row, rows, calls, Session}

pub session : Session
unfolding house others marked order at row rows calls sum_of any_of all_of first_place all_below flat first points_of with_card total could_be_played is_natural is_pair all_sevens suited_six_seven_eight is_prize_hand bank_at_deal deciding_position ranges in_range natural has_two_cards even_open five_open is_two_aces aces_wait cards_wait waits must_draw permits_stand takes_cards permits_draw permits_double permits_split permits_even permits_five seat_drew permits_surrender wager hand_back against_bank against_natural by_totals insurance_pay insurance_pays side_due side_pays hand_pays pays_of prize guest_at with_guest laid prizes valid_order burns_first stake_permitted insurance_permitted sound_origin sound_double sound_surrender sound_ending sound_hand sound_number sound_stake sound_insurance sound_sides sound_hands sound_prizes sound_guest seated_first sound_seat sound_begun sound_shoe sound_discards sound_faces sound_bank sound_money sound open_conditions open_number opened fill_conditions fill_effect seat_conditions guest_conditions buy_conditions buy_effect stake_conditions stake_effect burn_at_deal pass deal_takes load_due deal_conditions dealt_seats up_card dealt_bank deal_effect any_drew any_decided insure_conditions insure_effect turn_conditions end_effect card_effect double_conditions split_conditions split_effect bank_burn bank_takes bank_at_close close_takes close_conditions guest_back close_effect number next step reply_by
session = record { opens = refl; plays = refl }
