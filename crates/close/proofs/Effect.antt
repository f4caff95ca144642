-- The effect of close and what it shows, each from the parts that the code makes.
use mathlib.Core.Path.{◌≡◌}
use mathlib.Core.List.{List, map}
use Prim.Native.Nat.{ℕ, ◌+◌, ◌-◌}
use native.Mathlib.Omega.{arith}
use lib.IntN.{ℤ}
use lib.ListN.{length}
use Rattle.lists.specs.Sum.{sum_of}
use Rattle.cards.specs.declared.hand.Hand.{Hand}
use Rattle.cards.specs.Hand.{cards_of, empty_hand}
use Rattle.cards.specs.Score.{hand_score}
use Rattle.table.specs.declared.Shoe.{Shoe}
use Rattle.table.specs.declared.Table.{Table}
use Rattle.table.specs.Seat.{over_guests}
use Rattle.table.specs.Shoe.{with_drawn, discard_drawn}
use Rattle.table.specs.Table.{make_table}
use Rattle.table.specs.Aids.WithSeats.{with_seats}
use Rattle.table.specs.Money.{layout}
use Rattle.answer.specs.declared.scores.Scores.{Scores}
use Rattle.answer.specs.Scores.{no_scores, with_score}
use Rattle.answer.proofs.scores.Laws.{one-score}
use Rattle.answer.specs.Reply.{make_reply_view, make_reply, given_by, given_of}
use Rattle.close_spec.specs.BankDraw.{bank_at_close, close_takes}
use Rattle.close_spec.specs.PayLines.{all_lines}
use Rattle.close_spec.specs.Close.{guest_back, paid_seat, close_effect, close_shown}
use Rattle.close.specs.declared.paying.Payment.{Payment}
use Rattle.close.specs.Aids.Closes.{payment_of}
use Rattle.close.specs.Aids.LinesAt.{LinesAt}

pub close_is : (t u : Table) (payment : Payment) (laid back : ℕ) (none : Hand) (shoe : Shoe)
    → payment ≡ payment_of t
    → u ≡ with_seats t (map (paid_seat payment.options payment.bank) t.seats)
    → laid ≡ layout t
    → back ≡ sum_of (over_guests (guest_back payment.options payment.bank)) t.seats
    → none ≡ empty_hand
    → shoe ≡ discard_drawn (with_drawn t.shoe (close_takes t))
    → make_table u.options (t.tray + laid - back) u.seats none shoe ≡ close_effect t
unfolding close_effect
close_is t u payment laid back none shoe same seats lay goes empty cards = rw (seats, lay, goes, empty, cards, same)

-- what an accepted close gives back
pub settled_is : (t : Table) (bank : Hand) (payment : Payment) (u : Table) {names names-then : List ℕ} {nets nets-then : List ℤ} {lines : ℕ} (scores : Scores)
    → cards_of bank ≡ bank_at_close t
    → payment ≡ payment_of t
    → LinesAt names nets 0 (all_lines payment.options payment.bank 0 t.seats) names-then nets-then lines
    → u ≡ close_effect t
    → scores ≡ with_score no_scores (hand_score (cards_of bank))
    → given_of (make_reply 0 bank lines scores u) names-then nets-then ≡ given_by (make_reply_view 0 (close_shown t) (close_effect t)) names nets
unfolding close_shown
settled_is t bank payment u {lines = lines} scores cards paid shown effect said =
    let many : lines ≡ length (all_lines payment.options payment.bank 0 t.seats) = omega (arith, shown.behind_is) in
    rw (shown.names_are, shown.nets_are, many, effect, said, one-score (hand_score (cards_of bank)), paid, cards)
