-- Requests 2.2 and 2.6: the cover is enough and cannot be smaller. Whatever is paid to a guest of at most four hands and an insurance within the stake is, with its prizes,
-- within what was laid and the cover; four doubled hands of three sevens against a bust bank take all of it, and a side stake of each kind can win its part of it.
use Rattle.std.specs.Prelude.{◌≡◌, false, List, [], ◌∷◌, ℕ, ◌+◌, ◌*◌, ◌≤◌, length, replicate}
use Rattle.lists.specs.Sum.{sum_of}
use Rattle.options.specs.declared.Options.{Options}
use Rattle.rules.specs.SeatHand.{Played, split, by_double}
use Rattle.payment.specs.declared.bank.Score.{Score}
use Rattle.payment.specs.Prize.{prize}
use Rattle.payment.specs.Pay.{pay}
use Rattle.payment.specs.SidePay.{side_pay}
use Rattle.payment.specs.Pays.{pays_of, laid_of, back_of}
use Rattle.payment.specs.Bets.{Bets, bets}
use Rattle.payment.specs.Cover.{cover, side_cover}

-- A doubled hand of three sevens, four of them, and a bank that is bust.
abbrev pub doubled : Played
doubled = record { cards = 6 ∷ 19 ∷ 32 ∷ []; origin = split; ended = by_double }

abbrev pub sevens : List Played
sevens = replicate 4 doubled

abbrev pub bust : Score
bust = record { total = 22; natural = false }

-- What a guest's bets can take.
abbrev pub bets_cover : Bets → ℕ
bets_cover b = cover b.stake + side_cover b.sides

pub record CoverFits : Type 0 where
  pub enough : (o : Options) (bank : Score) (b : Bets) → length b.hands ≤ 4 → b.insurance ≤ b.stake
      → back_of (pays_of o bank b) + sum_of (prize o b.stake) b.hands ≤ laid_of (pays_of o bank b) + bets_cover b
  pub taken : (o : Options) (S : ℕ) → o.prize ≡ 1
      → back_of (pays_of o bust (bets S 0 [] [] sevens)) + sum_of (prize o S) sevens ≡ laid_of (pays_of o bust (bets S 0 [] [] sevens)) + cover S
  -- ten and ten; three sevens of one suit; ten and nine; two and three
  pub pair_wins : (n : ℕ) → side_pay 1 n (9 ∷ 22 ∷ []) ≡ pay n (n + 11 * n)
  pub sevens_win : (n : ℕ) → side_pay 2 n (6 ∷ 6 ∷ 6 ∷ []) ≡ pay n (n + 5000 * n)
  pub more_wins : (n : ℕ) → side_pay 3 n (9 ∷ 8 ∷ []) ≡ pay n (n + 1 * n)
  pub less_wins : (n : ℕ) → side_pay 4 n (1 ∷ 2 ∷ []) ≡ pay n (n + 1 * n)
