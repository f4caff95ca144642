-- An accepted call of a seated guest does what the rules for one guest say: to a guest who holds nothing every change of money gives nothing.
use mathlib.Core.Path.{◌≡◌, refl, ap, ap₂}
use mathlib.Core.List.{List, [], ◌∷◌, map}
use Prim.Native.Nat.{ℕ, suc, ◌+◌, ◌*◌, ◌-◌, ◌<◌}
use native.Mathlib.Omega.{arith}
use lib.ListN.{length, get_or, replicate}
use Rattle.call.specs.declared.Call.{Call}
use Rattle.call.specs.declared.Call.TheVariants.{Fill, Credit, Buy, Cash, Stake, Deal, Insure, Stand, Draw, Double, Split, Surrender, Even, Five, Close, Void, Load, Side}
use Rattle.call.specs.Call.{position}
use Rattle.options.specs.declared.Options.{Options}
use Rattle.rules.specs.SeatHand.{Played, played_of, not_ended, by_double}
use Rattle.payment.specs.Prize.{prize}
use Rattle.payment.proofs.Bounds.{prize_most}
use Rattle.table.specs.declared.Seat.{Seat}
use Rattle.table.specs.declared.Table.{Table}
use Rattle.table.specs.Guest.{holding}
use Rattle.table.specs.Seat.{cleared_seat, with_money, missing_seat, guest_at, with_guest, over_guests, purse, stake, laid, prizes}
use Rattle.table.specs.Table.{seat_at}
use Rattle.table.proofs.Guests.{guest-seated}
use Rattle.table.proofs.Facts.{nothing-laid}
use Rattle.cashier_spec.specs.Buy.{buy_effect}
use Rattle.cashier_spec.specs.Cash.{cash_effect}
use Rattle.cashier_spec.specs.Stake.{stake_effect}
use Rattle.cashier_spec.specs.Side.{side_effect}
use Rattle.decisions_spec.specs.Insure.{insure_effect}
use Rattle.decisions_spec.specs.Card.{grown_hand, card_money, card_effect}
use Rattle.decisions_spec.specs.Split.{staked_again, split_effect}
use Rattle.close_spec.specs.Close.{close_score, guest_back, close_effect}
use Rattle.close_spec.proofs.Back.{nothing_back}
use Rattle.close_spec.specs.Void.{void_effect}
use Rattle.engine.specs.Step.{effect}
use Rattle.one_guest.specs.Effects.{card_one, split_one, ended_one, close_one, void_one, effect_one}
use Rattle.one_guest.specs.AsBefore.{OnlySeated}
use Rattle.one_guest.proofs.Alone.{one, other, no_bets, over_one, others_stay}
use Rattle.one_guest.proofs.Sums.{layout-one, prizes_one_lem, back_one}

-- a prize of no stake is none
no_prize : (o : Options) (h : Played) → prize o 0 h ≡ 0
no_prize o h = omega (arith, prize_most o 0 h)

module _ (t : Table) (only : OnlySeated t) (j : ℕ) where
  pub card_one_lem : (times code more : ℕ) → times * stake (seat_at t j) ≡ more → card_effect times code t j ≡ card_one more code t j
  unfolding card_effect card_one
  card_one_lem times code more e =
      let h = grown_hand t j code in
      let still : map (card_money t.options times (played_of h)) (seat_at t j).others ≡ (seat_at t j).others = others_stay t only j (card_money t.options times (played_of h)) (nothing-moves times (played_of h)) in
      let won : over_guests (λ g. prize t.options (stake g) (played_of h)) (seat_at t j) ≡ prize t.options (stake (seat_at t j)) (played_of h) = over_one t only j (λ g. prize t.options (stake g) (played_of h)) (λ r. no_prize t.options (played_of h)) (no_prize t.options (played_of h)) in
      rw (won, still, e)
    where
      nothing-moves : (times : ℕ) (h : Played) → card_money t.options times h (holding 0) ≡ holding 0
      nothing-moves times h = ap holding (omega (arith, no_prize t.options h))

  pub split_one_lem : split_effect t j ≡ split_one t j
  unfolding split_effect split_one
  split_one_lem = rw (others_stay t only j staked_again refl)

-- a map over the seats whose others hold nothing
map_alone : (f g : Seat → Seat) (seats : List Seat) → ((s : Seat) → s.others ≡ replicate 2 (holding 0) → f s ≡ g s)
    → ((i : ℕ) → i < length seats → (get_or seats i missing_seat).others ≡ replicate 2 (holding 0)) → map f seats ≡ map g seats
map_alone f g [] same alone = refl
map_alone f g (s ∷ ss) same alone = ap₂ (λ (x : Seat) (xs : List Seat). x ∷ xs) (same s (alone 0 (omega arith))) (map_alone f g ss same (λ i h. alone (suc i) (omega arith)))

-- a seat at the end of a round, however a guest's purse is worked out, where one who has no bets and no purse gets none
ended_alone : (purse-of : Seat → ℕ) (s : Seat) → s.others ≡ replicate 2 (holding 0) → purse-of (with_money s (holding 0)) ≡ 0 → cleared_seat (λ p. purse-of (guest_at s p)) ≡ ended_one s (purse-of s)
ended_alone purse-of s alone none = rw (guest-seated s, one s alone, other s alone, none, alone)

module _ (t : Table) (only : OnlySeated t) where
  -- the seats at the end of a round
  seats-one : (purse-of : Seat → ℕ) → ((s : Seat) → s.others ≡ replicate 2 (holding 0) → purse-of (with_money s (holding 0)) ≡ 0)
      → map (λ s. cleared_seat (λ p. purse-of (guest_at s p))) t.seats ≡ map (λ s. ended_one s (purse-of s)) t.seats
  seats-one purse-of none = map_alone (λ s. cleared_seat (λ p. purse-of (guest_at s p))) (λ s. ended_one s (purse-of s)) t.seats (λ s alone. ended_alone purse-of s alone (none s alone)) only

  close-one : close_effect t ≡ close_one t
  unfolding close_effect close_one
  close-one =
      rw (
        layout-one t only,
        back_one t only (close_score t),
        seats-one (λ g. purse g + guest_back t.options (close_score t) g) (λ s alone. omega (arith, nothing_back t.options (close_score t) (with_money s (holding 0)) (no_bets s alone))),
      )

  void-one : void_effect t ≡ void_one t
  unfolding void_effect void_one
  void-one =
      rw (prizes_one_lem t only, seats-one (λ g. purse g + laid g - prizes t.options g) (λ s alone. omega (arith, nothing-laid (with_money s (holding 0)) (no_bets s alone))))

  pub same_effect : (c : Call) (order : List ℕ) → position c ≡ 0 → effect t c order ≡ effect_one t c order
  unfolding buy_effect cash_effect stake_effect side_effect insure_effect guest_at with_guest
  same_effect (Fill n) order e = refl
  same_effect (Credit n) order e = refl
  same_effect (Buy at n) order e = rw e
  same_effect (Cash at n) order e = rw e
  same_effect (Stake at n) order e = rw e
  same_effect Deal order e = refl
  same_effect (Insure at n) order e = rw e
  same_effect (Stand at) order e = refl
  same_effect (Draw at) order e = card_one_lem t only at.seat 0 not_ended _ (omega arith)
  same_effect (Double at) order e = card_one_lem t only at.seat 1 by_double _ (omega arith)
  same_effect (Split at) order e = split_one_lem t only at.seat
  same_effect (Surrender at) order e = refl
  same_effect (Even at) order e = refl
  same_effect (Five at) order e = refl
  same_effect Close order e = close-one
  same_effect Void order e = void-one
  same_effect Load order e = refl
  same_effect (Side at k n) order e = rw e
