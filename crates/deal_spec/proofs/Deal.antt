-- An accepted deal keeps the table good: each staked seat has the cards that the history places behind the burn, by its rank among the staked seats.
use mathlib.Core.Path.{◌≡◌, refl, sym, ◌∙◌, ap, ap₂}
use mathlib.Core.Bool.{Bool, true, false, cond}
use mathlib.Core.List.{List, [], ◌∷◌}
use Prim.Native.Nat.{ℕ, ◌+◌, ◌-◌, ◌*◌, ◌≤◌, ◌<◌}
use native.Mathlib.Decide.{dec_le}
use native.Mathlib.Omega.{arith}
use lib.Dec.{ltb, leb, eqb}
use lib.ListN.{length, get_or}
use lib.Seq.{get_or-take, take_all}
use borrow.Author.Tests.{le-leb, lt-leb, eq-eqb, ne_eqb}
use Rattle.lists.specs.Tests.{any_of}
use Rattle.lists.proofs.Below.{sum_below-same, sum_below_more}
use Rattle.call.specs.declared.Call.TheVariants.{Deal}
use Rattle.call.specs.Refusal.{first}
use Rattle.options.specs.declared.Options.{Options}
use Rattle.options.specs.Device.{is_box, is_machine, bank_at_deal}
use Rattle.options.specs.Aids.Facts.{InRange}
use Rattle.rules.specs.SeatHand.{Played, dealt, not_ended, has_two_cards}
use Rattle.rules.specs.Drew.{seat_drew}
use Rattle.table.specs.declared.Shoe.{Shoe}
use Rattle.table.specs.declared.Table.{Table}
use Rattle.table.specs.Seat.{missing_seat, guest_at, stake, is_staked, hands, first_cards}
use Rattle.table.specs.Shoe.{burns_first}
use Rattle.table.specs.Table.{seat_at, guest_of, bank_cards}
use Rattle.table.specs.Progress.{any_drew, any_decided}
use Rattle.table.proofs.Guests.{guest-seated, guest_money}
use Rattle.table.proofs.Facts.{sound_options, no_hands, no_prizes}
use Rattle.table.specs.Shape.{Shaped}
use Rattle.table.specs.Aids.Sound.{Sound}
use Rattle.history.specs.Entry.{Entry}
use Rattle.history.specs.Aids.MakeEntry.{entry}
use Rattle.history.specs.Rounds.{stake_in, staked_below}
use Rattle.history.specs.Cards.{Cards, deal_burns, call_takes, bank_after, cards_after, cards_of_history}
use Rattle.history.specs.Hands.{played, missing_hand, dealt_hand, hands_after, hands_in, first_after, first_in}
use Rattle.agreement.specs.Aids.Agrees.{GuestAgrees, SeatAgrees, CardsAgree, Agrees, Good}
use Rattle.agreement.proofs.Groups.{of_deal}
use Rattle.agreement.proofs.Quiet.{guest-alike, untouched_guest, no_money}
use Rattle.agreement.proofs.Events.{seat_decided, nobody-decided}
use Rattle.deal_spec.specs.Burn.{first_burn, later_burn, burn_at_deal}
use Rattle.deal_spec.specs.Deal.{staked_seats, burnt, deal_takes, dealt_seats, up_card, hidden_card, deal_conditions, deal_effect}
use Rattle.lists.proofs.Parts.{sum_first, sum-before}
use Rattle.deal_spec.proofs.DealAccepted.{DealAccepted, deal-accepted}
use Rattle.deal_spec.proofs.DealtBank.{some_at-deal, bank_cards_lem}
use Rattle.deal_spec.proofs.DealtSeat.{dealt-hands, dealt-first}
use Rattle.deal_spec.proofs.DealSound.{first_place, second_place, staked_before, first_of, second_of, dealt_at, past, no_hand_yet, no_hands_yet, staked-nine, dealt_either, laid-after, prizes-after, now-dealt, deal_money, deal_shaped, deal-sound}

-- the burn, as the history says it
same-burn : (o : Options) (sh : Shoe) (c : Cards) → InRange o → burns_first o sh ≡ c.fresh → burn_at_deal o sh ≡ deal_burns o c
unfolding burn_at_deal deal_burns
same-burn o sh c f fresh = rw fresh (ap₂ (λ (a b : ℕ). cond c.fresh a b) (at_first (dec_le o.first 1)) (later (dec_le o.later 0)))
  where
    at_first : Dec (o.first ≤ 1) → first_burn o ≡ cond (eqb o.first 2) o.decks 1
    at_first (yes h) = simp (eq-eqb o.first 1 (omega arith), ne_eqb o.first 2 (omega arith))
    at_first (no h) = simp (ne_eqb o.first 1 (omega arith), eq-eqb o.first 2 (omega arith))

    later : Dec (o.later ≤ 0) → later_burn o ≡ cond (leb 1 o.later) 1 0
    later (yes h) = simp (eq-eqb o.later 0 (omega arith), lt-leb 1 o.later (omega arith))
    later (no h) = simp (ne_eqb o.later 0 (omega arith), le-leb 1 o.later (omega arith))

module _ (opening : List ℕ) (es : List Entry) (t : Table) (order : List ℕ) (g : Good opening es t) (ok : DealAccepted t) where
  abbrev e : Entry
  e = entry Deal order

  abbrev c : Cards
  c = cards_of_history t.options opening es

  abbrev one : ℕ → ℕ
  one S = cond (ltb 0 S) 1 0

  -- the stake of the seated guest
  stake_is : (i : ℕ) → stake (seat_at t i) ≡ stake_in es i 0
  stake_is i = ap stake (sym (guest-seated (seat_at t i))) ∙ ((g.agrees.seats i).guests 0).stake_is

  -- how many seats below a number have staked
  before-is : (i : ℕ) → i ≤ 9 → staked_before t i ≡ staked_below es i
  before-is i h =
      sum_first (λ s. one (stake s)) t.seats i missing_seat (omega (arith, g.shaped.nine_seats_lem))
      ∙ sum_below-same (λ k. one (stake (seat_at t k))) (λ k. one (stake_in es k 0)) i (λ k l. ap one (stake_is k))

  no_stake_lem : (i : ℕ) → t.options.seats ≤ i → stake_in es i 0 ≡ 0
  no_stake_lem i h = sym (stake_is i) ∙ go (dec_le 9 i)
    where
      go : Dec (9 ≤ i) → stake (seat_at t i) ≡ 0
      go (yes l) = ap stake (past t g.shaped ok i l)
      go (no l) = ap stake (sym (guest-seated (seat_at t i))) ∙ (((g.sound.seats i (omega arith)).guests 0 (omega arith)).beyond h).no_bets.no_stake_lem

  staked-is : staked_seats t.seats ≡ staked_below es t.options.seats
  staked-is =
      let most = (sound_options t g.sound).seats_most in
      let nine : t.options.seats + (9 - t.options.seats) ≡ 9 = omega arith in
      ap staked_seats (sym (take_all 9 t.seats (omega (arith, g.shaped.nine_seats_lem))))
      ∙ before-is 9 (omega arith)
      ∙ ap (staked_below es) (sym nine)
      ∙ sum_below_more (λ k. one (stake_in es k 0)) t.options.seats (9 - t.options.seats) (λ i h. ap one (no_stake_lem i h))

  burn-is : burnt t ≡ deal_burns t.options c
  burn-is = same-burn t.options t.shoe c (sound_options t g.sound) g.agrees.cards.fresh

  -- a card of the order that the deal takes
  card_is : (n m : ℕ) → n ≡ m → n < t.shoe.drawn + deal_takes t → get_or t.shoe.order n 0 ≡ get_or c.order m 0
  card_is n m same h =
      sym (get_or-take (52 * t.options.decks) t.shoe.order n 0 (omega (arith, ok.enough)))
      ∙ ap₂ (λ (xs : List ℕ) (k : ℕ). get_or xs k 0) g.agrees.cards.order same

  takes-are : deal_takes t ≡ call_takes t.options (staked_below es t.options.seats) c e
  unfolding deal_takes call_takes bank_at_deal
  takes-are = omega (arith, burn-is, staked-is)

  -- a deal was accepted, and something is drawn
  now-later : burns_first t.options (deal_effect t).shoe ≡ false
  unfolding deal_effect burns_first deal_takes
  now-later = go (is_machine t.options)
    where
      go : (machine : Bool) → cond machine false (eqb (t.shoe.drawn + deal_takes t) 0) ≡ false
      go true = refl
      go false = ne_eqb (t.shoe.drawn + deal_takes t) 0 (λ none. omega (arith, some_at-deal t.options))

  up_is : up_card t ≡ get_or c.order (c.taken + deal_burns t.options c + staked_below es t.options.seats) 0
  unfolding up_card deal_takes
  up_is =
      card_is (first_place t + staked_seats t.seats) (c.taken + deal_burns t.options c + staked_below es t.options.seats)
      (omega (arith, burn-is, staked-is, g.agrees.cards.taken)) (omega (arith, some_at-deal t.options))

  -- the box's second card is the last that the deal takes
  hidden-is : is_box t.options ≡ true → hidden_card t ≡ get_or c.order (c.taken + deal_burns t.options c + 2 * staked_below es t.options.seats + 1) 0
  unfolding hidden_card deal_takes bank_at_deal
  hidden-is box =
      let two : bank_at_deal t.options ≡ 2 = rw box in
      card_is (first_place t + 2 * staked_seats t.seats + 1) (c.taken + deal_burns t.options c + 2 * staked_below es t.options.seats + 1)
      (omega (arith, burn-is, staked-is, g.agrees.cards.taken)) (omega arith)

  bank_is : bank_cards (deal_effect t) ≡ bank_after t.options (staked_below es t.options.seats) c e
  unfolding deal_effect bank_after
  bank_is = bank_cards_lem t.options (up_card t) (hidden_card t) ∙ ap₂ (λ (x : ℕ) (xs : List ℕ). x ∷ xs) up_is (go (is_box t.options) refl)
    where
      go : (box : Bool) → is_box t.options ≡ box
          → cond box (hidden_card t ∷ []) [] ≡ cond box (get_or c.order (c.taken + deal_burns t.options c + 2 * staked_below es t.options.seats + 1) 0 ∷ []) []
      go true box = ap (λ (x : ℕ). x ∷ []) (hidden-is box)
      go false box = refl

  cards-agree : CardsAgree (cards_of_history t.options opening (e ∷ es)) (deal_effect t)
  unfolding deal_effect cards_after
  cards-agree =
      record {
        order = g.agrees.cards.order;
        taken = ap₂ (λ (a b : ℕ). a + b) g.agrees.cards.taken takes-are;
        fresh = now-later;
        bank = bank_is;
      }

  -- the hand of a staked seat
  hand_is : (i : ℕ) → is_staked (seat_at t i) ≡ true → hands (dealt_at t i) ≡ hands_in t.options opening (e ∷ es) i
  unfolding hands_after dealt_hand deal_takes
  hand_is i staked =
      let within = staked-nine t g.shaped ok i staked in
      let below = before-is i (omega arith) in
      let counted : one (stake (seat_at t i)) ≡ 1 = rw staked in
      let rank : staked_before t i < staked_seats t.seats = omega (arith, sum-before (λ s. one (stake s)) t.seats i missing_seat (omega (arith, g.shaped.nine_seats_lem))) in
      let there : ltb 0 (stake_in es i 0) ≡ true = ap (ltb 0) (sym (stake_is i)) ∙ staked in
      let first-card = card_is (first_place t + staked_before t i) (c.taken + deal_burns t.options c + staked_below es i) (omega (arith, burn-is, g.agrees.cards.taken)) (omega arith) in
      let second-card =
      card_is (second_place t + staked_before t i) (c.taken + deal_burns t.options c + staked_below es t.options.seats + 1 + staked_below es i)
      (omega (arith, burn-is, staked-is, g.agrees.cards.taken)) (omega (arith, some_at-deal t.options)) in
      rw there
      (dealt-hands (seat_at t i) (g.shaped.seats i within).four_places (first_of t i) (second_of t i)
      ∙ ap₂ (λ (x y : ℕ). played (x ∷ y ∷ []) dealt not_ended ∷ []) first-card second-card)

  -- its first cards are the two of that hand
  first_is : (i : ℕ) → is_staked (seat_at t i) ≡ true → first_cards (dealt_at t i) ≡ first_in t.options opening (e ∷ es) i
  unfolding first_after
  first_is i staked =
      let was = g.shaped.seats i (staked-nine t g.shaped ok i staked) in
      let hand = dealt-hands (seat_at t i) was.four_places (first_of t i) (second_of t i) in
      dealt-first (seat_at t i) was.four_places (first_of t i) (second_of t i) was.three_first
      ∙ ap (λ (hs : List Played). (get_or hs 0 missing_hand).cards) (sym hand ∙ hand_is i staked)

  no-hand-is : (i : ℕ) → is_staked (seat_at t i) ≡ false → hands (seat_at t i) ≡ hands_in t.options opening (e ∷ es) i
  unfolding hands_after
  no-hand-is i none = let there : ltb 0 (stake_in es i 0) ≡ false = ap (ltb 0) (sym (stake_is i)) ∙ none in rw there (no_hands (seat_at t i) (no_hand_yet t g.shaped ok i))

  -- no guest's money moves
  guest-agrees : (i p : ℕ) → GuestAgrees t.options opening (e ∷ es) i p (guest_of t i p)
  guest-agrees i p =
      untouched_guest t.options opening es i p e (no_money t.options opening es i p e refl {g = of_deal} refl refl refl refl) (guest_of t i p) ((g.agrees.seats i).guests p)

  seat-agrees : (i : ℕ) → SeatAgrees t.options opening (e ∷ es) i (get_or (dealt_seats t) i missing_seat)
  seat-agrees i =
      let s = seat_at t i in
      let x = get_or (dealt_seats t) i missing_seat in
      let both =
      dealt_either t g.shaped ok i
      (λ x. (x.money ≡ s.money) × (x.others ≡ s.others) × (hands x ≡ hands_in t.options opening (e ∷ es) i) × (0 < length (hands x) → first_cards x ≡ first_in t.options opening (e ∷ es) i))
      (λ staked. (refl, refl, hand_is i staked, λ some. first_is i staked))
      (λ none. (refl, refl, no-hand-is i none, λ some. absurd (omega (arith, ap length (no_hands s (no_hand_yet t g.shaped ok i)))))) in
      record {
        hands_are = both.2;
        first_is = both.3;
        guests = λ p.
            guest-alike t.options opening (e ∷ es) i p (guest_at x p) (guest_of t i p) (guest_money x s both.0 both.1 p) (laid-after t g.shaped ok i p)
            (prizes-after t g.shaped ok i p ∙ sym (no_prizes t.options (guest_of t i p) (no_hands_yet t g.shaped ok i p)))
            (guest-agrees i p);
      }

  -- nobody had taken a decision, and nobody has: a hand that is dealt has two cards and has not ended
  undecided-before : (any_drew t ≡ false) × (any_decided t ≡ false)
  unfolding seat_drew any_of
  undecided-before = nobody-decided t (λ i h. ap seat_decided (no_hands (seat_at t i) (no_hand_yet t g.shaped ok i)))

  fresh-hands : (i : ℕ) → seat_decided (hands_in t.options opening (e ∷ es) i) ≡ false
  unfolding hands_after dealt_hand seat_drew has_two_cards any_of
  fresh-hands i = go (ltb 0 (stake_in es i 0))
    where
      go : (b : Bool) → seat_decided (cond b (dealt_hand t.options c (staked_below es i) (staked_below es t.options.seats) ∷ []) []) ≡ false
      go true = refl
      go false = refl

  undecided-after : (any_drew (deal_effect t) ≡ false) × (any_decided (deal_effect t) ≡ false)
  unfolding deal_effect
  undecided-after = nobody-decided (deal_effect t) (λ i h. ap seat_decided (seat-agrees i).hands_are ∙ fresh-hands i)

  deal-agrees : Agrees opening (e ∷ es) (deal_effect t)
  unfolding deal_effect
  deal-agrees =
      record {
        cards = cards-agree;
        dealt = now-dealt t g.shaped ok;
        seats = seat-agrees;
        drew = undecided-after.0 ∙ sym undecided-before.0 ∙ g.agrees.drew;
        decided = undecided-after.1 ∙ sym undecided-before.1 ∙ g.agrees.decided;
        balance = omega (arith, deal_money t g.shaped ok, g.agrees.balance);
      }

pub deal-kept : (t : Table) → Shaped t → Sound t → first (deal_conditions t) ≡ 0 → Shaped (deal_effect t) × Sound (deal_effect t)
deal-kept t shaped sound e = let ok = deal-accepted t e in (deal_shaped t shaped ok, deal-sound t shaped ok)

pub deal_good : (opening : List ℕ) (es : List Entry) (t : Table) (order : List ℕ) → Good opening es t → first (deal_conditions t) ≡ 0 → Good opening (entry Deal order ∷ es) (deal_effect t)
deal_good opening es t order g e =
    let ok = deal-accepted t e in
    record { shaped = deal_shaped t g.shaped ok; sound = deal-sound t g.shaped ok; agrees = deal-agrees opening es t order g ok }
