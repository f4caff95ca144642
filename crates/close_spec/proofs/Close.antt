-- An accepted close keeps the table good: the tray pays what goes back from what was laid and its cover, and the cards are discards. What it finds is
-- one record, a fact for each condition.
use mathlib.Core.Path.{◌≡◌, refl, sym, ◌∙◌, ap}
use mathlib.Core.Bool.{true, false, cond}
use mathlib.Core.List.{List, [], ◌∷◌}
use Prim.Native.Nat.{ℕ, ◌+◌, ◌≤◌, ◌<◌}
use native.Mathlib.Decide.{dec_le}
use native.Mathlib.Omega.{arith}
use lib.Dec.{eqb}
use lib.IntN.{pos}
use lib.ListN.{length, take, get_or}
use borrow.Author.Tests.{not-false}
use Rattle.lists.specs.Sum.{sum_of}
use Rattle.lists.specs.Tests.{all_of}
use Rattle.lists.proofs.Sums.{sum-plus, sum-at-same}
use Rattle.lists.proofs.Differences.{Diff, diff_pos, diff_add}
use Rattle.call.specs.declared.Call.TheVariants.{Close}
use Rattle.call.specs.Refusal.{first}
use Rattle.call.proofs.Refusals.{none_hold}
use Rattle.options.specs.declared.Options.{Options}
use Rattle.payment.specs.Bank.{must_draw, score_of}
use Rattle.payment.specs.Pays.{side_pays, pays_of, laid_of, back_of}
use Rattle.payment.proofs.Pays.{laid_of_lem, same-sides, no_side_pays, nets_diff}
use Rattle.rules.specs.declared.seat_hand.SeatHands.{SeatHands}
use Rattle.rules.specs.SeatHand.{hands_of}
use Rattle.rules.specs.Turn.{some_waits}
use Rattle.table.specs.declared.Seat.{Seat}
use Rattle.table.specs.declared.Table.{Table}
use Rattle.table.specs.Seat.{missing_seat, guest_at, over_guests, purse, stake, insurance, sides, hands, first_cards, bets_of, laid}
use Rattle.table.specs.Shoe.{burns_first}
use Rattle.table.specs.Table.{seat_at, guest_of, seats_hands, is_dealt, up, bank_cards, table_order}
use Rattle.table.specs.Money.{layout}
use Rattle.table.specs.Shape.{Shaped}
use Rattle.table.specs.Aids.Sound.{Sound, SoundSeat}
use Rattle.table.proofs.Guests.{guest-hands, guest-first}
use Rattle.table.proofs.AnyGuest.{any_guest_lem}
use Rattle.table.proofs.Facts.{unbroken, sound_options, dealt-drawn, hands_many, most_many, no_sides}
use Rattle.table.proofs.RoundEnd.{RoundEnd, end_shaped, end-sound}
use Rattle.history.specs.Entry.{Entry}
use Rattle.history.specs.Aids.MakeEntry.{entry}
use Rattle.history.specs.Cards.{make_cards, call_takes, bank_taken, bank_final, cards_of_history}
use Rattle.history.specs.Rounds.{side_in, sides_in}
use Rattle.history.specs.Hands.{hands_in, first_in}
use Rattle.history.specs.Money.{closing_score, bets_in, nets_in, purse_of}
use Rattle.agreement.specs.Aids.Agrees.{Good}
use Rattle.agreement.proofs.EndOfRound.{Ends, EndCall, purse-end, end_call}
use Rattle.close_spec.specs.BankDraw.{bank_at_close, close_takes}
use Rattle.close_spec.specs.PayLines.{guest_pays}
use Rattle.close_spec.specs.Close.{close_conditions, close_score, guest_back, paid_purse, close_effect}
use Rattle.close_spec.proofs.BankDraw.{burns_same}
use Rattle.close_spec.proofs.Taken.{cards_at, final_same, takes, enough}
use Rattle.close_spec.proofs.Back.{laid-wagers, insured-most, nothing_back}
use Rattle.close_spec.proofs.Tray.{dealt_seat_lem, tray_pays}

-- what an accepted close finds: a fact for each condition of its list
pub record CloseAccepted (t : Table) : Type 0 where
  pub sound : Sound t
  pub dealt : is_dealt t ≡ true
  pub none_waits : some_waits t.options (up t) (seats_hands t) ≡ false
  pub stands : must_draw (bank_at_close t) ≡ false

pub close-accepted : (t : Table) → first (close_conditions t) ≡ 0 → CloseAccepted t
unfolding close_conditions all_of
close-accepted t e =
    let (whole, (dealt, (none_waits, (stands, _)))) = none_hold (close_conditions t) refl e in
    record { sound = unbroken t whole; dealt = not-false (is_dealt t) dealt; none_waits = none_waits; stands = stands }

-- and what it leaves
module _ (t : Table) (shaped : Shaped t) (ok : CloseAccepted t) where
  abbrev o : Options
  o = t.options

  -- a guest's purse with what goes back
  abbrev paid : Seat → ℕ
  paid s = paid_purse o (close_score t) s

  in_round_lem : (i : ℕ) → i < 9 → SoundSeat o true (up t) i (seat_at t i)
  in_round_lem = dealt_seat_lem t ok.sound ok.dealt

  covered : sum_of (over_guests (guest_back o (close_score t))) t.seats ≤ t.tray + layout t
  covered = tray_pays t ok.sound ok.dealt shaped.nine_seats_lem (close_score t)

  end : RoundEnd t (close_effect t).tray paid (close_effect t).shoe (close_takes t)
  unfolding close_effect
  end =
      record {
        paid =
            omega (
              arith,
              covered,
              sum-at-same (over_guests paid) (λ s. over_guests purse s + over_guests (guest_back o (close_score t)) s) t.seats missing_seat (λ i h. omega arith),
              sum-plus (over_guests purse) (over_guests (guest_back o (close_score t))) t.seats,
            );
        nothing_stays = λ s empty none. omega (arith, nothing_back o (close_score t) s none);
        same_order = refl;
        more_drawn = refl;
        same_begun = refl;
        drawn_before = λ some. dealt-drawn t ok.sound ok.dealt;
        enough = enough t ok.sound ok.dealt ok.stands;
        all_discards = refl;
        all_discarded = refl;
      }

  -- a guest of any number and position: no insurance above the stake, no stake without hands, and no side stake without a stake
  record Staked (s : Seat) : Type 0 where
    insured : insurance s ≤ stake s
    waiting : length (hands s) ≡ 0 → stake s ≡ 0
    unsided : stake s ≡ 0 → (k : ℕ) → k < 4 → get_or (sides s) k 0 ≡ 0

  staked : (i p : ℕ) → Staked (guest_of t i p)
  staked i p =
      any_guest_lem t shaped Staked i p (λ h l.
      let s = seat_at t i in
      let sound = in_round_lem i h in
      let many = hands_many s (shaped.seats i h).four_places (most_many o true (up t) i s (sound_options t ok.sound).hands_most sound) in
      record {
        insured = insured-most o (up t) i (guest_at s p) (sound.guests p l);
        waiting = λ none. sound.seated_first_lem p l (sound.waiting (omega (arith, ap (λ (hs : SeatHands). length (hands_of hs)) (guest-hands s p))) refl);
        unsided = no_sides o true (up t) i (guest_at s p) (sound.guests p l);
      })
      (λ s none. record { insured = omega (arith, none.no_insurance); waiting = λ empty. none.no_stake_lem; unsided = λ unstaked. none.no_sides })

  kept : Shaped (close_effect t) × Sound (close_effect t)
  unfolding close_effect
  kept = (end_shaped t _ paid _ (close_takes t) shaped ok.sound end, end-sound t _ paid _ (close_takes t) shaped ok.sound end)

pub close-kept : (t : Table) → Shaped t → Sound t → first (close_conditions t) ≡ 0 → Shaped (close_effect t) × Sound (close_effect t)
close-kept t shaped sound e = kept t shaped (close-accepted t e)

-- and what the history says of it
module _ (opening : List ℕ) (es : List Entry) (t : Table) (order : List ℕ) (g : Good opening es t) (ok : CloseAccepted t) where
  cards-are : cards_of_history t.options opening es ≡ cards_at t
  cards-are =
      let a = g.agrees.cards in
      λ i. make_cards (sym a.order i) (sym a.fresh i) (sym a.taken i) (sym a.bank i)

  score-is : closing_score t.options opening es ≡ close_score t
  score-is = ap score_of (ap (bank_final t.options) cards-are ∙ sym (final_same t g.sound ok.dealt ok.stands))

  closes : Ends (entry Close order)
  closes = record { among = refl; is_end_lem = refl }

  -- a guest has the hands and the first cards of the seat
  hands-same : (i p : ℕ) → hands (guest_of t i p) ≡ hands_in t.options opening es i
  hands-same i p = ap hands_of (guest-hands (seat_at t i) p) ∙ (g.agrees.seats i).hands_are

  first-same : (i p : ℕ) → 0 < length (hands (guest_of t i p)) → first_cards (guest_of t i p) ≡ first_in t.options opening es i
  first-same i p some =
      let s = seat_at t i in
      let hs = guest-hands s p in
      (λ j. take (cond (eqb (length (hands_of (hs j))) 1) 2 3) (guest-first s p j)) ∙ (g.agrees.seats i).first_is (omega (arith, ap (λ (x : SeatHands). length (hands_of x)) hs))

  -- what is paid to a guest of any number and position: a seat with hands has the history's first cards, and at one without there is no side stake
  sides-paid : (i p : ℕ) → side_pays (sides (guest_of t i p)) (first_cards (guest_of t i p)) ≡ side_pays (sides_in es i p) (first_in t.options opening es i)
  sides-paid i p =
      go (dec_le (length (hands s)) 0) ∙ same-sides (sides s) (first_in t.options opening es i) (side_in es i p) ((g.agrees.seats i).guests p).sides_are
    where
      s : Seat
      s = guest_of t i p

      go : Dec (length (hands s) ≤ 0) → side_pays (sides s) (first_cards s) ≡ side_pays (sides s) (first_in t.options opening es i)
      go (yes h) =
          let facts = staked t g.shaped ok i p in
          let none = facts.unsided (facts.waiting (omega arith)) in
          no_side_pays (sides s) (first_cards s) none ∙ sym (no_side_pays (sides s) (first_in t.options opening es i) none)
      go (no h) = ap (side_pays (sides s)) (first-same i p (omega arith))

  all_paid : (i p : ℕ) → guest_pays t.options (close_score t) (guest_of t i p) ≡ pays_of t.options (closing_score t.options opening es) (bets_in t.options opening es i p)
  unfolding pays_of
  all_paid i p =
      let a = (g.agrees.seats i).guests p in
      rw (sides-paid i p, score-is, a.stake_is, a.insurance_is, hands-same i p) refl

  -- the purse of a guest of any number and position
  purses : (i p : ℕ) → pos (paid t g.shaped ok (guest_of t i p)) ≡ purse_of t.options opening (entry Close order ∷ es) i p
  unfolding guest_back
  purses i p =
      let s = guest_of t i p in
      let pays = guest_pays t.options (close_score t) s in
      let a = (g.agrees.seats i).guests p in
      let facts = staked t g.shaped ok i p in
      purse-end t.options opening es i (entry Close order) closes p (purse s) (paid t g.shaped ok s)
      (laid s + back_of pays) (0 + laid_of pays)
      (rw (← a.laid_is, ← all_paid i p) (diff_add (diff_pos (laid s)) (nets_diff pays)))
      a.purse_is (omega (arith, laid-wagers s facts.insured facts.waiting, laid_of_lem t.options (close_score t) (bets_of s)))

  call : EndCall opening es t (entry Close order) (close_effect t).tray (paid t g.shaped ok) (close_effect t).shoe (close_takes t)
  unfolding call_takes
  call =
      record {
        ends = closes;
        takes = omega (arith, ap (bank_taken t.options) cards-are, takes t g.sound ok.dealt ok.stands, burns_same t.options (table_order t) (burns_first t.options t.shoe) t.shoe.drawn (bank_cards t));
        purses = purses;
      }

pub close_good : (opening : List ℕ) (es : List Entry) (t : Table) (order : List ℕ) → Good opening es t → first (close_conditions t) ≡ 0
    → Good opening (entry Close order ∷ es) (close_effect t)
unfolding close_effect
close_good opening es t order g e =
    let ok = close-accepted t e in
    end_call opening es t (entry Close order) _ _ _ _ g (end t g.shaped ok) (call opening es t order g ok)

-- What close pays to a guest of any number and position: the purse gains what goes back, and the nets of the history are that less what was laid.
pub record Gains (opening : List ℕ) (es : List Entry) (t : Table) (i p : ℕ) : Type 0 where
  pub gained : purse (guest_of (close_effect t) i p) ≡ purse (guest_of t i p) + guest_back t.options (close_score t) (guest_of t i p)
  pub nets : Diff (nets_in t.options opening es i p) (guest_back t.options (close_score t) (guest_of t i p)) (laid (guest_of t i p))

pub close-gains : (opening : List ℕ) (es : List Entry) (t : Table) (i p : ℕ) → Good opening es t → first (close_conditions t) ≡ 0 → Gains opening es t i p
unfolding guest_back close_effect
close-gains opening es t i p g e =
    let ok = close-accepted t e in
    let s = guest_of t i p in
    let pays = guest_pays t.options (close_score t) s in
    let facts = staked t g.shaped ok i p in
    let after : pos (purse (guest_of (close_effect t) i p)) ≡ purse_of t.options opening (entry Close [] ∷ es) i p = (((close_good opening es t [] g e).agrees.seats i).guests p).purse_is in
    let paid_purse_lem : pos (purse s + back_of pays) ≡ purse_of t.options opening (entry Close [] ∷ es) i p = purses opening es t [] g ok i p in
    record {
      gained = cc (after, paid_purse_lem);
      nets = rw (← all_paid opening es t [] g ok i p, laid-wagers s facts.insured facts.waiting ∙ sym (laid_of_lem t.options (close_score t) (bets_of s))) (nets_diff pays);
    }
