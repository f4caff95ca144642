-- What a round can add to a tally: eight stakes, an insurance and four side stakes are laid at most, and no more comes back than that and the cover.
use mathlib.Core.Path.{◌≡◌, refl, ◌∙◌, ap, ap₂}
use mathlib.Core.Bool.{Bool, true, false, cond, ◌&&◌, ◌||◌, and-eq-true_iff, or-true}
use Prim.Native.Nat.{ℕ, ◌+◌, ◌*◌, ◌/◌, ◌%◌, ◌≤◌, ◌<◌}
use native.Mathlib.Decide.{dec_le}
use native.Mathlib.Omega.{arith}
use lib.Dec.{leb, ltb, eqb}
use lib.ListN.{length, get_or}
use borrow.Author.Tests.{leb-true, le-leb, ltb-true, eqb-true, ne_eqb}
use Rattle.lists.proofs.Tests.{or_other}
use Rattle.call.specs.Refusal.{first}
use Rattle.options.specs.declared.Options.{Options}
use Rattle.options.specs.Permitted.{stake_permitted}
use Rattle.options.specs.Aids.Facts.{InRange}
use Rattle.table.specs.declared.Seat.{Seat}
use Rattle.table.specs.declared.Table.{Table}
use Rattle.table.specs.Seat.{is_staked, purse, stake, insurance, sides, laid, prizes}
use Rattle.table.specs.Table.{seat_at, guest_of, up}
use Rattle.table.specs.Shape.{Shaped}
use Rattle.table.specs.Aids.Sound.{SoundGuest}
use Rattle.table.proofs.Facts.{sound_options}
use Rattle.table.proofs.Guests.{guest-hands}
use Rattle.rules.specs.declared.seat_hand.SeatHands.{SeatHands}
use Rattle.money.proofs.seat_money.Hands.{laid-most}
use Rattle.close_spec.specs.Close.{close_conditions, close_score, guest_back, close_effect}
use Rattle.close_spec.proofs.Back.{insured-most, guest-most}
use Rattle.close_spec.proofs.Tray.{dealt_seat_lem}
use Rattle.close_spec.proofs.Close.{CloseAccepted, close-accepted}
use Rattle.host_spec.specs.declared.Tally.{Tally}
use Rattle.host_spec.specs.declared.GuestCard.{GuestCard}
use Rattle.host_spec.specs.Cards.{make_card, is_here}
use Rattle.host_spec.specs.Broken.{most_rounds, most_laid, most_back, sound_tally, is_empty, sound_card}
use Rattle.host_spec.specs.Close.{with_round, came_back, counts, counted_card}

-- a permitted stake is at most the largest
stake-most : (o : Options) (S : ℕ) → InRange o → stake_permitted o S ≡ true → S ≤ 1000000
unfolding stake_permitted
stake-most o S range h =
    let (both, even) = (and-eq-true_iff (leb o.smallest S && leb S o.largest) _).0 h in
    let (least, most) = (and-eq-true_iff (leb o.smallest S) (leb S o.largest)).0 both in
    omega (arith, leb-true S o.largest most, range.largest_most)

module _ (t : Table) (shaped : Shaped t) (e : first (close_conditions t) ≡ 0) (i p : ℕ) (hi : i < 9) (hp : p < 3) where
  ok : CloseAccepted t
  ok = close-accepted t e

  abbrev s : Seat
  s = guest_of t i p

  guest : SoundGuest t.options true (up t) i s
  guest = (dealt_seat_lem t ok.sound ok.dealt i hi).guests p hp

  full : length s.hands.places ≡ 4
  full = ap (λ (hs : SeatHands). length hs.places) (guest-hands (seat_at t i) p) ∙ (shaped.seats i hi).four_places

  small-stake : stake s ≤ 1000000
  small-stake = go (dec_le (stake s) 0)
    where
      go : Dec (stake s ≤ 0) → stake s ≤ 1000000
      go (yes none) = omega arith
      go (no some) = stake-most t.options (stake s) (sound_options t ok.sound) (guest.stake_fits (omega arith))

  insured : insurance s ≤ stake s
  insured = insured-most t.options (up t) i s guest

  side-most : (k : ℕ) → k < 4 → get_or (sides s) k 0 ≤ 100000
  side-most k h = go (dec_le (get_or (sides s) k 0) 0)
    where
      go : Dec (get_or (sides s) k 0 ≤ 0) → get_or (sides s) k 0 ≤ 100000
      go (yes none) = omega arith
      go (no some) = (guest.sides_fit k h (omega arith)).1

  pub round-laid : laid s ≤ most_laid
  round-laid = omega (arith, laid-most s full, small-stake, insured, side-most 0 (omega arith), side-most 1 (omega arith), side-most 2 (omega arith), side-most 3 (omega arith))

  pub round_back : guest_back t.options (close_score t) s + prizes t.options s ≤ most_back
  round_back =
      omega (
        arith,
        guest-most t.options (up t) i (seat_at t i) (dealt_seat_lem t ok.sound ok.dealt i hi) (sound_options t ok.sound).hands_most (close_score t) p hp,
        round-laid,
        small-stake,
        side-most 0 (omega arith),
        side-most 1 (omega arith),
        side-most 2 (omega arith),
        side-most 3 (omega arith),
      )

-- so a tally stays one that could be
tally_more : (tally : Tally) (there back : ℕ) → sound_tally tally ≡ true → tally.rounds < most_rounds → there ≤ most_laid → back ≤ most_back → sound_tally (with_round tally there back) ≡ true
unfolding sound_tally
tally_more tally there back h room small few =
    let (two, returned) = (and-eq-true_iff (leb tally.rounds most_rounds && leb tally.wagered (most_laid * tally.rounds)) (leb tally.returned (most_back * tally.rounds))).0 h in
    let (rounds, wagered) = (and-eq-true_iff (leb tally.rounds most_rounds) (leb tally.wagered (most_laid * tally.rounds))).0 two in
    ap₂ ◌&&◌
    (ap₂ ◌&&◌ (le-leb (tally.rounds + 1) most_rounds (omega arith))
    (le-leb (tally.wagered + there) (most_laid * (tally.rounds + 1)) (omega (arith, leb-true tally.wagered (most_laid * tally.rounds) wagered))))
    (le-leb (tally.returned + back) (most_back * (tally.rounds + 1)) (omega (arith, leb-true tally.returned (most_back * tally.rounds) returned)))

-- a card that sits somewhere is no empty position
here_sound : (o : Options) (k : ℕ) (g : GuestCard) → is_here g ≡ true → sound_card o k g ≡ true → (ltb (k / 3) o.seats ≡ true) × (sound_tally g.tally ≡ true)
unfolding sound_card
here_sound o k g here h =
    let some : eqb g.here 0 ≡ false = ne_eqb g.here 0 (λ none. omega (arith, eqb-true g.here 1 here)) in
    let not-empty : is_empty g ≡ false =
    ap (λ (b : Bool). b && eqb g.card 0 && eqb g.tally.rounds 0 && eqb g.tally.wagered 0 && eqb g.tally.returned 0) some in
    let (sits, tally) = (and-eq-true_iff (is_here g && ltb (k / 3) o.seats) (sound_tally g.tally)).0 (or_other (is_empty g) (is_here g && ltb (k / 3) o.seats && sound_tally g.tally) h not-empty) in
    (((and-eq-true_iff (is_here g) (ltb (k / 3) o.seats)).0 sits).1, tally)

sound_here : (o : Options) (k : ℕ) (g : GuestCard) → is_here g ≡ true → ltb (k / 3) o.seats ≡ true → sound_tally g.tally ≡ true → sound_card o k g ≡ true
unfolding sound_card
sound_here o k g here seat tally = ap (λ (b : Bool). is_empty g || b) (ap₂ ◌&&◌ (ap₂ ◌&&◌ here seat) tally) ∙ or-true (is_empty g)

-- a close keeps the card where it is
pub same_here : (t after : Table) (i p : ℕ) (g : GuestCard) → ((counted_card t after i p g).here ≡ g.here) × ((counted_card t after i p g).card ≡ g.card)
unfolding counted_card
same_here t after i p g = go (counts t i p g)
  where
    more : GuestCard
    more = make_card g.here g.card (with_round g.tally (laid (guest_of t i p)) (came_back t after i p))

    go : (b : Bool) → ((cond b more g).here ≡ g.here) × ((cond b more g).card ≡ g.card)
    go true = (refl, refl)
    go false = (refl, refl)

-- and sound
pub counted-sound : (t : Table) (shaped : Shaped t) (e : first (close_conditions t) ≡ 0) (k : ℕ) (g : GuestCard) → k < 27
    → purse (guest_of (close_effect t) (k / 3) (k % 3)) ≡ purse (guest_of t (k / 3) (k % 3)) + guest_back t.options (close_score t) (guest_of t (k / 3) (k % 3))
    → sound_card t.options k g ≡ true → sound_card t.options k (counted_card t (close_effect t) (k / 3) (k % 3) g) ≡ true
unfolding counted_card
counted-sound t shaped e k g inside gained h = go (counts t i p g) refl
  where
    i : ℕ
    i = k / 3

    p : ℕ
    p = k % 3

    back : ℕ
    back = came_back t (close_effect t) i p

    go : (b : Bool) → counts t i p g ≡ b → sound_card t.options k (cond b (make_card g.here g.card (with_round g.tally (laid (guest_of t i p)) back)) g) ≡ true
    go false c = h
    go true c =
        let (both, room) = (and-eq-true_iff (is_here g && is_staked (guest_of t i p)) (ltb g.tally.rounds most_rounds)).0 c in
        let (here, staked) = (and-eq-true_iff (is_here g) (is_staked (guest_of t i p))).0 both in
        let (seat, tally) = here_sound t.options k g here h in
        sound_here t.options k (make_card g.here g.card (with_round g.tally (laid (guest_of t i p)) back)) here seat
        (tally_more g.tally (laid (guest_of t i p)) back tally (ltb-true g.tally.rounds most_rounds room) (round-laid t shaped e i p (omega arith) (omega arith))
        (omega (arith, gained, round_back t shaped e i p (omega arith) (omega arith))))
