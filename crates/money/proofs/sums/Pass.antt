-- The pass over the seats: the sums of the first i seats with those of the next are the sums of the first i + 1, and have their bound. Of one
-- guest, with stakes and an insurance of 32 bits, all but the cut purse are far below the limit.
use mathlib.Core.Path.{◌≡◌, refl, sym, ap, ◌∙◌, subst}
use mathlib.Core.Bool.{true}
use mathlib.Core.List.{List}
use Prim.Native.Nat.{ℕ, ◌+◌, ◌*◌, ◌≤◌, ◌<◌}
use native.Mathlib.Nat.{add-zero, add_assoc}
use native.Mathlib.Numerals.{add-one}
use native.Mathlib.Omega.{arith}
use lib.ListN.{length, take, get_or}
use Rattle.lists.proofs.Sums.{sum-take}
use Rattle.options.specs.declared.Options.{Options}
use Rattle.table.specs.declared.Seat.{Seat}
use Rattle.table.specs.Guest.{is_nobody, nobody_in}
use Rattle.table.specs.Seat.{missing_seat, guest_at, over_guests, stake, insurance, sides, purse, laid, prizes, seat_cover}
use Rattle.table.specs.Aids.Sound.{NoBets}
use Rattle.table.proofs.Guests.{guest-seated}
use Rattle.table.proofs.Facts.{nothing_facts, nobody_beside, nothing-laid, unstaked_prizes}
use Rattle.money.proofs.seat_money.Hands.{laid-most, prizes-most}
use Rattle.money.specs.declared.sums.Sums.{Sums}
use Rattle.money.specs.Sums.{make_sums, no_sums, capped, sums_over, guest_sums, seat_sums, plus_sums}
use Rattle.money.specs.SumsFit.{SumsFit}

pub guest-within : (o : Options) (s : Seat) → length s.hands.places ≡ 4 → stake s ≤ 4294967295 → insurance s ≤ 4294967295 → ((k : ℕ) → get_or (sides s) k 0 ≤ 4294967295) → SumsFit 1 (guest_sums o s)
guest-within o s full staked insured sided =
    record {
      stakes = omega arith;
      laid = omega (arith, laid-most s full, sided 0, sided 1, sided 2, sided 3);
      prizes = omega (arith, prizes-most s full o);
      cover = omega (arith, sided 0, sided 1, sided 2, sided 3);
      purses = omega arith;
    }

module _ (o : Options) (seats : List Seat) (i : ℕ) (h : i < length seats) where
  one_more : plus_sums (sums_over o (take i seats)) (seat_sums o (get_or seats i missing_seat)) ≡ sums_over o (take (i + 1) seats)
  one_more =
      rw (
        add-one i,
        sum-take (over_guests stake) seats i missing_seat,
        sum-take (over_guests laid) seats i missing_seat,
        sum-take (over_guests (prizes o)) seats i missing_seat,
        sum-take (over_guests seat_cover) seats i missing_seat,
        sum-take (over_guests (λ s. capped (purse s))) seats i missing_seat,
      )

  pub next-seat : (a b : Sums) → a ≡ sums_over o (take i seats) → b ≡ seat_sums o (get_or seats i missing_seat) → plus_sums a b ≡ sums_over o (take (i + 1) seats)
  next-seat a b first next = ap (λ (m : Sums). plus_sums m b) first ∙ ap (plus_sums (sums_over o (take i seats))) next ∙ one_more

-- sums of k guests and of n more
pub within_more : (k n : ℕ) (a b r : Sums) → SumsFit k a → SumsFit n b → r ≡ plus_sums a b → SumsFit (k + n) r
within_more k n a b r few more e =
    rw e (record { stakes = omega (arith, few.stakes, more.stakes); laid = omega (arith, few.laid, more.laid); prizes = omega (arith, few.prizes, more.prizes); cover = omega (arith, few.cover, more.cover); purses = omega (arith, few.purses, more.purses) })

pub no_guests_fit : SumsFit 0 no_sums
no_guests_fit = record { stakes = omega arith; laid = omega arith; prizes = omega arith; cover = omega arith; purses = omega arith }

pub fits_in_lem : (k n : ℕ) (m : Sums) → k ≤ n → SumsFit k m → SumsFit n m
fits_in_lem k n m h few = record { stakes = omega (arith, few.stakes); laid = omega (arith, few.laid); prizes = omega (arith, few.prizes); cover = omega (arith, few.cover); purses = omega (arith, few.purses) }

-- a seat has three
pub seat_fits : (o : Options) (s : Seat) → SumsFit 1 (guest_sums o (guest_at s 0)) → SumsFit 1 (guest_sums o (guest_at s 1)) → SumsFit 1 (guest_sums o (guest_at s 2)) → SumsFit 3 (seat_sums o s)
seat_fits o s one two three =
    within_more 2 1 (plus_sums (guest_sums o (guest_at s 0)) (guest_sums o (guest_at s 1))) (guest_sums o (guest_at s 2)) (seat_sums o s)
    (within_more 1 1 (guest_sums o (guest_at s 0)) (guest_sums o (guest_at s 1)) _ one two refl)
    three refl

pub three_more : (i : ℕ) (a b r : Sums) → SumsFit (3 * i) a → SumsFit 3 b → r ≡ plus_sums a b → SumsFit (3 * (i + 1)) r
three_more i a b r few three e = fits_in_lem (3 * i + 3) (3 * (i + 1)) r (omega arith) (within_more (3 * i) 3 a b r few three e)

-- a guest without money is passed over: its sums are 0
pub nothing_summed : (o : Options) (s : Seat) → purse s ≡ 0 → NoBets s → guest_sums o s ≡ no_sums
nothing_summed o s none bets =
    let cover : seat_cover s ≡ 0 =
    omega (arith, bets.no_stake_lem, bets.no_sides 0 (omega arith), bets.no_sides 1 (omega arith), bets.no_sides 2 (omega arith), bets.no_sides 3 (omega arith)) in
    let cut : capped (purse s) ≡ 0 = omega (arith, none) in
    λ i. make_sums (bets.no_stake_lem i) (nothing-laid s bets i) (unstaked_prizes o s bets.no_stake_lem i) (cover i) (cut i)

pub none_more : (a : Sums) → plus_sums a no_sums ≡ a
none_more a = rw (add-zero a.stakes, add-zero a.laid, add-zero a.prizes, add-zero a.cover, add-zero a.purses)

pub passed_over : (o : Options) (a : Sums) (s : Seat) → is_nobody s.money ≡ true
    → (a ≡ plus_sums a (guest_sums o s)) × SumsFit 1 (guest_sums o s)
passed_over o a s empty =
    let (none, bets) = nothing_facts s empty in
    let nothing = nothing_summed o s none bets in
    (sym (ap (plus_sums a) nothing ∙ none_more a), rw nothing (fits_in_lem 0 1 no_sums (omega arith) no_guests_fit))

plus_assoc : (a b c : Sums) → plus_sums (plus_sums a b) c ≡ plus_sums a (plus_sums b c)
plus_assoc a b c =
    λ i.
    make_sums (add_assoc a.stakes b.stakes c.stakes i) (add_assoc a.laid b.laid c.laid i) (add_assoc a.prizes b.prizes c.prizes i)
    (add_assoc a.cover b.cover c.cover i) (add_assoc a.purses b.purses c.purses i)

-- the three guests of a seat, added one after the other
pub seat-added : (o : Options) (s : Seat) (all one two three : Sums)
    → (one ≡ plus_sums all (guest_sums o s)) × SumsFit 1 (guest_sums o s)
    → (two ≡ plus_sums one (guest_sums o (guest_at s 1))) × SumsFit 1 (guest_sums o (guest_at s 1))
    → (three ≡ plus_sums two (guest_sums o (guest_at s 2))) × SumsFit 1 (guest_sums o (guest_at s 2))
    → (three ≡ plus_sums all (seat_sums o s)) × SumsFit 3 (seat_sums o s)
seat-added o s all one two three (first, fits) (second, fits-2) (third, fits-3) =
    let seated : guest_sums o s ≡ guest_sums o (guest_at s 0) = ap (guest_sums o) (sym (guest-seated s)) in
    let a = guest_sums o (guest_at s 0) in
    let b = guest_sums o (guest_at s 1) in
    let c = guest_sums o (guest_at s 2) in (
      third
          ∙ ap (λ (m : Sums). plus_sums m c) (second ∙ ap (λ (m : Sums). plus_sums m b) (first ∙ ap (plus_sums all) seated) ∙ plus_assoc all a b)
          ∙ plus_assoc all (plus_sums a b) c,
      seat_fits o s (subst (SumsFit 1) seated fits) fits-2 fits-3,
    )

-- and the seated guest alone, where nobody bets beside
pub seated-added : (o : Options) (s : Seat) (all one : Sums)
    → nobody_in s.others ≡ true
    → (one ≡ plus_sums all (guest_sums o s)) × SumsFit 1 (guest_sums o s)
    → (one ≡ plus_sums all (seat_sums o s)) × SumsFit 3 (seat_sums o s)
seated-added o s all one nobody seated =
    let (first, second) = nobody_beside s nobody in
    seat-added o s all one one one seated (passed_over o one (guest_at s 1) first) (passed_over o one (guest_at s 2) second)
