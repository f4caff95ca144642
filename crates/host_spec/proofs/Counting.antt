-- What a close adds to a tally is what the history counts for that round: the money laid, and what came back with the prizes, whose difference are nets and prizes. Past the last round that
-- counts neither side moves.
use mathlib.Core.Path.{◌≡◌, refl, sym, ◌∙◌, ap, subst, subst₂}
use mathlib.Core.Bool.{Bool, true, false, cond, ◌&&◌, true≢false}
use mathlib.Core.List.{List, ◌∷◌}
use Prim.Native.Nat.{ℕ, suc, ◌+◌, ◌-◌, ◌≤◌, ◌<◌}
use native.Mathlib.Omega.{arith}
use lib.Dec.{ltb}
use lib.IntN.{ℤ, pos, ◌+ℤ◌, ◌-ℤ◌, +ℤ-neg_ℤ_cancel}
use lib.ListN.{length, drop, length-drop}
use borrow.Author.Tests.{ltb-true, ltb-false}
use Rattle.lists.specs.Sum.{sum_of}
use Rattle.lists.proofs.Differences.{Diff, diff_pos, diff_add, diff_sub}
use Rattle.call.specs.declared.Call.TheVariants.{Close}
use Rattle.call.specs.Refusal.{first}
use Rattle.options.specs.declared.Options.{Options}
use Rattle.table.specs.declared.Table.{Table}
use Rattle.table.specs.Seat.{is_staked, laid, prizes}
use Rattle.table.specs.Table.{guest_of}
use Rattle.history.specs.Entry.{Entry}
use Rattle.history.specs.Rounds.{stake_in}
use Rattle.agreement.specs.Aids.Agrees.{Good}
use Rattle.close_spec.specs.Close.{close_conditions, close_score, guest_back, close_effect}
use Rattle.close_spec.proofs.Close.{Gains, close-gains}
use Rattle.host_spec.specs.declared.Tally.{Tally}
use Rattle.host_spec.specs.declared.GuestCard.{GuestCard}
use Rattle.host_spec.specs.declared.HostCall.TheVariants.{Play}
use Rattle.host_spec.specs.Cards.{make_card, is_here, net}
use Rattle.host_spec.specs.Broken.{most_rounds}
use Rattle.host_spec.specs.Close.{with_round, came_back, counted_card}
use Rattle.host_spec.specs.History.{HostEntry, plays_of, seated_in, seated_after, ClosedRound, closed_round, rounds_after, rounds_since, gains}
use Rattle.host_spec.specs.Claim.{card_in, TallyClaim}

-- the first of a list that grows at its front
module _ {A : Type 0} (most : ℕ) where
  abbrev first_ones : List A → List A
  first_ones xs = drop (length xs - most) xs

  all-count : (xs : List A) → length xs ≤ most → first_ones xs ≡ xs
  all-count xs h = let none : length xs - most ≡ 0 = omega arith in ap (λ (k : ℕ). drop k xs) none

  none_more : (x : A) (xs : List A) → most ≤ length xs → first_ones (x ∷ xs) ≡ first_ones xs
  none_more x xs h = let next : suc (length xs) - most ≡ suc (length xs - most) = omega arith in ap (λ (k : ℕ). drop k (x ∷ xs)) next

  first-length : (xs : List A) → length (first_ones xs) ≡ length xs - (length xs - most)
  first-length xs = length-drop (length xs - most) xs

-- a whole number is one difference, however it is written
diff_same : {z y : ℤ} {p m : ℕ} → Diff z p m → Diff y p m → z ≡ y
diff_same {z} {y} {p} {m} e f =
    sym (+ℤ-neg_ℤ_cancel z (pos m)) ∙ ap (λ (x : ℤ). x -ℤ pos m) (e.is ∙ sym f.is) ∙ +ℤ-neg_ℤ_cancel y (pos m)

net_diff : (tally : Tally) → Diff (net tally) tally.returned tally.wagered
net_diff tally =
    subst₂ (λ (a b : ℕ). Diff (net tally) a b) (omega arith) (omega arith) (diff_sub (diff_pos tally.returned) (diff_pos tally.wagered))

net_more : (tally : Tally) (laid-there back : ℕ) (gain : ℤ) → Diff gain back laid-there → net (with_round tally laid-there back) ≡ gain +ℤ net tally
net_more tally laid-there back gain d =
    diff_same (net_diff (with_round tally laid-there back))
    (subst₂ (λ (a b : ℕ). Diff (gain +ℤ net tally) a b) (omega arith) (omega arith) (diff_add d (net_diff tally)))

-- At an accepted close.
module _ (opening : List ℕ) (hs : List HostEntry) (t : Table) (order : List ℕ) (good : Good opening (plays_of hs) t) (ok : first (close_conditions t) ≡ 0) (i p : ℕ) where
  abbrev es : List Entry
  es = plays_of hs

  abbrev o : Options
  o = t.options

  abbrev after : Table
  after = close_effect t

  abbrev round : ClosedRound
  round = closed_round o opening es i p

  gain : Gains opening es t i p
  gain = close-gains opening es t i p good ok

  -- what came back, and its difference to what was laid
  back_is : came_back t after i p ≡ guest_back o (close_score t) (guest_of t i p) + prizes o (guest_of t i p)
  back_is = omega (arith, gain.gained)

  round-diff : Diff round.gain (came_back t after i p) (laid (guest_of t i p))
  round-diff =
      let a = (good.agrees.seats i).guests p in
      subst₂ (λ (x y : ℕ). Diff round.gain x y) (ap (λ (n : ℕ). guest_back o (close_score t) (guest_of t i p) + n) (sym a.prizes_are) ∙ sym back_is) (omega arith)
      (diff_add gain.nets (diff_pos _))

  laid_is : laid (guest_of t i p) ≡ round.laid
  laid_is = ((good.agrees.seats i).guests p).laid_is

  staked-is : is_staked (guest_of t i p) ≡ ltb 0 (stake_in es i p)
  staked-is = ap (ltb 0) ((good.agrees.seats i).guests p).stake_is

  abbrev was : List ClosedRound
  was = rounds_since o opening hs i p

  -- a round in which the position staked, for the card there
  module _ (g : GuestCard) (here : is_here g ≡ true) (claim : TallyClaim o opening hs i p g) where
    counted-length : g.tally.rounds ≡ length was - (length was - most_rounds)
    counted-length = claim.rounds_are here ∙ first-length most_rounds was

    module _ (few : g.tally.rounds < most_rounds) where
      room : length was < most_rounds
      room = omega (arith, counted-length)

      before : first_ones most_rounds was ≡ was
      before = all-count most_rounds was (omega (arith, room))

      now : first_ones most_rounds (round ∷ was) ≡ round ∷ was
      now = all-count most_rounds (round ∷ was) (omega (arith, room))

      rounds-more : g.tally.rounds + 1 ≡ length (first_ones most_rounds (round ∷ was))
      rounds-more = omega (arith, counted-length, ap length now)

      wagered-more : g.tally.wagered + laid (guest_of t i p) ≡ sum_of (λ r. r.laid) (first_ones most_rounds (round ∷ was))
      unfolding sum_of
      wagered-more =
          omega (arith, claim.wagered_is here, ap (sum_of (λ (r : ClosedRound). r.laid)) before, laid_is)
          ∙ ap (sum_of (λ (r : ClosedRound). r.laid)) (sym now)

      net-moves : net (with_round g.tally (laid (guest_of t i p)) (came_back t after i p)) ≡ gains (first_ones most_rounds (round ∷ was))
      unfolding gains
      net-moves =
          net_more g.tally (laid (guest_of t i p)) (came_back t after i p) round.gain round-diff
          ∙ ap (λ (z : ℤ). round.gain +ℤ z) (claim.net_is here ∙ ap gains before)
          ∙ ap gains (sym now)

    still : most_rounds ≤ g.tally.rounds → first_ones most_rounds (round ∷ was) ≡ first_ones most_rounds was
    still many = none_more most_rounds round was (omega (arith, counted-length))

  abbrev closed : HostEntry
  closed = record { call = Play Close; order = order }

  -- the claim of a position for these rounds
  record Tallied (rounds : List ClosedRound) (g : GuestCard) : Type 0 where
    card_is : card_in g ≡ seated_in hs i p
    rounds_are : is_here g ≡ true → g.tally.rounds ≡ length (first_ones most_rounds rounds)
    wagered_is : is_here g ≡ true → g.tally.wagered ≡ sum_of (λ r. r.laid) (first_ones most_rounds rounds)
    net_is : is_here g ≡ true → net g.tally ≡ gains (first_ones most_rounds rounds)

  module _ (g : GuestCard) (claim : TallyClaim o opening hs i p g) where
    abbrev more : GuestCard
    more = make_card g.here g.card (with_round g.tally (laid (guest_of t i p)) (came_back t after i p))

    by_cases : (here staked few : Bool) → is_here g ≡ here → ltb g.tally.rounds most_rounds ≡ few → Tallied (cond staked (round ∷ was) was) (cond (here && staked && few) more g)
    by_cases false staked few h f =
        record {
          card_is = claim.card_is;
          rounds_are = λ sits. absurd (true≢false (sym sits ∙ h));
          wagered_is = λ sits. absurd (true≢false (sym sits ∙ h));
          net_is = λ sits. absurd (true≢false (sym sits ∙ h));
        }
    by_cases true false few h f = record { card_is = claim.card_is; rounds_are = claim.rounds_are; wagered_is = claim.wagered_is; net_is = claim.net_is }
    by_cases true true true h f =
        let room = ltb-true g.tally.rounds most_rounds f in
        record {
          card_is = claim.card_is;
          rounds_are = λ sits. rounds-more g h claim room;
          wagered_is = λ sits. wagered-more g h claim room;
          net_is = λ sits. net-moves g h claim room;
        }
    by_cases true true false h f =
        let full = still g h claim (ltb-false g.tally.rounds most_rounds f) in
        record {
          card_is = claim.card_is;
          rounds_are = λ sits. claim.rounds_are sits ∙ ap length (sym full);
          wagered_is = λ sits. claim.wagered_is sits ∙ ap (sum_of (λ (r : ClosedRound). r.laid)) (sym full);
          net_is = λ sits. claim.net_is sits ∙ ap gains (sym full);
        }

    pub close_tally : TallyClaim o opening (closed ∷ hs) i p (counted_card t after i p g)
    unfolding counted_card seated_after rounds_after
    close_tally =
        let c : Tallied (cond (ltb 0 (stake_in es i p)) (round ∷ was) was) (counted_card t after i p g) =
        subst (λ (staked : Bool). Tallied (cond staked (round ∷ was) was) (counted_card t after i p g)) staked-is (by_cases (is_here g) (is_staked (guest_of t i p)) (ltb g.tally.rounds most_rounds) refl refl) in
        record { card_is = c.card_is; rounds_are = c.rounds_are; wagered_is = c.wagered_is; net_is = c.net_is }
