-- The nets of close's lines with the prizes of the round are what the guests' purses hold behind close, less what purses and layout hold before it and have not from prizes.
use mathlib.Core.Path.{◌≡◌, refl, sym, ◌∙◌, ap, subst, subst₂}
use mathlib.Core.Bool.{Bool, true, false, cond}
use mathlib.Core.List.{List, [], ◌∷◌, ◌++◌, map}
use Prim.Native.Nat.{ℕ, suc, ◌+◌, ◌-◌, ◌≤◌, ◌<◌}
use native.Mathlib.Omega.{arith}
use lib.IntN.{ℤ, pos, ◌+ℤ◌, ◌-ℤ◌, +ℤ_assoc, +ℤ_idl, +ℤ-neg_ℤ_cancel}
use lib.ListN.{length, get_or}
use borrow.Author.Tests.{ltb-false}
use Rattle.lists.specs.Sum.{sum_of}
use Rattle.lists.proofs.Sums.{sum-plus, sum-map, sum-at-most, sum-at-same}
use Rattle.lists.proofs.Differences.{Diff, diff_pos, diff_add, diff_sub}
use Rattle.call.specs.declared.Call.TheVariants.{Close}
use Rattle.call.specs.PayLine.{PayLine}
use Rattle.call.specs.Answer.{Shown}
use Rattle.options.specs.declared.Options.{Options}
use Rattle.payment.specs.declared.bank.Score.{Score}
use Rattle.payment.specs.Pays.{Due, nets_of}
use Rattle.payment.proofs.Pays.{laid_of_lem, nets_diff}
use Rattle.rules.specs.declared.seat_hand.SeatHands.{SeatHands}
use Rattle.rules.specs.SeatHand.{hands_of}
use Rattle.table.specs.declared.Seat.{Seat}
use Rattle.table.specs.declared.Table.{Table}
use Rattle.table.specs.Seat.{missing_seat, guest_at, over_guests, is_staked, purse, stake, insurance, sides, hands, bets_of, laid, prizes}
use Rattle.table.specs.Table.{seat_at, up}
use Rattle.table.specs.Money.{layout, purses, all_prizes}
use Rattle.table.specs.Aids.Sound.{NoBets}
use Rattle.table.proofs.Guests.{guest-hands}
use Rattle.table.proofs.Facts.{unbroken, sound_options, hands_many, most_many, no_sides, nothing-laid}
use Rattle.money.specs.declared.sums.Sums.{Sums}
use Rattle.money.specs.Sums.{table_sums}
use Rattle.money.proofs.sums.Capping.{within-capped}
use Rattle.close_spec.specs.PayLines.{guest_pays, line_of, guest_lines, seat_lines, all_lines}
use Rattle.close_spec.specs.Close.{close_score, guest_back, paid_seat, close_effect, close_shown}
use Rattle.close_spec.proofs.Back.{laid-wagers, insured-most, nothing_back}
use Rattle.close_spec.proofs.Tray.{dealt_seat_lem}
use Rattle.close_spec.proofs.Close.{CloseAccepted, close-accepted}
use Rattle.answer.specs.Reply.{reply_by}
use Rattle.books.specs.Laws.{Whole}
use Rattle.engine.specs.Step.{step, number, next}
use Rattle.ways.specs.Sum.{nets_of_lines, end_sum}
use Rattle.ways.proofs.Turns.{accepted-next, next-whole}

-- a whole number is one difference, however it is written
diff_same : {z y : ℤ} {p m : ℕ} → Diff z p m → Diff y p m → z ≡ y
diff_same {z} {y} {p} {m} e f =
    sym (+ℤ-neg_ℤ_cancel z (pos m)) ∙ ap (λ (x : ℤ). x -ℤ pos m) (e.is ∙ sym f.is) ∙ +ℤ-neg_ℤ_cancel y (pos m)

diff_more : {z : ℤ} {p m : ℕ} → Diff z p m → (k : ℕ) → Diff z (p + k) (m + k)
diff_more {z} {p} {m} e k = record { is = sym (+ℤ_assoc z (pos m) (pos k)) ∙ ap (λ (x : ℤ). x +ℤ pos k) e.is }

pub diff_net : {z : ℤ} {p m : ℕ} → Diff z p m → (q n : ℕ) → p + n ≡ q + m → z ≡ pos q -ℤ pos n
diff_net {z} {p} {m} e q n same =
    let other : Diff (pos q -ℤ pos n) (q + m) (n + m) = diff_more (subst₂ (λ (a b : ℕ). Diff (pos q -ℤ pos n) a b) (omega arith) (omega arith) (diff_sub (diff_pos q) (diff_pos n))) m in
    diff_same (subst₂ (λ (a b : ℕ). Diff z a b) same (omega arith) (diff_more e n)) other

-- the nets of lines one behind the other
nets_append : (ls ms : List PayLine) → nets_of_lines (ls ++ ms) ≡ nets_of_lines ls +ℤ nets_of_lines ms
unfolding nets_of_lines
nets_append [] ms = sym (+ℤ_idl (nets_of_lines ms))
nets_append (l ∷ ls) ms = ap (λ (x : ℤ). l.net +ℤ x) (nets_append ls ms) ∙ sym (+ℤ_assoc l.net (nets_of_lines ls) (nets_of_lines ms))

diff_append : (ls ms : List PayLine) {p m q n : ℕ} → Diff (nets_of_lines ls) p m → Diff (nets_of_lines ms) q n → Diff (nets_of_lines (ls ++ ms)) (p + q) (m + n)
diff_append ls ms {p} {m} {q} {n} e f = record { is = ap (λ (x : ℤ). x +ℤ pos (m + n)) (nets_append ls ms) ∙ (diff_add e f).is }

nets_lines : (seat position : ℕ) (ds : List Due) → nets_of_lines (map (line_of seat position) ds) ≡ nets_of ds
unfolding nets_of_lines nets_of
nets_lines seat position [] = refl
nets_lines seat position (d ∷ ds) = ap (λ (x : ℤ). (line_of seat position d).net +ℤ x) (nets_lines seat position ds)

-- what a guest's lines come to: what goes back, less what was laid. One without a stake has laid nothing
module _ (o : Options) (bank : Score) (seat position : ℕ) (s : Seat) (insured : insurance s ≤ stake s) (waiting : length (hands s) ≡ 0 → stake s ≡ 0) (unsided : stake s ≡ 0 → (k : ℕ) → k < 4 → get_or (sides s) k 0 ≡ 0) where
  guest-diff : Diff (nets_of_lines (guest_lines o bank seat position s)) (guest_back o bank s) (laid s)
  unfolding guest_lines guest_back nets_of_lines
  guest-diff = go (is_staked s) refl
    where
      go : (b : Bool) → is_staked s ≡ b → Diff (nets_of_lines (cond b (map (line_of seat position) (guest_pays o bank s)) [])) (guest_back o bank s) (laid s)
      go true e =
          record {
            is =
                ap (λ (x : ℤ). x +ℤ pos (laid s)) (nets_lines seat position (guest_pays o bank s))
                ∙ ap (λ (n : ℕ). nets_of (guest_pays o bank s) +ℤ pos n) (laid-wagers s insured waiting ∙ sym (laid_of_lem o bank (bets_of s)))
                ∙ (nets_diff (guest_pays o bank s)).is;
          }
      go false e =
          let none : stake s ≡ 0 = omega (arith, ltb-false 0 (stake s) e) in
          let nothing : NoBets s = record { no_stake_lem = none; no_insurance = omega arith; no_sides = unsided none } in
          let same : 0 + laid s ≡ guest_back o bank s = omega (arith, nothing-laid s nothing, nothing_back o bank s nothing) in
          record { is = ap pos same }

-- the lines of a seat, and of all
seat_diff : (o : Options) (bank : Score) (seat : ℕ) (s : Seat)
    → ((p : ℕ) → p < 3 → Diff (nets_of_lines (guest_lines o bank seat p (guest_at s p))) (guest_back o bank (guest_at s p)) (laid (guest_at s p)))
    → Diff (nets_of_lines (seat_lines o bank seat s)) (over_guests (guest_back o bank) s) (over_guests laid s)
unfolding seat_lines
seat_diff o bank seat s each =
    let one = guest_lines o bank seat 0 (guest_at s 0) in
    let two = guest_lines o bank seat 1 (guest_at s 1) in
    let three = guest_lines o bank seat 2 (guest_at s 2) in
    diff_append (one ++ two) three (diff_append one two (each 0 (omega arith)) (each 1 (omega arith))) (each 2 (omega arith))

all_diff : (o : Options) (bank : Score) (i : ℕ) (seats : List Seat)
    → ((k seat : ℕ) → k < length seats → Diff (nets_of_lines (seat_lines o bank seat (get_or seats k missing_seat))) (over_guests (guest_back o bank) (get_or seats k missing_seat)) (over_guests laid (get_or seats k missing_seat)))
    → Diff (nets_of_lines (all_lines o bank i seats)) (sum_of (over_guests (guest_back o bank)) seats) (sum_of (over_guests laid) seats)
unfolding all_lines sum_of nets_of_lines
all_diff o bank i [] each = diff_pos 0
all_diff o bank i (s ∷ ss) each = diff_append (seat_lines o bank i s) (all_lines o bank (suc i) ss) (each 0 i (omega arith)) (all_diff o bank (suc i) ss (λ k seat h. each (suc k) seat (omega arith)))

-- the numbers that the code sums up on both tables
pub record EndMoney (t : Table) (before after : Sums) : Type 0 where
  pub small-after : after.purses ≤ 1000000000000000
  pub small-before : before.purses + before.laid ≤ 1000000000000000
  pub few_prizes : before.prizes ≤ before.purses + before.laid
  pub comes_to : end_sum t ≡ pos after.purses -ℤ pos (before.purses + before.laid - before.prizes)

-- at an accepted close
module _ (t : Table) (whole : Whole t) (ends : number t Close [] ≡ 0) where
  ok : CloseAccepted t
  unfolding number step reply_by
  ok = close-accepted t ends

  lines-diff : Diff (nets_of_lines (close_shown t).lines) (sum_of (over_guests (guest_back t.options (close_score t))) t.seats) (layout t)
  unfolding close_shown
  lines-diff =
      all_diff o (close_score t) 0 t.seats (λ k seat h.
      let s = seat_at t k in
      let inside : k < 9 = omega (arith, whole.shaped.nine_seats_lem) in
      let sound = dealt_seat_lem t ok.sound ok.dealt k inside in
      let many = hands_many s (whole.shaped.seats k inside).four_places (most_many o true (up t) k s (sound_options t ok.sound).hands_most sound) in
      seat_diff o (close_score t) seat s (λ p l.
      guest-diff o (close_score t) seat p (guest_at s p) (insured-most o (up t) k (guest_at s p) (sound.guests p l))
      (λ none. sound.seated_first_lem p l (sound.waiting (omega (arith, ap (λ (hs : SeatHands). length (hands_of hs)) (guest-hands s p))) refl))
      (no_sides o true (up t) k (guest_at s p) (sound.guests p l))))
    where
      o : Options
      o = t.options

  shows : (step t Close []).answer.shown ≡ close_shown t
  unfolding number step reply_by
  shows = simp ends

  abbrev goes_back : ℕ
  goes_back = sum_of (over_guests (guest_back t.options (close_score t))) t.seats

  -- the sum, as a difference of two numbers
  sum-diff : Diff (end_sum t) (goes_back + all_prizes t) (layout t + 0)
  unfolding end_sum
  sum-diff =
      record {
        is =
            ap (λ (x : Shown). nets_of_lines x.lines +ℤ pos (all_prizes t) +ℤ pos (layout t + 0)) shows
            ∙ (diff_add lines-diff (diff_pos (all_prizes t))).is;
      }

  -- close adds what goes back to the purses
  purses-after : purses (next t Close []) ≡ purses t + goes_back
  unfolding close_effect guest_at
  purses-after =
      let bank = close_score t in
      let o = t.options in
      ap purses (accepted-next t Close [] ends)
      ∙ sum-map (over_guests purse) (paid_seat o bank) t.seats
      ∙ sum-at-same (λ s. over_guests purse (paid_seat o bank s)) (λ s. over_guests purse s + over_guests (guest_back o bank) s) t.seats missing_seat (λ i h. omega arith)
      ∙ sum-plus (over_guests purse) (over_guests (guest_back o bank)) t.seats

  -- what was won in prizes is within purses and layout
  prizes-most : all_prizes t ≤ purses t + layout t
  prizes-most =
      let o = t.options in
      omega (
        arith,
        sum-at-most (over_guests (prizes o)) (λ s. over_guests purse s + over_guests laid s) t.seats missing_seat
            (λ i h.
            let inside : i < 9 = omega (arith, whole.shaped.nine_seats_lem) in
            let guests = (ok.sound.seats i inside).guests in
            omega (arith, (guests 0 (omega arith)).prizes_back, (guests 1 (omega arith)).prizes_back, (guests 2 (omega arith)).prizes_back)),
        sum-plus (over_guests purse) (over_guests laid) t.seats,
      )

  pub end_money : (u : Table) (before after : Sums) → u ≡ next t Close [] → before ≡ table_sums t → after ≡ table_sums u → EndMoney t before after
  end_money u before after behind sums later =
      let closed-whole : Whole u = subst Whole (sym behind) (next-whole t Close whole ends) in
      let own-money = ok.sound.money in
      let money = (unbroken u closed-whole.sound).money in
      let purses-were : before.purses ≡ purses t = ap (λ (m : Sums). m.purses) sums ∙ within-capped t.seats (omega arith) in
      let laid-was : before.laid ≡ layout t = ap (λ (m : Sums). m.laid) sums in
      let prizes-were : before.prizes ≡ all_prizes t = ap (λ (m : Sums). m.prizes) sums in
      let purses-are : after.purses ≡ purses u = ap (λ (m : Sums). m.purses) later ∙ within-capped u.seats (omega arith) in
      let paid : purses u ≡ purses t + goes_back = ap purses behind ∙ purses-after in
      record {
        small-after = omega arith;
        small-before = omega arith;
        few_prizes = omega (arith, prizes-most);
        comes_to = diff_net sum-diff after.purses (before.purses + before.laid - before.prizes) (omega (arith, prizes-most));
      }
