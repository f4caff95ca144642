-- The guests of a seat, tested and summed one after the other, are the seat's test and sums.
use mathlib.Core.Path.{◌≡◌, refl, sym, ap, ap₂, ◌∙◌, subst}
use mathlib.Core.Bool.{Bool, true, false, ◌&&◌, ◌||◌, and-true, and-false, and-eq-true_iff}
use mathlib.Core.List.{[], ◌∷◌}
use Prim.Native.Nat.{ℕ, ◌+◌, ◌≤◌}
use native.Mathlib.Omega.{arith}
use native.Mathlib.Decide.{dec_le}
use lib.Dec.{ltb, eqb}
use lib.ListN.{get_or}
use borrow.Author.Tests.{le-leb, eq-eqb, lt-ltb}
use Rattle.lists.proofs.Tests.{and_at, or_other, or_unless}
use Rattle.lists.proofs.Below.{below_all}
use Rattle.options.specs.declared.Options.{Options}
use Rattle.table.specs.declared.Seat.{Seat}
use Rattle.table.specs.Guest.{is_nobody, nobody_in}
use Rattle.table.specs.Seat.{guest_at, each_guest, purse, stake, sides, laid, prizes, seat_cover}
use Rattle.table.specs.Broken.{sound_number, sound_stake, sound_insurance, sound_sides, sound_prizes, sound_hands, sound_guest, seated_first, sound_seat}
use Rattle.table.specs.Aids.Sound.{NoBets}
use Rattle.table.proofs.Guests.{guest-seated, guest-hands}
use Rattle.table.proofs.Facts.{nothing_facts, nobody_beside, nothing-laid, unstaked_prizes}
use Rattle.money.specs.declared.sums.Sums.{Sums}
use Rattle.money.specs.Sums.{make_sums, no_sums, capped, guest_sums, seat_sums, plus_sums}
use Rattle.money.specs.SumsFit.{SumsFit}
use Rattle.money.proofs.sums.Pass.{fits_in_lem, no_guests_fit, seat_fits, nothing_summed, none_more}
use Rattle.broken.specs.declared.hand.Looked.{Looked}
use Rattle.broken.specs.Aids.LookedAt.{LookedAt}
use Rattle.broken.specs.Aids.AtRest.{AtRest}
use Rattle.std.proofs.Common.{Option, Some, None, IfSome, rules}
use Rattle.std.proofs.lemmas.Option.{none-some}
use Rattle.std.specs.Bool.{then_some}
use Rattle.broken.specs.Aids.Surveyed.{Surveyed}
use Rattle.broken.proofs.seat.Laws.{sides-none, unseated}

-- a test of guests beside their sums, apart from what the code gives of both
pub record Survey : Type 0 where
  pub sound : Bool
  pub sums : Sums

pub record Tested (test : Bool) (m : Sums) (k : ℕ) (v : Survey) : Type 0 where
  pub sound : v.sound ≡ test
  pub sums : v.sums ≡ m
  pub fits : SumsFit k m

-- what the code gives where the two are those of the definitions
pub of_tested : (test : Bool) (m : Sums) (k : ℕ) (v : Survey) → Tested test m k v → Surveyed test m k (then_some v.sound v.sums)
of_tested test m k v f = record { value = ap₂ then_some f.sound f.sums; fits = go v.sound }
  where
    go : (b : Bool) → IfSome (then_some b v.sums) (λ sums. SumsFit k sums)
    go true = rw f.sums f.fits
    go false = tt

-- and back: with sums the guests are sound, without they are not
pub passed : (test : Bool) (m : Sums) (k : ℕ) (v : Option Sums) (sums : Sums) → Surveyed test m k v → v ≡ Some sums → Tested test m k (record { sound = true; sums = sums })
passed true m k v sums f some = let same : sums ≡ m = search (rules, sym some ∙ f.value) in record { sound = refl; sums = same; fits = rw (← same) (rw some at f.fits) }
passed false m k v sums f some = absurd (none-some sums (sym f.value ∙ some))

pub failed : (test : Bool) (m : Sums) (k : ℕ) (v : Option Sums) → Surveyed test m k v → v ≡ None → test ≡ false
failed false m k v f none = refl
failed true m k v f none = absurd (none-some m (sym none ∙ f.value))

pub nothing : (test : Bool) (m : Sums) (k : ℕ) → test ≡ false → Surveyed test m k None
nothing test m k e = record { value = rw e; fits = tt }

module _ (o : Options) (in_round : Bool) (up i : ℕ) where
  abbrev pub passes : Seat → Bool
  passes g = sound_guest o in_round up i g

  -- of a guest without money nothing but the seat's number is asked
  empty-sound : (g : Seat) → NoBets g → passes g ≡ sound_number o i g
  unfolding sound_guest sound_stake sound_insurance sound_prizes
  empty-sound g bets =
      let sided = sides-none g (below_all _ 4 (λ k h. eq-eqb _ _ (bets.no_sides k h))) in
      simp (bets.no_stake_lem, bets.no_insurance, sided, unstaked_prizes o g bets.no_stake_lem, le-leb 0 (purse g + laid g) (omega arith), and-true)

  pub empty-surveyed : (g : Seat) (sound : Bool) (sums : Sums) → purse g ≡ 0 → NoBets g → sound ≡ sound_number o i g → sums ≡ no_sums
      → Tested (passes g) (guest_sums o g) 1 (record { sound = sound; sums = sums })
  empty-surveyed g sound sums none bets number zero =
      let nothing = nothing_summed o g none bets in
      record { sound = number ∙ sym (empty-sound g bets); sums = zero ∙ sym nothing; fits = rw nothing (fits_in_lem 0 1 no_sums (omega arith) no_guests_fit) }

  module _ (s : Seat) where
    -- the seated guest and the two others
    pub three : (a b c d e : Survey)
        → Tested (passes s) (guest_sums o s) 1 a → Tested (passes (guest_at s 1)) (guest_sums o (guest_at s 1)) 1 b → Tested (passes (guest_at s 2)) (guest_sums o (guest_at s 2)) 1 c
        → (d.sound ≡ a.sound && b.sound) × (d.sums ≡ plus_sums a.sums b.sums)
        → (e.sound ≡ d.sound && c.sound) × (e.sums ≡ plus_sums d.sums c.sums)
        → Tested (each_guest passes s) (seat_sums o s) 3 e
    three a b c d e seated one two both all =
        let same = sym (guest-seated s) in
        record {
          sound = all.0 ∙ ap₂ ◌&&◌ (both.0 ∙ ap₂ ◌&&◌ (seated.sound ∙ ap passes same) one.sound) two.sound;
          sums = all.1 ∙ ap₂ plus_sums (both.1 ∙ ap₂ plus_sums (seated.sums ∙ ap (guest_sums o) same) one.sums) two.sums;
          fits = seat_fits o s (subst (λ (x : Seat). SumsFit 1 (guest_sums o x)) same seated.fits) one.fits two.fits;
        }

    -- a guest without money beside a sound one: the seat's number, which is asked of both, and its hands are the same
    number-beside : (p : ℕ) → is_nobody (guest_at s p).money ≡ true → passes s ≡ true → sound_number o i (guest_at s p) ≡ true
    unfolding sound_guest sound_number
    number-beside p nobody e =
        let number = and_at (sound_number o i s ∷ sound_stake o s ∷ sound_insurance o in_round up s ∷ sound_sides s ∷ sound_prizes o s ∷ []) e 0 in
        or_unless (ltb i o.seats) _ (λ beyond. simp (nobody, guest-hands s p) ((and-eq-true_iff (is_nobody s.money) (eqb s.hands.many 0)).0 (or_other (ltb i o.seats) _ number beyond)).1)

    -- so where nobody bets beside, the seated guest's test and sums are the seat's
    pub alone : (a : Survey) → nobody_in s.others ≡ true
        → Tested (passes s) (guest_sums o s) 1 a → Tested (each_guest passes s) (seat_sums o s) 3 a
    alone a nobody seated =
        let (first, second) = nobody_beside s nobody in
        three a (beside 1) (beside 2) a a seated (surveyed 1 first) (surveyed 2 second) (added 1 first) (added 2 second)
      where
        beside : ℕ → Survey
        beside p = record { sound = sound_number o i (guest_at s p); sums = no_sums }

        surveyed : (p : ℕ) → is_nobody (guest_at s p).money ≡ true → Tested (passes (guest_at s p)) (guest_sums o (guest_at s p)) 1 (beside p)
        surveyed p none = let (purse, bets) = nothing_facts (guest_at s p) none in empty-surveyed (guest_at s p) (sound_number o i (guest_at s p)) no_sums purse bets refl refl

        added : (p : ℕ) → is_nobody (guest_at s p).money ≡ true → (a.sound ≡ a.sound && (beside p).sound) × (a.sums ≡ plus_sums a.sums (beside p).sums)
        added p none = (go a.sound seated.sound, sym (none_more a.sums))
          where
            go : (b : Bool) → b ≡ passes s → b ≡ b && sound_number o i (guest_at s p)
            go true e = sym (number-beside p none (sym e))
            go false e = refl

    -- there nobody stakes before the seated guest
    lone-first : nobody_in s.others ≡ true → seated_first s ≡ true
    unfolding seated_first
    lone-first nobody = go (dec_le (stake s) 0)
      where
        none : (p : ℕ) → is_nobody (guest_at s p).money ≡ true → eqb (stake (guest_at s p)) 0 ≡ true
        none p e = eq-eqb _ _ (nothing_facts (guest_at s p) e).1.no_stake_lem

        go : Dec (stake s ≤ 0) → seated_first s ≡ true
        go (yes h) = let (first, second) = nobody_beside s nobody in unseated s h ∙ simp (none 1 first, none 2 second)
        go (no h) = simp (lt-ltb 0 (stake s) (omega arith))

    -- and the seat is the seated guest and the hands
    pub lone-seat : (a : Survey) → nobody_in s.others ≡ true → a.sound ≡ passes s && sound_hands o in_round up s → a.sums ≡ guest_sums o s → SumsFit 1 (guest_sums o s)
        → Tested (sound_seat o in_round up i s) (seat_sums o s) 3 a
    unfolding sound_seat
    lone-seat a nobody sound sums fits =
        let each = alone (record { sound = passes s; sums = a.sums }) nobody (record { sound = refl; sums = sums; fits = fits }) in
        record {
          sound =
              sound ∙ ap (λ (b : Bool). b && sound_hands o in_round up s) (each.sound ∙ sym (and-true (each_guest passes s)))
              ∙ sym (ap (λ (b : Bool). each_guest passes s && b && sound_hands o in_round up s) (lone-first nobody));
          sums = each.sums;
          fits = each.fits;
        }

    -- the guest's sums, by the look at the hands
    pub by_look : (look : Looked) (m : Sums) → LookedAt o up (stake s) s.hands look → m ≡ make_sums (stake s) (laid s) look.prizes (seat_cover s) (capped (purse s)) → m ≡ guest_sums o s
    unfolding prizes
    by_look look m f e = e ∙ ap (λ (n : ℕ). make_sums (stake s) (laid s) n (seat_cover s) (capped (purse s))) f.prizes

    -- at rest no hand is due, and the guest's sums are the purse alone
    module _ (rest : AtRest s) where
      none-due : sound_hands o in_round up s ≡ true
      unfolding sound_hands
      none-due = simp (rest.no_hand, rest.bets.no_stake_lem, and-false)

      purse_alone : guest_sums o s ≡ make_sums 0 0 0 0 (capped (purse s))
      purse_alone =
          let bets = rest.bets in
          let cover : seat_cover s ≡ 0 =
          omega (arith, bets.no_stake_lem, bets.no_sides 0 (omega arith), bets.no_sides 1 (omega arith), bets.no_sides 2 (omega arith), bets.no_sides 3 (omega arith)) in
          λ j. make_sums (bets.no_stake_lem j) (nothing-laid s bets j) (unstaked_prizes o s bets.no_stake_lem j) (cover j) (capped (purse s))

      purse_fits : SumsFit 1 (guest_sums o s)
      purse_fits =
          rw purse_alone (record { stakes = omega arith; laid = omega arith; prizes = omega arith; cover = omega arith; purses = omega arith })

      -- of the seat's number no more is asked than that of the purse
      number-alone : sound_number o i s ≡ (ltb i o.seats || eqb (purse s) 0)
      unfolding sound_number
      number-alone =
          simp (rest.no_hand, eq-eqb _ _ rest.bets.no_stake_lem, eq-eqb _ _ rest.bets.no_insurance, below_all (λ k. eqb (get_or (sides s) k 0) 0) 4 (λ k h. eq-eqb _ _ (rest.bets.no_sides k h)), and-true)

      pub resting : (a : Survey) → nobody_in s.others ≡ true → a.sound ≡ (ltb i o.seats || eqb (purse s) 0) → a.sums ≡ make_sums 0 0 0 0 (capped (purse s))
          → Tested (sound_seat o in_round up i s) (seat_sums o s) 3 a
      resting a nobody number sums =
          lone-seat a nobody (number ∙ sym number-alone ∙ sym (empty-sound s rest.bets) ∙ sym (ap (λ (b : Bool). passes s && b) none-due ∙ and-true (passes s))) (sums ∙ sym purse_alone) purse_fits

    -- a guest who is not sound decides; where each is, what they share does
    pub one_fails : passes s ≡ false → each_guest passes s ≡ false
    one_fails e = simp (guest-seated s, e)

    pub guest_fails : each_guest passes s ≡ false → sound_seat o in_round up i s ≡ false
    unfolding sound_seat
    guest_fails e = simp e

    pub guests_pass : (m : Sums) (v : Survey) (shared : Bool) → Tested (each_guest passes s) m 3 v → v.sound ≡ true → shared ≡ seated_first s && sound_hands o in_round up s
        → Tested (sound_seat o in_round up i s) m 3 (record { sound = shared; sums = v.sums })
    unfolding sound_seat
    guests_pass m v shared f passed same = record { sound = same ∙ sym (simp (sym f.sound ∙ passed)); sums = f.sums; fits = f.fits }
