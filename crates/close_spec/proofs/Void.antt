-- An accepted void keeps the table good: each guest has back what was laid, less the prizes, which the tray has back, and the cards are discards. What
-- it finds is one record, a fact for each condition.
use mathlib.Core.Path.{◌≡◌, refl}
use mathlib.Core.Bool.{true}
use mathlib.Core.List.{List, ◌∷◌}
use Prim.Native.Nat.{ℕ, ◌+◌, ◌≤◌}
use native.Mathlib.Omega.{arith}
use lib.IntN.{pos}
use borrow.Author.Tests.{not-false}
use Rattle.lists.specs.Sum.{sum_of}
use Rattle.lists.specs.Tests.{all_of}
use Rattle.lists.proofs.Sums.{sum-plus, sum-at-same}
use Rattle.lists.proofs.Differences.{diff_pos, diff_sub}
use Rattle.call.specs.declared.Call.TheVariants.{Void}
use Rattle.call.specs.Refusal.{first}
use Rattle.call.proofs.Refusals.{none_hold}
use Rattle.options.specs.declared.Options.{Options}
use Rattle.table.specs.declared.Table.{Table}
use Rattle.table.specs.Seat.{missing_seat, over_guests, purse, laid, prizes}
use Rattle.table.specs.Table.{guest_of, some_staked}
use Rattle.table.specs.Money.{all_money}
use Rattle.table.specs.Shape.{Shaped}
use Rattle.table.specs.Aids.Sound.{Sound}
use Rattle.table.proofs.AnyGuest.{any_guest_lem}
use Rattle.table.proofs.Facts.{unbroken, nothing-laid, unstaked_prizes}
use Rattle.table.proofs.RoundEnd.{RoundEnd, end_shaped, end-sound}
use Rattle.history.specs.Entry.{Entry}
use Rattle.history.specs.Aids.MakeEntry.{entry}
use Rattle.history.specs.Cards.{call_takes}
use Rattle.history.specs.Money.{laid_in, prizes_in, purse_of}
use Rattle.agreement.specs.Aids.Agrees.{Good}
use Rattle.agreement.proofs.EndOfRound.{Ends, EndCall, purse-end, end_call}
use Rattle.close_spec.specs.Void.{void_conditions, void_purse, void_effect}

-- what an accepted void finds: a fact for each condition of its list
pub record VoidAccepted (t : Table) : Type 0 where
  pub sound : Sound t
  pub some : some_staked t ≡ true

pub void-accepted : (t : Table) → first (void_conditions t) ≡ 0 → VoidAccepted t
unfolding void_conditions all_of
void-accepted t e =
    let (whole, (some, _)) = none_hold (void_conditions t) refl e in
    record { sound = unbroken t whole; some = not-false (some_staked t) some }

-- the prizes of a guest of any number and position are within the purse and what was laid
prizes-within : (t : Table) → Shaped t → Sound t → (i p : ℕ) → prizes t.options (guest_of t i p) ≤ purse (guest_of t i p) + laid (guest_of t i p)
prizes-within t shaped sound i p =
    any_guest_lem t shaped (λ s. prizes t.options s ≤ purse s + laid s) i p (λ h l. ((sound.seats i h).guests p l).prizes_back)
    (λ s none. omega (arith, unstaked_prizes t.options s none.no_stake_lem))

void_paid : (t : Table) → Shaped t → Sound t → (void_effect t).tray + sum_of (over_guests (void_purse t.options)) t.seats ≡ all_money t
unfolding void_effect
void_paid t shaped sound =
    let within = prizes-within t shaped sound in
    omega (
      arith,
      sum-plus (over_guests (void_purse o)) (over_guests (prizes o)) t.seats,
      sum-plus (over_guests purse) (over_guests laid) t.seats,
      sum-at-same (λ s. over_guests (void_purse o) s + over_guests (prizes o) s) (λ s. over_guests purse s + over_guests laid s) t.seats missing_seat
          (λ i h. omega (arith, within i 0, within i 1, within i 2)),
    )
  where
    o : Options
    o = t.options

void-ends : (order : List ℕ) → Ends (entry Void order)
void-ends order = record { among = refl; is_end_lem = refl }

round-end : (t : Table) → Shaped t → Sound t → RoundEnd t (void_effect t).tray (void_purse t.options) (void_effect t).shoe 0
unfolding void_effect
round-end t shaped sound =
    record {
      paid = void_paid t shaped sound;
      nothing_stays = λ s empty none. omega (arith, nothing-laid s none);
      same_order = refl;
      more_drawn = omega arith;
      same_begun = refl;
      drawn_before = λ some. absurd (omega arith);
      enough = omega (arith, sound.drawn);
      all_discards = refl;
      all_discarded = refl;
    }

pub void-kept : (t : Table) → Shaped t → Sound t → Shaped (void_effect t) × Sound (void_effect t)
unfolding void_effect
void-kept t shaped sound =
    let end = round-end t shaped sound in (
      end_shaped t (void_effect t).tray (void_purse t.options) (void_effect t).shoe 0 shaped sound end,
      end-sound t (void_effect t).tray (void_purse t.options) (void_effect t).shoe 0 shaped sound end,
    )

module _ (opening : List ℕ) (es : List Entry) (t : Table) (order : List ℕ) (g : Good opening es t) where
  purse-back : (i p : ℕ) → pos (void_purse t.options (guest_of t i p)) ≡ purse_of t.options opening (entry Void order ∷ es) i p
  purse-back i p =
      let a = (g.agrees.seats i).guests p in
      purse-end t.options opening es i (entry Void order) (void-ends order) p (purse (guest_of t i p)) (void_purse t.options (guest_of t i p))
      (laid_in es i p + 0) (0 + prizes_in t.options opening es i p)
      (diff_sub (diff_pos (laid_in es i p)) (diff_pos (prizes_in t.options opening es i p)))
      a.purse_is (omega (arith, a.laid_is, a.prizes_are, prizes-within t g.shaped g.sound i p))

  -- the history's call
  void-call : EndCall opening es t (entry Void order) (void_effect t).tray (void_purse t.options) (void_effect t).shoe 0
  unfolding call_takes void_effect
  void-call = record { ends = void-ends order; takes = refl; purses = purse-back }

pub void_good : (opening : List ℕ) (es : List Entry) (t : Table) (order : List ℕ) → Good opening es t → first (void_conditions t) ≡ 0 → Good opening (entry Void order ∷ es) (void_effect t)
unfolding void_effect
void_good opening es t order g accepted =
    end_call opening es t (entry Void order) (void_effect t).tray (void_purse t.options) (void_effect t).shoe 0 g
    (round-end t g.shaped g.sound) (void-call opening es t order g)
