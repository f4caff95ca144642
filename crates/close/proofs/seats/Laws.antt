-- The seats at the end of a round: what a sound table's purses can take, and a walk that stores a new seat in each place, of which the first i are
-- as if mapped.
use mathlib.Core.Path.{◌≡◌, refl, sym, ◌∙◌, ap, ap₂}
use mathlib.Core.Bool.{true}
use mathlib.Core.List.{List, ◌++◌, map, append-nil}
use Prim.Native.Nat.{ℕ, zero, suc, ◌+◌, ◌≤◌, ◌<◌}
use native.Mathlib.Omega.{arith}
use lib.ListN.{length, take, drop, set, length-map, get_or-map}
use lib.Seq.{take_all, drop-length}
use Rattle.lists.proofs.Sums.{sum_has}
use Rattle.lists.proofs.Stores.{copy_next}
use Rattle.table.specs.declared.Seat.{Seat}
use Rattle.table.specs.declared.Table.{Table}
use Rattle.table.specs.Guest.{is_nobody}
use Rattle.table.specs.Seat.{cleared_seat, missing_seat, guest_at, over_guests, purse, laid}
use Rattle.table.specs.Table.{with_seat, seat_at, guest_of}
use Rattle.table.specs.Aids.WithSeats.{with_seats}
use Rattle.table.specs.Aids.Sound.{Sound}
use Rattle.table.proofs.Facts.{nothing_facts, nothing-laid}
use Rattle.close_spec.proofs.Back.{nothing_back}
use Rattle.close.specs.declared.seats.Ending.{Ending}
use Rattle.close.specs.declared.seats.Ending.TheVariants.{Void, Paid}
use Rattle.close.specs.Aids.Ended.{options_of, Endable, ended_purse, ended_seat}

-- its guests keep nothing but their purses
pub ended_is : (ending : Ending) (s : Seat) → cleared_seat (λ p. ended_purse ending (guest_at s p)) ≡ ended_seat ending s
ended_is (Void o) s = refl
ended_is (Paid p) s = refl

-- and one who has nothing has nothing then
pub passed_over : (ending : Ending) (s : Seat) → is_nobody s.money ≡ true → ended_purse ending s ≡ 0
passed_over (Void o) s empty = let (none, bets) = nothing_facts s empty in omega (arith, none, nothing-laid s bets)
passed_over (Paid p) s empty = let (none, bets) = nothing_facts s empty in omega (arith, none, nothing_back p.options p.bank s bets)

pub endable : (t : Table) (ending : Ending) → Sound t → options_of ending ≡ t.options → length t.seats ≡ 9 → (i : ℕ) → i < 9 → (p : ℕ) → p < 3 → Endable ending (guest_of t i p)
endable t ending sound same nine i h p l =
    record {
      within = rw same ((sound.seats i h).guests p l).prizes_back;
      limit =
          omega (
            arith,
            one-guest purse (seat_at t i) p l,
            one-guest laid (seat_at t i) p l,
            sum_has (over_guests purse) t.seats i missing_seat (omega arith),
            sum_has (over_guests laid) t.seats i missing_seat (omega arith),
            sound.money,
          );
    }
  where
    one-guest : (f : Seat → ℕ) (s : Seat) (p : ℕ) → p < 3 → f (guest_at s p) ≤ over_guests f s
    one-guest f s zero l = omega arith
    one-guest f s (suc zero) l = omega arith
    one-guest f s (suc (suc zero)) l = omega arith
    one-guest f s (suc (suc (suc p))) l = absurd (omega arith)

module _ (f : Seat → Seat) (t : Table) where
  -- the seats of which the first i are stored
  abbrev pub stored_seats : ℕ → List Seat
  stored_seats i = take i (map f t.seats) ++ drop i t.seats

  pub stored_none : t ≡ with_seats t (stored_seats 0)
  stored_none = refl

  pub stored_next : (next : Table) (i : ℕ) → i < length t.seats → next ≡ with_seats t (stored_seats i)
      → with_seat next i (f (seat_at t i)) ≡ with_seats t (stored_seats (i + 1))
  stored_next next i h so_far =
      let within : i < length (map f t.seats) = omega (arith, length-map t.seats f) in
      ap (λ (u : Table). with_seat u i (f (seat_at t i))) so_far
      ∙ ap (with_seats t) (ap (set (stored_seats i) i) (sym (get_or-map f t.seats i missing_seat)) ∙ copy_next (map f t.seats) t.seats i (f missing_seat) within h)

  pub stored_all : (i : ℕ) → i ≡ length t.seats → with_seats t (stored_seats i) ≡ with_seats t (map f t.seats)
  stored_all i all =
      let whole : take i (map f t.seats) ≡ map f t.seats = take_all i (map f t.seats) (omega (arith, length-map t.seats f)) in
      let rest : drop i t.seats ≡ drop (length t.seats) t.seats = ap (λ (k : ℕ). drop k t.seats) all in
      ap (with_seats t) (ap₂ ◌++◌ whole (rest ∙ drop-length t.seats) ∙ append-nil (map f t.seats))
