-- The ten bytes of a call. Those of a call that fits name it, and ten bytes that pass the rules are those of the call that they name: kind by kind.
use mathlib.Core.Path.{◌≡◌, refl, sym, ◌∙◌, ap, ap₂, subst}
use mathlib.Core.Bool.{true, false, not, ◌&&◌, ◌||◌, and-eq-true_iff, or-true}
use mathlib.Core.List.{List, ◌∷◌}
use Prim.Native.Nat.{ℕ, zero, suc, ◌+◌, ◌-◌, ◌*◌, ◌^◌, ◌≤◌, ◌<◌}
use native.Mathlib.Decide.{dec_le}
use native.Mathlib.Omega.{arith}
use lib.Dec.{ltb, leb, eqb}
use lib.ListN.{length, take, drop, length-drop}
use lib.Seq.{take_all, drop-cons, length-take-le}
use borrow.Author.Tests.{ltb-true, lt-ltb, leb-true, le-leb, le-ltb, ne_eqb}
use Rattle.call.specs.declared.At.{At}
use Rattle.call.specs.declared.Call.{Call}
use Rattle.call.specs.declared.Call.TheVariants.{Fill, Credit, Buy, Cash, Stake, Deal, Insure, Stand, Draw, Double, Split, Surrender, Even, Five, Close, Void, Load, Side}
use Rattle.call.specs.Call.{kind, seat, position, amount}
use Rattle.file_spec.specs.Block.{is_byte, Bytes, little_endian}
use Rattle.file_spec.specs.CallBlock.{call_bytes, code_kind, code_seat, code_amount, code_at, call_of, code_call, has_seat, has_amount, wrong_kind, stray_seat, stray_amount}
use Rattle.file_spec.specs.File.{known_kind, fits}
use Rattle.file_spec.proofs.Alls.{cons_all, all-part, all_rest}
use Rattle.file_spec.proofs.Numbers.{le_bytes, le_read, le_write}

pub call_length : (c : Call) → length (call_bytes c) ≡ 10
unfolding call_bytes little_endian
call_length c = refl

-- what fitting says
pub record Fits (c : Call) : Type 0 where
  pub known : known_kind c ≡ true
  pub seat_fits : seat c < 16
  pub position_fits : position c < 16
  pub amount_fits : amount c < 256 ^ 8

pub fits_facts : (c : Call) → fits c ≡ true → Fits c
fits_facts c h =
    let (three, n) = (and-eq-true_iff (known_kind c && ltb (seat c) 16 && ltb (position c) 16) (leb (amount c) 18446744073709551615)).0 h in
    let (two, p) = (and-eq-true_iff (known_kind c && ltb (seat c) 16) (ltb (position c) 16)).0 three in
    let (k, s) = (and-eq-true_iff (known_kind c) (ltb (seat c) 16)).0 two in
    record {
      known = k;
      seat_fits = ltb-true (seat c) 16 s;
      position_fits = ltb-true (position c) 16 p;
      amount_fits = omega (arith, leb-true (amount c) 18446744073709551615 n);
    }

side-known : (at : At) (k n : ℕ) → known_kind (Side at k n) ≡ true → (1 ≤ k) × (k ≤ 4)
unfolding known_kind
side-known at k n h = let (one, four) = (and-eq-true_iff (leb 1 k) (leb k 4)).0 h in (leb-true 1 k one, leb-true k 4 four)

side_kind_lem : (at : At) (k n : ℕ) → known_kind (Side at k n) ≡ true → leb 18 (17 + k) ≡ true
side_kind_lem at k n h = le-leb 18 (17 + k) (omega (arith, (side-known at k n h).0))

-- the call of a kind above 17 is a side stake
call_side : (k : ℕ) (at : At) (n : ℕ) → 18 ≤ k → call_of k at n ≡ Side at (k - 17) n
unfolding call_of
call_side k at n h =
    simp (
      ne_eqb k 1 (λ e. omega arith),
      ne_eqb k 2 (λ e. omega arith),
      ne_eqb k 3 (λ e. omega arith),
      ne_eqb k 4 (λ e. omega arith),
      ne_eqb k 5 (λ e. omega arith),
      ne_eqb k 6 (λ e. omega arith),
      ne_eqb k 7 (λ e. omega arith),
      ne_eqb k 8 (λ e. omega arith),
      ne_eqb k 9 (λ e. omega arith),
      ne_eqb k 10 (λ e. omega arith),
      ne_eqb k 11 (λ e. omega arith),
      ne_eqb k 12 (λ e. omega arith),
      ne_eqb k 13 (λ e. omega arith),
      ne_eqb k 14 (λ e. omega arith),
      ne_eqb k 15 (λ e. omega arith),
      ne_eqb k 16 (λ e. omega arith),
      ne_eqb k 17 (λ e. omega arith),
    )

-- seat, position and amount are read as they were written
at_read : (c : Call) (at : At) → at.seat ≡ seat c → at.position ≡ position c → Fits c → code_at (call_bytes c) ≡ at
unfolding call_bytes
at_read c at s p h = ap₂ make (omega (arith, h.seat_fits)) (omega (arith, h.seat_fits))
  where
    make : ℕ → ℕ → At
    make x y = record { seat = x; position = y }

amount_read : (c : Call) → Fits c → code_amount (call_bytes c) ≡ amount c
unfolding call_bytes little_endian
amount_read c h = le_read 8 (amount c) h.amount_fits

pub code_read : (c : Call) → Fits c → code_call (call_bytes c) ≡ c
unfolding call_bytes call_of
code_read (Fill n) h = ap Fill (amount_read (Fill n) h)
code_read (Credit n) h = ap Credit (amount_read (Credit n) h)
code_read (Buy at n) h = ap₂ Buy (at_read (Buy at n) at refl refl h) (amount_read (Buy at n) h)
code_read (Cash at n) h = ap₂ Cash (at_read (Cash at n) at refl refl h) (amount_read (Cash at n) h)
code_read (Stake at n) h = ap₂ Stake (at_read (Stake at n) at refl refl h) (amount_read (Stake at n) h)
code_read Deal h = refl
code_read (Insure at n) h = ap₂ Insure (at_read (Insure at n) at refl refl h) (amount_read (Insure at n) h)
code_read (Stand at) h = ap Stand (at_read (Stand at) at refl refl h)
code_read (Draw at) h = ap Draw (at_read (Draw at) at refl refl h)
code_read (Double at) h = ap Double (at_read (Double at) at refl refl h)
code_read (Split at) h = ap Split (at_read (Split at) at refl refl h)
code_read (Surrender at) h = ap Surrender (at_read (Surrender at) at refl refl h)
code_read (Even at) h = ap Even (at_read (Even at) at refl refl h)
code_read (Five at) h = ap Five (at_read (Five at) at refl refl h)
code_read Close h = refl
code_read Void h = refl
code_read Load h = refl
code_read (Side at k n) h =
    let one : 1 ≤ k = (side-known at k n h.known).0 in
    call_side (17 + k) (code_at (call_bytes (Side at k n))) (code_amount (call_bytes (Side at k n))) (omega arith)
    ∙ ap (λ (a : At). Side a (17 + k - 17) (code_amount (call_bytes (Side at k n)))) (at_read (Side at k n) at refl refl h)
    ∙ ap₂ (Side at) (omega arith) (amount_read (Side at k n) h)

-- kinds are 1 to 21, and bytes hold all ten
kind-range : (c : Call) → known_kind c ≡ true → (1 ≤ kind c) × (kind c ≤ 21)
kind-range (Fill n) h = omega arith
kind-range (Credit n) h = omega arith
kind-range (Buy at n) h = omega arith
kind-range (Cash at n) h = omega arith
kind-range (Stake at n) h = omega arith
kind-range Deal h = omega arith
kind-range (Insure at n) h = omega arith
kind-range (Stand at) h = omega arith
kind-range (Draw at) h = omega arith
kind-range (Double at) h = omega arith
kind-range (Split at) h = omega arith
kind-range (Surrender at) h = omega arith
kind-range (Even at) h = omega arith
kind-range (Five at) h = omega arith
kind-range Close h = omega arith
kind-range Void h = omega arith
kind-range Load h = omega arith
kind-range (Side at k n) h = let (one, four) = side-known at k n h in omega arith

pub call_bytes_lem : (c : Call) → Fits c → Bytes (call_bytes c)
unfolding call_bytes
call_bytes_lem c h =
    cons_all is_byte (kind c) ((seat c + 16 * position c) ∷ little_endian 8 (amount c)) (lt-ltb (kind c) 256 (omega (arith, (kind-range c h.known).1)))
    (cons_all is_byte (seat c + 16 * position c) (little_endian 8 (amount c)) (lt-ltb (seat c + 16 * position c) 256 (omega (arith, h.seat_fits, h.position_fits))) (le_bytes 8 (amount c)))

-- a call without a seat or an amount has 0 there
stray_seat_lem : (c : Call) → known_kind c ≡ true → not (has_seat (kind c)) && not (eqb (seat c + 16 * position c) 0) ≡ false
stray_seat_lem (Fill n) h = refl
stray_seat_lem (Credit n) h = refl
stray_seat_lem (Buy at n) h = refl
stray_seat_lem (Cash at n) h = refl
stray_seat_lem (Stake at n) h = refl
stray_seat_lem Deal h = refl
stray_seat_lem (Insure at n) h = refl
stray_seat_lem (Stand at) h = refl
stray_seat_lem (Draw at) h = refl
stray_seat_lem (Double at) h = refl
stray_seat_lem (Split at) h = refl
stray_seat_lem (Surrender at) h = refl
stray_seat_lem (Even at) h = refl
stray_seat_lem (Five at) h = refl
stray_seat_lem Close h = refl
stray_seat_lem Void h = refl
stray_seat_lem Load h = refl
stray_seat_lem (Side at k n) h = simp (side_kind_lem at k n h, or-true)

stray_amount_lem : (c : Call) → known_kind c ≡ true → not (has_amount (kind c)) && not (eqb (amount c) 0) ≡ false
stray_amount_lem (Fill n) h = refl
stray_amount_lem (Credit n) h = refl
stray_amount_lem (Buy at n) h = refl
stray_amount_lem (Cash at n) h = refl
stray_amount_lem (Stake at n) h = refl
stray_amount_lem Deal h = refl
stray_amount_lem (Insure at n) h = refl
stray_amount_lem (Stand at) h = refl
stray_amount_lem (Draw at) h = refl
stray_amount_lem (Double at) h = refl
stray_amount_lem (Split at) h = refl
stray_amount_lem (Surrender at) h = refl
stray_amount_lem (Even at) h = refl
stray_amount_lem (Five at) h = refl
stray_amount_lem Close h = refl
stray_amount_lem Void h = refl
stray_amount_lem Load h = refl
stray_amount_lem (Side at k n) h = simp (side_kind_lem at k n h, or-true)

-- so the tests of a block's codes pass
pub right_kind : (c : Call) → Fits c → wrong_kind (call_bytes c) ≡ false
unfolding call_bytes
right_kind c h = let (least, most) = kind-range c h.known in ap₂ ◌||◌ (ne_eqb (kind c) 0 (λ none. omega arith)) (le-ltb 21 (kind c) most)

pub no_stray_seat : (c : Call) → Fits c → stray_seat (call_bytes c) ≡ false
unfolding call_bytes
no_stray_seat c h = stray_seat_lem c h.known

pub no_stray_amount : (c : Call) → Fits c → stray_amount (call_bytes c) ≡ false
unfolding call_bytes
no_stray_amount c h = ap (λ (n : ℕ). not (has_amount (kind c)) && not (eqb n 0)) (amount_read c h) ∙ stray_amount_lem c h.known

-- Ten bytes that pass the rules. What is said of every kind is said kind by kind.
abbrev Each : (ℕ → Type 0) → ℕ → Type 0
Each P zero = Unit {0}
Each P (suc n) = Each P n × P n

each_below : (P : ℕ → Type 0) (n : ℕ) → Each P n → (k : ℕ) → k < n → P k
each_below P zero all k h = absurd (omega arith)
each_below P (suc n) all k h = go (dec_le n k) (each_below P n all.0 k)
  where
    go : Dec (n ≤ k) → (k < n → P k) → P k
    go (yes le) earlier = let same : n ≡ k = omega arith in subst P same all.1
    go (no gt) earlier = earlier (omega arith)

-- the call of kind k with this seat and amount, 0 where the kind has none, has them
abbrev Holds : ℕ → Type 0
Holds k =
    (at : At) (n : ℕ) → 1 ≤ k → ((has_seat k ≡ false → (0 ≡ at.seat) × (0 ≡ at.position)) × (has_amount k ≡ false → 0 ≡ n))
    → (kind (call_of k at n) ≡ k) × (seat (call_of k at n) ≡ at.seat) × (position (call_of k at n) ≡ at.position) × (amount (call_of k at n) ≡ n) × (known_kind (call_of k at n) ≡ true)

kinds_hold : Each Holds 22
unfolding call_of known_kind
kinds_hold = (
  (
    (
      (
        (
          (
            (
              (
                (
                  (
                    (
                      (
                        (
                          (
                            (
                              (
                                (
                                  (
                                    (
                                      (
                                        (
                                          (tt, (λ at n one h. absurd (omega arith))),
                                          (λ at n one h. (refl, (h.0 refl).0, (h.0 refl).1, refl, refl)),
                                        ),
                                        (λ at n one h. (refl, (h.0 refl).0, (h.0 refl).1, refl, refl)),
                                      ),
                                      (λ at n one h. (refl, refl, refl, refl, refl)),
                                    ),
                                    (λ at n one h. (refl, refl, refl, refl, refl)),
                                  ),
                                  (λ at n one h. (refl, refl, refl, refl, refl)),
                                ),
                                (λ at n one h. (refl, (h.0 refl).0, (h.0 refl).1, h.1 refl, refl)),
                              ),
                              (λ at n one h. (refl, refl, refl, refl, refl)),
                            ),
                            (λ at n one h. (refl, refl, refl, h.1 refl, refl)),
                          ),
                          (λ at n one h. (refl, refl, refl, h.1 refl, refl)),
                        ),
                        (λ at n one h. (refl, refl, refl, h.1 refl, refl)),
                      ),
                      (λ at n one h. (refl, refl, refl, h.1 refl, refl)),
                    ),
                    (λ at n one h. (refl, refl, refl, h.1 refl, refl)),
                  ),
                  (λ at n one h. (refl, refl, refl, h.1 refl, refl)),
                ),
                (λ at n one h. (refl, refl, refl, h.1 refl, refl)),
              ),
              (λ at n one h. (refl, (h.0 refl).0, (h.0 refl).1, h.1 refl, refl)),
            ),
            (λ at n one h. (refl, (h.0 refl).0, (h.0 refl).1, h.1 refl, refl)),
          ),
          (λ at n one h. (refl, (h.0 refl).0, (h.0 refl).1, h.1 refl, refl)),
        ),
        (λ at n one h. (refl, refl, refl, refl, refl)),
      ),
      (λ at n one h. (refl, refl, refl, refl, refl)),
    ),
    (λ at n one h. (refl, refl, refl, refl, refl)),
  ),
  (λ at n one h. (refl, refl, refl, refl, refl)),
)

-- ten bytes, by their places
ten : (code : List ℕ) → length code ≡ 10 → code ≡ code_kind code ∷ code_seat code ∷ take 8 (drop 2 code)
ten code len =
    let rest : take 8 (drop 2 code) ≡ drop 2 code = take_all 8 (drop 2 code) (omega (arith, length-drop 2 code)) in
    drop-cons code 0 0 (omega arith) ∙ ap (λ (l : List ℕ). code_kind code ∷ l) (drop-cons code 1 0 (omega arith)) ∙ ap (λ (l : List ℕ). code_kind code ∷ code_seat code ∷ l) (sym rest)

-- a code that passes: its kind is one, and it has 0 where its kind has no seat or no amount
pub record Passes (code : List ℕ) : Type 0 where
  pub bytes : Bytes code
  pub long : length code ≡ 10
  pub least : 1 ≤ code_kind code
  pub most : code_kind code ≤ 21
  pub no_seat : has_seat (code_kind code) ≡ false → code_seat code ≡ 0
  pub no_amount : has_amount (code_kind code) ≡ false → code_amount code ≡ 0

module _ (code : List ℕ) (p : Passes code) where
  held : (kind (code_call code) ≡ code_kind code) × (seat (code_call code) ≡ (code_at code).seat) × (position (code_call code) ≡ (code_at code).position) × (amount (code_call code) ≡ code_amount code) × (known_kind (code_call code) ≡ true)
  held =
      each_below Holds 22 kinds_hold (code_kind code) (omega (arith, p.most)) (code_at code) (code_amount code) p.least
      ((λ none. let zero-byte : code_seat code ≡ 0 = p.no_seat none in (omega arith, omega arith)), (λ none. sym (p.no_amount none)))

  pub code_kind_lem : kind (code_call code) ≡ code_kind code
  code_kind_lem = held.0

  amount-bytes : little_endian 8 (code_amount code) ≡ take 8 (drop 2 code)
  amount-bytes =
      let eight : length (take 8 (drop 2 code)) ≡ 8 = length-take-le 8 (drop 2 code) (omega (arith, length-drop 2 code, p.long)) in
      ap (λ (n : ℕ). little_endian n (code_amount code)) (sym eight) ∙ le_write (take 8 (drop 2 code)) (all-part is_byte 8 (drop 2 code) (all_rest is_byte 2 code p.bytes))

  pub code_write : call_bytes (code_call code) ≡ code
  unfolding call_bytes
  code_write =
      let both : seat (code_call code) + 16 * position (code_call code) ≡ code_seat code = omega (arith, held.1, held.2) in
      ap₂ ◌∷◌ held.0 (ap₂ ◌∷◌ both (ap (little_endian 8) held.3 ∙ amount-bytes)) ∙ sym (ten code p.long)
