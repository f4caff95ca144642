-- What one more call gives, case by case, and what is known of the parts of a call that can be written.
use mathlib.Core.Path.{◌≡◌, refl, sym}
use Rattle.std.proofs.Common.{rules}
use Rattle.call.specs.declared.At.{At}
use mathlib.Core.Bool.{Bool, true≢false, true, false, ◌&&◌}
use mathlib.Core.List.{List, [], ◌∷◌, ◌++◌}
use Prim.Native.Nat.{ℕ, ◌+◌, ◌≤◌, ◌<◌}
use native.Mathlib.Omega.{arith}
use borrow.Author.Tests.{lt-ltb, le-leb, lt-leb, eq-eqb, ne_eqb}
use lib.Dec.{eqb}
use Rattle.call.specs.Call.{kind, seat, position, amount}
use Rattle.std.specs.Prelude.{Some, None, cond}
use Rattle.call.specs.declared.Call.{Call}
use Rattle.call.specs.declared.Call.TheVariants.{Fill, Credit, Buy, Cash, Stake, Deal, Insure, Stand, Draw, Double, Split, Surrender, Even, Five, Close, Void, Load, Side}
use Rattle.options.specs.declared.Options.{Options}
use Rattle.options.specs.Ranges.{in_range}
use Rattle.table.specs.Shoe.{valid_order}
use Rattle.history.specs.Entry.{Entry, is_load}
use Rattle.file_spec.specs.TableBlock.{table_block}
use Rattle.file_spec.specs.CallBlock.{call_bytes}
use Rattle.file_spec.specs.File.{known_kind, fits, writable}
use Rattle.file_spec.specs.Writer.{block_of, written, unwritten, begun, added}

-- a call that ten bytes hold, taken apart: its kind is known, and is that of a load only where it is one
pub known_parts : (c : Call) (k : ℕ) → cond (known_kind c) (Some (kind c)) None ≡ Some k → (known_kind c ≡ true) × (kind c ≡ k)
known_parts c k e = go (known_kind c) refl e
  where
    go : (known : Bool) → known_kind c ≡ known → cond known (Some (kind c)) None ≡ Some k → (known_kind c ≡ true) × (kind c ≡ k)
    go true is same = (is, search rules)
    go false is same = search rules

pub small_fits : (c : Call) → known_kind c ≡ true → seat c < 16 → position c < 16 → amount c < 18446744073709551616 → fits c ≡ true
small_fits c known s p n = rw (known, lt-ltb (seat c) 16 s, lt-ltb (position c) 16 p, le-leb (amount c) 18446744073709551615 (omega arith))

pub not_load : (c : Call) → fits c ≡ true → (c ≡ Load → ⊥) → eqb (kind c) 17 ≡ false
unfolding known_kind
not_load (Fill n) e other = refl
not_load (Credit n) e other = refl
not_load (Buy at n) e other = refl
not_load (Cash at n) e other = refl
not_load (Stake at n) e other = refl
not_load Deal e other = refl
not_load (Insure at n) e other = refl
not_load (Stand at) e other = refl
not_load (Draw at) e other = refl
not_load (Double at) e other = refl
not_load (Split at) e other = refl
not_load (Surrender at) e other = refl
not_load (Even at) e other = refl
not_load (Five at) e other = refl
not_load Close e other = refl
not_load Void e other = refl
not_load Load e other = absurd (other refl)
not_load (Side at k n) e other = ne_eqb (17 + k) 17 (λ none. side_some k n at e (omega arith))
  where
    side_some : (k n : ℕ) (at : At) → fits (Side at k n) ≡ true → k ≡ 0 → ⊥
    side_some k n at e none = true≢false (sym (rw none at e))

module _ (o : Options) (many : ℕ) (bytes : List ℕ) (e : Entry) where
  pub add_full : 50 ≤ many → unwritten many bytes ≡ added o many bytes e
  unfolding added
  add_full h = simp (le-leb 50 many h)

  pub add_none : many < 50 → writable o e ≡ false → unwritten many bytes ≡ added o many bytes e
  unfolding added
  add_none h w = simp (lt-leb 50 many h, w)

  pub add-load : (first second calls : List ℕ) (m : ℕ) → many < 50 → writable o e ≡ true → is_load e ≡ true → first ≡ block_of (many + 1) (bytes ++ call_bytes e.call) → second ≡ table_block o e.order
      → m ≡ 0 → calls ≡ [] → written (first ∷ second ∷ []) m calls ≡ added o many bytes e
  unfolding added
  add-load first second calls m h w l f s z n = simp (lt-leb 50 many h, w, l, f, s, z, n)

  pub add_last : (first calls : List ℕ) (m : ℕ) → many < 50 → writable o e ≡ true → is_load e ≡ false → many + 1 ≡ 50 → first ≡ block_of (many + 1) (bytes ++ call_bytes e.call) → m ≡ 0 → calls ≡ []
      → written (first ∷ []) m calls ≡ added o many bytes e
  unfolding added
  add_last first calls m h w l last f z n = simp (lt-leb 50 many h, w, l, eq-eqb (many + 1) 50 last, f, z, n)

  pub add_open : (calls : List ℕ) (m : ℕ) → many < 50 → writable o e ≡ true → is_load e ≡ false → (many + 1 ≡ 50 → ⊥) → m ≡ many + 1 → calls ≡ bytes ++ call_bytes e.call
      → written [] m calls ≡ added o many bytes e
  unfolding added
  add_open calls m h w l more z n = simp (lt-leb 50 many h, w, l, ne_eqb (many + 1) 50 more, z, n)

-- the beginning of a session
pub begin-none : (o : Options) (order : List ℕ) (m : ℕ) (calls : List ℕ) → in_range o && valid_order o.decks order ≡ false → m ≡ 0 → calls ≡ [] → unwritten m calls ≡ begun o order
unfolding begun
begin-none o order m calls wrong z n = simp (wrong, z, n)

pub begin_some : (o : Options) (order first : List ℕ) (m : ℕ) (calls : List ℕ) → in_range o && valid_order o.decks order ≡ true → first ≡ table_block o order → m ≡ 0 → calls ≡ []
    → written (first ∷ []) m calls ≡ begun o order
unfolding begun
begin_some o order first m calls right f z n = simp (right, f, z, n)
