-- Close has kind 15, and no other call.
use mathlib.Core.Path.{◌≡◌, refl, sym, ap}
use mathlib.Core.Bool.{false, true≢false}
use Prim.Native.Nat.{◌+◌}
use native.Mathlib.Omega.{arith}
use lib.Dec.{eqb}
use borrow.Author.Tests.{ne_eqb}
use Rattle.call.specs.declared.Call.{Call}
use Rattle.call.specs.declared.Call.TheVariants.{Fill, Credit, Buy, Cash, Stake, Deal, Insure, Stand, Draw, Double, Split, Surrender, Even, Five, Close, Void, Load, Side}
use Rattle.call.specs.Call.{kind}
use Rattle.host.proofs.is_close.Goals as goal

-- a call that is no close is of another kind
not_close : (c : Call) → (c ≡ Close → ⊥) → false ≡ eqb (kind c) 15
not_close (Fill n) _ = refl
not_close (Credit n) _ = refl
not_close (Buy at n) _ = refl
not_close (Cash at n) _ = refl
not_close (Stake at n) _ = refl
not_close Deal _ = refl
not_close (Insure at n) _ = refl
not_close (Stand at) _ = refl
not_close (Draw at) _ = refl
not_close (Double at) _ = refl
not_close (Split at) _ = refl
not_close (Surrender at) _ = refl
not_close (Even at) _ = refl
not_close (Five at) _ = refl
not_close Close never = absurd (never refl)
not_close Void _ = refl
not_close Load _ = refl
not_close (Side at j n) _ = sym (ne_eqb (17 + j) 15 (λ same. omega arith))

pub returns-in-Close : goal.returns-in-Close
returns-in-Close c = let same = c.in-Close.is in record { same = ap (λ (x : Call). eqb (kind x) 15) (sym same); known = λ yes. same }

pub returns-in_default : goal.returns-in_default
returns-in_default c = record { same = not_close c.args.c c.in_default.not-Close; known = λ yes. absurd (true≢false (sym yes)) }
