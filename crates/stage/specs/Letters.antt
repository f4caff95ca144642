-- The calls that the letters of a script stand for.
use Rattle.std.specs.Prelude.{cond, ℕ, eqb}
use Rattle.call.specs.declared.At.{At}
use Rattle.call.specs.declared.Call.{Call}
use Rattle.call.specs.declared.Call.TheVariants.{Fill, Credit, Buy, Cash, Stake, Deal, Insure, Stand, Draw, Double, Split, Surrender, Even, Five, Close, Void, Load, Side}

-- Each letter by its byte. A, B, E and F are side stakes of the kinds 1 to 4, and G is one of no known kind; any other letter is a load.
unfoldable pub call_of : ℕ → At → ℕ → Call
call_of letter at amount =
    cond (eqb letter 102) (Fill amount)  -- f
    (cond (eqb letter 99) (Credit amount)  -- c
    (cond (eqb letter 98) (Buy at amount)  -- b
    (cond (eqb letter 120) (Cash at amount)  -- x
    (cond (eqb letter 115) (Stake at amount)  -- s
    (cond (eqb letter 65) (Side at 1 amount)  -- A
    (cond (eqb letter 66) (Side at 2 amount)  -- B
    (cond (eqb letter 69) (Side at 3 amount)  -- E
    (cond (eqb letter 70) (Side at 4 amount)  -- F
    (cond (eqb letter 71) (Side at 9 amount)  -- G
    (cond (eqb letter 68) Deal  -- D
    (cond (eqb letter 105) (Insure at amount)  -- i
    (cond (eqb letter 110) (Stand at)  -- n
    (cond (eqb letter 100) (Draw at)  -- d
    (cond (eqb letter 50) (Double at)  -- 2
    (cond (eqb letter 112) (Split at)  -- p
    (cond (eqb letter 117) (Surrender at)  -- u
    (cond (eqb letter 101) (Even at)  -- e
    (cond (eqb letter 53) (Five at)  -- 5
    (cond (eqb letter 67) Close  -- C
    (cond (eqb letter 86) Void  -- V
    Load))))))))))))))))))))
