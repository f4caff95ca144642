-- The words that programs write for calls.
use Rattle.std.specs.Prelude.{List, ℕ, codes}
use Rattle.call.specs.declared.Call.{Call}
use Rattle.call.specs.declared.Call.TheVariants.{Fill, Credit, Buy, Cash, Stake, Deal, Insure, Stand, Draw, Double, Split, Surrender, Even, Five, Close, Void, Load, Side}

-- A side stake of any kind has one name.
abbrev pub name_of : Call → List ℕ
name_of (Fill n) = codes "fill"
name_of (Credit n) = codes "credit"
name_of (Buy at n) = codes "buy"
name_of (Cash at n) = codes "cash"
name_of (Stake at n) = codes "stake"
name_of Deal = codes "deal"
name_of (Insure at n) = codes "insure"
name_of (Stand at) = codes "stand"
name_of (Draw at) = codes "draw"
name_of (Double at) = codes "double"
name_of (Split at) = codes "split"
name_of (Surrender at) = codes "surrender"
name_of (Even at) = codes "even"
name_of (Five at) = codes "five"
name_of Close = codes "close"
name_of Void = codes "void"
name_of Load = codes "load"
name_of (Side at k n) = codes "side"
