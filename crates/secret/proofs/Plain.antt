-- Deal, load and close each have an argument of their own; all other calls share one.
use mathlib.Core.Path.{◌≡◌, refl}
use mathlib.Core.Bool.{Bool, true, false}
use Rattle.call.specs.declared.Call.{Call}
use Rattle.call.specs.declared.Call.TheVariants.{Fill, Credit, Buy, Cash, Stake, Deal, Insure, Stand, Draw, Double, Split, Surrender, Even, Five, Close, Void, Load, Side}

abbrev pub is_plain : Call → Bool
is_plain (Fill n) = true
is_plain (Credit n) = true
is_plain (Buy at n) = true
is_plain (Cash at n) = true
is_plain (Stake at n) = true
is_plain Deal = false
is_plain (Insure at n) = true
is_plain (Stand at) = true
is_plain (Draw at) = true
is_plain (Double at) = true
is_plain (Split at) = true
is_plain (Surrender at) = true
is_plain (Even at) = true
is_plain (Five at) = true
is_plain Close = false
is_plain Void = true
is_plain Load = false
is_plain (Side at k n) = true

pub by_call : (P : Call → Type 0) → P Deal → P Load → P Close → ((c : Call) → is_plain c ≡ true → P c) → (c : Call) → P c
by_call P deal load close plain (Fill n) = plain (Fill n) refl
by_call P deal load close plain (Credit n) = plain (Credit n) refl
by_call P deal load close plain (Buy at n) = plain (Buy at n) refl
by_call P deal load close plain (Cash at n) = plain (Cash at n) refl
by_call P deal load close plain (Stake at n) = plain (Stake at n) refl
by_call P deal load close plain Deal = deal
by_call P deal load close plain (Insure at n) = plain (Insure at n) refl
by_call P deal load close plain (Stand at) = plain (Stand at) refl
by_call P deal load close plain (Draw at) = plain (Draw at) refl
by_call P deal load close plain (Double at) = plain (Double at) refl
by_call P deal load close plain (Split at) = plain (Split at) refl
by_call P deal load close plain (Surrender at) = plain (Surrender at) refl
by_call P deal load close plain (Even at) = plain (Even at) refl
by_call P deal load close plain (Five at) = plain (Five at) refl
by_call P deal load close plain Close = close
by_call P deal load close plain Void = plain Void refl
by_call P deal load close plain Load = load
by_call P deal load close plain (Side at k n) = plain (Side at k n) refl
