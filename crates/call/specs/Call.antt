-- Document 01, "The seventeen calls", and request 2.6: the kind of a call, numbered as the session file numbers them, its seat, its position (request 2.8) and its amount.
use Rattle.std.specs.Prelude.{ℕ, ◌+◌}
use Rattle.call.specs.declared.Call.{Call}
use Rattle.call.specs.declared.Call.TheVariants.{Fill, Credit, Buy, Cash, Stake, Deal, Insure, Stand, Draw, Double, Split, Surrender, Even, Five, Close, Void, Load, Side}

abbrev pub kind : Call → ℕ
kind (Fill n) = 1
kind (Credit n) = 2
kind (Buy at n) = 3
kind (Cash at n) = 4
kind (Stake at n) = 5
kind Deal = 6
kind (Insure at n) = 7
kind (Stand at) = 8
kind (Draw at) = 9
kind (Double at) = 10
kind (Split at) = 11
kind (Surrender at) = 12
kind (Even at) = 13
kind (Five at) = 14
kind Close = 15
kind Void = 16
kind Load = 17
kind (Side at k n) = 17 + k

-- The seat that the call names; 0 where it names none.
abbrev pub seat : Call → ℕ
seat (Fill n) = 0
seat (Credit n) = 0
seat (Buy at n) = at.seat
seat (Cash at n) = at.seat
seat (Stake at n) = at.seat
seat Deal = 0
seat (Insure at n) = at.seat
seat (Stand at) = at.seat
seat (Draw at) = at.seat
seat (Double at) = at.seat
seat (Split at) = at.seat
seat (Surrender at) = at.seat
seat (Even at) = at.seat
seat (Five at) = at.seat
seat Close = 0
seat Void = 0
seat Load = 0
seat (Side at k n) = at.seat

-- The position of the guest that the call names (request 2.8); 0 where it names none.
abbrev pub position : Call → ℕ
position (Fill n) = 0
position (Credit n) = 0
position (Buy at n) = at.position
position (Cash at n) = at.position
position (Stake at n) = at.position
position Deal = 0
position (Insure at n) = at.position
position (Stand at) = at.position
position (Draw at) = at.position
position (Double at) = at.position
position (Split at) = at.position
position (Surrender at) = at.position
position (Even at) = at.position
position (Five at) = at.position
position Close = 0
position Void = 0
position Load = 0
position (Side at k n) = at.position

-- The amount that the call names; 0 where it names none.
abbrev pub amount : Call → ℕ
amount (Fill n) = n
amount (Credit n) = n
amount (Buy at n) = n
amount (Cash at n) = n
amount (Stake at n) = n
amount Deal = 0
amount (Insure at n) = n
amount (Stand at) = 0
amount (Draw at) = 0
amount (Double at) = 0
amount (Split at) = 0
amount (Surrender at) = 0
amount (Even at) = 0
amount (Five at) = 0
amount Close = 0
amount Void = 0
amount Load = 0
amount (Side at k n) = n
