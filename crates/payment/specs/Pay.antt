-- Document 01, "Payment": pay as two numbers, what lay there and what goes back to the purse. The net is their difference.
use Rattle.std.specs.Prelude.{ℕ, ℤ, pos, ◌-ℤ◌}
use Rattle.payment.specs.declared.pay.Pay.{Pay}

abbrev pub pay : ℕ → ℕ → Pay
pay laid back = record { laid = laid; back = back }

-- Net to the seat.
abbrev pub net : Pay → ℤ
net p = pos p.back -ℤ pos p.laid
