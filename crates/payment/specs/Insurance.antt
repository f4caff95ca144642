-- Document 01, "Payment", article 12: insurance I: +2I on a bank natural, else −I.
use Rattle.std.specs.Prelude.{cond, ℕ, ◌*◌}
use Rattle.payment.specs.declared.bank.Score.{Score}
use Rattle.payment.specs.declared.pay.Pay.{Pay}
use Rattle.payment.specs.Pay.{pay}

-- I lay there; three times I goes back on a bank natural, else nothing.
unfoldable pub insurance_pay : Score → ℕ → Pay
insurance_pay bank I = pay I (cond bank.natural (3 * I) 0)
