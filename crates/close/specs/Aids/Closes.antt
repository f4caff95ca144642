-- What an accepted close knows of its table and of the bank's hand once it has drawn: its parts ask for this as one record. And what it pays by.
use Rattle.std.specs.Prelude.{◌≡◌, true, false}
use Rattle.cards.specs.declared.hand.Hand.{Hand}
use Rattle.cards.specs.Hand.{cards_of}
use Rattle.payment.specs.Bank.{must_draw}
use Rattle.table.specs.declared.Table.{Table}
use Rattle.table.specs.Table.{is_dealt}
use Rattle.table.specs.Aids.Sound.{Sound}
use Rattle.close_spec.specs.BankDraw.{bank_at_close}
use Rattle.close_spec.specs.Close.{close_score}
use Rattle.close.specs.declared.paying.Payment.{Payment}

pub record Closes (t : Table) (bank : Hand) : Type 0 where
  pub sound : Sound t
  pub dealt : is_dealt t ≡ true
  pub cards : cards_of bank ≡ bank_at_close t
  pub stands : must_draw (bank_at_close t) ≡ false

abbrev pub payment_of : Table → Payment
payment_of t = record { options = t.options; bank = close_score t }
