-- Request 2.7: the device that the cards are dealt from, and what it changes for the bank.
use Rattle.std.specs.Prelude.{Bool, cond, ℕ, eqb}
use Rattle.options.specs.declared.Options.{Options}

-- 1 shoe, 2 box, 3 machine.
abbrev pub shoe_device : ℕ
shoe_device = 1

abbrev pub box_device : ℕ
box_device = 2

abbrev pub machine_device : ℕ
machine_device = 3

abbrev pub is_shoe : Options → Bool
is_shoe o = eqb o.device shoe_device

abbrev pub is_box : Options → Bool
is_box o = eqb o.device box_device

abbrev pub is_machine : Options → Bool
is_machine o = eqb o.device machine_device

-- How many cards the bank has from the deal on: the up card, and with the box a second one, face down.
unfoldable pub bank_at_deal : Options → ℕ
bank_at_deal o = cond (is_box o) 2 1
