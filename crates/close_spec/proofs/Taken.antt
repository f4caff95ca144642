-- How many cards a close takes, and that the shoe has them.
use mathlib.Core.Path.{◌≡◌, refl, ap}
use mathlib.Core.Bool.{Bool, true, false}
use mathlib.Core.List.{List, ◌++◌}
use Prim.Native.Nat.{ℕ, ◌+◌, ◌*◌, ◌≤◌}
use native.Mathlib.Omega.{arith}
use lib.ListN.{length, take, drop, length-append, length-take, length-drop}
use lib.Seq.{length-take-le}
use borrow.Author.Tests.{ltb-true}
use Rattle.options.specs.Device.{is_box, bank_at_deal}
use Rattle.payment.specs.Bank.{must_draw, bank_takes}
use Rattle.table.specs.declared.Table.{Table}
use Rattle.table.specs.Shoe.{burns_first}
use Rattle.table.specs.Table.{bank_cards, is_dealt, table_order, table_shoe}
use Rattle.table.specs.Aids.Sound.{Sound}
use Rattle.table.proofs.Facts.{sound_options}
use Rattle.history.specs.Cards.{Cards, bank_taken, bank_final}
use Rattle.close_spec.specs.BankDraw.{bank_burn, bank_at_close, close_takes}
use Rattle.close_spec.proofs.BankDraw.{known, box_burns_none, bank-same, bank_enough, bank-new}

-- the table's cards as the history has them, and how many of them are the bank's new ones
abbrev pub cards_at : Table → Cards
cards_at t = known t.options (table_order t) (burns_first t.options t.shoe) t.shoe.drawn (bank_cards t)

abbrev taken : Table → ℕ
taken t = bank_taken t.options (cards_at t)

abbrev behind : Table → List ℕ
behind t = drop (bank_burn t.options) (table_shoe t)

-- a dealt round of a sound table whose bank stands once it has drawn
module _ (t : Table) (sound : Sound t) (dealt : is_dealt t ≡ true) (stands : must_draw (bank_at_close t) ≡ false) where
  -- without the box the bank has one card
  one-bank : is_box t.options ≡ false → length (bank_cards t) ≡ 1
  unfolding bank_at_deal
  one-bank other =
      let many = length-take t.bank.count t.bank.cards in
      let some = ltb-true 0 (length (bank_cards t)) dealt in
      let one : bank_at_deal t.options ≡ 1 = rw other in
      omega (arith, some, many, one, sound.bank (omega (arith, some, many)))

  stands-behind : must_draw (bank_takes (bank_cards t) (behind t)) ≡ false
  unfolding bank_at_close
  stands-behind = stands

  -- the bank's cards
  at-close : bank_at_close t ≡ bank_cards t ++ take (taken t) (behind t)
  unfolding bank_at_close
  at-close = bank-new t.options (table_order t) (burns_first t.options t.shoe) t.shoe.drawn (bank_cards t) one-bank stands-behind

  pub final_same : bank_at_close t ≡ bank_final t.options (cards_at t)
  unfolding bank_at_close
  final_same = bank-same t.options (table_order t) (burns_first t.options t.shoe) t.shoe.drawn (bank_cards t) one-bank stands-behind

  enough-left : taken t ≤ length (behind t)
  enough-left = bank_enough t.options (table_order t) (burns_first t.options t.shoe) t.shoe.drawn (bank_cards t) one-bank stands-behind

  all-taken : length (bank_at_close t) ≡ length (bank_cards t) + taken t
  all-taken = omega (arith, ap length at-close, length-append (bank_cards t) (take (taken t) (behind t)), length-take-le (taken t) (behind t) enough-left)

  pub takes : close_takes t ≡ bank_burn t.options + taken t
  unfolding close_takes
  takes = omega (arith, all-taken)

  -- all of the bank's cards but those that it had are taken now
  pub takes_all : (close_takes t + length (bank_cards t) ≡ bank_burn t.options + length (bank_at_close t)) × (length (bank_cards t) ≤ length (bank_at_close t))
  takes_all = omega (arith, takes, all-taken)

  one_more : is_box t.options ≡ false → 1 ≤ taken t
  unfolding bank_taken
  one_more other = rw other (omega arith)

  -- the shoe has them, and the burnt one: where none of them is taken, none is burnt
  pub enough : t.shoe.drawn + close_takes t ≤ 52 * t.options.decks
  enough =
      omega (
        arith,
        takes,
        burn-fits (is_box t.options) refl,
        enough-left,
        length-drop (bank_burn t.options) (table_shoe t),
        length-drop t.shoe.drawn (table_order t),
        length-take (52 * t.options.decks) t.shoe.order,
        sound.drawn,
      )
    where
      burn-fits : (box : Bool) → is_box t.options ≡ box → bank_burn t.options ≤ length (table_shoe t)
      burn-fits true box = omega (arith, box_burns_none t.options (sound_options t sound) box)
      burn-fits false other = omega (arith, one_more other, enough-left, length-drop (bank_burn t.options) (table_shoe t))
