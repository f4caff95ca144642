-- Tables that differ in cards that nobody sees: another order, other discards, and another bank with the same number of cards and the same up card.
use mathlib.Core.Path.{◌≡◌, refl}
use mathlib.Core.Bool.{false}
use mathlib.Core.List.{List}
use Prim.Native.Nat.{ℕ}
use lib.Dec.{ltb}
use lib.ListN.{length, get_or}
use Rattle.cards.specs.declared.hand.Hand.{Hand}
use Rattle.cards.specs.Hand.{cards_of}
use Rattle.table.specs.declared.Table.{Table}
use Rattle.table.specs.Shoe.{make_shoe}
use Rattle.table.specs.Table.{make_table}

-- The table with these cards in the place of its own.
abbrev pub veil : Hand → List ℕ → List ℕ → Table → Table
veil bank order discards t =
    make_table t.options t.tray t.seats bank (make_shoe order t.shoe.drawn discards t.shoe.discarded t.shoe.begun)

-- Two banks that look alike; while no round is dealt they are one.
pub record BanksAlike (bank other : Hand) : Type 0 where
  pub many : length (cards_of other) ≡ length (cards_of bank)
  pub up : get_or (cards_of other) 0 0 ≡ get_or (cards_of bank) 0 0
  pub idle : ltb 0 (length (cards_of bank)) ≡ false → other ≡ bank

pub same-bank : (bank : Hand) → BanksAlike bank bank
same-bank bank = record { many = refl; up = refl; idle = λ none. refl }

-- The other table is the first with this order, and with discards and a bank that may differ.
pub record Veiled (order : List ℕ) (t other : Table) : Type 0 where
  pub bank : Hand
  pub discards : List ℕ
  pub is : other ≡ veil bank order discards t
  pub banks : BanksAlike t.bank bank
