-- An accepted close draws all of the bank's cards but those that it had, and what it burns, and the shoe has them.
use mathlib.Core.Path.{◌≡◌, ◌∙◌, ap}
use mathlib.Core.List.{List}
use Prim.Native.Nat.{ℕ, ◌+◌, ◌-◌, ◌≤◌}
use native.Mathlib.Omega.{arith}
use lib.ListN.{length}
use Rattle.cards.specs.declared.hand.Hand.{Hand}
use Rattle.cards.specs.Hand.{cards_of}
use Rattle.table.specs.declared.Table.{Table}
use Rattle.table.specs.Table.{bank_cards}
use Rattle.table.proofs.Facts.{decks_416}
use Rattle.close_spec.specs.BankDraw.{bank_burn, bank_at_close, close_takes}
use Rattle.close_spec.proofs.Taken.{takes_all, enough}
use Rattle.close.specs.Aids.Closes.{Closes}

-- as the code counts them, of the table that it reads
pub all_drawn : (t : Table) (bank : Hand) → Closes t bank → {seen : Table} {n : ℕ} {had held : List ℕ} → seen ≡ t → n ≡ bank_burn seen.options → had ≡ cards_of seen.bank → held ≡ cards_of bank
    → (length had ≤ length held) × (n + (length held - length had) ≡ close_takes t) × (seen.shoe.drawn + close_takes t ≤ 416)
all_drawn t bank closes {had = before} {held = now} same burnt had-is held-is =
    let takes = takes_all t closes.sound closes.dealt closes.stands in
    let many : length now ≡ length (bank_at_close t) = ap length held-is ∙ ap length closes.cards in
    let had : length before ≡ length (bank_cards t) = rw same at (ap length had-is) in (
      omega (arith, takes),
      omega (arith, takes, rw same at burnt),
      omega (arith, ap (λ (x : Table). x.shoe.drawn) same, enough t closes.sound closes.dealt closes.stands, decks_416 t closes.sound),
    )
