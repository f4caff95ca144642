-- Request 2.10: where the bank's rule ends in a draw. The rule is the engine's own: what close draws and what payment asks of the bank's cards.
use Rattle.std.specs.Prelude.{cond, List, ℕ, ◌-◌}
use Rattle.cards.specs.Natural.{is_natural}
use Rattle.cards.specs.Total.{total, is_bust}
use Rattle.payment.specs.Bank.{must_draw, bank_takes}

-- 0 natural, 1 to 5 a total of 17 to 21 otherwise, 6 bust; 7 unfinished: the bank must still draw.
unfoldable pub ending_of : List ℕ → ℕ
ending_of bank = cond (must_draw bank) 7 (cond (is_natural bank) 0 (cond (is_bust bank) 6 (total bank - 16)))

-- The bank takes the cards of a draw from its front until its rule ends; what lies behind is part of the draw, and the bank does not take it.
abbrev pub ends_in : List ℕ → List ℕ → ℕ
ends_in bank draw = ending_of (bank_takes bank draw)
