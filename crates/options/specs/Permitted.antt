-- Document 01, "House options, given at opening", the smallest and largest stake and insurance (article 12): the amounts that a guest may lay.
use Rattle.std.specs.Prelude.{Bool, cond, ◌&&◌, ℕ, ◌*◌, leb, eqb}
use Rattle.options.specs.declared.Options.{Options}
use Rattle.options.specs.Ranges.{is_even_number}

-- A stake that the options permit: within them, and even.
unfoldable pub stake_permitted : Options → ℕ → Bool
stake_permitted o S = leb o.smallest S && leb S o.largest && is_even_number S

-- An insurance that the options permit: 1 exactly half the stake, 2 half to whole.
unfoldable pub insurance_permitted : Options → ℕ → ℕ → Bool
insurance_permitted o S I = cond (eqb o.insurance 1) (eqb (2 * I) S) (leb S (2 * I) && leb I S)

-- A side stake (request 2.6): 1 to 100,000.
abbrev pub most_side : ℕ
most_side = 100000

unfoldable pub side_permitted : ℕ → Bool
side_permitted n = leb 1 n && leb n most_side
