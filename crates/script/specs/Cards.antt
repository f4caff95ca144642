-- A card as a script names it: a letter for its rank, A, 2 to 9, T, J, Q or K, and one for its suit, a to d.
use Rattle.std.specs.Prelude.{cond, ◌&&◌, ℕ, ◌+◌, ◌-◌, ◌*◌, leb, eqb}

-- 50 to 57 are the letters 2 to 9; 84 T, 74 J, 81 Q, 75 K. Any other letter is the ace.
unfoldable pub rank_named : ℕ → ℕ
rank_named letter =
    cond (leb 50 letter && leb letter 57) (letter - 49)
    (cond (eqb letter 84) 9
    (cond (eqb letter 74) 10
    (cond (eqb letter 81) 11
    (cond (eqb letter 75) 12 0))))

-- 98 b, 99 c, 100 d. Any other letter is the first suit.
unfoldable pub suit_named : ℕ → ℕ
suit_named letter = cond (eqb letter 98) 1 (cond (eqb letter 99) 2 (cond (eqb letter 100) 3 0))

-- Suit × 13 + rank.
abbrev pub card_named : ℕ → ℕ → ℕ
card_named rank suit = 13 * suit_named suit + rank_named rank
