-- Document 01, "The history", rounds: a round starts after the opening or after an accepted close or void, and ends with the next of these two.
use Rattle.std.specs.Prelude.{Bool, true, false, cond, ◌&&◌, ◌||◌, List, [], ◌∷◌, ℕ, ltb}
use Rattle.lists.specs.Below.{sum_below}
use Rattle.history.specs.Entry.{Entry, is_by, is_stake, is_side_of, is_deal, is_insure, is_drawing, is_decision, is_end, amount_of}

-- A round is dealt: after its deal, until it ends.
abbrev pub is_dealt_round : List Entry → Bool
is_dealt_round [] = false
is_dealt_round (e ∷ es) = cond (is_end e) false (cond (is_deal e) true (is_dealt_round es))

-- A decision was accepted in this round; and one that draws a card, which makes surrender late.
abbrev pub decided_in : List Entry → Bool
decided_in [] = false
decided_in (e ∷ es) = cond (is_end e) false (is_decision e || decided_in es)

abbrev pub drew_in : List Entry → Bool
drew_in [] = false
drew_in (e ∷ es) = cond (is_end e) false (is_drawing e || drew_in es)

-- S: what the guest in position p of seat i staked in this round; 0 where there is none.
abbrev pub stake_in : List Entry → ℕ → ℕ → ℕ
stake_in [] i p = 0
stake_in (e ∷ es) i p = cond (is_end e) 0 (cond (is_stake e && is_by i p e) (amount_of e) (stake_in es i p))

-- I: what that guest laid as insurance in this round.
abbrev pub insurance_in : List Entry → ℕ → ℕ → ℕ
insurance_in [] i p = 0
insurance_in (e ∷ es) i p = cond (is_end e) 0 (cond (is_insure e && is_by i p e) (amount_of e) (insurance_in es i p))

-- What that guest laid as a side stake of kind k in this round, and the four by kind (request 2.6).
abbrev pub side_in : List Entry → ℕ → ℕ → ℕ → ℕ
side_in [] i p k = 0
side_in (e ∷ es) i p k = cond (is_end e) 0 (cond (is_side_of k e && is_by i p e) (amount_of e) (side_in es i p k))

abbrev pub sides_in : List Entry → ℕ → ℕ → List ℕ
sides_in es i p = side_in es i p 1 ∷ side_in es i p 2 ∷ side_in es i p 3 ∷ side_in es i p 4 ∷ []

-- How many seats below that number have staked in this round: their seated guests have.
abbrev pub staked_below : List Entry → ℕ → ℕ
staked_below es n = sum_below (λ k. cond (ltb 0 (stake_in es k 0)) 1 0) n
