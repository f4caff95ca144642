-- The effect of a deal from its parts: both passes, the bank's hand and the shoe. Places count from the next card.
use mathlib.Core.Path.{◌≡◌, ◌∙◌, ap, ap₂}
use mathlib.Core.Bool.{true, false}
use Prim.Native.Nat.{ℕ, ◌+◌, ◌*◌}
use native.Mathlib.Omega.{arith}
use lib.ListN.{get_or, take}
use Rattle.cards.specs.declared.hand.Hand.{Hand}
use Rattle.table.specs.declared.Shoe.{Shoe}
use Rattle.table.specs.declared.Table.{Table}
use Rattle.table.specs.Shoe.{with_drawn, discard, with_begun}
use Rattle.table.specs.Table.{make_table, table_shoe}
use Rattle.deal_spec.specs.Pass.{first_card, second_card, pass}
use Rattle.deal_spec.specs.Deal.{staked_seats, burnt, deal_takes, dealt_seats, up_card, hidden_card, dealt_bank, deal_effect}
use Rattle.deal.specs.Aids.Passed.{passed}

-- the table after both passes, with that hand and that shoe
abbrev dealt_to : Table → Hand → Shoe → Table
dealt_to t bank shoe = make_table t.options t.tray t.seats bank shoe

module _ (t : Table) where
  abbrev staked : ℕ
  staked = staked_seats t.seats

  -- the two passes leave all but the seats
  both-passes : (bank : Hand) (shoe : Shoe) → dealt_to (passed false (burnt t + staked + 1) (passed true (burnt t) t)) bank shoe ≡ make_table t.options t.tray (dealt_seats t) bank shoe
  unfolding dealt_seats
  both-passes bank shoe =
      let place : t.shoe.drawn + (burnt t + staked + 1) ≡ t.shoe.drawn + burnt t + staked + 1 = omega arith in
      ap (λ (n : ℕ). make_table t.options t.tray (pass second_card t.shoe.order n (pass first_card t.shoe.order (t.shoe.drawn + burnt t) t.seats)) bank shoe) place

  up_card_lem : get_or t.shoe.order (t.shoe.drawn + (burnt t + staked)) 0 ≡ up_card t
  unfolding up_card
  up_card_lem =
      let place : t.shoe.drawn + (burnt t + staked) ≡ t.shoe.drawn + burnt t + staked = omega arith in
      ap (λ (n : ℕ). get_or t.shoe.order n 0) place

  hidden-card : get_or t.shoe.order (t.shoe.drawn + (burnt t + staked + 1 + staked)) 0 ≡ hidden_card t
  unfolding hidden_card
  hidden-card =
      let place : t.shoe.drawn + (burnt t + staked + 1 + staked) ≡ t.shoe.drawn + burnt t + 2 * staked + 1 = omega arith in
      ap (λ (n : ℕ). get_or t.shoe.order n 0) place

  -- the table from b cards burnt and s staked seats
  abbrev parts : ℕ → ℕ → Table
  parts b s =
      dealt_to (passed false (b + s + 1) (passed true b t))
      (dealt_bank t.options (get_or t.shoe.order (t.shoe.drawn + (b + s)) 0) (get_or t.shoe.order (t.shoe.drawn + (b + s + 1 + s)) 0))
      (with_begun (with_drawn (discard t.shoe (take b (table_shoe t))) (deal_takes t)))

  whole : parts (burnt t) staked ≡ deal_effect t
  unfolding deal_effect
  whole =
      both-passes _ _
      ∙ ap₂ (λ (up hidden : ℕ). make_table t.options t.tray (dealt_seats t) (dealt_bank t.options up hidden) (with_begun (with_drawn (discard t.shoe (take (burnt t) (table_shoe t))) (deal_takes t)))) up_card_lem hidden-card

  pub effect : {b s up hidden : ℕ} {once twice : Table} {bank : Hand} {shoe : Shoe}
      → b ≡ burnt t → s ≡ staked
      → up ≡ get_or t.shoe.order (t.shoe.drawn + (b + s)) 0
      → hidden ≡ get_or t.shoe.order (t.shoe.drawn + (b + s + 1 + s)) 0
      → once ≡ passed true b t → twice ≡ passed false (b + s + 1) once → bank ≡ dealt_bank t.options up hidden
      → shoe ≡ with_drawn (discard t.shoe (take b (table_shoe t))) (deal_takes t)
      → dealt_to twice bank (with_begun shoe) ≡ deal_effect t
  effect {b} {s} {up} {hidden} {once} {twice} {bank} {shoe} b-is s-is up_is hidden-is once_is twice-is bank_is shoe_is =
      ap (λ (u : Table). dealt_to u bank (with_begun shoe)) (twice-is ∙ ap (passed false (b + s + 1)) once_is)
      ∙ ap₂ (λ (h : Hand) (sh : Shoe). dealt_to (passed false (b + s + 1) (passed true b t)) h (with_begun sh)) (bank_is ∙ ap₂ (dealt_bank t.options) up_is hidden-is) shoe_is
      ∙ ap₂ parts b-is s-is
      ∙ whole
