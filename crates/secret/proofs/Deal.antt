-- The deal of a box from two orders that are the same before the place of the hidden card, the last that it draws: its passes and the up card read only those places.
use mathlib.Core.Path.{◌≡◌, refl, sym, ◌∙◌, ap, ap₂}
use mathlib.Core.Bool.{Bool, true, false, true≢false, cond}
use mathlib.Core.List.{List, [], ◌∷◌}
use Prim.Native.Nat.{ℕ, suc, ◌+◌, ◌*◌, ◌≤◌, ◌<◌}
use native.Mathlib.Omega.{arith}
use lib.Dec.{ltb}
use lib.ListN.{length, take, drop, get_or, length-take, length-drop}
use Rattle.lists.specs.Sum.{sum_of}
use Rattle.call.specs.declared.Call.TheVariants.{Deal}
use Rattle.cards.specs.declared.hand.Hand.{Hand}
use Rattle.cards.specs.Hand.{cards_of, with_card}
use Rattle.options.specs.declared.Options.{Options}
use Rattle.options.specs.Device.{is_box, bank_at_deal}
use Rattle.table.specs.declared.Seat.{Seat}
use Rattle.table.specs.declared.Table.{Table}
use Rattle.table.specs.Seat.{is_staked}
use Rattle.table.specs.Shoe.{burns_first}
use Rattle.table.specs.Table.{table_shoe}
use Rattle.deal_spec.specs.Burn.{burn_at_deal}
use Rattle.deal_spec.specs.Pass.{first_card, second_card, pass}
use Rattle.deal_spec.specs.Deal.{staked_seats, burnt, deal_takes, dealt_seats, up_card, hidden_card, dealt_bank, deal_effect}
use Rattle.deal_spec.proofs.Pass.{pass-sum}
use Rattle.engine.specs.Step.{number, next}
use Rattle.secret.proofs.Veil.{veil, BanksAlike, Veiled}
use Rattle.secret.proofs.Steps.{accepted-next}

-- a pass reads as many places as there are staked seats
pass_same : (give : Seat → ℕ → Seat) (order other : List ℕ) (n : ℕ) (seats : List Seat)
    → ((k : ℕ) → n ≤ k → k < n + staked_seats seats → get_or other k 0 ≡ get_or order k 0) → pass give other n seats ≡ pass give order n seats
unfolding pass sum_of
pass_same give order other n [] same = refl
pass_same give order other n (s ∷ ss) same = go (is_staked s) same (pass_same give order other (suc n) ss) (pass_same give order other n ss)
  where
    go : (b : Bool) → ((k : ℕ) → n ≤ k → k < n + (cond b 1 0 + staked_seats ss) → get_or other k 0 ≡ get_or order k 0)
        → (((k : ℕ) → suc n ≤ k → k < suc n + staked_seats ss → get_or other k 0 ≡ get_or order k 0) → pass give other (suc n) ss ≡ pass give order (suc n) ss)
        → (((k : ℕ) → n ≤ k → k < n + staked_seats ss → get_or other k 0 ≡ get_or order k 0) → pass give other n ss ≡ pass give order n ss)
        → cond b (give s (get_or other n 0) ∷ pass give other (suc n) ss) (s ∷ pass give other n ss) ≡ cond b (give s (get_or order n 0) ∷ pass give order (suc n) ss) (s ∷ pass give order n ss)
    go true each given idle =
        ap₂ (λ (card : ℕ) (rest : List Seat). give s card ∷ rest) (each n (omega arith) (omega arith)) (given (λ k least most. each k (omega arith) (omega arith)))
    go false each given idle = ap (λ (rest : List Seat). s ∷ rest) (idle (λ k least most. each k least (omega arith)))

-- the bank's two cards
module _ (o : Options) (box : is_box o ≡ true) where
  pub bank-dealt : (up hidden : ℕ) → cards_of (dealt_bank o up hidden) ≡ up ∷ hidden ∷ []
  unfolding dealt_bank with_card
  bank-dealt up hidden = simp box

  banks-alike : (up hidden other : ℕ) → BanksAlike (dealt_bank o up hidden) (dealt_bank o up other)
  banks-alike up hidden other =
      let two = bank-dealt up hidden in
      let others = bank-dealt up other in
      record {
        many = ap length others ∙ sym (ap length two);
        up = ap (λ (cards : List ℕ). get_or cards 0 0) others ∙ sym (ap (λ (cards : List ℕ). get_or cards 0 0) two);
        idle = λ none. absurd (true≢false (sym (ap (λ (cards : List ℕ). ltb 0 (length cards)) two) ∙ none));
      }

-- the shoe after a deal, and how many cards it took
pub deal-order : (t : Table) → (deal_effect t).shoe.order ≡ t.shoe.order
unfolding deal_effect
deal-order t = refl

pub deal-drawn : (t : Table) → (deal_effect t).shoe.drawn ≡ t.shoe.drawn + deal_takes t
unfolding deal_effect
deal-drawn t = refl

pub deal_last : (t : Table) (lent : List ℕ) (p : ℕ) → number t Deal lent ≡ 0 → (next t Deal lent).shoe.drawn ≡ suc p → t.shoe.drawn + deal_takes t ≡ suc p
deal_last t lent p zero hidden = sym (deal-drawn t) ∙ ap (λ x. x.shoe.drawn) (sym (accepted-next t Deal lent zero)) ∙ hidden

pub box_takes : (t : Table) → is_box t.options ≡ true → deal_takes t ≡ burnt t + 2 * staked_seats t.seats + 2
unfolding deal_takes bank_at_deal
box_takes t box = rw box

-- parts of lists that are as long as each other
parts_long : (a b m : ℕ) (xs ys : List ℕ) → length xs ≡ length ys → length (take a (drop b (take m xs))) ≡ length (take a (drop b (take m ys)))
parts_long a b m xs ys e = simp (length-take, length-drop, e)

module _ (t : Table) (bank : Hand) (order discards : List ℕ) (box : is_box t.options ≡ true) (long : length order ≡ length t.shoe.order) where
  abbrev u : Table
  u = veil bank order discards t

  burns_same : burnt u ≡ burnt t
  unfolding burn_at_deal burns_first
  burns_same = refl

  takes_same : deal_takes u ≡ deal_takes t
  unfolding deal_takes
  takes_same = rw burns_same

  burnt-long : length (take (burnt u) (table_shoe u)) ≡ length (take (burnt t) (table_shoe t))
  burnt-long = rw burns_same (parts_long (burnt t) t.shoe.drawn (52 * t.options.decks) order t.shoe.order long)

  module _ (p : ℕ) (hidden : t.shoe.drawn + deal_takes t ≡ suc p) (same : (n : ℕ) → n < p → get_or order n 0 ≡ get_or t.shoe.order n 0) where
    seats-same : dealt_seats u ≡ dealt_seats t
    unfolding dealt_seats
    seats-same =
        let at = t.shoe.drawn + burnt t in
        let staked = staked_seats t.seats in
        let half = pass first_card t.shoe.order at t.seats in
        let stays : staked_seats half ≡ staked = pass-sum first_card t.shoe.order (λ s. cond (is_staked s) 1 0) (λ s card. refl) at t.seats in
        let first : pass first_card order at t.seats ≡ half = pass_same first_card t.shoe.order order at t.seats (λ k least most. same k (omega (arith, hidden, box_takes t box))) in
        let second : pass second_card order (at + staked + 1) half ≡ pass second_card t.shoe.order (at + staked + 1) half =
        pass_same second_card t.shoe.order order (at + staked + 1) half (λ k least most. same k (omega (arith, hidden, box_takes t box, stays))) in
        rw burns_same (ap (pass second_card order (at + staked + 1)) first ∙ second)

    up_same : up_card u ≡ up_card t
    unfolding up_card
    up_same = rw burns_same (same (t.shoe.drawn + burnt t + staked_seats t.seats) (omega (arith, hidden, box_takes t box)))

    pub deal_veiled : Veiled order (deal_effect t) (deal_effect u)
    unfolding deal_effect
    deal_veiled =
        record {
          bank = dealt_bank t.options (up_card t) (hidden_card u);
          discards = (deal_effect u).shoe.discards;
          is = simp (seats-same, up_same, takes_same, burnt-long);
          banks = banks-alike t.options box (up_card t) (hidden_card t) (hidden_card u);
        }
