-- A table agrees with a history (document 01, "The history"): its views are the history's values, for every seat number and position without a bound. The theorem
-- over lists of calls carries this from call to call.
use Rattle.std.specs.Prelude.{◌≡◌, List, ℕ, ◌+◌, ◌<◌, pos, length, get_or}
use Rattle.options.specs.declared.Options.{Options}
use Rattle.table.specs.declared.Seat.{Seat}
use Rattle.table.specs.declared.Table.{Table}
use Rattle.table.specs.Seat.{guest_at, purse, stake, insurance, sides, hands, first_cards, laid, prizes}
use Rattle.table.specs.Shoe.{burns_first}
use Rattle.table.specs.Table.{seat_at, bank_cards, is_dealt, table_order}
use Rattle.table.specs.Progress.{any_drew, any_decided}
use Rattle.table.specs.Money.{all_money}
use Rattle.table.specs.Shape.{Shaped}
use Rattle.table.specs.Aids.Sound.{Sound}
use Rattle.history.specs.Entry.{Entry}
use Rattle.history.specs.Rounds.{is_dealt_round, decided_in, drew_in, stake_in, insurance_in, side_in}
use Rattle.history.specs.Cards.{Cards, cards_of_history}
use Rattle.history.specs.Hands.{hands_in, first_in}
use Rattle.history.specs.Money.{came_in, went_out, laid_in, prizes_in, purse_of}

-- A guest, with the history's guest in position p of seat i.
pub record GuestAgrees (o : Options) (opening : List ℕ) (es : List Entry) (i p : ℕ) (s : Seat) : Type 0 where
  pub stake_is : stake s ≡ stake_in es i p
  pub insurance_is : insurance s ≡ insurance_in es i p
  pub sides_are : (k : ℕ) → k < 4 → get_or (sides s) k 0 ≡ side_in es i p (k + 1)
  pub laid_is : laid s ≡ laid_in es i p
  pub prizes_are : prizes o s ≡ prizes_in o opening es i p
  pub purse_is : pos (purse s) ≡ purse_of o opening es i p

-- A seat, with the history's seat of number i.
pub record SeatAgrees (o : Options) (opening : List ℕ) (es : List Entry) (i : ℕ) (s : Seat) : Type 0 where
  pub hands_are : hands s ≡ hands_in o opening es i
  pub first_is : 0 < length (hands s) → first_cards s ≡ first_in o opening es i
  pub guests : (p : ℕ) → GuestAgrees o opening es i p (guest_at s p)

-- The shoe and the bank, with the history's cards.
pub record CardsAgree (c : Cards) (t : Table) : Type 0 where
  pub order : table_order t ≡ c.order
  pub taken : t.shoe.drawn ≡ c.taken
  pub fresh : burns_first t.options t.shoe ≡ c.fresh
  pub bank : bank_cards t ≡ c.bank

pub record Agrees (opening : List ℕ) (es : List Entry) (t : Table) : Type 0 where
  pub cards : CardsAgree (cards_of_history t.options opening es) t
  pub dealt : is_dealt t ≡ is_dealt_round es
  pub seats : (i : ℕ) → SeatAgrees t.options opening es i (seat_at t i)
  pub drew : any_drew t ≡ drew_in es
  pub decided : any_decided t ≡ decided_in es
  pub balance : all_money t + went_out es ≡ came_in es

-- What the theorem carries from call to call.
pub record Good (opening : List ℕ) (es : List Entry) (t : Table) : Type 0 where
  pub shaped : Shaped t
  pub sound : Sound t
  pub agrees : Agrees opening es t
