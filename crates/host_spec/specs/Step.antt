-- Request 2.13: one step of a hosted table. A call of the table is the engine's step; arrivals and leavings "change only guest cards and tallies".
use Rattle.std.specs.Prelude.{cond, not, List, ◌∷◌, ℕ, eqb}
use Rattle.call.specs.declared.Call.{Call}
use Rattle.call.specs.Call.{kind}
use Rattle.call.specs.Refusal.{Condition, first}
use Rattle.call.specs.Answer.{Shown, empty_shown}
use Rattle.table.specs.declared.Table.{Table}
use Rattle.engine.specs.Step.{conditions, effect, shown}
use Rattle.host_spec.specs.declared.GuestCard.{GuestCard}
use Rattle.host_spec.specs.declared.Hosted.{Hosted}
use Rattle.host_spec.specs.declared.HostCall.{HostCall}
use Rattle.host_spec.specs.declared.HostCall.TheVariants.{Play, Arrive, Leave}
use Rattle.host_spec.specs.Cards.{hosted}
use Rattle.host_spec.specs.Broken.{sound_cards}
use Rattle.host_spec.specs.Arrive.{arrive_conditions, arrive_effect}
use Rattle.host_spec.specs.Leave.{leave_conditions, leave_effect}
use Rattle.host_spec.specs.Close.{counted_from}

-- A call's conditions: damaged cards are 1 for every call.
abbrev pub host_conditions : Hosted → HostCall → List ℕ → List Condition
host_conditions h (Play c) order = (1, not (sound_cards h.table.options h.cards)) ∷ conditions h.table c order
host_conditions h (Arrive at card) order = arrive_conditions h at.seat at.position card
host_conditions h (Leave card) order = leave_conditions h card

-- The cards after an accepted call of the table: a close, the call of kind 15, counts the round.
abbrev pub cards_after : Table → Call → Table → List GuestCard → List GuestCard
cards_after t c after cards = cond (eqb (kind c) 15) (counted_from t after 0 cards) cards

-- What an accepted call does.
abbrev pub host_effect : Hosted → HostCall → List ℕ → Hosted
host_effect h (Play c) order = hosted (effect h.table c order) (cards_after h.table c (effect h.table c order) h.cards)
host_effect h (Arrive at card) order = arrive_effect h at.seat at.position card
host_effect h (Leave card) order = leave_effect h card

-- What an accepted call shows: an arrival and a leaving nothing.
abbrev pub host_shown : Hosted → HostCall → List ℕ → Shown
host_shown h (Play c) order = shown h.table c (effect h.table c order)
host_shown h (Arrive at card) order = empty_shown
host_shown h (Leave card) order = empty_shown

-- Its number, and what the next call gets: a refused call changes nothing.
unfoldable pub host_number : Hosted → HostCall → List ℕ → ℕ
host_number h c order = first (host_conditions h c order)

unfoldable pub host_next : Hosted → HostCall → List ℕ → Hosted
host_next h c order = cond (eqb (host_number h c order) 0) (host_effect h c order) h
