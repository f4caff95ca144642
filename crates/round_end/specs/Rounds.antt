-- Request 2.14: "the accepted calls of a dealt round, from its deal to its close or, while it is open, the list's end, and without a void", and "the cards drawn in it", worked out from the history
-- alone, arrivals and leavings (request 2.13) among the calls.
use Rattle.std.specs.Prelude.{cond, List, [], ◌∷◌, ℕ, ◌+◌}
use Rattle.options.specs.declared.Options.{Options}
use Rattle.history.specs.Entry.{Entry, is_deal, is_close, is_end}
use Rattle.history.specs.Rounds.{is_dealt_round, staked_below}
use Rattle.history.specs.Cards.{call_takes, cards_of_history}
use Rattle.host_spec.specs.declared.HostCall.{HostCall}
use Rattle.host_spec.specs.declared.HostCall.TheVariants.{Play, Arrive, Leave}
use Rattle.host_spec.specs.History.{HostEntry, plays_of}

-- What is counted of a round: its accepted calls from the deal on, and the cards drawn in it.
pub record RoundCount : Type 0 where
  pub calls : ℕ
  pub cards : ℕ

abbrev pub count : ℕ → ℕ → RoundCount
count calls cards = record { calls = calls; cards = cards }

abbrev pub nothing : RoundCount
nothing = count 0 0

abbrev pub with_call : RoundCount → ℕ → RoundCount
with_call r cards = count (r.calls + 1) (r.cards + cards)

module _ (o : Options) (opening : List ℕ) where
  -- How many cards a call takes after these.
  abbrev pub takes_after : List Entry → Entry → ℕ
  takes_after es e = call_takes o (staked_below es o.seats) (cards_of_history o opening es) e

  -- The open round after a call of the table, `es` being those before it: a deal begins it, a close or a void ends it, and before the deal nothing is counted.
  unfoldable pub open_after : List Entry → Entry → RoundCount → RoundCount
  open_after es e r =
      cond (is_end e) nothing
      (cond (is_deal e) (count 1 (takes_after es e))
      (cond (is_dealt_round es) (with_call r (takes_after es e))
      nothing))

  -- The same after any call of a hosted table.
  unfoldable pub open_by : HostCall → List ℕ → List Entry → RoundCount → RoundCount
  open_by (Play c) order es r = open_after es (record { call = c; order = order }) r
  open_by (Arrive at card) order es r = cond (is_dealt_round es) (with_call r 0) nothing
  open_by (Leave card) order es r = cond (is_dealt_round es) (with_call r 0) nothing

  abbrev pub open_round : List HostEntry → RoundCount
  open_round [] = nothing
  open_round (h ∷ hs) = open_by h.call h.order (plays_of hs) (open_round hs)

  -- The closed rounds, the close among their calls; a voided round is none.
  unfoldable pub closed_by : HostCall → List ℕ → List Entry → RoundCount → List RoundCount → List RoundCount
  closed_by (Play c) order es r closed =
      let e : Entry = record { call = c; order = order } in
      cond (is_close e) (with_call r (takes_after es e) ∷ closed) closed
  closed_by (Arrive at card) order es r closed = closed
  closed_by (Leave card) order es r closed = closed

  abbrev pub closed_rounds : List HostEntry → List RoundCount
  closed_rounds [] = []
  closed_rounds (h ∷ hs) = closed_by h.call h.order (plays_of hs) (open_round hs) (closed_rounds hs)

  -- All rounds of a list: the open one, where a round is dealt, and every closed one.
  abbrev pub rounds_of : List HostEntry → List RoundCount
  rounds_of hs = cond (is_dealt_round (plays_of hs)) (open_round hs ∷ closed_rounds hs) (closed_rounds hs)
