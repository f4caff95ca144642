-- Request 2.13: what the accepted calls, arrivals and leavings alone come to: which card sits where, and its tally, "worked out from the history since that arrival". It sees no table: rounds, stakes,
-- money laid, nets and prizes are those of the history of document 01.
use Rattle.std.specs.Prelude.{Bool, cond, ◌&&◌, List, [], ◌∷◌, ℕ, ◌-◌, ltb, eqb, ℤ, pos, ◌+ℤ◌, length, drop}
use Rattle.lists.specs.Tests.{any_of}
use Rattle.call.specs.declared.At.{At}
use Rattle.options.specs.declared.Options.{Options}
use Rattle.history.specs.Entry.{Entry, is_close}
use Rattle.history.specs.Rounds.{stake_in}
use Rattle.history.specs.Money.{laid_in, nets_in, prizes_in}
use Rattle.host_spec.specs.declared.HostCall.{HostCall}
use Rattle.host_spec.specs.declared.HostCall.TheVariants.{Play, Arrive, Leave}
use Rattle.host_spec.specs.Broken.{most_rounds}

-- A call with the order that is lent beside it.
pub record HostEntry : Type 0 where
  pub call : HostCall
  pub order : List ℕ

-- The calls of the table among them.
unfoldable pub with_play : HostCall → List ℕ → List Entry → List Entry
with_play (Play c) order es = record { call = c; order = order } ∷ es
with_play (Arrive at card) order es = es
with_play (Leave card) order es = es

abbrev pub plays_of : List HostEntry → List Entry
plays_of [] = []
plays_of (h ∷ hs) = with_play h.call h.order (plays_of hs)

abbrev pub is_at : ℕ → ℕ → At → Bool
is_at i p at = eqb at.seat i && eqb at.position p

-- The card that sits in position p of seat i, as a list: none or one.
unfoldable pub seated_after : HostCall → ℕ → ℕ → List ℕ → List ℕ
seated_after (Play c) i p before = before
seated_after (Arrive at card) i p before = cond (is_at i p at) (card ∷ []) before
seated_after (Leave card) i p before = cond (any_of (eqb card) before) [] before

abbrev pub seated_in : List HostEntry → ℕ → ℕ → List ℕ
seated_in [] i p = []
seated_in (h ∷ hs) i p = seated_after h.call i p (seated_in hs i p)

-- A closed round of a guest: what was laid in it, and its nets with its prizes.
pub record ClosedRound : Type 0 where
  pub laid : ℕ
  pub gain : ℤ

module _ (o : Options) (opening : List ℕ) where
  abbrev pub closed_round : List Entry → ℕ → ℕ → ClosedRound
  closed_round es i p = record { laid = laid_in es i p; gain = nets_in o opening es i p +ℤ pos (prizes_in o opening es i p) }

  -- The rounds that closed since the last arrival in that position, in which it staked, newest first; `es` are the calls of the table before this one.
  unfoldable pub rounds_after : HostCall → List ℕ → List Entry → ℕ → ℕ → List ClosedRound → List ClosedRound
  rounds_after (Play c) order es i p before = cond (is_close (record { call = c; order = order }) && ltb 0 (stake_in es i p)) (closed_round es i p ∷ before) before
  rounds_after (Arrive at card) order es i p before = cond (is_at i p at) [] before
  rounds_after (Leave card) order es i p before = before

  abbrev pub rounds_since : List HostEntry → ℕ → ℕ → List ClosedRound
  rounds_since [] i p = []
  rounds_since (h ∷ hs) i p = rounds_after h.call h.order (plays_of hs) i p (rounds_since hs i p)

  -- Those that count: the first 1,000,000.
  abbrev pub counted_rounds : List HostEntry → ℕ → ℕ → List ClosedRound
  counted_rounds hs i p = drop (length (rounds_since hs i p) - most_rounds) (rounds_since hs i p)

-- Their gains added up.
unfoldable pub gains : List ClosedRound → ℤ
gains [] = pos 0
gains (r ∷ rs) = r.gain +ℤ gains rs
