-- What an accepted decision says of close: a hand waits, so that close gives 7. And what close says of a dealt table.
use mathlib.Core.Path.{◌≡◌, refl}
use mathlib.Core.Bool.{Bool, true, false, cond, or-true}
use mathlib.Core.List.{List, [], ◌∷◌, map}
use Prim.Native.Nat.{ℕ, zero, suc}
use lib.Dec.{eqb}
use lib.ListN.{get_or}
use Rattle.lists.specs.Tests.{any_of, all_of}
use Rattle.call.specs.declared.At.{At}
use Rattle.call.specs.declared.Call.{Call}
use Rattle.call.specs.declared.Call.TheVariants.{Stand, Draw, Double, Split, Even, Five, Close}
use Rattle.call.specs.Refusal.{first}
use Rattle.options.specs.declared.Options.{Options}
use Rattle.rules.specs.Turn.{seat_waits}
use Rattle.table.specs.declared.Table.{Table}
use Rattle.table.specs.declared.Seat.{Seat}
use Rattle.table.specs.Seat.{missing_seat, hands}
use Rattle.table.specs.Table.{is_dealt, up}
use Rattle.table.specs.Broken.{broken}
use Rattle.answer.specs.Reply.{reply_by}
use Rattle.answer.specs.Conditions.{seat_conditions, guest_conditions}
use Rattle.close_spec.specs.BankDraw.{bank_at_close}
use Rattle.close_spec.specs.Close.{close_conditions}
use Rattle.payment.specs.Bank.{must_draw}
use Rattle.decisions_spec.specs.Turn.{turn_conditions}
use Rattle.decisions_spec.specs.Draw.{draw_conditions}
use Rattle.decisions_spec.specs.Double.{double_conditions}
use Rattle.decisions_spec.specs.Split.{split_conditions}
use Rattle.decisions_spec.specs.Even.{even_conditions}
use Rattle.decisions_spec.specs.Five.{five_conditions}
use Rattle.decisions_spec.proofs.Turn.{TurnAccepted, turn-accepted}
use Rattle.state.specs.Turn.{any_waits}
use Rattle.engine.specs.Step.{step, number}
use Rattle.ways.specs.Decisions.{decision}
use Rattle.ways.specs.Laws.{CloseSays, CloseTells}

-- a waiting hand in one seat waits on the table
seat_some : (o : Options) (card : ℕ) (seats : List Seat) (j : ℕ) → seat_waits o card (hands (get_or seats j missing_seat)) ≡ true → any_of (seat_waits o card) (map hands seats) ≡ true
unfolding any_of
seat_some o card [] j e = e
seat_some o card (s ∷ ss) zero e = simp e
seat_some o card (s ∷ ss) (suc j) e = simp (seat_some o card ss j e, or-true)

close-waits : (t : Table) → broken t ≡ false → is_dealt t ≡ true → any_waits t ≡ true → number t Close [] ≡ 7
unfolding number step reply_by close_conditions first
close-waits t whole dealt some = simp (whole, dealt, some)

turn_seven : (t : Table) (j : ℕ) → TurnAccepted t j → number t Close [] ≡ 7
turn_seven t j a = close-waits t a.acting.unbroken a.acting.dealt (seat_some t.options (up t) t.seats j a.waits)

-- each of the six
Seven : Table → Call → Type 0
Seven t c = number t c [] ≡ 0 → number t Close [] ≡ 7

module _ (t : Table) (at : At) where
  stand-seven : Seven t (Stand at)
  unfolding Seven number step reply_by turn_conditions guest_conditions seat_conditions all_of
  stand-seven e = turn_seven t at.seat (turn-accepted t at.seat at.position [] refl e).0

  draw-seven : Seven t (Draw at)
  unfolding Seven number step reply_by draw_conditions all_of
  draw-seven e = turn_seven t at.seat (turn-accepted t at.seat at.position _ refl e).0

  double-seven : Seven t (Double at)
  unfolding Seven number step reply_by double_conditions all_of
  double-seven e = turn_seven t at.seat (turn-accepted t at.seat at.position _ refl e).0

  split-seven : Seven t (Split at)
  unfolding Seven number step reply_by split_conditions all_of
  split-seven e = turn_seven t at.seat (turn-accepted t at.seat at.position _ refl e).0

  even-seven : Seven t (Even at)
  unfolding Seven number step reply_by even_conditions all_of
  even-seven e = turn_seven t at.seat (turn-accepted t at.seat at.position _ refl e).0

  five-seven : Seven t (Five at)
  unfolding Seven number step reply_by five_conditions all_of
  five-seven e = turn_seven t at.seat (turn-accepted t at.seat at.position _ refl e).0

  pick-seven : (a b c d e : Bool) → Seven t (cond a (Stand at) (cond b (Draw at) (cond c (Double at) (cond d (Split at) (cond e (Even at) (Five at))))))
  pick-seven true b c d e = stand-seven
  pick-seven false true c d e = draw-seven
  pick-seven false false true d e = double-seven
  pick-seven false false false true e = split-seven
  pick-seven false false false false true = even-seven
  pick-seven false false false false false = five-seven

  -- an accepted decision was taken on a table on which a hand waits
  pub decision_seven : (kind : ℕ) → number t (decision at kind) [] ≡ 0 → number t Close [] ≡ 7
  unfolding decision Seven
  decision_seven kind = pick-seven (eqb kind 8) (eqb kind 9) (eqb kind 10) (eqb kind 11) (eqb kind 13)

-- what close says of a dealt table
pub close_tells : (t : Table) → CloseTells t
unfolding number step reply_by close_conditions first
close_tells t whole dealt = go (any_waits t) (must_draw (bank_at_close t)) refl refl
  where
    go : (a b : Bool) → any_waits t ≡ a → must_draw (bank_at_close t) ≡ b → CloseSays t
    go true b waits draws = record { seven = simp (whole, dealt, waits); none = simp (whole, dealt, waits) }
    go false true waits draws = record { seven = simp (whole, dealt, waits, draws); none = simp (whole, dealt, waits, draws) }
    go false false waits draws = record { seven = simp (whole, dealt, waits, draws); none = simp (whole, dealt, waits, draws) }
