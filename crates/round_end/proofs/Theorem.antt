-- Every round of every list is within the bound: by induction on the list, beside the agreement of table and history.
use mathlib.Core.Path.{◌≡◌, refl, sym, ◌∙◌, ap}
use mathlib.Core.Bool.{Bool, true, false, cond, not, ◌&&◌, true≢false}
use mathlib.Core.List.{List, [], ◌∷◌}
use Prim.Native.Nat.{ℕ, ◌+◌}
use native.Mathlib.Omega.{arith}
use lib.Dec.{eqb}
use borrow.Author.Tests.{eqb-true, le-leb, ne_eqb}
use Rattle.lists.specs.Tests.{all_of}
use Rattle.call.specs.declared.Call.{Call}
use Rattle.call.specs.declared.Call.TheVariants.{Fill, Credit, Buy, Cash, Stake, Deal, Insure, Stand, Draw, Double, Split, Surrender, Even, Five, Close, Void, Load, Side}
use Rattle.call.specs.Refusal.{first}
use Rattle.call.proofs.Refusals.{none_hold, accepted_tail}
use Rattle.options.specs.declared.Options.{Options}
use Rattle.table.specs.Table.{is_dealt}
use Rattle.history.specs.Rounds.{is_dealt_round}
use Rattle.cashier_spec.proofs.Fill.{fill-accepted}
use Rattle.cashier_spec.proofs.Credit.{credit-accepted}
use Rattle.cashier_spec.proofs.Buy.{buy-accepted}
use Rattle.cashier_spec.proofs.Cash.{cash-accepted}
use Rattle.cashier_spec.proofs.Stake.{stake-accepted}
use Rattle.cashier_spec.proofs.Side.{side-accepted}
use Rattle.cashier_spec.proofs.Load.{load-accepted}
use Rattle.engine.specs.Step.{conditions}
use Rattle.host_spec.specs.declared.Hosted.{Hosted}
use Rattle.host_spec.specs.declared.HostCall.{HostCall}
use Rattle.host_spec.specs.declared.HostCall.TheVariants.{Play, Arrive, Leave}
use Rattle.host_spec.specs.Broken.{sound_cards}
use Rattle.host_spec.specs.Arrive.{arrive_conditions}
use Rattle.host_spec.specs.Leave.{leave_conditions}
use Rattle.host_spec.specs.Step.{host_conditions, host_effect, host_number, host_next}
use Rattle.host_spec.specs.History.{HostEntry, plays_of, with_play}
use Rattle.host_spec.specs.Claim.{host_accepted, opened_hosted}
use Rattle.host_spec.proofs.Steps.{HostGood, entry_of, host_good}
use Rattle.host_spec.proofs.Theorem.{opened_good}
use Rattle.round_end.specs.Rounds.{open_round, closed_by, closed_rounds, rounds_of}
use Rattle.round_end.specs.Bound.{ends, RoundsEnd}
use Rattle.round_end.proofs.Steps.{Bounded, quiet, stand-step, even_step, five-step, draw-step, double-step, split_step, insure-step, surrender-step, deal-step, close-step, void-step}

module _ (o : Options) (opening : List ℕ) (hs : List HostEntry) (h : Hosted) (g : HostGood o opening hs h) (b : Bounded o opening hs) where
  -- no round is dealt
  between : is_dealt h.table ≡ false → is_dealt_round (plays_of hs) ≡ false
  between none = sym g.good.agrees.dealt ∙ none

  play-bounded : (c : Call) (order : List ℕ) → first (conditions h.table c order) ≡ 0 → Bounded o opening (entry_of (Play c) order ∷ hs)
  play-bounded (Fill n) order e = quiet o opening hs b (Fill n) order refl refl (between (fill-accepted h.table n e).between)
  play-bounded (Credit n) order e = quiet o opening hs b (Credit n) order refl refl (between (credit-accepted h.table n e).between)
  play-bounded (Buy at n) order e = quiet o opening hs b (Buy at n) order refl refl (between (buy-accepted h.table at.seat at.position n e).guest.between)
  play-bounded (Cash at n) order e = quiet o opening hs b (Cash at n) order refl refl (between (cash-accepted h.table at.seat at.position n e).guest.between)
  play-bounded (Stake at n) order e = quiet o opening hs b (Stake at n) order refl refl (between (stake-accepted h.table at.seat at.position n e).guest.between)
  play-bounded Deal order e = deal-step o opening hs b h.table g.same g.good order e
  play-bounded (Insure at n) order e = insure-step o opening hs b h.table g.same g.good at n order e
  play-bounded (Stand at) order e = stand-step o opening hs b h.table g.same g.good at order e
  play-bounded (Draw at) order e = draw-step o opening hs b h.table g.same g.good at order e
  play-bounded (Double at) order e = double-step o opening hs b h.table g.same g.good at order e
  play-bounded (Split at) order e = split_step o opening hs b h.table g.same g.good at order e
  play-bounded (Surrender at) order e = surrender-step o opening hs b h.table g.same g.good at order e
  play-bounded (Even at) order e = even_step o opening hs b h.table g.same g.good at order e
  play-bounded (Five at) order e = five-step o opening hs b h.table g.same g.good at order e
  play-bounded Close order e = close-step o opening hs b h.table g.same g.good order e
  play-bounded Void order e = void-step o opening hs b h.table g.same g.good order
  play-bounded Load order e = quiet o opening hs b Load order refl refl (between (load-accepted h.table order e).between)
  play-bounded (Side at k n) order e =
      let a = side-accepted h.table at.seat at.position k n e in
      quiet o opening hs b (Side at k n) order
      (simp (ne_eqb (17 + k) 15 (λ z. omega arith), ne_eqb (17 + k) 16 (λ z. omega arith)))
      (ne_eqb (17 + k) 6 (λ z. omega arith))
      (between a.guest.between)

  -- an arrival and a leaving are refused in a dealt round
  idle : (c : HostCall) (order : List ℕ) → plays_of (entry_of c order ∷ hs) ≡ plays_of hs → closed_rounds o opening (entry_of c order ∷ hs) ≡ closed_rounds o opening hs → is_dealt h.table ≡ false
      → Bounded o opening (entry_of c order ∷ hs)
  idle c order same closed none =
      record {
        room = λ d. absurd (true≢false (sym d ∙ ap is_dealt_round same ∙ between none));
        closed = ap (all_of ends) closed ∙ b.closed;
      }

  host-bounded : (c : HostCall) (order : List ℕ) → first (host_conditions h c order) ≡ 0 → Bounded o opening (entry_of c order ∷ hs)
  unfolding with_play closed_by arrive_conditions leave_conditions all_of
  host-bounded (Play c) order e = play-bounded c order (accepted_tail 1 (not (sound_cards h.table.options h.cards)) (conditions h.table c order) (omega arith) e)
  host-bounded (Arrive at card) order e =
      let (whole, (none, _)) = none_hold (arrive_conditions h at.seat at.position card) refl e in
      idle (Arrive at card) order refl refl none
  host-bounded (Leave card) order e =
      let (whole, (none, _)) = none_hold (leave_conditions h card) refl e in
      idle (Leave card) order refl refl none

module _ (o : Options) (opening : List ℕ) where
  run-bounded : (hs : List HostEntry) (h : Hosted) (calls : List HostEntry) → HostGood o opening hs h → Bounded o opening hs → Bounded o opening (host_accepted h calls hs)
  unfolding host_accepted host_next host_number
  run-bounded hs h [] g b = b
  run-bounded hs h (e ∷ calls) g b = go (eqb (host_number h e.call e.order) 0) refl (run-bounded (e ∷ hs) (host_effect h e.call e.order) calls) (run-bounded hs h calls)
    where
      go : (x : Bool) → eqb (host_number h e.call e.order) 0 ≡ x
          → (HostGood o opening (e ∷ hs) (host_effect h e.call e.order) → Bounded o opening (e ∷ hs) → Bounded o opening (host_accepted (host_effect h e.call e.order) calls (e ∷ hs)))
          → (HostGood o opening hs h → Bounded o opening hs → Bounded o opening (host_accepted h calls hs))
          → Bounded o opening (host_accepted (cond x (host_effect h e.call e.order) h) calls (cond x (e ∷ hs) hs))
      go true accept taken refused =
          let ok = eqb-true (host_number h e.call e.order) 0 accept in
          taken (host_good o opening hs h g e.call e.order ok) (host-bounded o opening hs h g b e.call e.order ok)
      go false refuse taken refused = refused g b

  none_yet : Bounded o opening []
  unfolding all_of
  none_yet = record { room = λ d. absurd (true≢false (sym d)); closed = refl }

-- all rounds of the list
within : (o : Options) (opening : List ℕ) (hs : List HostEntry) → Bounded o opening hs → all_of ends (rounds_of o opening hs) ≡ true
unfolding all_of
within o opening hs b = go (is_dealt_round (plays_of hs)) refl
  where
    go : (x : Bool) → is_dealt_round (plays_of hs) ≡ x → all_of ends (cond x (open_round o opening hs ∷ closed_rounds o opening hs) (closed_rounds o opening hs)) ≡ true
    go true d = ap (λ (y : Bool). y && all_of ends (closed_rounds o opening hs)) (le-leb (open_round o opening hs).calls ((open_round o opening hs).cards + 18) (omega (arith, b.room d))) ∙ b.closed
    go false d = b.closed

pub rounds_end : RoundsEnd
rounds_end o opening calls opens =
    within o opening (host_accepted (opened_hosted o opening) calls []) (run-bounded o opening [] (opened_hosted o opening) calls (opened_good o opening opens) (none_yet o opening))
