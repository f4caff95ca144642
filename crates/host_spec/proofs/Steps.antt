-- One accepted call keeps table, cards and tallies in agreement with what was accepted: a call of the table as the engine's, an arrival and a leaving by the place that they change.
use mathlib.Core.Path.{◌≡◌, refl, sym, ◌∙◌, ap, ap₂, subst}
use mathlib.Core.Bool.{Bool, true, false, cond, not, ◌&&◌, and-eq-true_iff, true≢false}
use mathlib.Core.List.{List, [], ◌∷◌}
use Prim.Native.Nat.{ℕ, zero, suc, ◌+◌, ◌-◌, ◌/◌, ◌%◌, ◌≤◌, ◌<◌}
use native.Mathlib.Decide.{ℕ_discrete}
use native.Mathlib.Omega.{arith}
use lib.Dec.{ltb, eqb}
use lib.ListN.{length, get_or, drop}
use borrow.Author.Tests.{leb-false, eqb-true, eq-eqb, ne_eqb, not-false}
use Rattle.lists.specs.Sum.{sum_of}
use Rattle.lists.specs.Tests.{any_of, all_of}
use Rattle.lists.proofs.Tests.{any_one}
use Rattle.call.specs.declared.At.{At}
use Rattle.call.specs.declared.Call.{Call}
use Rattle.call.specs.declared.Call.TheVariants.{Fill, Credit, Buy, Cash, Stake, Deal, Insure, Stand, Draw, Double, Split, Surrender, Even, Five, Close, Void, Load, Side}
use Rattle.call.specs.Call.{kind}
use Rattle.call.specs.Refusal.{first}
use Rattle.call.proofs.Refusals.{none_hold, accepted_tail}
use Rattle.options.specs.declared.Options.{Options}
use Rattle.table.specs.declared.Table.{Table}
use Rattle.table.proofs.Facts.{sound_options}
use Rattle.history.specs.Rounds.{stake_in}
use Rattle.close_spec.specs.Close.{close_conditions, close_effect}
use Rattle.close_spec.proofs.Close.{close-gains}
use Rattle.agreement.specs.Aids.Agrees.{Good}
use Rattle.engine.specs.Step.{conditions, effect}
use Rattle.books.proofs.Steps.{step_good, step_options}
use Rattle.host_spec.specs.declared.GuestCard.{GuestCard}
use Rattle.host_spec.specs.declared.Hosted.{Hosted}
use Rattle.host_spec.specs.declared.HostCall.{HostCall}
use Rattle.host_spec.specs.declared.HostCall.TheVariants.{Play, Arrive, Leave}
use Rattle.host_spec.specs.Cards.{hosted, arrived, no_card, is_here, holds, place_at, card_at, sits_here, place_of, with_card}
use Rattle.host_spec.specs.Broken.{most_rounds, sound_card, sound_cards}
use Rattle.host_spec.specs.Arrive.{arrive_conditions}
use Rattle.host_spec.specs.Leave.{leave_conditions}
use Rattle.host_spec.specs.Close.{counted_card, counted_from}
use Rattle.host_spec.specs.Step.{host_conditions, host_effect}
use Rattle.host_spec.specs.History.{HostEntry, plays_of, with_play, seated_in, seated_after, is_at, ClosedRound, closed_round, rounds_after, rounds_since, gains}
use Rattle.host_spec.specs.Claim.{card_in, TallyClaim}
use Rattle.host_spec.proofs.Places.{put_there, put_elsewhere, put-length}
use Rattle.host_spec.proofs.Sound.{SoundCards, card_of, put-sound, arrived-sound, left-sound, nowhere, place-within, place-holds}
use Rattle.host_spec.proofs.Counting.{close_tally}
use Rattle.host_spec.proofs.Bounds.{same_here, counted-sound}

-- what the theorem carries from call to call
pub record HostGood (o : Options) (opening : List ℕ) (hs : List HostEntry) (h : Hosted) : Type 0 where
  pub same : h.table.options ≡ o
  pub good : Good opening (plays_of hs) h.table
  pub long : length h.cards ≡ 27
  pub sound : SoundCards o h.cards
  pub tallies : (i p : ℕ) → i < 9 → p < 3 → TallyClaim o opening hs i p (card_at h i p)

abbrev pub entry_of : HostCall → List ℕ → HostEntry
entry_of c order = record { call = c; order = order }

-- the call of kind 15 is close
is_close_lem : (c : Call) → eqb (kind c) 15 ≡ true → c ≡ Close
is_close_lem (Fill n) e = absurd (true≢false (sym e))
is_close_lem (Credit n) e = absurd (true≢false (sym e))
is_close_lem (Buy at n) e = absurd (true≢false (sym e))
is_close_lem (Cash at n) e = absurd (true≢false (sym e))
is_close_lem (Stake at n) e = absurd (true≢false (sym e))
is_close_lem Deal e = absurd (true≢false (sym e))
is_close_lem (Insure at n) e = absurd (true≢false (sym e))
is_close_lem (Stand at) e = absurd (true≢false (sym e))
is_close_lem (Draw at) e = absurd (true≢false (sym e))
is_close_lem (Double at) e = absurd (true≢false (sym e))
is_close_lem (Split at) e = absurd (true≢false (sym e))
is_close_lem (Surrender at) e = absurd (true≢false (sym e))
is_close_lem (Even at) e = absurd (true≢false (sym e))
is_close_lem (Five at) e = absurd (true≢false (sym e))
is_close_lem Close e = refl
is_close_lem Void e = absurd (true≢false (sym e))
is_close_lem Load e = absurd (true≢false (sym e))
is_close_lem (Side at k n) e = absurd (omega (arith, eqb-true (17 + k) 15 e))

-- where neither the card nor its rounds change, the claim stays
same_claim : (o : Options) (opening : List ℕ) (hs later : List HostEntry) (i p : ℕ) (g : GuestCard) → seated_in later i p ≡ seated_in hs i p → rounds_since o opening later i p ≡ rounds_since o opening hs i p
    → TallyClaim o opening hs i p g → TallyClaim o opening later i p g
same_claim o opening hs later i p g seated rounds c =
    record {
      card_is = c.card_is ∙ sym seated;
      rounds_are = λ here. c.rounds_are here ∙ ap (λ (rs : List ClosedRound). length (first_of rs)) (sym rounds);
      wagered_is = λ here. c.wagered_is here ∙ ap (λ (rs : List ClosedRound). sum_of (λ r. r.laid) (first_of rs)) (sym rounds);
      net_is = λ here. c.net_is here ∙ ap (λ (rs : List ClosedRound). gains (first_of rs)) (sym rounds);
    }
  where
    first_of : List ClosedRound → List ClosedRound
    first_of rs = drop (length rs - most_rounds) rs

-- a card that has just arrived
fresh_claim : (o : Options) (opening : List ℕ) (later : List HostEntry) (i p card : ℕ) → seated_in later i p ≡ card ∷ [] → rounds_since o opening later i p ≡ [] → TallyClaim o opening later i p (arrived card)
unfolding sum_of gains
fresh_claim o opening later i p card seated rounds =
    record {
      card_is = sym seated;
      rounds_are = λ here. ap (λ (rs : List ClosedRound). length (drop (length rs - most_rounds) rs)) (sym rounds);
      wagered_is = λ here. ap (λ (rs : List ClosedRound). sum_of (λ r. r.laid) (drop (length rs - most_rounds) rs)) (sym rounds);
      net_is = λ here. ap (λ (rs : List ClosedRound). gains (drop (length rs - most_rounds) rs)) (sym rounds);
    }

-- another position; a position that does not hold a card
not_at : (i p : ℕ) (at : At) → ((at.seat ≡ i) × (at.position ≡ p) → ⊥) → is_at i p at ≡ false
not_at i p at other = go (is_at i p at) refl
  where
    go : (b : Bool) → is_at i p at ≡ b → b ≡ false
    go true e = let (s, q) = (and-eq-true_iff (eqb at.seat i) (eqb at.position p)).0 e in absurd (other (eqb-true at.seat i s, eqb-true at.position p q))
    go false e = refl

not_held : (card : ℕ) (g : GuestCard) → holds card g ≡ false → any_of (eqb card) (card_in g) ≡ false
unfolding any_of
not_held card g none = go (is_here g) refl
  where
    go : (b : Bool) → is_here g ≡ b → any_of (eqb card) (cond b (g.card ∷ []) []) ≡ false
    go true e =
        any_one (eqb card) g.card
        ∙ ne_eqb card g.card (λ same. true≢false (sym (ap₂ ◌&&◌ e (eq-eqb g.card card (sym same))) ∙ none))
    go false e = refl

module _ (o : Options) (opening : List ℕ) (hs : List HostEntry) (h : Hosted) (g : HostGood o opening hs h) where
  -- a call of the table that is no close moves no tally
  play-other : (c : Call) (order : List ℕ) → eqb (kind c) 15 ≡ false → first (conditions h.table c order) ≡ 0
      → HostGood o opening (entry_of (Play c) order ∷ hs) (hosted (effect h.table c order) h.cards)
  unfolding with_play seated_after rounds_after
  play-other c order other e =
      record {
        same = step_options h.table c order ∙ g.same;
        good = step_good opening (plays_of hs) h.table c order g.good e;
        long = g.long;
        sound = g.sound;
        tallies = λ i p hi hp.
            same_claim o opening hs (entry_of (Play c) order ∷ hs) i p (card_at h i p) refl
            (ap (λ (b : Bool). cond (b && ltb 0 (stake_in (plays_of hs) i p)) (closed_round o opening (plays_of hs) i p ∷ rounds_since o opening hs i p) (rounds_since o opening hs i p)) other)
            (g.tallies i p hi hp);
      }

  -- a close counts the round for each card
  counted-at : (t after : Table) (place : ℕ) (cards : List GuestCard) (k : ℕ) → k < length cards → get_or (counted_from t after place cards) k no_card ≡ counted_card t after ((place + k) / 3) ((place + k) % 3) (get_or cards k no_card)
  unfolding counted_from
  counted-at t after place [] k l = absurd (omega arith)
  counted-at t after place (c ∷ cards) zero l = let here : place ≡ place + 0 = omega arith in ap (λ (n : ℕ). counted_card t after (n / 3) (n % 3) c) here
  counted-at t after place (c ∷ cards) (suc k) l =
      let next : suc place + k ≡ place + suc k = omega arith in
      counted-at t after (suc place) cards k (omega arith) ∙ ap (λ (n : ℕ). counted_card t after (n / 3) (n % 3) (get_or cards k no_card)) next

  counted-length : (t after : Table) (place : ℕ) (cards : List GuestCard) → length (counted_from t after place cards) ≡ length cards
  unfolding counted_from
  counted-length t after place [] = refl
  counted-length t after place (c ∷ cards) = ap suc (counted-length t after (suc place) cards)

  play-close : (order : List ℕ) → first (close_conditions h.table) ≡ 0 → HostGood o opening (entry_of (Play Close) order ∷ hs) (hosted (close_effect h.table) (counted_from h.table (close_effect h.table) 0 h.cards))
  unfolding with_play
  play-close order e =
      record {
        same = step_options h.table Close order ∙ g.same;
        good = step_good opening (plays_of hs) h.table Close order g.good e;
        long = counted-length h.table after 0 h.cards ∙ g.long;
        sound = record { each = each; once = once };
        tallies = λ i p hi hp.
            subst (TallyClaim o opening (entry_of (Play Close) order ∷ hs) i p) (sym (there i p hi hp))
            (subst (λ (x : Options). TallyClaim x opening (entry_of (Play Close) order ∷ hs) i p (counted_card h.table after i p (card_at h i p))) g.same
            (close_tally opening hs h.table order g.good e i p (card_at h i p) (subst (λ (x : Options). TallyClaim x opening hs i p (card_at h i p)) (sym g.same) (g.tallies i p hi hp))));
      }
    where
      after : Table
      after = close_effect h.table

      at : (k : ℕ) → k < 27 → card_of (counted_from h.table after 0 h.cards) k ≡ counted_card h.table after (k / 3) (k % 3) (card_of h.cards k)
      at k hk = counted-at h.table after 0 h.cards k (omega (arith, g.long)) ∙ ap (λ (n : ℕ). counted_card h.table after (n / 3) (n % 3) (card_of h.cards k)) (omega arith)

      each : (k : ℕ) → k < 27 → sound_card o k (card_of (counted_from h.table after 0 h.cards) k) ≡ true
      each k hk =
          ap (sound_card o k) (at k hk)
          ∙ subst (λ (x : Options). sound_card x k (counted_card h.table after (k / 3) (k % 3) (card_of h.cards k)) ≡ true) g.same
          (counted-sound h.table g.good.shaped e k (card_of h.cards k) hk (close-gains opening (plays_of hs) h.table (k / 3) (k % 3) g.good e).gained
          (subst (λ (x : Options). sound_card x k (card_of h.cards k) ≡ true) (sym g.same) (g.sound.each k hk)))

      once : (j k : ℕ) → j < 27 → k < 27 → (j ≡ k → ⊥) → is_here (card_of (counted_from h.table after 0 h.cards) j) ≡ true
          → holds (card_of (counted_from h.table after 0 h.cards) j).card (card_of (counted_from h.table after 0 h.cards) k) ≡ false
      once j k hj hk other here =
          let (here-j, card-j) = same_here h.table after (j / 3) (j % 3) (card_of h.cards j) in
          let (here-k, card-k) = same_here h.table after (k / 3) (k % 3) (card_of h.cards k) in
          let sits : is_here (card_of h.cards j) ≡ true = ap (λ (n : ℕ). eqb n 1) (sym (ap (λ (x : GuestCard). x.here) (at j hj) ∙ here-j)) ∙ here in
          (λ m.
          eqb ((ap (λ (x : GuestCard). x.here) (at k hk) ∙ here-k) m) 1
          && eqb ((ap (λ (x : GuestCard). x.card) (at k hk) ∙ card-k) m) ((ap (λ (x : GuestCard). x.card) (at j hj) ∙ card-j) m))
          ∙ g.sound.once j k hj hk other sits

      there : (i p : ℕ) → i < 9 → p < 3 → get_or (counted_from h.table after 0 h.cards) (place_at i p) no_card ≡ counted_card h.table after i p (card_at h i p)
      there i p hi hp =
          counted-at h.table after 0 h.cards (place_at i p) (omega (arith, g.long))
          ∙ ap₂ (λ (a b : ℕ). counted_card h.table after a b (card_at h i p)) (omega arith) (omega arith)

  -- a call of the table
  play-good : (c : Call) (order : List ℕ) → first (host_conditions h (Play c) order) ≡ 0 → HostGood o opening (entry_of (Play c) order ∷ hs) (host_effect h (Play c) order)
  play-good c order e = go (eqb (kind c) 15) refl
    where
      ok : first (conditions h.table c order) ≡ 0
      ok = accepted_tail 1 (not (sound_cards h.table.options h.cards)) (conditions h.table c order) (omega arith) e

      close : (d : Call) → d ≡ Close → first (conditions h.table d order) ≡ 0
          → HostGood o opening (entry_of (Play d) order ∷ hs) (hosted (effect h.table d order) (counted_from h.table (effect h.table d order) 0 h.cards))
      close d same =
          subst (λ (x : Call). first (conditions h.table x order) ≡ 0
          → HostGood o opening (entry_of (Play x) order ∷ hs) (hosted (effect h.table x order) (counted_from h.table (effect h.table x order) 0 h.cards))) (sym same) (play-close order)

      go : (b : Bool) → eqb (kind c) 15 ≡ b
          → HostGood o opening (entry_of (Play c) order ∷ hs) (hosted (effect h.table c order) (cond b (counted_from h.table (effect h.table c order) 0 h.cards) h.cards))
      go true k = close c (is_close_lem c k) ok
      go false k = play-other c order k ok

  -- an arrival: the card there is new, all others stay
  module _ (at : At) (card : ℕ) (order : List ℕ) (e : first (arrive_conditions h at.seat at.position card) ≡ 0) where
    record Arrives : Type 0 where
      seat : at.seat < o.seats
      position : at.position < 3
      new : sits_here h card ≡ false

    arrives : Arrives
    unfolding arrive_conditions all_of
    arrives =
        let (whole, (between, (such-seat, (such-position, (free, (new, (unstaked, _))))))) = none_hold (arrive_conditions h at.seat at.position card) refl e in
        record {
          seat = subst (λ (x : Options). at.seat < x.seats) g.same (leb-false h.table.options.seats at.seat such-seat);
          position = leb-false 3 at.position such-position;
          new = new;
        }

    abbrev place : ℕ
    place = place_at at.seat at.position

    inside : place < 27
    inside = omega (arith, arrives.seat, arrives.position, subst (λ (x : Options). x.seats ≤ 9) g.same (sound_options h.table g.good.sound).seats_most)

    abbrev later : List HostEntry
    later = entry_of (Arrive at card) order ∷ hs

    tally-there : (i p : ℕ) → p < 3 → Dec (place_at i p ≡ place) → TallyClaim o opening hs i p (card_at h i p) → TallyClaim o opening later i p (card_at (with_card h place (arrived card)) i p)
    unfolding seated_after rounds_after
    tally-there i p hp (yes here) claim =
        let is-at : is_at i p at ≡ true = ap₂ ◌&&◌ (eq-eqb at.seat i (omega (arith, here, arrives.position))) (eq-eqb at.position p (omega (arith, here, arrives.position))) in
        subst (TallyClaim o opening later i p) (sym (ap (λ (k : ℕ). get_or (with_card h place (arrived card)).cards k no_card) here ∙ put_there h place (arrived card) g.long inside))
        (fresh_claim o opening later i p card
        (ap (λ (b : Bool). cond b (card ∷ []) (seated_in hs i p)) is-at)
        (ap (λ (b : Bool). cond b [] (rounds_since o opening hs i p)) is-at))
    tally-there i p hp (no other) claim =
        let elsewhere : is_at i p at ≡ false = not_at i p at (λ same. other (ap₂ place_at (sym same.0) (sym same.1))) in
        subst (TallyClaim o opening later i p) (sym (put_elsewhere h place (arrived card) g.long (place_at i p) other))
        (same_claim o opening hs later i p (card_at h i p)
        (ap (λ (b : Bool). cond b (card ∷ []) (seated_in hs i p)) elsewhere)
        (ap (λ (b : Bool). cond b [] (rounds_since o opening hs i p)) elsewhere)
        claim)

    arrive-good : HostGood o opening later (with_card h place (arrived card))
    unfolding with_play
    arrive-good =
        record {
          same = g.same;
          good = g.good;
          long = put-length h place (arrived card) g.long;
          sound =
              put-sound o h place (arrived card) g.long inside g.sound (arrived-sound o place card (omega (arith, arrives.seat, arrives.position)))
              (λ here j hj other. nowhere h card j g.long arrives.new hj);
          tallies = λ i p hi hp. tally-there i p hp (ℕ_discrete (place_at i p) place) (g.tallies i p hi hp);
        }

  -- a leaving: the card's place is free, all others stay
  module _ (card : ℕ) (order : List ℕ) (e : first (leave_conditions h card) ≡ 0) where
    sits : sits_here h card ≡ true
    unfolding leave_conditions all_of
    sits = let (whole, (between, (here, (unstaked, _)))) = none_hold (leave_conditions h card) refl e in not-false (sits_here h card) here

    abbrev left : ℕ
    left = place_of h card

    left_inside : left < 27
    left_inside = place-within h card g.long sits

    left-holds : (is_here (card_of h.cards left) ≡ true) × ((card_of h.cards left).card ≡ card)
    left-holds =
        let (here, same) = (and-eq-true_iff (is_here (card_of h.cards left)) (eqb (card_of h.cards left).card card)).0 (place-holds h card g.long sits) in
        (here, eqb-true (card_of h.cards left).card card same)

    abbrev without : List HostEntry
    without = entry_of (Leave card) order ∷ hs

    tally-left : (i p : ℕ) → i < 9 → p < 3 → Dec (place_at i p ≡ left) → TallyClaim o opening hs i p (card_at h i p) → TallyClaim o opening without i p (card_at (with_card h left no_card) i p)
    unfolding seated_after rounds_after
    tally-left i p hi hp (yes here) claim =
        let was : card_in (card_at h i p) ≡ card ∷ [] =
        ap (λ (k : ℕ). card_in (card_of h.cards k)) here
        ∙ ap₂ (λ (b : Bool) (c : ℕ). cond b (c ∷ []) []) left-holds.0 left-holds.1 in
        let gone : cond (any_of (eqb card) (seated_in hs i p)) [] (seated_in hs i p) ≡ [] =
        ap (λ (cs : List ℕ). cond (any_of (eqb card) cs) [] cs) (sym claim.card_is ∙ was) ∙ ap (λ (b : Bool). cond b [] (card ∷ [])) (any_one (eqb card) card ∙ eq-eqb card card refl) in
        subst (TallyClaim o opening without i p) (sym (ap (λ (k : ℕ). get_or (with_card h left no_card).cards k no_card) here ∙ put_there h left no_card g.long left_inside))
        (record { card_is = sym gone; rounds_are = λ here. absurd (true≢false (sym here)); wagered_is = λ here. absurd (true≢false (sym here)); net_is = λ here. absurd (true≢false (sym here)) })
    tally-left i p hi hp (no other) claim =
        let not-it : holds card (card_at h i p) ≡ false =
        ap (λ (c : ℕ). holds c (card_at h i p)) (sym left-holds.1) ∙ g.sound.once left (place_at i p) left_inside (omega arith) (λ same. other (sym same)) left-holds.0 in
        let stays : cond (any_of (eqb card) (seated_in hs i p)) [] (seated_in hs i p) ≡ seated_in hs i p =
        ap (λ (b : Bool). cond b [] (seated_in hs i p)) (ap (any_of (eqb card)) (sym claim.card_is) ∙ not_held card (card_at h i p) not-it) in
        subst (TallyClaim o opening without i p) (sym (put_elsewhere h left no_card g.long (place_at i p) other))
        (same_claim o opening hs without i p (card_at h i p) stays refl claim)

    leave-good : HostGood o opening without (with_card h left no_card)
    unfolding with_play
    leave-good =
        record {
          same = g.same;
          good = g.good;
          long = put-length h left no_card g.long;
          sound = put-sound o h left no_card g.long left_inside g.sound (left-sound o left) (λ here j hj other. absurd (true≢false (sym here)));
          tallies = λ i p hi hp. tally-left i p hi hp (ℕ_discrete (place_at i p) left) (g.tallies i p hi hp);
        }

  pub host_good : (c : HostCall) (order : List ℕ) → first (host_conditions h c order) ≡ 0 → HostGood o opening (entry_of c order ∷ hs) (host_effect h c order)
  host_good (Play c) order e = play-good c order e
  host_good (Arrive at card) order e = arrive-good at card order e
  host_good (Leave card) order e = leave-good card order e
