-- The theorem of guest cards, by induction on the list: an accepted call keeps table, cards and tallies in agreement with what was accepted, and a refused one changes nothing.
use mathlib.Core.Path.{◌≡◌, refl, sym, ◌∙◌, ap, ap₂, subst}
use mathlib.Core.Bool.{Bool, true, false, cond, not, ◌||◌, true≢false}
use mathlib.Core.List.{List, [], ◌∷◌}
use Prim.Native.Nat.{ℕ, ◌<◌}
use native.Mathlib.Omega.{arith}
use lib.Dec.{eqb}
use lib.ListN.{get_or, length-replicate, get_or-replicate}
use borrow.Author.Tests.{eqb-true}
use Rattle.options.specs.declared.Options.{Options}
use Rattle.table.specs.declared.Table.{Table}
use Rattle.cashier_spec.specs.Opening.{open_number}
use Rattle.cashier_spec.proofs.Opening.{open_good, accepted_table}
use Rattle.books.specs.Books.{Claim}
use Rattle.books.proofs.Claims.{claim}
use Rattle.host_spec.specs.declared.GuestCard.{GuestCard}
use Rattle.host_spec.specs.declared.Hosted.{Hosted}
use Rattle.host_spec.specs.Cards.{no_card, is_here, place_at}
use Rattle.host_spec.specs.Broken.{sound_card, sound_cards, host_broken}
use Rattle.host_spec.specs.Step.{host_effect, host_number, host_next}
use Rattle.host_spec.specs.History.{HostEntry, plays_of}
use Rattle.host_spec.specs.Claim.{host_run, host_accepted, opened_hosted, TallyClaim, HostBooks}
use Rattle.host_spec.proofs.Sound.{facts_cards, left-sound}
use Rattle.host_spec.proofs.Steps.{HostGood, host_good}

module _ (o : Options) (opening : List ℕ) where
  abbrev known : Hosted → HostEntry → List HostEntry → List HostEntry
  known h e hs = cond (eqb (host_number h e.call e.order) 0) (e ∷ hs) hs

  -- one call, accepted or refused
  next_good : (hs : List HostEntry) (h : Hosted) (e : HostEntry) → HostGood o opening hs h → HostGood o opening (known h e hs) (host_next h e.call e.order)
  unfolding host_next host_number
  next_good hs h e g = go (eqb (host_number h e.call e.order) 0) refl
    where
      go : (b : Bool) → eqb (host_number h e.call e.order) 0 ≡ b → HostGood o opening (cond b (e ∷ hs) hs) (cond b (host_effect h e.call e.order) h)
      go true accept = host_good o opening hs h g e.call e.order (eqb-true (host_number h e.call e.order) 0 accept)
      go false refuse = g

  run_good : (hs : List HostEntry) (h : Hosted) (calls : List HostEntry) → HostGood o opening hs h → HostGood o opening (host_accepted h calls hs) (host_run h calls)
  unfolding host_run host_accepted
  run_good hs h [] g = g
  run_good hs h (e ∷ calls) g = run_good (known h e hs) (host_next h e.call e.order) calls (next_good hs h e g)

  -- a table without a card
  no_cards_lem : (k : ℕ) → k < 27 → get_or (opened_hosted o opening).cards k no_card ≡ no_card
  no_cards_lem k h = get_or-replicate 27 k no_card no_card h

  nobody : (i p : ℕ) → TallyClaim o opening [] i p no_card
  nobody i p =
      record {
        card_is = refl;
        rounds_are = λ here. absurd (true≢false (sym here));
        wagered_is = λ here. absurd (true≢false (sym here));
        net_is = λ here. absurd (true≢false (sym here));
      }

  pub opened_good : open_number o opening ≡ 0 → HostGood o opening [] (opened_hosted o opening)
  opened_good e =
      record {
        same = ap (λ (t : Table). t.options) (accepted_table o opening e);
        good = open_good o opening e;
        long = length-replicate {A = GuestCard} 27 no_card;
        sound =
            record {
              each = λ k h. ap (sound_card o k) (no_cards_lem k h) ∙ left-sound o k;
              once = λ j k hj hk other here. absurd (true≢false (sym (sym (ap is_here (no_cards_lem j hj)) ∙ here)));
            };
        tallies = λ i p hi hp. subst (TallyClaim o opening [] i p) (sym (no_cards_lem (place_at i p) (omega arith))) (nobody i p);
      }

pub host_books : (o : Options) (opening : List ℕ) (calls : List HostEntry) → open_number o opening ≡ 0 → HostBooks o opening calls
unfolding host_broken
host_books o opening calls e =
    let h = host_run (opened_hosted o opening) calls in
    let hs = host_accepted (opened_hosted o opening) calls [] in
    let g = run_good o opening [] (opened_hosted o opening) calls (opened_good o opening e) in
    let c : Claim o opening (plays_of hs) h.table = subst (λ (x : Options). Claim x opening (plays_of hs) h.table) g.same (claim opening (plays_of hs) h.table g.good) in
    let cards : sound_cards h.table.options h.cards ≡ true = subst (λ (x : Options). sound_cards x h.cards ≡ true) (sym g.same) (facts_cards o h.cards g.sound) in
    record { books = c; tallies = g.tallies; sound = ap₂ (λ (a b : Bool). a || not b) c.sound cards }
