-- Request 2.13: the claim for every list of calls, arrivals and leavings, refused ones among them, from the table of an accepted opening without a card.
use Rattle.std.specs.Prelude.{◌≡◌, true, false, cond, List, [], ◌∷◌, ℕ, ◌<◌, eqb, length, replicate}
use Rattle.lists.specs.Sum.{sum_of}
use Rattle.options.specs.declared.Options.{Options}
use Rattle.cashier_spec.specs.Opening.{opened}
use Rattle.books.specs.Books.{Claim}
use Rattle.host_spec.specs.declared.GuestCard.{GuestCard}
use Rattle.host_spec.specs.declared.Hosted.{Hosted}
use Rattle.host_spec.specs.Cards.{hosted, no_card, is_here, card_at, net}
use Rattle.host_spec.specs.Broken.{host_broken}
use Rattle.host_spec.specs.Step.{host_number, host_next}
use Rattle.host_spec.specs.History.{HostEntry, plays_of, seated_in, counted_rounds, gains}

-- Each call gets the hosted table that the one before it returned, refused or not.
unfoldable pub host_run : Hosted → List HostEntry → Hosted
host_run h [] = h
host_run h (e ∷ es) = host_run (host_next h e.call e.order) es

-- The accepted ones, newest first and before those already known.
unfoldable pub host_accepted : Hosted → List HostEntry → List HostEntry → List HostEntry
host_accepted h [] known = known
host_accepted h (e ∷ es) known =
    host_accepted (host_next h e.call e.order) es (cond (eqb (host_number h e.call e.order) 0) (e ∷ known) known)

-- A table without a card.
abbrev pub opened_hosted : Options → List ℕ → Hosted
opened_hosted o order = hosted (opened o order) (replicate 27 no_card)

-- The card that a position holds, as a list: none or one.
abbrev pub card_in : GuestCard → List ℕ
card_in g = cond (is_here g) (g.card ∷ []) []

-- What is claimed of the position p of seat i.
pub record TallyClaim (o : Options) (opening : List ℕ) (hs : List HostEntry) (i p : ℕ) (g : GuestCard) : Type 0 where
  -- the card that sits there
  pub card_is : card_in g ≡ seated_in hs i p
  -- and its running tally: rounds closed, money wagered, net with prizes
  pub rounds_are : is_here g ≡ true → g.tally.rounds ≡ length (counted_rounds o opening hs i p)
  pub wagered_is : is_here g ≡ true → g.tally.wagered ≡ sum_of (λ r. r.laid) (counted_rounds o opening hs i p)
  pub net_is : is_here g ≡ true → net g.tally ≡ gains (counted_rounds o opening hs i p)

pub record HostClaim (o : Options) (opening : List ℕ) (hs : List HostEntry) (h : Hosted) : Type 0 where
  -- the books of the table, by the calls of the table alone
  pub books : Claim o opening (plays_of hs) h.table
  -- every position's card and tally
  pub tallies : (i p : ℕ) → i < 9 → p < 3 → TallyClaim o opening hs i p (card_at h i p)
  -- nothing is broken
  pub sound : host_broken h ≡ false

abbrev pub HostBooks : Options → List ℕ → List HostEntry → Type 0
HostBooks o opening calls = HostClaim o opening (host_accepted (opened_hosted o opening) calls []) (host_run (opened_hosted o opening) calls)
