-- Request 2.7: "For the box, take two lists of calls alike but for one load, whose orders exchange only the hidden card and one that no call before the first call of close
-- after its deal has drawn: every answer before that call, accepted or refused, is the same." The opening counts as a load. The lists are played by the step and the run of
-- the theorem of the books; what is asked is asked of one of the two runs.
use Rattle.std.specs.Prelude.{◌≡◌, Bool, true, not, ◌&&◌, ◌||◌, List, [], ◌∷◌, ◌++◌, ℕ, suc, ◌<◌, leb, eqb, length, take, get_or, set}
use Rattle.lists.specs.Tests.{all_of}
use Rattle.call.specs.declared.Call.TheVariants.{Deal, Load}
use Rattle.call.specs.Answer.{Answer}
use Rattle.options.specs.declared.Options.{Options}
use Rattle.options.specs.Device.{is_box}
use Rattle.table.specs.declared.Table.{Table}
use Rattle.table.specs.Table.{bank_cards, up}
use Rattle.history.specs.Entry.{Entry, is_deal, is_close, is_load}
use Rattle.cashier_spec.specs.Opening.{open_number, opened}
use Rattle.engine.specs.Step.{number, next}
use Rattle.engine.specs.Run.{run, answers}
use Rattle.display.specs.InSight.{ShowsSame}

-- An order with the cards of two places exchanged.
abbrev pub exchanged : ℕ → ℕ → List ℕ → List ℕ
exchanged p q order = set (set order p (get_or order q 0)) q (get_or order p 0)

-- A load of this order, and a deal; the order that is lent beside a deal means nothing.
abbrev pub load : List ℕ → Entry
load order = record { call = Load; order = order }

abbrev pub deal : List ℕ → Entry
deal lent = record { call = Deal; order = lent }

-- The call is accepted on this table.
abbrev pub is_accepted : Table → Entry → Bool
is_accepted t e = eqb (number t e.call e.order) 0

-- From this table on, none of the calls is an accepted load or an accepted deal.
unfoldable pub quiet : Table → List Entry → Bool
quiet t [] = true
quiet t (e ∷ es) = not (is_accepted t e && (is_load e || is_deal e)) && quiet (next t e.call e.order) es

-- From this table on, none of the calls draws the card at place q: no more than q cards are drawn, until an accepted load brings another order.
unfoldable pub undrawn : ℕ → Table → List Entry → Bool
undrawn q t [] = leb t.shoe.drawn q
undrawn q t (e ∷ es) = leb t.shoe.drawn q && (is_accepted t e && is_load e || undrawn q (next t e.call e.order) es)

-- The calls from a load on: those before its deal, the deal, those behind it up to the first call of close.
abbrev pub up_to_close : List Entry → List ℕ → List Entry → List Entry
up_to_close before lent behind = before ++ deal lent ∷ behind

-- What is asked of these calls, t being the table with the order just loaded.
pub record Hides (p q : ℕ) (t : Table) (before : List Entry) (lent : List ℕ) (behind : List Entry) : Type 0 where
  -- before the deal no call deals or loads another order
  pub no_other : quiet t before ≡ true
  -- the deal is accepted
  pub dealt : number (run t before) Deal lent ≡ 0
  -- the hidden card, the last that the deal draws (`HiddenLast`), lies at place p
  pub hidden : (next (run t before) Deal lent).shoe.drawn ≡ suc p
  -- place q is one of the order, and no call behind the deal draws its card
  pub place : q < 52
  pub not_drawn : undrawn q (next (run t before) Deal lent) behind ≡ true
  -- none of the calls behind the deal is a close
  pub no_close : all_of (λ e. not (is_close e)) behind ≡ true

-- The last card that a deal of the box draws is the hidden one: the bank has two cards, and the second is the one that lies at that place of the order.
abbrev pub HiddenLast : Table → List ℕ → ℕ → Type 0
HiddenLast t lent p =
    is_box t.options ≡ true → number t Deal lent ≡ 0 → (next t Deal lent).shoe.drawn ≡ suc p
    → bank_cards (next t Deal lent) ≡ up (next t Deal lent) ∷ get_or t.shoe.order p 0 ∷ []

-- Two lists of answers, each of a whole list of calls, are the same as far as the first n calls.
abbrev pub SameFor : ℕ → List Answer → List Answer → Type 0
SameFor n xs ys = take n xs ≡ take n ys

module _ (o : Options) (before : List Entry) (lent : List ℕ) (behind : List Entry) (p q : ℕ) where
  -- A load in the list. `earlier` are the calls before it.
  module _ (opening : List ℕ) (earlier : List Entry) where
    abbrev pub list_before : List ℕ → List Entry
    list_before order = earlier ++ load order ∷ up_to_close before lent behind

    pub record OneLoad (order : List ℕ) : Type 0 where
      -- the table deals from a box
      pub box : is_box o ≡ true
      -- the load is accepted
      pub loads : number (run (opened o opening) earlier) Load order ≡ 0
      -- and the calls behind it are as above
      pub hides : Hides p q (next (run (opened o opening) earlier) Load order) before lent behind

    -- Every answer before that call of close, with which `rest` begins, is the same, and so is all that a display reads then.
    pub record LoadSecret (order : List ℕ) : Type 0 where
      pub same-answers : (rest : List Entry) → SameFor (length (list_before order)) (answers (opened o opening) (list_before order ++ rest)) (answers (opened o opening) (list_before (exchanged p q order) ++ rest))
      pub same-shown : ShowsSame (run (opened o opening) (list_before order)) (run (opened o opening) (list_before (exchanged p q order)))

  -- The opening as the load.
  pub record AtOpening (order : List ℕ) : Type 0 where
    -- the table deals from a box
    pub box : is_box o ≡ true
    -- the opening is accepted
    pub opens : open_number o order ≡ 0
    -- and the calls behind it are as above
    pub hides : Hides p q (opened o order) before lent behind

  pub record OpeningSecret (order : List ℕ) : Type 0 where
    pub same-opening : open_number o (exchanged p q order) ≡ open_number o order
    pub same-answers : (rest : List Entry) → SameFor (length (up_to_close before lent behind)) (answers (opened o order) (up_to_close before lent behind ++ rest)) (answers (opened o (exchanged p q order)) (up_to_close before lent behind ++ rest))
    pub same-shown : ShowsSame (run (opened o order) (up_to_close before lent behind)) (run (opened o (exchanged p q order)) (up_to_close before lent behind))
