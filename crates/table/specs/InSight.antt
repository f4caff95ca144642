-- Request 2.7: two tables that differ at most in cards that nobody sees: the bank's behind the up card, those of the order, drawn or not, and the discards.
use Rattle.std.specs.Prelude.{◌≡◌, length}
use Rattle.table.specs.declared.Table.{Table}
use Rattle.table.specs.Table.{bank_cards, up}

pub record InSight (t u : Table) : Type 0 where
  pub options : t.options ≡ u.options
  pub tray : t.tray ≡ u.tray
  pub seats : t.seats ≡ u.seats
  -- the bank has as many cards, and the same up card
  pub bank : length (bank_cards t) ≡ length (bank_cards u)
  pub up_card_lem : up t ≡ up u
  -- as many cards are drawn and as many are discards
  pub drawn : t.shoe.drawn ≡ u.shoe.drawn
  pub discarded : t.shoe.discarded ≡ u.shoe.discarded
