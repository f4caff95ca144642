-- The tests are the definition's; where the seats are sound, some seat has a stake exactly if the stakes are above 0.
use mathlib.Core.Path.{◌≡◌, sym, ◌∙◌}
use borrow.Author.Tests.{eq-eqb, ne_eqb}
use lib.ListN.{length}
use Rattle.lists.proofs.Below.{all_below_lem}
use Rattle.table.specs.Table.{seat_at, is_dealt, up}
use Rattle.table.specs.Broken.{seat_sound, sound_bank}
use Rattle.table.proofs.Facts.{seat_facts}
use Rattle.money.proofs.sums.Capping.{some_stakes}
use Rattle.broken.proofs.bank_sound.Goals as goal

pub returns-then-t-bank_at_deal : goal.returns-then-t-bank_at_deal
unfolding sound_bank
returns-then-t-bank_at_deal c =
    let t = c.args.t.now in
    let full : length t.seats ≡ 9 = c.seats_shape.ensures in
    simp (ne_eqb _ _ c.if-t-eq0.false, eq-eqb _ _ (c.if-t-bank_at_deal.true ∙ c.bank_at_deal.ensures))
    (sym (some_stakes t c.args.m c.requires.sums full (λ i h. (seat_facts t.options (is_dealt t) (up t) i (seat_at t i) (all_below_lem (seat_sound t) 9 i c.requires.seats h)).seated_first_lem)))
