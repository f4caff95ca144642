-- Each card of the pair is kept in a hand of its own, in the places that the parent's gives; each guest's purse pays and the number of hands does not wrap.
use mathlib.Core.Path.{◌≡◌}
use native.Mathlib.Omega.{arith}
use lib.ListN.{length}
use borrow.Author.Rules.{rules}
use Rattle.table.specs.Seat.{guest_at}
use Rattle.decisions_spec.specs.Split.{staked_again}
use Rattle.draw.proofs.card.Laws.{others_are}
use Rattle.draw.proofs.split.Effect.{same-two}
use Rattle.draw.proofs.split.split_seat.Goals as goal

pub staked_again-seated-requires : goal.staked_again-seated-requires
unfolding guest_at
staked_again-seated-requires c = c.requires.pays.enough 0 (omega arith)

pub staked_again-one-requires : goal.staked_again-one-requires
unfolding guest_at
staked_again-one-requires c = c.requires.pays.enough 1 (omega arith)

pub staked_again-other-requires : goal.staked_again-other-requires
unfolding guest_at
staked_again-other-requires c = c.requires.pays.enough 2 (omega arith)

pub returns : goal.returns
returns c =
    let s = c.args.s in
    let two : length s.others ≡ 2 = search rules in
    same-two s c.args.p c.args.h c.args.first c.args.second
    c.staked_again-seated.ensures (others_are staked_again s.others two c.staked_again-one.ensures c.staked_again-other.ensures) c.first_of.ensures c.split_places-places.ensures
    c.split_hand-parent.ensures c.kept_card.ensures
    c.split_hand-new.ensures c.kept_card-2.ensures
