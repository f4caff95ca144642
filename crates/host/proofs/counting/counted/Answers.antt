-- Place by place: before each turn the first k cards are counted, the others still to come.
use mathlib.Core.Path.{◌≡◌, refl, ◌∙◌, ap}
use native.Mathlib.Omega.{arith}
use lib.ListN.{length, length-set}
use Rattle.host_spec.specs.Cards.{hosted}
use Rattle.host.proofs.Fits.{each_sound}
use Rattle.host.proofs.counting.Laws.{walked_next, walked_all}
use borrow.Author.Rules.{rules}
use Rattle.host.proofs.counting.counted.Goals as goal

pub loop-k-init : goal.loop-k-init
loop-k-init c = let full : length c.args.h.cards ≡ 27 = search rules in (full, refl)

pub counted_card-requires : goal.counted_card-requires
counted_card-requires c =
    record {
      shape = c.table_shape.ensures;
      accepted = c.requires.accepted;
      closed = c.requires.closed;
      inside = omega arith;
      sound = each_sound c.args.h.table.options c.args.h.cards c.requires.sound c.loop-k.k (omega arith);
    }

pub loop-k-preserved : goal.loop-k-preserved
loop-k-preserved c =
    let h = c.args.h in
    let full : length h.cards ≡ 27 = search rules in (
      length-set c.loop-k.next c.loop-k.k c.counted_card.result ∙ c.loop-k.invariant.0,
      walked_next h.table c.args.after h.cards c.loop-k.k c.loop-k.next c.counted_card.result (omega arith) (omega (arith, c.loop-k.invariant.0)) c.counted_card.ensures c.loop-k.invariant.1,
    )

pub returns : goal.returns
returns c =
    let h = c.args.h in
    let full : length h.cards ≡ 27 = search rules in
    ap (hosted c.args.after) (walked_all h.table c.args.after h.cards c.loop-k.k c.loop-k.next (omega arith) (omega (arith, c.loop-k.invariant.0)) c.loop-k.invariant.1)
