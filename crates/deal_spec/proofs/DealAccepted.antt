-- What an accepted deal finds: a fact for each condition of its list, by name. Every proof about the deal cites these.
use mathlib.Core.Path.{◌≡◌, refl, sym, ◌∙◌, ap}
use mathlib.Core.Bool.{Bool, true, false, not, ◌&&◌}
use Prim.Native.Nat.{◌+◌, ◌*◌, ◌≤◌, ◌<◌}
use native.Mathlib.Omega.{arith}
use borrow.Author.Tests.{eqb-true, ltb-false, leb-false, not-false}
use Rattle.lists.specs.Tests.{all_of}
use Rattle.call.specs.Refusal.{first}
use Rattle.call.proofs.Refusals.{none_hold}
use Rattle.options.specs.declared.Options.{Options}
use Rattle.options.specs.Device.{is_shoe}
use Rattle.table.specs.declared.Shoe.{Shoe}
use Rattle.table.specs.declared.Table.{Table}
use Rattle.table.specs.Shoe.{is_fresh}
use Rattle.table.specs.Table.{is_dealt, some_staked, cards_left}
use Rattle.table.specs.Money.{all_cover}
use Rattle.table.specs.Aids.Sound.{Sound}
use Rattle.table.proofs.Facts.{unbroken}
use Rattle.deal_spec.specs.Deal.{deal_takes, load_due, deal_conditions}
use Rattle.deal_spec.proofs.DealtBank.{some_at-deal}

pub record DealAccepted (t : Table) : Type 0 where
  pub sound : Sound t
  pub between : is_dealt t ≡ false
  pub some : some_staked t ≡ true
  pub covered : all_cover t ≤ t.tray
  pub loaded : is_shoe t.options ≡ false → t.shoe.drawn ≡ 0
  pub past_cut : t.options.cut < cards_left t
  pub enough : t.shoe.drawn + deal_takes t ≤ 52 * t.options.decks

-- of box and machine nothing is drawn
not_due : (o : Options) (sh : Shoe) → load_due o sh ≡ false → is_shoe o ≡ false → sh.drawn ≡ 0
unfolding load_due
not_due o sh none other = eqb-true sh.drawn 0 (not-false (is_fresh sh) (sym (ap (λ (b : Bool). not b && not (is_fresh sh)) other) ∙ none))

pub deal-accepted : (t : Table) → first (deal_conditions t) ≡ 0 → DealAccepted t
unfolding deal_conditions deal_takes all_of
deal-accepted t e =
    let (whole, (between, (some, (covered, (loaded, (past_cut, (enough, _))))))) = none_hold (deal_conditions t) refl e in
    record {
      sound = unbroken t whole;
      between = between;
      some = not-false (some_staked t) some;
      covered = ltb-false t.tray (all_cover t) covered;
      loaded = not_due t.options t.shoe loaded;
      past_cut = leb-false (cards_left t) t.options.cut past_cut;
      enough = omega (arith, ltb-false (cards_left t) (deal_takes t) enough, some_at-deal t.options);
    }
