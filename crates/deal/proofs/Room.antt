-- An accepted deal: the cards that it takes are left, and there is room for those that it burns.
use mathlib.Core.Path.{◌≡◌}
use Prim.Native.Nat.{◌+◌, ◌*◌, ◌≤◌}
use native.Mathlib.Omega.{arith}
use Rattle.call.specs.Refusal.{first}
use Rattle.table.specs.declared.Table.{Table}
use Rattle.table.proofs.Facts.{decks_416}
use Rattle.deal_spec.specs.Deal.{burnt, deal_takes, deal_conditions}
use Rattle.deal_spec.proofs.DealAccepted.{deal-accepted}

pub record Room (t : Table) : Type 0 where
  pub enough : t.shoe.drawn + deal_takes t ≤ 52 * t.options.decks
  pub burn : burnt t ≤ deal_takes t
  pub decks : 52 * t.options.decks ≤ 416
  pub discards : t.shoe.discarded ≤ t.shoe.drawn

pub deal-room : (t : Table) → first (deal_conditions t) ≡ 0 → Room t
unfolding deal_takes
deal-room t e =
    let ok = deal-accepted t e in
    record {
      enough = ok.enough;
      burn = omega arith;
      decks = decks_416 t ok.sound;
      discards = ok.sound.discarded_drawn;
    }
