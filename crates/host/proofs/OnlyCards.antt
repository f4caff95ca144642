-- Arrivals and leavings put another card in a place of the same table.
use mathlib.Core.Path.{◌≡◌, refl}
use mathlib.Core.Bool.{Bool, true, false, cond}
use Prim.Native.Nat.{ℕ}
use lib.Dec.{eqb}
use Rattle.host_spec.specs.declared.GuestCard.{GuestCard}
use Rattle.host_spec.specs.declared.Hosted.{Hosted}
use Rattle.host_spec.specs.declared.HostCall.TheVariants.{Arrive, Leave}
use Rattle.host_spec.specs.Cards.{with_card, place_at, place_of, arrived, no_card}
use Rattle.host_spec.specs.Step.{host_number, host_next}
use Rattle.host.specs.OnlyCards.{ArriveKeepsTable, LeaveKeepsTable}

same_table : (h : Hosted) (place : ℕ) (g : GuestCard) (b : Bool) → (cond b (with_card h place g) h).table ≡ h.table
same_table h place g true = refl
same_table h place g false = refl

pub arrive-keeps_table : ArriveKeepsTable
unfolding host_next
arrive-keeps_table h at card order = same_table h (place_at at.seat at.position) (arrived card) (eqb (host_number h (Arrive at card) order) 0)

pub leave-keeps_table : LeaveKeepsTable
unfolding host_next
leave-keeps_table h card order = same_table h (place_of h card) no_card (eqb (host_number h (Leave card) order) 0)
