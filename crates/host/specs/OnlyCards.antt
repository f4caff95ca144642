-- Request 2.13: arrivals and leavings "change only guest cards and tallies": whatever they name, accepted or refused, the table stays.
use Rattle.std.specs.Prelude.{◌≡◌, List, ℕ}
use Rattle.call.specs.declared.At.{At}
use Rattle.host_spec.specs.declared.Hosted.{Hosted}
use Rattle.host_spec.specs.declared.HostCall.TheVariants.{Arrive, Leave}
use Rattle.host_spec.specs.Step.{host_next}

abbrev pub ArriveKeepsTable : Type 0
ArriveKeepsTable = (h : Hosted) (at : At) (card : ℕ) (order : List ℕ) → (host_next h (Arrive at card) order).table ≡ h.table

abbrev pub LeaveKeepsTable : Type 0
LeaveKeepsTable = (h : Hosted) (card : ℕ) (order : List ℕ) → (host_next h (Leave card) order).table ≡ h.table
