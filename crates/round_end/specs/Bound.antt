-- Request 2.14: "at most the cards drawn in it + 18 (9 seats, each 3 insurances and a hand against two cards)", for every list of calls and every round in it, on every device.
use Rattle.std.specs.Prelude.{◌≡◌, Bool, true, List, [], ℕ, ◌+◌, leb}
use Rattle.lists.specs.Tests.{all_of}
use Rattle.options.specs.declared.Options.{Options}
use Rattle.cashier_spec.specs.Opening.{open_number}
use Rattle.host_spec.specs.History.{HostEntry}
use Rattle.host_spec.specs.Claim.{host_accepted, opened_hosted}
use Rattle.round_end.specs.Rounds.{RoundCount, rounds_of}

abbrev pub ends : RoundCount → Bool
ends r = leb r.calls (r.cards + 18)

-- After any list of calls, arrivals and leavings, refused ones among them, from the table of an accepted opening.
abbrev pub RoundsEnd : Type 0
RoundsEnd =
    (o : Options) (opening : List ℕ) (calls : List HostEntry) → open_number o opening ≡ 0
    → all_of ends (rounds_of o opening (host_accepted (opened_hosted o opening) calls [])) ≡ true
