-- Both amounts are far below 2^63, so that the casts keep them and their difference fits; two stores at one place, where there is room.
use mathlib.Core.Path.{refl, ap}
use native.Mathlib.Omega.{arith}
use lib.ListN.{set}
use Rattle.close.proofs.Casts.{casts_fit, casts_net}
use Rattle.close.proofs.pay_lines.PayLines.put.Goals as goal

pub overflow_sub-net : goal.overflow_sub-net
overflow_sub-net c = search casts_fit

pub returns-then-at-lt-LINES : goal.returns-then-at-lt-LINES
returns-then-at-lt-LINES c =
    let a = c.args in
    record {
      same_names = refl;
      same_nets = refl;
      put = λ room. record { names_are = ap (set a.self.now.names.now a.self.now.at) c.line_name.ensures; nets_are = ap (set a.self.now.nets.now a.self.now.at) (casts_net a.p c.requires); behind_is = refl };
    }

pub returns-else-at-lt-LINES : goal.returns-else-at-lt-LINES
returns-else-at-lt-LINES c = record { same_names = refl; same_nets = refl; put = λ room. absurd (omega arith) }
