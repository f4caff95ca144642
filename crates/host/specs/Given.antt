-- What the caller of a step of a hosted table has afterwards (request 2.13): what the caller of the engine's step has, number, bank's cards, pay lines in the arrays that it lent, scores and the next
-- table, and the next hosted table.
use Rattle.std.specs.Prelude.{cond, List, ℕ, eqb, ℤ}
use Rattle.call.specs.Answer.{empty_shown}
use Rattle.answer.specs.declared.reply.Reply.{Reply}
use Rattle.answer.specs.Outcome.{make_outcome}
use Rattle.answer.specs.Reply.{ReplyView, make_reply_view, Given, given_by, given_of, plain_reply}
use Rattle.host_spec.specs.declared.Hosted.{Hosted}
use Rattle.host_spec.specs.declared.HostCall.{HostCall}
use Rattle.host_spec.specs.Step.{host_number, host_next, host_shown}
use Rattle.host.specs.Outcome.{HostOutcome}
use Rattle.host.specs.declared.outcome.HostReply.{HostReply}

pub record HostGiven : Type 0 where
  pub given : Given
  pub hosted : Hosted

-- By the definitions: a refused call shows nothing and changes nothing.
abbrev pub host_reply : Hosted → HostCall → List ℕ → ReplyView
host_reply h c order = make_reply_view (host_number h c order) (cond (eqb (host_number h c order) 0) (host_shown h c order) empty_shown) (host_next h c order).table

abbrev pub host_given_by : Hosted → HostCall → List ℕ → List ℕ → List ℤ → HostGiven
host_given_by h c order names nets = record { given = given_by (host_reply h c order) names nets; hosted = host_next h c order }

-- By a reply of the code, with the arrays as it left them.
abbrev pub reply_of : HostReply → Reply
reply_of r = record { answer = r.answer; table = r.hosted.table }

abbrev pub host_given_of : HostReply → List ℕ → List ℤ → HostGiven
host_given_of r names nets = record { given = given_of (reply_of r) names nets; hosted = r.hosted }

-- The reply of an arrival or a leaving, which show nothing.
abbrev pub plain_host_reply : HostOutcome → HostReply
plain_host_reply o = record { answer = (plain_reply (make_outcome o.number o.hosted.table)).answer; hosted = o.hosted }
