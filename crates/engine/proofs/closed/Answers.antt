-- The close's table is put in the place of the one before.
use mathlib.Core.Path.{◌∙◌, ap}
use Rattle.answer.specs.declared.reply.Reply.{Reply}
use Rattle.answer.specs.Reply.{given_of}
use Rattle.engine.proofs.closed.Goals as goal

pub returns : goal.returns
returns c = ap (λ (x : Reply). given_of x c.close.new.names c.close.new.nets) (rw c.requires at c.closed_answer.ensures) ∙ c.close.ensures
