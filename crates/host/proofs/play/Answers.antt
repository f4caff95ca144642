-- Damaged cards are 1. Else the reply is the engine's, which changes nothing where it is refused; an accepted close counts the round, every other call leaves the cards.
use mathlib.Core.Path.{◌≡◌, sym, ◌∙◌}
use mathlib.Core.Bool.{true}
use Rattle.host_spec.specs.Broken.{sound_cards}
use Rattle.host.proofs.Replies.{damaged_cards, played-refused, close-accepted, close-left, played-close, played_other}
use Rattle.host.proofs.play.Goals.{After-step-reply}
use Rattle.host.proofs.play.Goals as goal

sound : (c : After-step-reply) → sound_cards c.args.h.table.options c.args.h.cards ≡ true
sound c = sym c.cards_sound.ensures ∙ c.if-not-cards_sound.false

pub returns-then-not-cards_sound : goal.returns-then-not-cards_sound
returns-then-not-cards_sound c =
    let a = c.args in
    damaged_cards a.h a.c a.order.now a.names.now a.nets.now _ (sym c.cards_sound.ensures ∙ c.if-not-cards_sound.true) c.plain_host_reply.ensures

pub returns-then-answer-ne0 : goal.returns-then-answer-ne0
returns-then-answer-ne0 c =
    let a = c.args in
    played-refused a.h a.c a.order.now (sound (goal.at.returns-then-answer-ne0 c).After-step-reply) a.names.now _ a.nets.now _ c.step-reply.result c.step-reply.ensures c.if-answer-ne0.true

pub counted-requires : goal.counted-requires
counted-requires c =
    let a = c.args in
    let cards = sound (goal.at.counted-requires c).After-step-reply in
    let is = c.is_close.ensures.known c.if-is_close.true in
    let told = c.step-reply in
    record {
      accepted = close-accepted a.h a.c a.order.now cards a.names.now _ a.nets.now _ told.result told.ensures c.if-answer-ne0.false is;
      closed = close-left a.h a.c a.order.now cards a.names.now _ a.nets.now _ told.result told.ensures c.if-answer-ne0.false is;
      sound = cards;
    }

pub returns-then-is_close : goal.returns-then-is_close
returns-then-is_close c =
    let a = c.args in
    played-close a.h a.c a.order.now (sound (goal.at.returns-then-is_close c).After-step-reply) a.names.now _ a.nets.now _ c.step-reply.result c.step-reply.ensures c.if-answer-ne0.false
    (c.is_close.ensures.known c.if-is_close.true) _ c.counted.ensures

pub returns : goal.returns
returns c =
    let a = c.args in
    played_other a.h a.c a.order.now (sound (goal.at.returns c).After-step-reply) a.names.now _ a.nets.now _ c.step-reply.result c.step-reply.ensures c.if-answer-ne0.false
    (sym c.is_close.ensures.same ∙ c.if-is_close.false)
