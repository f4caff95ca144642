-- What a step's caller has: an arrival and a leaving show nothing; a call of the table shows what the engine's step shows.
use mathlib.Core.Path.{◌≡◌, refl, sym, ◌∙◌, ap}
use mathlib.Core.Bool.{Bool, true, false, cond, not}
use mathlib.Core.List.{List}
use Prim.Native.Nat.{ℕ}
use lib.Dec.{eqb}
use lib.IntN.{ℤ}
use borrow.Author.Tests.{ne_eqb}
use Rattle.lists.proofs.Tests.{cond_same}
use Rattle.call.specs.declared.At.{At}
use Rattle.call.specs.declared.Call.{Call}
use Rattle.call.specs.declared.Call.TheVariants.{Close}
use Rattle.call.specs.Call.{kind}
use Rattle.call.specs.Refusal.{first}
use Rattle.call.specs.Answer.{Shown, empty_shown}
use Rattle.table.specs.declared.Table.{Table}
use Rattle.answer.specs.declared.reply.Reply.{Reply}
use Rattle.answer.specs.Reply.{ReplyView, make_reply_view, reply_by, Given, given_by, given_of}
use Rattle.close_spec.specs.Close.{close_conditions, close_effect}
use Rattle.engine.specs.Step.{conditions, effect, shown, step}
use Rattle.host_spec.specs.declared.Hosted.{Hosted}
use Rattle.host_spec.specs.declared.HostCall.{HostCall}
use Rattle.host_spec.specs.declared.HostCall.TheVariants.{Play, Arrive, Leave}
use Rattle.host_spec.specs.Cards.{hosted}
use Rattle.host_spec.specs.Broken.{sound_cards}
use Rattle.host_spec.specs.Arrive.{arrive_conditions, arrive_effect}
use Rattle.host_spec.specs.Leave.{leave_conditions, leave_effect}
use Rattle.host_spec.specs.Close.{counted_from}
use Rattle.host_spec.specs.Step.{host_conditions, cards_after, host_effect, host_shown, host_number, host_next}
use Rattle.host.specs.Outcome.{HostOutcome}
use Rattle.host.specs.declared.outcome.HostReply.{HostReply}
use Rattle.host.specs.Outcome.{make_host_outcome, host_outcome}
use Rattle.host.specs.Given.{HostGiven, host_reply, host_given_by, host_given_of, plain_host_reply}

-- a call that shows nothing
shows_nothing : (h : Hosted) (c : HostCall) (order names : List ℕ) (nets : List ℤ) (o : HostOutcome) (r : HostReply) → host_shown h c order ≡ empty_shown → r ≡ plain_host_reply o
    → o ≡ host_outcome (host_conditions h c order) (host_effect h c order) h → host_given_of r names nets ≡ host_given_by h c order names nets
unfolding host_outcome host_number host_next
shows_nothing h c order names nets o r none e of =
    let n = first (host_conditions h c order) in
    let after = cond (eqb n 0) (host_effect h c order) h in
    let nothing : empty_shown ≡ cond (eqb n 0) (host_shown h c order) empty_shown = sym (cond_same (eqb n 0) empty_shown) ∙ ap (λ (s : Shown). cond (eqb n 0) s empty_shown) (sym none) in
    ap (λ (x : HostReply). host_given_of x names nets) (e ∙ ap plain_host_reply of)
    ∙ ap (λ (s : Shown). record { given = given_by (make_reply_view n s after.table) names nets; hosted = after }) nothing

module _ (h : Hosted) (order names : List ℕ) (nets : List ℤ) (o : HostOutcome) (r : HostReply) (plain : r ≡ plain_host_reply o) where
  pub arrives : (at : At) (card : ℕ) {c : HostCall} → o ≡ host_outcome (arrive_conditions h at.seat at.position card) (arrive_effect h at.seat at.position card) h → c ≡ Arrive at card
      → host_given_of r names nets ≡ host_given_by h c order names nets
  arrives at card of is = shows_nothing h (Arrive at card) order names nets o r refl plain of ∙ ap (λ (x : HostCall). host_given_by h x order names nets) (sym is)

  pub leaves : (card : ℕ) {c : HostCall} → o ≡ host_outcome (leave_conditions h card) (leave_effect h card) h → c ≡ Leave card → host_given_of r names nets ≡ host_given_by h c order names nets
  leaves card of is = shows_nothing h (Leave card) order names nets o r refl plain of ∙ ap (λ (x : HostCall). host_given_by h x order names nets) (sym is)

-- a call of the table, told by name
pub played : (h : Hosted) (order names : List ℕ) (nets : List ℤ) (call : Call) {c : HostCall} {g : HostGiven} → g ≡ host_given_by h (Play call) order names nets → c ≡ Play call
    → g ≡ host_given_by h c order names nets
played h order names nets call e is = e ∙ ap (λ (x : HostCall). host_given_by h x order names nets) (sym is)

-- damaged cards are 1 for every call
pub damaged_cards : (h : Hosted) (c : Call) (order names : List ℕ) (nets : List ℤ) (r : HostReply) → sound_cards h.table.options h.cards ≡ false → r ≡ plain_host_reply (make_host_outcome 1 h)
    → host_given_of r names nets ≡ host_given_by h (Play c) order names nets
unfolding host_number host_next first
damaged_cards h c order names nets r e is = ap (λ (x : HostReply). host_given_of x names nets) is ∙ rw e refl

-- with sound cards a call of the table is the engine's step
module _ (h : Hosted) (c : Call) (order : List ℕ) (e : sound_cards h.table.options h.cards ≡ true) where
  abbrev t : Table
  t = h.table

  abbrev n : ℕ
  n = first (conditions t c order)

  abbrev after : Table
  after = effect t c order

  abbrev counted : Hosted
  counted = hosted after (cards_after t c after h.cards)

  number_is : host_number h (Play c) order ≡ n
  unfolding host_number first
  number_is = ap (λ (b : Bool). cond (not b) 1 n) e

  next_is : host_next h (Play c) order ≡ cond (eqb n 0) counted h
  unfolding host_next
  next_is = ap (λ (k : ℕ). cond (eqb k 0) counted h) number_is

  table_is : (b : Bool) → (cond b counted h).table ≡ cond b after t
  table_is true = refl
  table_is false = refl

  pub reply_is : step t c order ≡ host_reply h (Play c) order
  unfolding step reply_by
  reply_is =
      sym (λ i.
      make_reply_view (number_is i) (cond (eqb (number_is i) 0) (shown t c after) empty_shown) ((ap (λ (x : Hosted). x.table) next_is ∙ table_is (eqb n 0)) i))

  pub refused-next : (n ≡ 0 → ⊥) → host_next h (Play c) order ≡ h
  refused-next some = next_is ∙ ap (λ (b : Bool). cond b counted h) (ne_eqb n 0 some)

  pub accepted-next : n ≡ 0 → host_next h (Play c) order ≡ counted
  accepted-next none = next_is ∙ ap (λ (k : ℕ). cond (eqb k 0) counted h) none

  -- told the reply of the engine's step
  module _ (names then-names : List ℕ) (nets then-nets : List ℤ) (r : Reply) (given : given_of r then-names then-nets ≡ given_by (step t c order) names nets) where
    answer-is : r.answer.number ≡ n
    unfolding step reply_by
    answer-is = ap (λ (g : Given). g.number) given

    left_is : r.table ≡ cond (eqb n 0) after t
    unfolding step reply_by
    left_is = ap (λ (g : Given). g.table) given

    abbrev Plays : Hosted → Type 0
    Plays x = host_given_of (record { answer = r.answer; hosted = x }) then-names then-nets ≡ host_given_by h (Play c) order names nets

    plays : (x : Hosted) → x.table ≡ r.table → x ≡ host_next h (Play c) order → Plays x
    plays x same next =
        let all : given_of (record { answer = r.answer; table = x.table }) then-names then-nets ≡ given_by (host_reply h (Play c) order) names nets =
        ap (λ (u : Table). given_of (record { answer = r.answer; table = u }) then-names then-nets) same ∙ given ∙ ap (λ (v : ReplyView). given_by v names nets) reply_is in
        λ i. record { given = all i; hosted = next i }

    -- refused: everything stays
    pub played-refused : (r.answer.number ≡ 0 → ⊥) → Plays h
    played-refused some =
        let number : n ≡ 0 → ⊥ = λ none. some (answer-is ∙ none) in
        plays h (sym (left_is ∙ ap (λ (b : Bool). cond b after t) (ne_eqb n 0 number))) (sym (refused-next number))

    module _ (accepted : r.answer.number ≡ 0) where
      number-none : n ≡ 0
      number-none = sym answer-is ∙ accepted

      after_is : r.table ≡ after
      after_is = left_is ∙ ap (λ (k : ℕ). cond (eqb k 0) after t) number-none

      -- a close counts the round
      pub close-accepted : c ≡ Close → first (close_conditions t) ≡ 0
      close-accepted is = ap (λ (x : Call). first (conditions t x order)) (sym is) ∙ number-none

      pub close-left : c ≡ Close → r.table ≡ close_effect t
      close-left is = after_is ∙ ap (λ (x : Call). effect t x order) is

      pub played-close : c ≡ Close → (x : Hosted) → x ≡ hosted r.table (counted_from t r.table 0 h.cards) → Plays x
      played-close is x counts =
          plays x (ap (λ (y : Hosted). y.table) counts)
          (counts ∙ ap (λ (u : Table). hosted u (counted_from t u 0 h.cards)) after_is
          ∙ ap (λ (k : ℕ). hosted after (cond (eqb k 15) (counted_from t after 0 h.cards) h.cards)) (sym (ap kind is)) ∙ sym (accepted-next number-none))

      -- every other call leaves the cards
      pub played_other : eqb (kind c) 15 ≡ false → Plays (hosted r.table h.cards)
      played_other other =
          plays (hosted r.table h.cards) refl
          (ap (λ (u : Table). hosted u h.cards) after_is
          ∙ ap (λ (b : Bool). hosted after (cond b (counted_from t after 0 h.cards) h.cards)) (sym other) ∙ sym (accepted-next number-none))
