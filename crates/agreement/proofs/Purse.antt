-- The history's purse of a guest, one call on: its buys, cashes, laid money and prizes grow by so much, and an ended round adds z.
use mathlib.Core.Path.{◌≡◌, ◌∙◌, ap, subst}
use mathlib.Core.Bool.{false, cond, ◌&&◌}
use mathlib.Core.List.{List, ◌∷◌}
use Prim.Native.Nat.{ℕ, ◌+◌}
use native.Mathlib.Omega.{arith}
use lib.IntN.{ℤ, pos, ◌+ℤ◌, ◌-ℤ◌, +ℤ_comm, +ℤ-neg_ℤ_cancel}
use Rattle.lists.proofs.Tests.{or_eq_false}
use Rattle.lists.proofs.Differences.{Diff, diff_pos, diff_add, diff_sub, diff_is}
use Rattle.options.specs.declared.Options.{Options}
use Rattle.history.specs.Entry.{Entry, is_by, is_buy, is_cash, is_end, is_close, is_void, amount_of}
use Rattle.history.specs.Rounds.{stake_in}
use Rattle.history.specs.Money.{lays, laid_ever, prizes_ever, prize_of, bought, cashed, ends_brought, end_brings, purse_of}

-- what the ended rounds come to, from the purse and the rest
rounds : (x b c l p : ℕ) (E : ℤ) → pos x ≡ pos b -ℤ pos c -ℤ pos l +ℤ pos p +ℤ E → Diff E (x + (0 + c + l + 0)) (0 + (b + 0 + 0 + p))
rounds x b c l p E e =
    let rest = diff_add (diff_sub (diff_sub (diff_pos b) (diff_pos c)) (diff_pos l)) (diff_pos p) in
    let q = pos b -ℤ pos c -ℤ pos l +ℤ pos p in
    subst (λ (z : ℤ). Diff z (x + (0 + c + l + 0)) (0 + (b + 0 + 0 + p)))
    (ap (λ (y : ℤ). y -ℤ q) (e ∙ +ℤ_comm q E) ∙ +ℤ-neg_ℤ_cancel E q)
    (diff_sub (diff_pos x) rest)

pub purse_law : (x next b c l p db dc dl dp : ℕ) (E z : ℤ) (plus minus : ℕ) → Diff z plus minus
    → pos x ≡ pos b -ℤ pos c -ℤ pos l +ℤ pos p +ℤ E → next + dc + dl + minus ≡ x + db + dp + plus
    → pos next ≡ pos (db + b) -ℤ pos (dc + c) -ℤ pos (dl + l) +ℤ pos (dp + p) +ℤ (z +ℤ E)
purse_law x next b c l p db dc dl dp E z plus minus d e h =
    diff_is
    (diff_add (diff_add (diff_sub (diff_sub (diff_pos (db + b)) (diff_pos (dc + c))) (diff_pos (dl + l))) (diff_pos (dp + p))) (diff_add d (rounds x b c l p E e)))
    next (omega arith)

-- a call that ends no round, of the guest in position p of seat i or not
pub purse_moves : (o : Options) (opening : List ℕ) (es : List Entry) (i p : ℕ) (e : Entry) → is_end e ≡ false → (x next : ℕ) → pos x ≡ purse_of o opening es i p
    → next + cond (is_cash e && is_by i p e) (amount_of e) 0 + lays i p (stake_in es i p) e ≡ x + cond (is_buy e && is_by i p e) (amount_of e) 0 + prize_of o opening es i p e
    → pos next ≡ purse_of o opening (e ∷ es) i p
purse_moves o opening es i p e not_end x next was h =
    let (close, void) = or_eq_false (is_close e) (is_void e) not_end in
    purse_law x next (bought es i p) (cashed es i p) (laid_ever es i p) (prizes_ever o opening es i p)
    (cond (is_buy e && is_by i p e) (amount_of e) 0) (cond (is_cash e && is_by i p e) (amount_of e) 0) (lays i p (stake_in es i p) e) (prize_of o opening es i p e)
    (ends_brought o opening es i p) (end_brings o opening es i p e) 0 0 (simp (close, void) (diff_pos 0)) was (omega arith)
