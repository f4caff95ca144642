-- Pay lines in the lent arrays: none, and two runs, one behind the other, as one.
use mathlib.Core.Path.{◌≡◌, refl, sym, ◌∙◌, ap}
use mathlib.Core.List.{List, [], ◌++◌, map, map-append}
use Prim.Native.Nat.{ℕ, ◌+◌}
use native.Mathlib.Omega.{arith}
use lib.IntN.{ℤ}
use lib.ListN.{length, length-append, length-map}
use lib.Seq.{sets}
use Rattle.lists.proofs.Stores.{sets_append}
use Rattle.call.specs.PayLine.{PayLine, name_of}
use Rattle.close.specs.declared.pay_lines.PayLines.{PayLines}
use Rattle.close.specs.Aids.LinesAt.{LinesAt, LinesPut}

-- in one of the arrays
run_more : {A : Type 0} (f : PayLine → A) (x y z : List A) (i j : ℕ) (a b : List PayLine) → y ≡ sets x i (map f a) → j ≡ i + length a → z ≡ sets y j (map f b) → z ≡ sets x i (map f (a ++ b))
run_more f x y z i j a b first at second =
    let behind : j ≡ i + length (map f a) = omega (arith, length-map a f) in
    second ∙ rw (first, behind, map-append f a b) (sets_append x i (map f a) (map f b))

module _ {names names-then : List ℕ} {nets nets-then : List ℤ} {at behind : ℕ} where
  lines_more : {names-last : List ℕ} {nets-last : List ℤ} {last : ℕ} (a b all : List PayLine) → LinesAt names nets at a names-then nets-then behind
      → LinesAt names-then nets-then behind b names-last nets-last last → a ++ b ≡ all → LinesAt names nets at all names-last nets-last last
  lines_more a b all first second e =
      rw (← e)
      (record {
        names_are = run_more name_of names names-then _ at behind a b first.names_are first.behind_is second.names_are;
        nets_are = run_more (λ l. l.net) nets nets-then _ at behind a b first.nets_are first.behind_is second.nets_are;
        behind_is = omega (arith, first.behind_is, second.behind_is, length-append a b);
      })

-- what stands behind the references when they are given back
pub lines_are : {names names-then names-last : List ℕ} {nets nets-then nets-last : List ℤ} {at behind : ℕ} {all : List PayLine} → LinesAt names nets at all names-then nets-then behind
    → names-last ≡ names-then → nets-last ≡ nets-then → LinesAt names nets at all names-last nets-last behind
lines_are lines names nets = record { names_are = names ∙ lines.names_are; nets_are = nets ∙ lines.nets_are; behind_is = lines.behind_is }

pub put_none : (l : PayLines) → LinesPut l [] l
put_none l = record { same_names = refl; same_nets = refl; put = λ room. record { names_are = refl; nets_are = refl; behind_is = omega arith } }

pub put_more : {l m n : PayLines} (a b all : List PayLine) → LinesPut l a m → LinesPut m b n → a ++ b ≡ all → LinesPut l all n
put_more {l} {m} {n} a b all first second e =
    record {
      same_names = second.same_names ∙ first.same_names;
      same_nets = second.same_nets ∙ first.same_nets;
      put = λ room.
          let long : length all ≡ length a + length b = ap length (sym e) ∙ length-append a b in
          let one = first.put (omega arith) in
          lines_more a b all one (second.put (omega (arith, one.behind_is))) e;
    }
