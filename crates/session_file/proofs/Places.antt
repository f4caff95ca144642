-- Where a call is found ten bytes lie, and the place behind it is a later one.
use mathlib.Core.Path.{◌≡◌, sym}
use mathlib.Core.Bool.{true, cond, true≢false}
use mathlib.Core.List.{List}
use Prim.Native.Nat.{ℕ, suc, ◌+◌, ◌*◌, ◌%◌, ◌≤◌, ◌<◌}
use native.Mathlib.Decide.{dec_le}
use native.Mathlib.Omega.{arith}
use borrow.Author.Tests.{le-leb, lt-leb, lt-ltb, le-ltb}
use lib.Dec.{leb}
use lib.ListN.{length}
use Rattle.lists.proofs.Picks.{cond_least}
use Rattle.file_spec.specs.CallBlock.{is_load_code}
use Rattle.file_spec.specs.Reader.{call_place, code_of, start_of, many_of, place_behind, handed_at}

later_call : (file : List ℕ) (at start : ℕ) → at < start → at < length file → at < call_place file start
later_call file at start h k = go (dec_le (length file) start)
  where
    go : Dec (length file ≤ start) → at < call_place file start
    go (yes past) = rw (le-ltb start (length file) past) k
    go (no inside) = rw (lt-ltb start (length file) (omega arith)) (omega arith)

later_place : (file : List ℕ) (at : ℕ) → at < length file → at < place_behind file at
unfolding place_behind
later_place file at h =
    let load = is_load_code (code_of file at) in
    let blocks : 512 ≤ cond load 1024 512 = cond_least load {k = 512} (omega arith) (omega arith) in
    let ahead : at < start_of at + cond load 1024 512 = omega arith in
    cond_least (leb (at % 512 + 10) (10 * many_of file at)) {k = suc at} (omega arith) (later_call file at (start_of at + cond load 1024 512) ahead h)

-- where a call is found ten bytes lie
pub found_inside : (file : List ℕ) (at : ℕ) → (handed_at file at).found ≡ true → at + 10 ≤ length file
unfolding handed_at
found_inside file at found = go (dec_le (at + 10) (length file))
  where
    go : Dec (at + 10 ≤ length file) → at + 10 ≤ length file
    go (yes h) = h
    go (no h) = absurd (true≢false (sym (rw (lt-leb (at + 10) (length file) (omega arith)) at found)))

pub later : (file : List ℕ) (at : ℕ) → (handed_at file at).found ≡ true → at < (handed_at file at).behind
unfolding handed_at
later file at found =
    let inside = found_inside file at found in
    rw (le-leb (at + 10) (length file) inside) (later_place file at (omega arith))
