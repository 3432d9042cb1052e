-- Laws of lists that the proofs cite. Assumes nothing.
use Prim.Native.Nat.{ℕ, ◌+◌, ◌-◌, ◌≤◌}
use native.Mathlib.Omega.{arith}
use mathlib.Core.Path.{◌≡◌, sym, ap}
use mathlib.Core.List.{List, ◌++◌}
use lib.ListN.{length, drop, length-append, length-take, length-replicate, length-drop}
use borrow.Rule.Slice.PartMut.{put_mid, mid_of, mid_len, Post-is}
use Rattle.rules.specs.Verdict.{Accepted}
use Rattle.rules.specs.Calls.{zeros, counters_after}
use Rattle.guard.specs.Counters.{zeroed}

pub length-zeros : (n : ℕ) → length (zeros n) ≡ n
unfolding zeros
length-zeros n = length-replicate n 0

-- a part that was cleared and has come back
pub zeroed-is : (from n : ℕ) (ws ys : List ℕ) → from + n ≤ length ws → ys ≡ zeros (length (mid_of from (from + n - from) ws))
    → put_mid from (from + n - from) ws ys ≡ zeroed ws from n
zeroed-is from n ws ys h e =
    let k : from + n - from ≡ n = omega arith in
    let l = mid_len from (from + n) ws h in
    let p = Post-is from (from + n) ws (omega arith) in
    rw (e, l, p, k)

pub length-zeroed : (ws : List ℕ) (from n : ℕ) → from + n ≤ length ws → length (zeroed ws from n) ≡ length ws
length-zeroed ws from n h = simp (length-append, length-take, length-zeros, length-drop) (omega arith)

-- the words beyond the first 1,024 stay
pub words-after : (ws : List ℕ) → zeros 1024 ++ drop 1024 ws ≡ counters_after Accepted ws
unfolding counters_after
words-after ws = ap (λ n. zeros 1024 ++ drop n ws) (sym (length-zeros 1024))
