-- The pass that finds the function of each line. Assumes nothing.
use mathlib.Core.Path.{◌≡◌, refl, sym, ap, ◌∙◌}
use mathlib.Core.Bool.{Bool, true, false, cond}
use mathlib.Core.List.{List, [], ◌∷◌}
use Prim.Native.Nat.{ℕ, zero, suc, ◌+◌, ◌/◌, ◌≤◌, ◌<◌}
use native.Mathlib.Nat.{not-suc-le-zero}
use native.Mathlib.Omega.{arith}
use lib.ListN.{length, get_or, set, length-set}
use lib.Seq.{get_or-set_same, get_or-set_other}
use Rattle.rules.specs.Line.{Line, line_width, lines_in, is_ret}
use Rattle.rules.specs.Function.{function_at}
use Rattle.rules.proofs.Logic.{Order, less, same, more, order}
use Rattle.rules.proofs.Place.{one_if, function-at-next}
use Rattle.line.specs.Read.{line_kind_at, struct_at, ends_function_lem}
use Rattle.line.proofs.Decode.{length-lines, line_is, ends-ret}
use Rattle.reader.specs.Functions.{passed, Short, Numbered}

function-next : (bs : List ℕ) (k : ℕ) → k < length (lines_in bs) → passed (line_kind_at bs k) (function_at (lines_in bs) k) ≡ function_at (lines_in bs) (suc k)
function-next bs k h =
    by (ends_function_lem (line_kind_at bs k)) (function_at (lines_in bs) k)
    ∙ ap (λ b. function_at (lines_in bs) k + one_if b) (sym (ap is_ret (line_is bs k h) ∙ ends-ret (line_kind_at bs k) (struct_at bs k)))
    ∙ sym (function-at-next (lines_in bs) k h)
  where
    by : (b : Bool) (f : ℕ) → cond b (f + 1) f ≡ f + one_if b
    by true f = refl
    by false f = omega arith

-- which of two, by a test
pub chosen : {b : Bool} (x y : ℕ) → b ≡ true → x ≡ cond b x y
chosen x y e = rw e

pub other : {b : Bool} (x y : ℕ) → b ≡ false → y ≡ cond b x y
other x y e = rw e

-- there are no more functions than lines
function-few : (ls : List Line) (k : ℕ) → function_at ls k ≤ k
unfolding function_at
function-few ls zero = omega arith
function-few [] (suc k) = omega arith
function-few (l ∷ ls) (suc k) = by (is_ret l) (function-few ls k)
  where
    by : (b : Bool) → function_at ls k ≤ k → one_if b + function_at ls k ≤ suc k
    by true h = omega arith
    by false h = omega arith

-- a line beyond the table counts as its end
function-beyond : (ls : List Line) (k : ℕ) → length ls ≤ k → function_at ls (length ls) ≡ function_at ls k
unfolding function_at
function-beyond [] zero h = refl
function-beyond [] (suc k) h = refl
function-beyond (l ∷ ls) zero h = absurd (not-suc-le-zero h)
function-beyond (l ∷ ls) (suc k) h = ap (λ n. one_if (is_ret l) + n) (function-beyond ls k (omega arith))

-- the words of the lines before this one are filled
pub record Numbering (bs owners : List ℕ) (f line : ℕ) : Type 0 where
  pub length_is : length owners ≡ 2049
  pub few : line ≤ length bs / line_width
  pub function_is : f ≡ function_at (lines_in bs) line
  pub each : (k : ℕ) → k < line → get_or owners k 0 ≡ function_at (lines_in bs) k

pub numbering-first : {bs owners : List ℕ} → length owners ≡ 2049 → Numbering bs owners 0 0
unfolding function_at
numbering-first {bs} {owners} h = record { length_is = h; few = omega arith; function_is = refl; each = λ k l. absurd (not-suc-le-zero l) }

pub few_functions : {bs owners : List ℕ} {f line : ℕ} → Numbering bs owners f line → f ≤ line
few_functions {bs} {line = line} n = omega (arith, n.function_is, function-few (lines_in bs) line)

-- one word more
filled : {bs owners owners' : List ℕ} {f line : ℕ} → Numbering bs owners f line → line < 2049 → owners' ≡ set owners line f
    → (k : ℕ) → k < suc line → get_or owners' k 0 ≡ function_at (lines_in bs) k
filled {bs} {owners} {owners'} {f} {line} n s e k h = ap (λ x. get_or x k 0) e ∙ by (order k line)
  where
    by : Order k line → get_or (set owners line f) k 0 ≡ function_at (lines_in bs) k
    by (less l) = get_or-set_other owners line k f 0 (omega arith) ∙ n.each k l
    by (same q) =
        ap (λ x. get_or (set owners line f) x 0) q ∙ get_or-set_same owners line f 0 (omega (arith, n.length_is)) ∙ n.function_is
        ∙ ap (function_at (lines_in bs)) (sym q)
    by (more l) = absurd (let z : ⊥ = omega arith in z)

pub numbering-next : {bs owners owners' : List ℕ} {f f' line : ℕ} → Short bs → Numbering bs owners f line → line < length bs / line_width
    → owners' ≡ set owners line f → f' ≡ passed (line_kind_at bs line) f → Numbering bs owners' f' (line + 1)
numbering-next {bs} {owners} {owners'} {f} {f'} {line} s n l e p =
    let i : line < length (lines_in bs) = omega (arith, length-lines bs) in
    let q : line + 1 ≡ suc line = omega arith in
    let b : line < 2049 = omega (arith, s.short) in
    record {
      length_is = ap length e ∙ length-set owners line f ∙ n.length_is;
      few = omega arith;
      function_is = p ∙ ap (passed (line_kind_at bs line)) n.function_is ∙ function-next bs line i ∙ ap (function_at (lines_in bs)) (sym q);
      each = λ k h. filled n b e k (omega arith);
    }

pub numbering-last : {bs owners owners' : List ℕ} {f line : ℕ} → Short bs → Numbering bs owners f line → length bs / line_width ≤ line
    → owners' ≡ set owners (length bs / line_width) f → Numbered bs owners'
numbering-last {bs} {owners} {f = f} {line = line} s n l e =
    let b : line < 2049 = omega (arith, s.short, n.few) in
    let q : length bs / line_width ≡ line = omega (arith, n.few) in
    record { each = λ k h. filled n b (e ∙ ap (λ i. set owners i f) q) k (omega (arith, length-lines bs)) }

pub ruleset numberings = (numbering-first, numbering-next, numbering-last)

-- the word that a call's function is read from
pub owner-inside : {bs owners : List ℕ} {k : ℕ} → Numbered bs owners → k < length bs / line_width → get_or owners k 0 ≡ function_at (lines_in bs) k
owner-inside {bs} {k = k} n h = n.each k (omega (arith, length-lines bs))

pub owner-beyond : {bs owners : List ℕ} {k : ℕ} → Numbered bs owners → length bs / line_width ≤ k → get_or owners (length bs / line_width) 0 ≡ function_at (lines_in bs) k
owner-beyond {bs} {owners} {k} n h =
    let q = length-lines bs in
    ap (λ x. get_or owners x 0) (sym q) ∙ n.each (length (lines_in bs)) (omega arith) ∙ function-beyond (lines_in bs) k (omega arith)
