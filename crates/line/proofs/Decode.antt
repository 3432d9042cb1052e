-- The lines that bytes spell, by their kinds and fields. Assumes nothing.
use mathlib.Core.Path.{◌≡◌, refl, sym, ap, ◌∙◌, subst}
use mathlib.Core.Bool.{Bool, true, false, cond}
use mathlib.Core.List.{List}
use Prim.Native.Nat.{ℕ, zero, suc, ◌+◌, ◌*◌, ◌/◌, ◌≤◌, ◌<◌}
use native.Mathlib.Nat.{add-zero, not-suc-le-zero}
use native.Mathlib.Omega.{arith}
use lib.Dec.{eqb}
use lib.ListN.{length, get_or}
use Rattle.rules.specs.Line.{line_width, line_in_lem, lines_from, lines_in, line_at, is_ret}
use Rattle.line.specs.declared.Line as Declared
use Rattle.line.specs.declared.kind.LineKind.{LineKind}
use Rattle.line.specs.declared.kind.LineKind.TheVariants.{Do, Tick, Test, Leave, Out, Call, Back, Ret}
use Rattle.line.specs.Read.{line_kind_of, line_kind_at, struct_at, as_line, ends_function_lem}

-- ---- a line by its kind and fields
by_kind : (l : Declared.Line) (b₁ b₂ b₃ b₄ b₅ b₆ b₇ : Bool)
    → cond b₁ (as_line Do l)
    (cond b₂ (as_line Tick l)
    (cond b₃ (as_line Test l)
    (cond b₄ (as_line Leave l) (cond b₅ (as_line Out l) (cond b₆ (as_line Call l) (cond b₇ (as_line Back l) (as_line Ret l)))))))
    ≡ as_line (cond b₁ Do (cond b₂ Tick (cond b₃ Test (cond b₄ Leave (cond b₅ Out (cond b₆ Call (cond b₇ Back Ret))))))) l
by_kind l true b₂ b₃ b₄ b₅ b₆ b₇ = refl
by_kind l false true b₃ b₄ b₅ b₆ b₇ = refl
by_kind l false false true b₄ b₅ b₆ b₇ = refl
by_kind l false false false true b₅ b₆ b₇ = refl
by_kind l false false false false true b₆ b₇ = refl
by_kind l false false false false false true b₇ = refl
by_kind l false false false false false false true = refl
by_kind l false false false false false false false = refl

line_read : (bs : List ℕ) (k : ℕ) → line_in_lem bs (line_width * k) ≡ as_line (line_kind_at bs k) (struct_at bs k)
unfolding line_in_lem line_kind_of struct_at
line_read bs k =
    let b = get_or bs (line_width * k) 0 in
    by_kind (struct_at bs k) (eqb b 0x21) (eqb b 0x22) (eqb b 0x23) (eqb b 0x24) (eqb b 0x25) (eqb b 0x26) (eqb b 0x27)

-- ---- the lines in order
length_from : (bs : List ℕ) (i n : ℕ) → length (lines_from bs i n) ≡ n
unfolding lines_from
length_from bs i zero = refl
length_from bs i (suc n) = ap suc (length_from bs (suc i) n)

line-from : (bs : List ℕ) (i n j : ℕ) → j < n → line_at (lines_from bs i n) j ≡ line_in_lem bs (line_width * (i + j))
unfolding lines_from
line-from bs i zero j h = absurd (not-suc-le-zero h)
line-from bs i (suc n) zero h = ap (λ x. line_in_lem bs (line_width * x)) (sym (add-zero i))
line-from bs i (suc n) (suc j) h =
    line-from bs (suc i) n j (omega arith) ∙ ap (λ x. line_in_lem bs (line_width * x)) (let e : suc i + j ≡ i + suc j = omega arith in e)

pub length-lines : (bs : List ℕ) → length (lines_in bs) ≡ length bs / line_width
unfolding lines_in
length-lines bs = length_from bs 0 (length bs / line_width)

pub line_is : (bs : List ℕ) (k : ℕ) → k < length (lines_in bs) → line_at (lines_in bs) k ≡ as_line (line_kind_at bs k) (struct_at bs k)
unfolding lines_in
line_is bs k h =
    line-from bs 0 (length bs / line_width) k (subst (λ n. k < n) (length_from bs 0 (length bs / line_width)) h)
    ∙ ap (λ x. line_in_lem bs (line_width * x)) (let e : 0 + k ≡ k = omega arith in e) ∙ line_read bs k

pub line-bytes : (bs : List ℕ) (k : ℕ) → k < length (lines_in bs) → line_width * k + line_width ≤ length bs
line-bytes bs k h = omega (arith, length-lines bs)

-- ---- a line that ends its function is a ret
pub ends-ret : (kd : LineKind) (l : Declared.Line) → is_ret (as_line kd l) ≡ ends_function_lem kd
ends-ret Do l = refl
ends-ret Tick l = refl
ends-ret Test l = refl
ends-ret Leave l = refl
ends-ret Out l = refl
ends-ret Call l = refl
ends-ret Back l = refl
ends-ret Ret l = refl
