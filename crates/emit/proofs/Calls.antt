-- The lines of call rows, from what the code reads of the row and its callee. Assumes nothing.
use mathlib.Core.Path.{◌≡◌, ap, ◌∙◌}
use mathlib.Core.List.{List}
use Prim.Native.Nat.{ℕ, suc, ◌+◌}
use native.Mathlib.Omega.{arith}
use Rattle.rules.specs.declared.kind.Kind.TheVariants.{Call}
use Rattle.rules.specs.Row.{table_of, kind_at, operands_at}
use Rattle.rules.specs.Scan.{regions, end_of}
use Rattle.rules.specs.Value.{base, value}
use Rattle.rules.specs.Line.{call_line, back_line}
use Rattle.rules.specs.Harden.{line_of, end_value, row_lines}
use Rattle.layout.specs.declared.spot.Spot.{Spot}
use Rattle.layout.specs.Number.{value_of}
use Rattle.layout.specs.Spot.{SpotIs, CalleeIs, end_of_body}
use Rattle.line.specs.declared.Line as Declared
use Rattle.line.specs.Line.{struct}
use Rattle.emit.specs.Emit.{row_line}
use Rattle.emit.proofs.RowLines.{line-of}

same-call : {r e a b g r' e' a' b' g' : ℕ} → r ≡ r' → e ≡ e' → a ≡ a' → b ≡ b' → g ≡ g' → struct (call_line r e a b g) ≡ struct (call_line r' e' a' b' g')
same-call r= e= a= b= g= = rw (r=, e=, a=, b=, g=)

same_back : {r e a b r' e' a' b' : ℕ} → r ≡ r' → e ≡ e' → a ≡ a' → b ≡ b' → struct (back_line r e a b) ≡ struct (back_line r' e' a' b')
same_back r= e= a= b= = rw (r=, e=, a=, b=)

pub call_line_made : {bs : List ℕ} {i o g b : ℕ} {h : Spot} {l : Declared.Line} → kind_at (table_of bs) i ≡ Call → CalleeIs bs (operands_at (table_of bs) i).n o
    → SpotIs bs i h → b ≡ base (table_of bs) (regions (table_of bs) o) → g ≡ line_of (table_of bs) (suc o) → l ≡ struct (call_line h.r h.e (h.e + 1) b g)
    → l ≡ struct (row_line (table_of bs) i 0)
unfolding row_lines value_of
call_line_made {bs} {i} e c a v w q =
    q
    ∙ same-call a.r_is a.e_is (ap (λ x. x + 1) a.e_is) (v ∙ ap (λ x. base (table_of bs) (regions (table_of bs) x)) c.is) (w ∙ ap (λ x. line_of (table_of bs) (suc x)) c.is)
    ∙ ap struct (line-of (table_of bs) i 0 e)

pub back-line : {bs : List ℕ} {i o b : ℕ} {h : Spot} {l : Declared.Line} → kind_at (table_of bs) i ≡ Call → CalleeIs bs (operands_at (table_of bs) i).n o
    → SpotIs bs i h → b ≡ end_of_body (table_of bs) o → l ≡ struct (back_line h.r (h.e + 1) (h.e + 1 + 1) b) → l ≡ struct (row_line (table_of bs) i 1)
unfolding row_lines value_of end_value end_of_body
back-line {bs} {i} {h = h} e c a v q =
    let z : h.e + 1 + 1 ≡ h.e + 2 = omega arith in
    q
    ∙ same_back a.r_is (ap (λ x. x + 1) a.e_is) (z ∙ ap (λ x. x + 2) a.e_is) (v ∙ ap (λ x. value (table_of bs) (regions (table_of bs) x) (end_of (table_of bs) x) + 1) c.is)
    ∙ ap struct (line-of (table_of bs) i 1 e)
