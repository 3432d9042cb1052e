-- What a form owes the simulation: in an unstruck run what a function keeps is settled by the place alone. Every law is about one kind
-- of line; none is about a run. Assumes nothing.
use mathlib.Core.Logic.{◌≢◌, ◌⊎◌}
use mathlib.Core.Path.{◌≡◌}
use mathlib.Core.Bool.{Bool, true, false}
use mathlib.Core.List.{List, [], ◌∷◌}
use Prim.Native.Nat.{ℕ, suc, ◌+◌, ◌-◌, ◌≤◌, ◌<◌}
use Rattle.rules.specs.declared.operands.Operands.{Operands}
use Rattle.rules.specs.declared.kind.Kind.TheVariants.{Do, End, Break, Continue, Call}
use Rattle.rules.specs.Row.{Table, kind_at, operands_at}
use Rattle.rules.specs.Scan.{body, Open, regions, from_loop, body_region, function_count, function_row}
use Rattle.rules.specs.Value.{base, value}
use Rattle.rules.specs.Line.{Line, tick_line, test_line, leave_line, out_line, call_line, back_line, ret_line}
use Rattle.rules.specs.Harden.{line_of, end_value}
use Rattle.rules.specs.Bounds.{Word}
use Rattle.rules.specs.Form.{Form}
use Rattle.rules.proofs.Scan.{Chain}
use Rattle.rules.proofs.Function.{InFunction}
use Rattle.rules.proofs.Parts.{holding}

-- line ℓ at k passes; it moves what is kept to `after`
abbrev pub Passes : {H : Type 0} → Form H → (k : ℕ) → Line → (own last : H) → Type 0
Passes F k ℓ own last = (F.guard k ℓ).passes own last ≡ true

abbrev pub Moves : {H : Type 0} → Form H → (k : ℕ) → Line → (way : Bool) → (own after : H) → Type 0
Moves F k ℓ way own after = (F.guard k ℓ).moves way own ≡ after

-- guards that stay in their region and look at the running function alone, which goes on at the next line (after a call, when it is back)
pub data Steady (r e a : ℕ) : Line → Type 0 where
  is-tick : Steady r e a (tick_line r e a)
  is_call : (b go : ℕ) → Steady r e a (call_line r e a b go)

-- the body of function n
abbrev pub body_part : Table → (n : ℕ) → Open
body_part t n = record { part = body; opener = function_row t n; region = regions t (function_row t n) }

-- the number of a part's region in its function, and of one that f opens
abbrev pub own_of : Open → List Open → ℕ
own_of f fs = f.region - body_region (f ∷ fs)

abbrev pub new_of : Open → Open → List Open → ℕ
new_of g f fs = g.region - body_region (f ∷ fs)

-- a part's region is not below the body's
abbrev pub NotBelow : Open → List Open → Type 0
NotBelow f fs = body_region (f ∷ fs) ≤ f.region

-- `at k fs w` is kept before line k, where the parts fs are open and the innermost region has reached the value w; a function that ended
-- is seen to have ended at `end n`
pub record Settles {H : Type 0} (t : Table) (F : Form H) : Type 0 where
  pub at : (k : ℕ) → List Open → (w : ℕ) → H
  pub seen : H → ℕ
  pub end : (n : ℕ) → ℕ
  -- function 0 opens; a call opens function n
  pub first_is : F.first ≡ at 0 (body_part t 0 ∷ []) 1
  pub call_opens : (k n r e a : ℕ) → (F.guard k (call_line r e a (base t (regions t (function_row t n))) (line_of t (suc (function_row t n))))).opens
      ≡ at (line_of t (suc (function_row t n))) (body_part t n ∷ []) (base t (regions t (function_row t n)))
  -- a do
  pub over_do : {n i : ℕ} {f : Open} {fs : List Open} → InFunction t n i f fs → kind_at t i ≡ Do → (w : ℕ)
      → at (line_of t i) (f ∷ fs) w ≡ at (suc (line_of t i)) (f ∷ fs) w
  -- a tick, a call
  pub steady_passes : (k : ℕ) (f : Open) (fs : List Open) (w v : ℕ) (ℓ : Line) (z : H) → NotBelow f fs → Steady (own_of f fs) w v ℓ
      → Passes F k ℓ (at k (f ∷ fs) w) z
  pub steady_moves : (k : ℕ) (f : Open) (fs : List Open) (w v : ℕ) (ℓ : Line) → NotBelow f fs → Word w → Word v → Steady (own_of f fs) w v ℓ
      → Moves F k ℓ true (at k (f ∷ fs) w) (at (suc k) (f ∷ fs) v)
  -- a test: true, into g; false, into the else part g; false, past the construct
  pub test_passes : (k : ℕ) (f : Open) (fs : List Open) (o : Operands) (w s u a b c go : ℕ) (z : H) → NotBelow f fs
      → Passes F k (test_line o (own_of f fs) s u w a b c go) (at k (f ∷ fs) w) z
  pub test_true : (k : ℕ) (f g : Open) (fs : List Open) (o : Operands) (w u a b c go : ℕ) → NotBelow f fs → body_region (f ∷ fs) ≤ g.region → a ≡ holding t g (f ∷ fs)
      → Word w → Word a → Word b → Moves F k (test_line o (own_of f fs) (new_of g f fs) u w a b c go) true (at k (f ∷ fs) w) (at (suc k) (g ∷ f ∷ fs) b)
  pub test_else : (k : ℕ) (f g : Open) (fs : List Open) (o : Operands) (w s a b c go : ℕ) → NotBelow f fs → body_region (f ∷ fs) ≤ g.region → a ≡ holding t g (f ∷ fs) → g.region ≢ f.region
      → Word w → Word a → Word c → Moves F k (test_line o (own_of f fs) s (new_of g f fs) w a b c go) false (at k (f ∷ fs) w) (at go (g ∷ f ∷ fs) c)
  pub test_past : (k : ℕ) (f : Open) (fs : List Open) (o : Operands) (w s a b c go : ℕ) → NotBelow f fs
      → Word w → Word c → Moves F k (test_line o (own_of f fs) s (own_of f fs) w a b c go) false (at k (f ∷ fs) w) (at go (f ∷ fs) c)
  -- a leave, from f to h around it
  pub leave_passes : (k : ℕ) (f h : Open) (hs : List Open) (w a go : ℕ) (z : H) → NotBelow h hs → Chain f.region (h ∷ hs)
      → Passes F k (leave_line (own_of f (h ∷ hs)) (own_of h hs) w a (holding t f (h ∷ hs)) go) (at k (f ∷ h ∷ hs) w) z
  pub leave_moves : (k : ℕ) (f h : Open) (hs : List Open) (w a go : ℕ) → NotBelow h hs → Chain f.region (h ∷ hs) → Word (holding t f (h ∷ hs)) → Word a
      → Moves F k (leave_line (own_of f (h ∷ hs)) (own_of h hs) w a (holding t f (h ∷ hs)) go) true (at k (f ∷ h ∷ hs) w) (at go (h ∷ hs) a)
  -- an out of row i, from the loop body l to h around the loop
  pub out_passes : {n i : ℕ} {f : Open} {fs : List Open} → InFunction t n i f fs → (kind_at t i ≡ Break) ⊎ (kind_at t i ≡ Continue) → (s u a go : ℕ) (z : H) → NotBelow f fs
      → Passes F (line_of t i) (out_line (own_of f fs) s u (value t f.region i) a go) (at (line_of t i) (f ∷ fs) (value t f.region i)) z
  pub out_moves : {n i : ℕ} {f : Open} {fs : List Open} → InFunction t n i f fs → (kind_at t i ≡ Break) ⊎ (kind_at t i ≡ Continue) → (l h : Open) (hs : List Open) (a go : ℕ)
      → from_loop (f ∷ fs) ≡ l ∷ h ∷ hs → Chain (suc f.region) (f ∷ fs) → body_region (f ∷ fs) ≤ h.region → body_region (h ∷ hs) ≡ body_region (f ∷ fs) → Word a
      → Moves F (line_of t i) (out_line (own_of f fs) (new_of h f fs) (new_of l f fs) (value t f.region i) a go) true (at (line_of t i) (f ∷ fs) (value t f.region i)) (at go (h ∷ hs) a)
  -- a back of row i, where the callee is seen to have ended
  pub back_passes : {n i : ℕ} {f : Open} {fs : List Open} → InFunction t n i f fs → kind_at t i ≡ Call → (w v : ℕ) (z : H) → NotBelow f fs → seen z ≡ end (operands_at t i).n
      → Passes F (suc (line_of t i)) (back_line (own_of f fs) w v (end_value t (operands_at t i).n)) (at (suc (line_of t i)) (f ∷ fs) w) z
  pub back_moves : (k : ℕ) (f : Open) (fs : List Open) (w v b : ℕ) → NotBelow f fs → Word w → Word v
      → Moves F k (back_line (own_of f fs) w v b) true (at k (f ∷ fs) w) (at (suc k) (f ∷ fs) v)
  -- a ret; the host
  pub ret_passes : (k : ℕ) (f : Open) (w a : ℕ) (z : H) → Passes F k (ret_line w a) (at k (f ∷ []) w) z
  pub ret_ends : {n i : ℕ} {f : Open} → InFunction t n i f [] → kind_at t i ≡ End
      → seen ((F.guard (line_of t i) (ret_line (value t f.region i) (value t f.region i + 1))).moves true (at (line_of t i) (f ∷ []) (value t f.region i))) ≡ end n
  pub host_agrees : 0 < function_count t → (d : H) → seen d ≡ end 0 → F.ended d ≡ true
