-- The parts open in the chain are those that the things open as given stand for; so the rows that a switch's own rows stand for fit and
-- are in place, and get nothing but 6. Assumes nothing.
use mathlib.Core.Path.{◌≡◌, refl, sym, ap, ◌∙◌, subst}
use mathlib.Core.Bool.{Bool, true, false, cond, not, ◌&&◌, ◌||◌}
use mathlib.Core.List.{List, [], ◌∷◌, ◌++◌}
use Prim.Native.Nat.{ℕ, zero, suc, ◌+◌, ◌≤◌, ◌<◌}
use native.Mathlib.Nat.{add-zero}
use native.Mathlib.Omega.{arith}
use lib.Dec.{leb}
use lib.ListN.{length, drop, replicate, length-replicate, get_or-replicate}
use lib.Seq.{drop-nil}
use borrow.Author.Tests.{ltb-true, lt-ltb}
use Rattle.rules.specs.declared.operands.Operands.{Operands}
use Rattle.rules.specs.declared.kind.Kind.{Kind}
use Rattle.rules.specs.declared.kind.Kind.TheVariants.{Function, Do, If, Else, Loop, End, Break, Continue, Call, Unknown}
use Rattle.rules.specs.declared.refusal.Refusal.TheVariants.{WrongField, Misplaced, TooManyFunctions, TooManyParts}
use Rattle.rules.specs.Verdict.{Verdict, Accepted}
use Rattle.rules.specs.Limits.{max_functions}
use Rattle.rules.specs.Row.{Row, Table, no_row, row_at, kind_at, operands_at, is_unused, is_variable, fields_fit_lem}
use Rattle.rules.specs.Scan.{Part, then_part, else_part, Open, Shape, pushes, turns, closes, stays, shape_of, turned, open_after_lem, regions, open_at, is_function_lem, functions, is_else, is_end_lem}
use Rattle.rules.specs.Refusal.{refuse_if_lem, and_then}
use Rattle.rules.specs.Check.{wrong_field, misplaced_in, misplaced, too_many_functions, too_many_parts, is_outside, row_verdict}
use Rattle.rules.specs.Switch.{GivenRow, as_is, switch_row, case_row, default_row, GivenTable, given_at, Switch, Thing, construct, switch, things_by, things_after, things_at, if_row, bare_row, else_after, chain_rows, chain_to, chain_of}
use Rattle.rules.specs.Given.{given_fits, is_any, strays, no_part, span_verdict, given_rows_verdict}
use Rattle.rules.specs.Chained.{is_own, Six, none, six, OnlySix}
use Rattle.rules.proofs.Logic.{clash, and_left, and_right}
use Rattle.rules.proofs.Accepted.{then-left, then-right}
use Rattle.rules.proofs.Switch.Chain.{sound-row, chain-grows, in-chain, depth, open-depth}
use Rattle.rules.proofs.Switch.Bound.{Rooted, under-root, rooted}

-- ---- the open parts of a table, past some rows
abbrev pub parts_of : List Open → List Part
parts_of [] = []
parts_of (f ∷ fs) = f.part ∷ parts_of fs

abbrev pub parts_by : Shape → List Part → List Part
parts_by (pushes p) ps = p ∷ ps
parts_by turns [] = []
parts_by turns (p ∷ ps) = turned p ∷ ps
parts_by closes [] = []
parts_by closes (p ∷ ps) = ps
parts_by stays ps = ps

abbrev pub parts_over : Table → List Part → List Part
parts_over [] ps = ps
parts_over (r ∷ rs) ps = parts_over rs (parts_by (shape_of r.kind) ps)

parts-by : (s : Shape) (i g : ℕ) (fs : List Open) → parts_of (open_after_lem s i g fs) ≡ parts_by s (parts_of fs)
parts-by (pushes p) i g fs = refl
parts-by turns i g [] = refl
parts-by turns i g (f ∷ fs) = refl
parts-by closes i g [] = refl
parts-by closes i g (f ∷ fs) = refl
parts-by stays i g fs = refl

pub parts_next : (c : Table) (j : ℕ) (r : Row) → row_at c j ≡ r → parts_of (open_at c (suc j)) ≡ parts_by (shape_of r.kind) (parts_of (open_at c j))
unfolding open_at
parts_next c j r e =
    parts-by (shape_of (kind_at c j)) j (regions c j) (open_at c j) ∙ ap (λ x. parts_by (shape_of x.kind) (parts_of (open_at c j))) e

pub parts-over : (c : Table) (j : ℕ) (rs : Table) → ((k : ℕ) → k < length rs → row_at c (j + k) ≡ row_at rs k)
    → parts_of (open_at c (j + length rs)) ≡ parts_over rs (parts_of (open_at c j))
parts-over c j [] h = ap (λ x. parts_of (open_at c x)) (add-zero j)
parts-over c j (r ∷ rs) h =
    let q : j + suc (length rs) ≡ suc j + length rs = omega arith in
    ap (λ x. parts_of (open_at c x)) q
    ∙ parts-over c (suc j) rs (λ k l. let m : suc j + k ≡ j + suc k = omega arith in ap (row_at c) m ∙ h (suc k) (omega arith))
    ∙ ap (parts_over rs) (parts_next c j r (ap (row_at c) (sym (add-zero j)) ∙ h 0 (omega arith)))

-- ---- what the open things stand for: a case a then part, in the else part of the case before it; a default an else part
abbrev last_part : (in_default : Bool) → Part
last_part d = cond d else_part then_part

abbrev CaseParts : Part → (used : List ℕ) → List Part → Type 0
CaseParts p [] ps = Unit {0}
CaseParts p (n ∷ ns) [] = ⊥
CaseParts p (n ∷ ns) (q ∷ ps) = (q ≡ p) × CaseParts else_part ns ps

abbrev pub Matches : List Thing → List Part → Type 0
Matches [] ps = Unit {0}
Matches (construct ∷ ts) [] = ⊥
Matches (construct ∷ ts) (p ∷ ps) = Matches ts ps
Matches (switch s ∷ ts) ps = CaseParts (last_part s.in_default) s.used ps × Matches ts (drop (length s.used) ps)

ends-drop : (n : ℕ) (ps : List Part) → parts_over (replicate n (bare_row End)) ps ≡ drop n ps
ends-drop zero ps = refl
ends-drop (suc n) [] = ends-drop n [] ∙ drop-nil n
ends-drop (suc n) (p ∷ ps) = ends-drop n ps

matches-outside : (s : Shape) (ps : List Part) → Matches (things_by s []) (parts_by s ps)
matches-outside (pushes p) ps = tt
matches-outside turns ps = tt
matches-outside closes ps = tt
matches-outside stays ps = tt

matches-inside : (s : Shape) (ts : List Thing) (p : Part) (ps : List Part) → Matches ts ps → Matches (things_by s (construct ∷ ts)) (parts_by s (p ∷ ps))
matches-inside (pushes q) ts p ps h = h
matches-inside turns ts p ps h = h
matches-inside closes ts p ps h = h
matches-inside stays ts p ps h = h

matches-kind : (k : Kind) (o : Operands) (s : Switch) (ts : List Thing) (ps : List Part) → is_else k || (no_part s && not (is_end_lem k)) ≡ false → Matches (switch s ∷ ts) ps
    → Matches (things_by (shape_of k) (switch s ∷ ts))
    (parts_over (cond (is_end_lem k) (replicate (length s.used) (bare_row End)) (record { kind = k; operands = o } ∷ [])) ps)
matches-kind Function o s ts ps e h = h
matches-kind Do o s ts ps e h = h
matches-kind If o s ts ps e h = h
matches-kind Else o s ts ps e h = clash refl e
matches-kind Loop o s ts ps e h = h
matches-kind End o s ts ps e h = subst (Matches ts) (sym (ends-drop (length s.used) ps)) h.1
matches-kind Break o s ts ps e h = h
matches-kind Continue o s ts ps e h = h
matches-kind Call o s ts ps e h = h
matches-kind Unknown o s ts ps e h = h

matches-case : (d : Bool) (used : List ℕ) (p n : ℕ) (ts : List Thing) (ps : List Part) → d ≡ false
    → CaseParts (last_part d) used ps × Matches ts (drop (length used) ps)
    → Matches (switch (record { p = p; used = n ∷ used; in_default = d }) ∷ ts) (parts_over (else_after used ++ (if_row p n ∷ [])) ps)
matches-case true used p n ts ps e h = clash refl e
matches-case false [] p n ts ps e h = ((refl, tt), h.1)
matches-case false (m ∷ ms) p n ts [] e h = absurd h.0
matches-case false (m ∷ ms) p n ts (q ∷ ps) e h = ((refl, (ap turned h.0.0, h.0.1)), h.1)

matches-default : (d : Bool) (used : List ℕ) (p : ℕ) (ts : List Thing) (ps : List Part) → d ≡ false
    → CaseParts (last_part d) used ps × Matches ts (drop (length used) ps)
    → Matches (switch (record { p = p; used = used; in_default = true }) ∷ ts) (parts_over (else_after used) ps)
matches-default true used p ts ps e h = clash refl e
matches-default false [] p ts ps e h = (tt, h.1)
matches-default false (m ∷ ms) p ts [] e h = absurd h.0
matches-default false (m ∷ ms) p ts (q ∷ ps) e h = ((ap turned h.0.0, h.0.1), h.1)

matches-after : (r : GivenRow) (ts : List Thing) (ps : List Part) → strays r ts ≡ false → Matches ts ps → Matches (things_after r ts) (parts_over (chain_rows r ts) ps)
unfolding strays
matches-after (as_is r) [] ps e h = matches-outside (shape_of r.kind) ps
matches-after (as_is r) (construct ∷ ts) [] e h = absurd h
matches-after (as_is r) (construct ∷ ts) (p ∷ ps) e h = matches-inside (shape_of r.kind) ts p ps h
matches-after (as_is r) (switch s ∷ ts) ps e h = matches-kind r.kind r.operands s ts ps e h
matches-after (switch_row o) ts ps e h = (tt, h)
matches-after (case_row o) [] ps e h = h
matches-after (case_row o) (construct ∷ ts) ps e h = h
matches-after (case_row o) (switch s ∷ ts) ps e h = matches-case s.in_default s.used s.p o.n ts ps e h
matches-after (default_row o) [] ps e h = h
matches-after (default_row o) (construct ∷ ts) ps e h = h
matches-after (default_row o) (switch s ∷ ts) ps e h = matches-default s.in_default s.used s.p ts ps e h

pub matches : (g : GivenTable) (i : ℕ) → i ≤ length g → given_rows_verdict g (chain_of g) i ≡ Accepted
    → Matches (things_at g i) (parts_of (open_at (chain_of g) (length (chain_to g i))))
unfolding things_at chain_to open_at given_rows_verdict
matches g zero h e = tt
matches g (suc i) h e =
    let rs = chain_rows (given_at g i) (things_at g i) in
    let j = length (chain_to g i) in
    subst (Matches (things_at g (suc i)))
    (sym (ap (λ x. parts_of (open_at (chain_of g) x)) (chain-grows g i)
    ∙ parts-over (chain_of g) j rs (λ k l. (in-chain g i k (length g) h l).row_is)))
    (matches-after (given_at g i) (things_at g i) (parts_of (open_at (chain_of g) j)) (sound-row g (chain_of g) i (then-right (given_rows_verdict g (chain_of g) i) _ e)).placed
    (matches g i (omega arith) (then-left _ _ e)))

-- ---- every open switch is on one of the variables
abbrev Variables : List Thing → Type 0
Variables [] = Unit {0}
Variables (construct ∷ ts) = Variables ts
Variables (switch s ∷ ts) = (s.p < 16) × Variables ts

variables-by : (s : Shape) (ts : List Thing) → Variables ts → Variables (things_by s ts)
variables-by (pushes p) ts h = h
variables-by turns ts h = h
variables-by closes [] h = tt
variables-by closes (construct ∷ ts) h = h
variables-by closes (switch s ∷ ts) h = h.1
variables-by stays ts h = h

variables-after : (r : GivenRow) (ts : List Thing) → given_fits r ≡ true → Variables ts → Variables (things_after r ts)
unfolding given_fits
variables-after (as_is r) ts e h = variables-by (shape_of r.kind) ts h
variables-after (switch_row o) ts e h =
    (ltb-true o.p 16 (and_right (is_unused o.op) _ (and_left _ _ (and_left (is_unused o.op && is_variable o.p && is_unused o.q) _ e))), h)
variables-after (case_row o) [] e h = h
variables-after (case_row o) (construct ∷ ts) e h = h
variables-after (case_row o) (switch s ∷ ts) e h = h
variables-after (default_row o) [] e h = h
variables-after (default_row o) (construct ∷ ts) e h = h
variables-after (default_row o) (switch s ∷ ts) e h = h

variables : (g : GivenTable) (c : Table) (i : ℕ) → given_rows_verdict g c i ≡ Accepted → Variables (things_at g i)
unfolding given_rows_verdict things_at
variables g c zero e = tt
variables g c (suc i) e =
    variables-after (given_at g i) (things_at g i) (sound-row g c i (then-right (given_rows_verdict g c i) _ e)).fits (variables g c i (then-left _ _ e))

-- ---- a row of the chain that fits and is in place gets nothing but 6
six-then : {u v : Verdict} → Six u → Six v → Six (and_then u v)
six-then {u} {v} (none p) (none q) = none (ap (λ x. and_then x v) p ∙ q)
six-then {u} {v} (none p) (six q) = six (ap (λ x. and_then x v) p ∙ q)
six-then {u} {v} (six p) w = six (ap (λ x. and_then x v) p)

six-causes : (a b c d : Bool) → a ≡ false → b ≡ false → c ≡ false
    → Six (and_then (refuse_if_lem a WrongField) (and_then (refuse_if_lem b Misplaced) (and_then (refuse_if_lem c TooManyFunctions) (refuse_if_lem d TooManyParts))))
six-causes true b c d p q r = clash refl p
six-causes false true c d p q r = clash refl q
six-causes false false true d p q r = clash refl r
six-causes false false false true p q r = six refl
six-causes false false false false p q r = none refl

six-row : (c : Table) (j : ℕ) (k : Kind) (o : Operands) → row_at c j ≡ record { kind = k; operands = o } → fields_fit_lem k o ≡ true
    → misplaced_in k (open_at c j) ≡ false → is_function_lem k ≡ false → Six (row_verdict c j)
unfolding row_verdict
six-row c j k o e f m n =
    six-causes (wrong_field c j) (misplaced c j) (too_many_functions c j) (too_many_parts c j)
    (ap (λ r. not (fields_fit_lem r.kind r.operands)) e ∙ ap not f) (ap (λ r. misplaced_in r.kind (open_at c j)) e ∙ m)
    (ap (λ r. is_function_lem r.kind && leb max_functions (functions c j)) e ∙ ap (λ b. b && leb max_functions (functions c j)) n)

-- in place: an else in a then part, an if or an end in any part
else-placed : (fs : List Open) (p : Part) (ps : List Part) → parts_of fs ≡ p ∷ ps → p ≡ then_part → misplaced_in Else fs ≡ false
unfolding misplaced_in
else-placed [] p ps e q = clash {b = true} refl cc
else-placed (f ∷ fs) p ps e q = let z : f.part ≡ then_part = cc in rw z

not-outside : (fs : List Open) (p : Part) (ps : List Part) → parts_of fs ≡ p ∷ ps → is_outside fs ≡ false
not-outside [] p ps e = clash {b = true} refl cc
not-outside (f ∷ fs) p ps e = refl

if-fits : (p n : ℕ) → p < 16 → fields_fit_lem If (if_row p n).operands ≡ true
unfolding fields_fit_lem
if-fits p n h = ap (λ b. b && true) (lt-ltb p 16 h)

module _ (c : Table) where
  if-six : (j p n : ℕ) → row_at c j ≡ if_row p n → p < 16 → is_outside (open_at c j) ≡ false → Six (row_verdict c j)
  unfolding misplaced_in
  if-six j p n e h o = six-row c j If (if_row p n).operands e (if-fits p n h) o refl

  else-six : (j : ℕ) (q : Part) (ps : List Part) → row_at c j ≡ bare_row Else → parts_of (open_at c j) ≡ q ∷ ps → q ≡ then_part → Six (row_verdict c j)
  unfolding fields_fit_lem
  else-six j q ps e o h = six-row c j Else _ e refl (else-placed (open_at c j) q ps o h) refl

  ends-six : (j : ℕ) (p : Part) (used : List ℕ) (ps : List Part) → parts_of (open_at c j) ≡ ps → CaseParts p used ps
      → ((k : ℕ) → k < length used → row_at c (j + k) ≡ bare_row End) → Six (span_verdict c j (length used))
  unfolding span_verdict fields_fit_lem misplaced_in
  ends-six j p [] ps o h r = none refl
  ends-six j p (n ∷ ns) [] o h r = absurd h
  ends-six j p (n ∷ ns) (q ∷ ps) o h r =
      let e : row_at c j ≡ bare_row End = ap (row_at c) (sym (add-zero j)) ∙ r 0 (omega arith) in
      six-then (six-row c j End _ e refl (not-outside (open_at c j) q ps o) refl)
      (ends-six (suc j) else_part ns ps (parts_next c j (bare_row End) e ∙ ap (parts_by closes) o) h.1
      (λ k l. let m : suc j + k ≡ j + suc k = omega arith in ap (row_at c) m ∙ r (suc k) (omega arith)))

  close-six : (j : ℕ) (b : Bool) (r : Row) (p : Part) (used : List ℕ) → b ≡ true → CaseParts p used (parts_of (open_at c j))
      → ((k : ℕ) → k < length (cond b (replicate (length used) (bare_row End)) (r ∷ [])) → row_at c (j + k) ≡ row_at (cond b (replicate (length used) (bare_row End)) (r ∷ [])) k)
      → Six (span_verdict c j (length (cond b (replicate (length used) (bare_row End)) (r ∷ []))))
  close-six j false r p used e h q = clash e refl
  close-six j true r p used e h q =
      let n = length-replicate (length used) (bare_row End) in
      subst (λ x. Six (span_verdict c j x)) (sym n)
      (ends-six j p used (parts_of (open_at c j)) refl h (λ k l. q k (omega arith) ∙ get_or-replicate (length used) k (bare_row End) no_row l))

  case-six : (j p n : ℕ) (used : List ℕ) (ps : List Part) → parts_of (open_at c j) ≡ ps → is_outside (open_at c j) ≡ false → p < 16 → CaseParts then_part used ps
      → ((k : ℕ) → k < length (else_after used ++ (if_row p n ∷ [])) → row_at c (j + k) ≡ row_at (else_after used ++ (if_row p n ∷ [])) k)
      → Six (span_verdict c j (length (else_after used ++ (if_row p n ∷ []))))
  unfolding span_verdict
  case-six j p n [] ps o out h q r =
      six-then (if-six j p n (ap (row_at c) (sym (add-zero j)) ∙ r 0 (omega arith)) h out) (none refl)
  case-six j p n (m ∷ ms) [] o out h q r = absurd q
  case-six j p n (m ∷ ms) (x ∷ ps) o out h q r =
      let e : row_at c j ≡ bare_row Else = ap (row_at c) (sym (add-zero j)) ∙ r 0 (omega arith) in
      let one : suc j ≡ j + 1 = omega arith in
      six-then (else-six j x ps e o q.0)
      (six-then (if-six (suc j) p n (ap (row_at c) one ∙ r 1 (omega arith)) h
      (not-outside (open_at c (suc j)) (turned x) ps (parts_next c j (bare_row Else) e ∙ ap (parts_by turns) o))) (none refl))

  default-six : (j : ℕ) (used : List ℕ) (ps : List Part) → parts_of (open_at c j) ≡ ps → CaseParts then_part used ps
      → ((k : ℕ) → k < length (else_after used) → row_at c (j + k) ≡ row_at (else_after used) k) → Six (span_verdict c j (length (else_after used)))
  unfolding span_verdict
  default-six j [] ps o q r = none refl
  default-six j (m ∷ ms) [] o q r = absurd q
  default-six j (m ∷ ms) (x ∷ ps) o q r =
      six-then (else-six j x ps (ap (row_at c) (sym (add-zero j)) ∙ r 0 (omega arith)) o q.0) (none refl)

  -- a row 0b, 0c or a closing 06, by what is open
  own-six : (r : GivenRow) (ts : List Thing) (j : ℕ) → strays r ts ≡ false → is_own r ts ≡ true → Matches ts (parts_of (open_at c j)) → Variables ts
      → is_outside (open_at c j) ≡ not (is_any ts)
      → ((k : ℕ) → k < length (chain_rows r ts) → row_at c (j + k) ≡ row_at (chain_rows r ts) k) → Six (span_verdict c j (length (chain_rows r ts)))
  unfolding strays span_verdict
  own-six (as_is r) [] j e w m v o q = clash w refl
  own-six (as_is r) (construct ∷ ts) j e w m v o q = clash w refl
  own-six (as_is r) (switch s ∷ ts) j e w m v o q = close-six j (is_end_lem r.kind) r (last_part s.in_default) s.used w m.0 q
  own-six (switch_row o) ts j e w m v x q = none refl
  own-six (case_row o) [] j e w m v x q = clash refl e
  own-six (case_row o) (construct ∷ ts) j e w m v x q = clash refl e
  own-six (case_row o) (switch s ∷ ts) j e w m v x q =
      case-six j s.p o.n s.used (parts_of (open_at c j)) refl x v.0 (subst (λ d. CaseParts (last_part d) s.used (parts_of (open_at c j))) e m.0) q
  own-six (default_row o) [] j e w m v x q = clash refl e
  own-six (default_row o) (construct ∷ ts) j e w m v x q = clash refl e
  own-six (default_row o) (switch s ∷ ts) j e w m v x q =
      default-six j s.used (parts_of (open_at c j)) refl (subst (λ d. CaseParts (last_part d) s.used (parts_of (open_at c j))) e m.0) q

outside-any : (fs : List Open) (ts : List Thing) → Rooted ts → length fs ≡ depth ts → is_outside fs ≡ not (is_any ts)
outside-any [] [] r e = refl
outside-any [] (t ∷ ts) r e = absurd (omega (arith, under-root t ts r))
outside-any (f ∷ fs) [] r e = absurd (omega arith)
outside-any (f ∷ fs) (t ∷ ts) r e = refl

pub only-six : OnlySix
only-six g i h e p w =
    let c = chain_of g in
    let j = length (chain_to g i) in
    own-six c (given_at g i) (things_at g i) j p w (matches g i (omega arith) e) (variables g c i e)
    (outside-any (open_at c j) (things_at g i) (rooted g c i e) (open-depth g (length g) i (omega arith)))
    (λ k l. (in-chain g i k (length g) h l).row_is)

-- ---- every row of the chain that a row stands for has its fields as its kind uses them
ends-fit : (n k : ℕ) → k < n → fields_fit_lem (kind_at (replicate n (bare_row End)) k) (operands_at (replicate n (bare_row End)) k) ≡ true
unfolding fields_fit_lem
ends-fit n k h = ap (λ r. fields_fit_lem r.kind r.operands) (get_or-replicate n k (bare_row End) no_row h)

one-fits : (r : Row) (k : ℕ) → fields_fit_lem r.kind r.operands ≡ true → k < 1 → fields_fit_lem (kind_at (r ∷ []) k) (operands_at (r ∷ []) k) ≡ true
one-fits r zero e h = e
one-fits r (suc k) e h = absurd (omega arith)

closing-fit : (b : Bool) (r : Row) (n k : ℕ) → fields_fit_lem r.kind r.operands ≡ true → k < length (cond b (replicate n (bare_row End)) (r ∷ []))
    → fields_fit_lem (kind_at (cond b (replicate n (bare_row End)) (r ∷ [])) k) (operands_at (cond b (replicate n (bare_row End)) (r ∷ [])) k) ≡ true
closing-fit true r n k e h = ends-fit n k (omega (arith, length-replicate n (bare_row End)))
closing-fit false r n k e h = one-fits r k e h

case-fit : (used : List ℕ) (p n k : ℕ) → p < 16 → k < length (else_after used ++ (if_row p n ∷ []))
    → fields_fit_lem (kind_at (else_after used ++ (if_row p n ∷ [])) k) (operands_at (else_after used ++ (if_row p n ∷ [])) k) ≡ true
unfolding fields_fit_lem
case-fit [] p n k h l = one-fits (if_row p n) k (if-fits p n h) l
case-fit (m ∷ ms) p n zero h l = refl
case-fit (m ∷ ms) p n (suc k) h l = one-fits (if_row p n) k (if-fits p n h) (omega arith)

else-fit : (used : List ℕ) (k : ℕ) → k < length (else_after used) → fields_fit_lem (kind_at (else_after used) k) (operands_at (else_after used) k) ≡ true
unfolding fields_fit_lem
else-fit [] k l = absurd (omega arith)
else-fit (m ∷ ms) k l = one-fits (bare_row Else) k refl l

rows_fit : (r : GivenRow) (ts : List Thing) (k : ℕ) → given_fits r ≡ true → Variables ts → k < length (chain_rows r ts)
    → fields_fit_lem (kind_at (chain_rows r ts) k) (operands_at (chain_rows r ts) k) ≡ true
unfolding given_fits
rows_fit (as_is r) [] k e v l = one-fits r k e l
rows_fit (as_is r) (construct ∷ ts) k e v l = one-fits r k e l
rows_fit (as_is r) (switch s ∷ ts) k e v l = closing-fit (is_end_lem r.kind) r (length s.used) k e l
rows_fit (switch_row o) ts k e v l = absurd (omega arith)
rows_fit (case_row o) [] k e v l = absurd (omega arith)
rows_fit (case_row o) (construct ∷ ts) k e v l = absurd (omega arith)
rows_fit (case_row o) (switch s ∷ ts) k e v l = case-fit s.used s.p o.n k v.0 l
rows_fit (default_row o) [] k e v l = absurd (omega arith)
rows_fit (default_row o) (construct ∷ ts) k e v l = absurd (omega arith)
rows_fit (default_row o) (switch s ∷ ts) k e v l = else-fit s.used k l

pub chain_fits : (g : GivenTable) (c : Table) (i k : ℕ) → given_rows_verdict g c i ≡ Accepted → given_fits (given_at g i) ≡ true
    → k < length (chain_rows (given_at g i) (things_at g i))
    → fields_fit_lem (kind_at (chain_rows (given_at g i) (things_at g i)) k) (operands_at (chain_rows (given_at g i) (things_at g i)) k) ≡ true
chain_fits g c i k e f l = rows_fit (given_at g i) (things_at g i) k f (variables g c i e) l
