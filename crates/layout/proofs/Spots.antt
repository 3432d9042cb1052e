-- What the readers of a row answer: its spot, the region that it opens, line numbers, its opener, its loop, its callee.
-- Assumes nothing.
use mathlib.Core.Path.{◌≡◌, refl, sym, ap, ◌∙◌, subst}
use mathlib.Core.Bool.{Bool}
use mathlib.Core.List.{List, ◌∷◌}
use Prim.Native.Nat.{ℕ, suc, ◌+◌, ◌-◌, ◌/◌, ◌≤◌, ◌<◌}
use native.Mathlib.Numerals.{add-one}
use native.Mathlib.Omega.{arith}
use lib.ListN.{length, get_or}
use lib.Dec.{eqb}
use Rattle.rules.specs.declared.kind.Kind.{Kind}
use Rattle.rules.specs.declared.kind.Kind.TheVariants.{Call}
use Rattle.rules.specs.Row.{table_of, kind_at, operands_at}
use Rattle.rules.specs.Scan.{Part, loop_body, Open, pushes, shape_of, regions, open_at, region_of, body_region, opener_of, around, from_loop, end_of, function_count, function_row}
use Rattle.rules.specs.Value.{base, value}
use Rattle.rules.specs.Check.{is_outside}
use Rattle.rules.specs.Harden.{line_of}
use Rattle.rules.specs.Links.{is_opening}
use Rattle.rules.proofs.Scan.{Chain, chain, body-least, regions-mono, opening-pushes}
use Rattle.rules.proofs.Value.{held}
use Rattle.rules.proofs.Accepted.{proper, table-length}
use Rattle.rules.proofs.Close.{end_is}
use Rattle.rules.proofs.Function.{function-at, function-end, callee_known}
use Rattle.rules.proofs.RegionBound.{own-bound, opened-bound, functions-bound}
use Rattle.layout.specs.declared.scope.Scope.{Scope}
use Rattle.layout.specs.declared.spot.Spot.{Spot}
use Rattle.rules.specs.declared.operands.Operands.{Operands}
use Rattle.layout.specs.Scope.{scope_of, Surveyed, Stands}
use Rattle.layout.specs.Number.{value_of, Based, Valued}
use Rattle.layout.specs.Spot.{Near, Inside, InLoop, Opens, Grows, SpotIs, child_of_lem, in_body, is_loop_lem, OpenerIs, LoopIs, CalleeIs, Head, end_of_body, Ends, Heads}
use Rattle.layout.proofs.Survey.{some-open}
use Rattle.layout.proofs.Numbers.{value_low}
use Rattle.layout.proofs.Around.{pushes-opening, opened-by, loop-at}

-- ---- regions by their numbers in the function
-- row i is within the table
in_table : {bs : List ℕ} {i : ℕ} → Inside bs i → i < length (table_of bs)
in_table {bs} o = omega (arith, table-length bs, o.row)

-- the regions of the function that row i stands in: its own, and those that it opens
own-near : {bs : List ℕ} {m : List Scope} {i : ℕ} → Surveyed bs m → Inside bs i → Near (region_of (open_at (table_of bs) i)) (body_region (open_at (table_of bs) i))
own-near {bs} {m} {i} s o = let z = some-open (open_at (table_of bs) i) o.within in by z.0 z.1 z.2
  where
    by : (f : Open) (fs : List Open) → open_at (table_of bs) i ≡ f ∷ fs → Near (region_of (open_at (table_of bs) i)) (body_region (open_at (table_of bs) i))
    by f fs q =
        let k : Chain (regions (table_of bs) i) (f ∷ fs) = subst (Chain (regions (table_of bs) i)) q (chain (table_of bs) i) in
        rw q
        (record {
          low = body-least (regions (table_of bs) i) f fs k;
          high = omega (arith, own-bound (table_of bs) (proper bs s.accepted) i (omega (arith, in_table o)) q, body-least (regions (table_of bs) i) f fs k);
        })

pub grows : {bs : List ℕ} {m : List Scope} {i : ℕ} {k : Kind} {p : Part} → Surveyed bs m → Inside bs i → kind_at (table_of bs) i ≡ k → shape_of k ≡ pushes p → Grows bs i
grows {bs} {m} {i} {k} {p} s o e h = let z = some-open (open_at (table_of bs) i) o.within in by z.0 z.1 z.2
  where
    by : (f : Open) (fs : List Open) → open_at (table_of bs) i ≡ f ∷ fs → Grows bs i
    by f fs q =
        let c : Chain (regions (table_of bs) i) (f ∷ fs) = subst (Chain (regions (table_of bs) i)) q (chain (table_of bs) i) in
        let l = body-least (regions (table_of bs) i) f fs c in
        let u = opened-bound (table_of bs) (proper bs s.accepted) i (in_table o) e h q in
        let b : body_region (open_at (table_of bs) i) ≡ body_region (f ∷ fs) = ap body_region q in
        record { row = o.row; near = record { low = omega (arith, c.0, l, b); high = omega (arith, u, c.0, l, b) } }

-- ---- the readers
module _ {bs : List ℕ} {i : ℕ} {here : Scope} (s : Stands bs i here) where
  opened_in : here.opened ≤ regions (table_of bs) (length bs / 6)
  unfolding scope_of
  opened_in = omega (arith, ap (λ x. x.opened) s.is, regions-mono (table_of bs) {i = i} (length bs / 6) s.row)

  pub spot-near : {m : List Scope} → Surveyed bs m → Inside bs i → Near here.region here.body
  unfolding scope_of
  spot-near v o = rw s.is (own-near v o)

  pub spot_is : {values : List ℕ} {r : ℕ} → Valued bs values → Inside bs i → r ≡ here.region - here.body → SpotIs bs i (record { r = r; e = get_or values i 0 })
  unfolding scope_of
  spot_is v o q =
      record {
        r_is = q ∙ ap (λ x. x.region - x.body) s.is;
        e_is = v.each i o.row;
        low = omega (arith, v.each i o.row, value_low bs i s.accepted s.row);
      }

  pub base_is : {bases : List ℕ} {g : ℕ} → Based bs bases → g ≡ here.opened → get_or bases g 0 ≡ base (table_of bs) (regions (table_of bs) i)
  unfolding scope_of
  base_is {bases} {g} b q =
      ap (λ x. get_or bases x 0) q ∙ b.each here.opened opened_in ∙ ap (λ x. base (table_of bs) x.opened) s.is

  pub child_near : Grows bs i → Near here.opened here.body
  unfolding scope_of
  child_near g = rw s.is g.near

  pub child_is : {r : ℕ} → r ≡ here.opened - here.body → r ≡ child_of_lem (table_of bs) i
  unfolding scope_of child_of_lem
  child_is q = q ∙ ap (λ x. x.opened - x.body) s.is

  pub line_is : here.line ≡ line_of (table_of bs) i
  unfolding scope_of
  line_is = ap (λ x. x.line) s.is

  pub in_body_is : eqb here.region here.body ≡ in_body (table_of bs) i
  unfolding scope_of in_body
  in_body_is = ap (λ x. eqb x.region x.body) s.is

  pub opener_is : {o : ℕ} → Inside bs i → o ≡ here.opener → OpenerIs bs i o
  unfolding scope_of
  opener_is {o} n q =
      let z : o ≡ opener_of (open_at (table_of bs) i) = q ∙ ap (λ x. x.opener) s.is in
      let r = opened-by (table_of bs) i (open_at (table_of bs) i) (held (table_of bs) i) n.within in
      record {
        is = z;
        opens = record { row = omega (arith, r.0, s.row); opening = ap (λ x. is_opening (kind_at (table_of bs) x)) z ∙ r.1 };
        before = omega (arith, r.0);
      }

  pub loop_is : {m : List Scope} {o : ℕ} → Surveyed bs m → InLoop bs i → o ≡ here.repeat → LoopIs bs i o
  unfolding scope_of
  loop_is {m} {o} v n q =
      let z : o ≡ opener_of (from_loop (open_at (table_of bs) i)) = q ∙ ap (λ x. x.repeat) s.is in
      let l = loop-at (table_of bs) (proper bs s.accepted) i (omega (arith, table-length bs, s.row)) n.within in
      let u : o < length bs / 6 = omega (arith, l.before, s.row) in
      let h : shape_of (kind_at (table_of bs) o) ≡ pushes loop_body = ap (λ x. shape_of (kind_at (table_of bs) x)) z ∙ l.pushes_it in
      let a : open_at (table_of bs) o ≡ around (from_loop (open_at (table_of bs) i)) = ap (open_at (table_of bs)) z ∙ l.open_is in
      let w : Inside bs o = record { row = u; within = ap is_outside a ∙ l.within } in
      record {
        is = z;
        opens = record { row = u; opening = pushes-opening (kind_at (table_of bs) o) h };
        inside = w;
        grows = grows v w refl h;
        before = omega (arith, l.before);
        open_is = a;
        same_body = ap body_region a ∙ l.body_is;
        region_is = l.region_is ∙ ap (regions (table_of bs)) (sym z);
      }

pub next_is : (bs : List ℕ) (i : ℕ) {l : ℕ} → l ≡ line_of (table_of bs) (i + 1) → l ≡ line_of (table_of bs) (suc i)
next_is bs i q = q ∙ ap (line_of (table_of bs)) (add-one i)

pub past-in : {bs : List ℕ} {m : List Scope} {ends : List ℕ} {i r : ℕ} → Surveyed bs m → Ends bs ends → Opens bs i → r ≡ get_or ends i 0 → r < length bs / 6
past-in {bs} {i = i} s e o q =
    let p = opening-pushes (kind_at (table_of bs) i) o.opening in
    let l : i < length (table_of bs) = omega (arith, table-length bs, o.row) in
    omega (arith, e.each i l o.opening, table-length bs, (end_is (table_of bs) i p.0 (proper bs s.accepted) l p.1).inside)

pub past_is : {bs ends : List ℕ} {i r l : ℕ} → Ends bs ends → Opens bs i → r ≡ get_or ends i 0 → l ≡ line_of (table_of bs) (suc r)
    → l ≡ line_of (table_of bs) (suc (end_of (table_of bs) i))
past_is {bs} {i = i} e o q w = w ∙ ap (λ x. line_of (table_of bs) (suc x)) (q ∙ e.each i (omega (arith, table-length bs, o.row)) o.opening)

pub loop-kind : (k a j : Kind) (b : Bool) → k ≡ a → k ≡ j → b ≡ is_loop_lem j → b ≡ is_loop_lem a
loop-kind k a j b p q e = e ∙ ap is_loop_lem (sym q ∙ p)

pub ruleset access = (spot-near, spot_is, base_is, child_near, child_is, line_is, in_body_is, opener_is, loop_is, next_is, past-in, past_is)

-- ---- callees
module _ {bs : List ℕ} {m : List Scope} {heads : List ℕ} {i x : ℕ} {o : Operands} (s : Surveyed bs m) (h : Heads bs heads) (l : i < length bs / 6) (e : kind_at (table_of bs) i ≡ Call)
    (q : o ≡ operands_at (table_of bs) i) (w : x ≡ o.n) where
  known : (operands_at (table_of bs) i).n < function_count (table_of bs)
  known = callee_known (table_of bs) (proper bs s.accepted) i (omega (arith, table-length bs)) e

  pub head_in : x < length heads
  head_in =
      omega
      (arith, known, h.room, ap (λ o. o.n) q, functions-bound (table_of bs) (proper bs s.accepted) (length (table_of bs)) (omega arith))

  pub callee-is : {r : ℕ} → r ≡ get_or heads x 0 → CalleeIs bs (operands_at (table_of bs) i).n r
  callee-is {r} v =
      let z : r ≡ function_row (table_of bs) (operands_at (table_of bs) i).n
      = v ∙ ap (λ y. get_or heads y 0) (w ∙ ap (λ y. y.n) q) ∙ h.each (operands_at (table_of bs) i).n known in
      let a = function-at (table_of bs) (proper bs s.accepted) (operands_at (table_of bs) i).n known in
      record {
        known = known;
        is = z;
        opens = record { row = omega (arith, a.within, table-length bs); opening = ap (λ y. is_opening (kind_at (table_of bs) y)) z ∙ ap is_opening a.kind_is };
      }

pub ruleset callees = (head_in, callee-is)

end_row : {bs ends : List ℕ} {i x : ℕ} → Ends bs ends → Opens bs i → x ≡ get_or ends i 0 → x ≡ end_of (table_of bs) i
end_row {bs} {ends} {i} e o q = q ∙ e.each i (omega (arith, table-length bs, o.row)) o.opening

pub end-inside : {bs : List ℕ} {m : List Scope} {ends : List ℕ} {i x : ℕ} → Surveyed bs m → Ends bs ends → Head bs i → x ≡ get_or ends i 0 → Inside bs x
end-inside {bs} {m} {ends} {i} {x} s e h q =
    let z : x ≡ end_of (table_of bs) (function_row (table_of bs) h.number) = end_row e h.it.opens q ∙ ap (end_of (table_of bs)) h.it.is in
    let a = function-end (table_of bs) (proper bs s.accepted) h.number h.it.known in
    record { row = omega (arith, a.1.within, table-length bs); within = ap (λ y. is_outside (open_at (table_of bs) y)) z ∙ ap is_outside a.1.open_is }

pub end-is-value : {bs : List ℕ} {m : List Scope} {ends : List ℕ} {i x : ℕ} {u : Spot} → Surveyed bs m → Ends bs ends → Head bs i → x ≡ get_or ends i 0 → SpotIs bs x u
    → u.e + 1 ≡ end_of_body (table_of bs) i
unfolding end_of_body value_of
end-is-value {bs} {m} {ends} {i} {x} s e h q p =
    let y : x ≡ end_of (table_of bs) i = end_row e h.it.opens q in
    let z : x ≡ end_of (table_of bs) (function_row (table_of bs) h.number) = y ∙ ap (end_of (table_of bs)) h.it.is in
    let a = function-end (table_of bs) (proper bs s.accepted) h.number h.it.known in
    let g : region_of (open_at (table_of bs) x) ≡ regions (table_of bs) i
    = ap (λ v. region_of (open_at (table_of bs) v)) z ∙ ap region_of a.1.open_is ∙ a.1.region_is ∙ ap (regions (table_of bs)) (sym h.it.is) in
    ap (λ v. v + 1) (p.e_is ∙ ap (λ v. value (table_of bs) v x) g ∙ ap (value (table_of bs) (regions (table_of bs) i)) y)

pub ruleset body-ends = (end-inside, end-is-value)
