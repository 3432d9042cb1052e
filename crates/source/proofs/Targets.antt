-- What the code that looks up where a row goes may do and answers, from what it reads. Assumes that the table is accepted.
use mathlib.Core.Logic.{◌⊎◌, inl, inr}
use mathlib.Core.Path.{◌≡◌, refl, sym, ap, ◌∙◌, subst}
use mathlib.Core.Bool.{Bool, true, false, cond}
use mathlib.Core.List.{List}
use Prim.Native.Nat.{ℕ, suc, ◌+◌, ◌*◌, ◌/◌, ◌≤◌, ◌<◌}
use native.Mathlib.Numerals.{add-one}
use native.Mathlib.Nat.{eq-or-lt_of_le}
use native.Mathlib.Omega.{arith}
use lib.ListN.{length, get_or, set, length-set}
use lib.Seq.{get_or-set_same, get_or-set_other}
use borrow.Author.Tests.{ltb-true}
use Rattle.rules.specs.declared.kind.Kind.{Kind}
use Rattle.rules.specs.declared.kind.Kind.TheVariants.{Function, Do, If, Else, Loop, End, Break, Continue, Call, Unknown}
use Rattle.rules.specs.Verdict.{Accepted}
use Rattle.rules.specs.Row.{Table, table_of, kind_at, operands_at}
use Rattle.rules.specs.Scan.{Part, body, then_part, else_part, loop_body, open_at, regions, part_of, opener_of, is_loop_body, end_of, else_of}
use Rattle.rules.specs.Check.{verdict_of}
use Rattle.rules.specs.Links.{is_opening, else_link}
use Rattle.rules.specs.Source.{false_row}
use Rattle.rules.proofs.Logic.{clash}
use Rattle.rules.proofs.Scan.{chain}
use Rattle.rules.proofs.Accepted.{proper, table-length}
use Rattle.rules.proofs.Close.{end_is}
use Rattle.rules.proofs.Function.{formed, is_body_lem}
use Rattle.layout.specs.declared.scope.Scope.{Scope}
use Rattle.layout.specs.Scope.{Surveyed}
use Rattle.layout.specs.Spot.{Inside, Opens, in_body, is_loop_lem, OpenerIs, LoopIs, CalleeIs, Ends, Elses}
use Rattle.layout.proofs.Scopes.{few_rows}
use Rattle.rules.proofs.Scan.{opening-pushes}
use Rattle.layout.proofs.Parts.{no-else, an_else, body-part, not_body, part-not-body, part-loop}
use Rattle.source.specs.Goes.{end_goes_lem, goes_by_lem, go_of_lem, code_by, code_of, Known}
use Rattle.source.proofs.Codes.{code-low, go-low}

-- ---- past the end of what row o opens
module _ {bs ends : List ℕ} {o : ℕ} (a : verdict_of bs ≡ Accepted) (e : Ends bs ends) (p : Opens bs o) where
  pub end-in : o < length ends
  end-in = omega (arith, p.row, e.room, few_rows bs a)

  end_row : get_or ends o 0 ≡ end_of (table_of bs) o
  end_row = e.each o (omega (arith, table-length bs, p.row)) p.opening

  pub end_low : get_or ends o 0 < 1024
  end_low =
      let l : o < length (table_of bs) = omega (arith, table-length bs, p.row) in
      let s = opening-pushes (kind_at (table_of bs) o) p.opening in
      omega (arith, end_row, (end_is (table_of bs) o s.0 (proper bs a) l s.1).inside, table-length bs, few_rows bs a)

  pub past_is : get_or ends o 0 + 1 ≡ suc (end_of (table_of bs) o)
  past_is = add-one (get_or ends o 0) ∙ ap suc end_row

-- ---- an if
module _ {bs elses : List ℕ} {i : ℕ} (a : verdict_of bs ≡ Accepted) (l : i < length bs / 6) (k : kind_at (table_of bs) i ≡ If) (es : Elses bs elses) where
  pub if-in : i < length elses
  if-in = omega (arith, l, es.room, few_rows bs a)

  pub if-opens : Opens bs i
  if-opens = record { row = l; opening = ap is_opening k }

  module _ {x : ℕ} (v : x ≡ get_or elses i 0) where
    link-is : x ≡ else_link (table_of bs) i
    link-is = v ∙ es.each i (omega (arith, l, table-length bs)) k

    pub if_past : {r : ℕ} → x ≡ 0 → r ≡ suc (end_of (table_of bs) i) → r ≡ false_row (table_of bs) i
    unfolding false_row
    if_past z q = q ∙ sym (ap (λ y. cond y (suc (else_of (table_of bs) i)) (suc (end_of (table_of bs) i))) (no-else (table_of bs) i (sym link-is ∙ z)))

    pub else-low : (x ≡ 0 → ⊥) → x < 1024
    else-low z =
        let e = an_else (table_of bs) i (λ y. z (link-is ∙ y)) in
        omega (arith, link-is ∙ e.1, ltb-true (else_of (table_of bs) i) (length (table_of bs)) e.0, table-length bs, few_rows bs a)

    pub if_else : (x ≡ 0 → ⊥) → x + 1 ≡ false_row (table_of bs) i
    unfolding false_row
    if_else z =
        let e = an_else (table_of bs) i (λ y. z (link-is ∙ y)) in
        add-one x ∙ ap suc (link-is ∙ e.1) ∙ sym (ap (λ y. cond y (suc (else_of (table_of bs) i)) (suc (end_of (table_of bs) i))) e.0)

-- ---- an end, by the part that it closes
if-part : (t : Table) (i : ℕ) (p : Part) → is_body_lem p ≡ false → is_loop_body p ≡ false → suc i ≡ end_goes_lem t i p
if-part t i body a b = clash refl a
if-part t i then_part a b = refl
if-part t i else_part a b = refl
if-part t i loop_body a b = clash refl b

loop-part : (t : Table) (i : ℕ) (p : Part) → is_loop_body p ≡ true → opener_of (open_at t i) ≡ end_goes_lem t i p
loop-part t i body e = clash e refl
loop-part t i then_part e = clash e refl
loop-part t i else_part e = clash e refl
loop-part t i loop_body e = refl

module _ {bs : List ℕ} {map : List Scope} {i : ℕ} {b : Bool} (s : Surveyed bs map) (n : Inside bs i) (w : b ≡ in_body (table_of bs) i) where
  in_table : i < length (table_of bs)
  in_table = omega (arith, n.row, table-length bs)

  pub end-nowhere : b ≡ true → 0 ≡ end_goes_lem (table_of bs) i (part_of (open_at (table_of bs) i))
  unfolding in_body
  end-nowhere c =
      sym (ap (end_goes_lem (table_of bs) i)
      (body-part (table_of bs) (regions (table_of bs) i) (open_at (table_of bs) i) (formed (table_of bs) (proper bs s.accepted) i (omega (arith, in_table))) (chain (table_of bs) i) n.within (sym w ∙ c)))

  module _ {o : ℕ} {l : Bool} (p : OpenerIs bs i o) (y : l ≡ is_loop_lem (kind_at (table_of bs) o)) where
    pub end-loops : l ≡ true → o ≡ end_goes_lem (table_of bs) i (part_of (open_at (table_of bs) i))
    end-loops c = p.is ∙ loop-part (table_of bs) i (part_of (open_at (table_of bs) i)) (sym (part-loop n p y) ∙ c)

    pub end-passes : b ≡ false → l ≡ false → i + 1 ≡ end_goes_lem (table_of bs) i (part_of (open_at (table_of bs) i))
    unfolding in_body
    end-passes d c =
        add-one i
        ∙ if-part (table_of bs) i (part_of (open_at (table_of bs) i))
        (part-not-body (table_of bs) (open_at (table_of bs) i) (formed (table_of bs) (proper bs s.accepted) i (omega (arith, in_table))) (not_body (open_at (table_of bs) i) n.within (sym w ∙ d)))
        (sym (part-loop n p y) ∙ c)

-- ---- a row, by its kind
module _ (bs : List ℕ) (i : ℕ) {k : Kind} (q : k ≡ kind_at (table_of bs) i) where
  by_kind : (K : Kind) → k ≡ K → goes_by_lem (table_of bs) i K ≡ go_of_lem (table_of bs) i
  unfolding go_of_lem
  by_kind K c = ap (goes_by_lem (table_of bs) i) (sym c ∙ q)

  pub function-goes : k ≡ Function → 0 ≡ go_of_lem (table_of bs) i
  function-goes c = by_kind Function c

  pub do-goes : k ≡ Do → 0 ≡ go_of_lem (table_of bs) i
  do-goes c = by_kind Do c

  pub unknown-goes : k ≡ Unknown → 0 ≡ go_of_lem (table_of bs) i
  unknown-goes c = by_kind Unknown c

  pub if-goes : {r : ℕ} → k ≡ If → r ≡ false_row (table_of bs) i → r ≡ go_of_lem (table_of bs) i
  if-goes c x = x ∙ by_kind If c

  pub else-goes : {r o : ℕ} → k ≡ Else → OpenerIs bs i o → r ≡ suc (end_of (table_of bs) o) → r ≡ go_of_lem (table_of bs) i
  else-goes c p x = x ∙ ap (λ y. suc (end_of (table_of bs) y)) p.is ∙ by_kind Else c

  pub loop-goes : {r : ℕ} → k ≡ Loop → r ≡ suc (end_of (table_of bs) i) → r ≡ go_of_lem (table_of bs) i
  loop-goes c x = x ∙ by_kind Loop c

  pub end_goes : {r : ℕ} → k ≡ End → r ≡ end_goes_lem (table_of bs) i (part_of (open_at (table_of bs) i)) → r ≡ go_of_lem (table_of bs) i
  end_goes c x = x ∙ by_kind End c

  pub break-goes : {r o : ℕ} → k ≡ Break → LoopIs bs i o → r ≡ suc (end_of (table_of bs) o) → r ≡ go_of_lem (table_of bs) i
  break-goes c p x = x ∙ ap (λ y. suc (end_of (table_of bs) y)) p.is ∙ by_kind Break c

  pub continue-goes : {o : ℕ} → k ≡ Continue → LoopIs bs i o → o ≡ go_of_lem (table_of bs) i
  continue-goes c p = p.is ∙ by_kind Continue c

  pub call-goes : {o : ℕ} → k ≡ Call → CalleeIs bs (operands_at (table_of bs) i).n o → o + 1 ≡ go_of_lem (table_of bs) i
  call-goes {o} c p = add-one o ∙ ap suc p.is ∙ by_kind Call c

-- ---- what a row does, by its kind, with where it goes in one word
module _ (bs : List ℕ) (i : ℕ) {k : Kind} (q : k ≡ kind_at (table_of bs) i) where
  codes : (K : Kind) → k ≡ K → {op : ℕ} → op ≡ (operands_at (table_of bs) i).op → code_by K op ≡ code_of (table_of bs) i
  unfolding code_of
  codes K c v = ap (code_by K) v ∙ ap (λ y. code_by y (operands_at (table_of bs) i).op) (sym c ∙ q)

  pub word-is : (K : Kind) → k ≡ K → {op g r : ℕ} → op ≡ (operands_at (table_of bs) i).op → g ≡ go_of_lem (table_of bs) i → r ≡ 4096 * code_by K op + g
      → r ≡ 4096 * code_of (table_of bs) i + go_of_lem (table_of bs) i
  word-is K c {op} {g} v y e = e ∙ ap (λ z. 4096 * z + g) (codes K c v) ∙ ap (λ z. 4096 * code_of (table_of bs) i + z) y

  -- two kinds go on at the next row
  pub next-word : (k ≡ Function) ⊎ (k ≡ Unknown) → {r : ℕ} → ◌≡◌ {A = ℕ} r 0 → r ≡ 4096 * code_of (table_of bs) i + go_of_lem (table_of bs) i
  next-word (inl c) e = word-is Function c refl (function-goes bs i q c) e
  next-word (inr c) e = word-is Unknown c refl (unknown-goes bs i q c) e

-- both are small
module _ {bs : List ℕ} {map : List Scope} {i : ℕ} (s : Surveyed bs map) (l : i < length bs / 6) where
  pub small-code : {k : Kind} {op : ℕ} → k ≡ kind_at (table_of bs) i → op ≡ (operands_at (table_of bs) i).op → (K : Kind) → k ≡ K → code_by K op < 16
  small-code q v K c = subst (λ z. z < 16) (sym (codes bs i q K c v)) (code-low bs i s.accepted l)

  pub small-go : {g : ℕ} → g ≡ go_of_lem (table_of bs) i → g < 4096
  small-go q = omega (arith, q, go-low s l)

-- ---- all rows
-- the words of the first i rows are filled
pub record Filling (bs goes : List ℕ) (i : ℕ) : Type 0 where
  pub le : i ≤ length bs / 6
  pub long : length goes ≡ 1024
  pub below : (j : ℕ) → j < i → get_or goes j 0 ≡ 4096 * code_of (table_of bs) j + go_of_lem (table_of bs) j

pub fill-starts : {bs goes : List ℕ} → length goes ≡ 1024 → Filling bs goes 0
fill-starts h = record { le = omega arith; long = h; below = λ j h. absurd (let z : ⊥ = omega arith in z) }

pub fill_on : {bs goes : List ℕ} {i r : ℕ} → verdict_of bs ≡ Accepted → Filling bs goes i → i < length bs / 6
    → r ≡ 4096 * code_of (table_of bs) i + go_of_lem (table_of bs) i → Filling bs (set goes i r) (i + 1)
fill_on {bs} {goes} {i} {r} a f l is = record { le = omega arith; long = length-set goes i r ∙ f.long; below = λ j b. by j (eq-or-lt_of_le (subst (λ x. j < x) (add-one i) b)) }
  where
    word : ℕ → ℕ
    word j = 4096 * code_of (table_of bs) j + go_of_lem (table_of bs) j

    by : (j : ℕ) → (suc j ≡ suc i) ⊎ (suc j < suc i) → get_or (set goes i r) j 0 ≡ word j
    by j (inl x) =
        let e : j ≡ i = omega arith in
        ap (λ y. get_or (set goes i r) y 0) e ∙ get_or-set_same goes i r 0 (omega (arith, f.long, few_rows bs a)) ∙ is ∙ ap word (sym e)
    by j (inr x) = get_or-set_other goes i j r 0 (λ y. omega arith) ∙ f.below j (omega arith)

pub filled : {bs : List ℕ} {map : List Scope} {goes : List ℕ} {i : ℕ} → Surveyed bs map → Filling bs goes i → length bs / 6 ≤ i → Known bs goes
filled {bs} s f h =
    record {
      accepted = s.accepted;
      each = λ j l. f.below j (omega (arith, table-length bs));
      low = λ j l. go-low s (omega (arith, table-length bs));
    }
