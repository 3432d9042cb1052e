-- What a row as given does, by numbers alone, is what the rules say of it: its causes, the rows of the chain that it stands for, and what is
-- open after it. Assumes nothing.
use mathlib.Core.Path.{◌≡◌, refl, sym, ap, ◌∙◌}
use mathlib.Core.Bool.{Bool, true, false, cond, not, ◌&&◌, ◌||◌}
use mathlib.Core.List.{List, [], ◌∷◌, ◌++◌}
use Prim.Native.Nat.{ℕ, ◌+◌, ◌*◌, ◌-◌, ◌<◌}
use native.Mathlib.Omega.{arith}
use lib.Dec.{eqb}
use lib.ListN.{length, set, replicate}
use borrow.Author.Tests.{eq-eqb, ne_eqb, lt-ltb}
use Rattle.rules.specs.declared.kind.Kind.{Kind}
use Rattle.rules.specs.declared.kind.Kind.TheVariants.{Function, Do, If, Else, Loop, End, Break, Continue, Call, Unknown}
use Rattle.rules.specs.declared.operands.Operands.{Operands}
use Rattle.rules.specs.declared.refusal.Refusal.TheVariants.{WrongField, Misplaced, RepeatedCase}
use Rattle.rules.specs.Verdict.{Verdict}
use Rattle.rules.specs.Row.{Row}
use Rattle.rules.specs.Scan.{is_else, is_end_lem, shape_of}
use Rattle.rules.specs.Refusal.{refuse_if_lem, and_then}
use Rattle.rules.specs.Switch.{GivenRow, as_is, switch_row, case_row, default_row, Thing, construct, switch, in_switch, things_by, things_after, if_row, bare_row, else_after, chain_rows}
use Rattle.rules.specs.Given.{no_part, given_fits, strays, repeats}
use Rattle.rules.specs.Chained.{cases_in}
use Rattle.rules.proofs.Logic.{clash, append-nil}
use Rattle.rules.proofs.Switch.Chain.{then-accepted}
use Rattle.given.specs.declared.plan.Plan.{Plan}
use Rattle.given.specs.declared.sort.Sort.{Sort}
use Rattle.given.specs.declared.sort.Sort.TheVariants.{Wrong, Plain, Switch, Case, Default}
use Rattle.given.specs.Sort.{own_sort, sort_of_lem}
use Rattle.given.specs.Things.{mark_of, marked_cases, among_words, OpenIs}
use Rattle.given.specs.Plan.{count_after_lem, elses_by_lem, plain_plan, plan_of, planned_rows, stray_in_lem, stray_by, cause_of}
use Rattle.given.specs.Reached.{var_by}
use Rattle.given.proofs.Numbers.{among-words}
use Rattle.given.proofs.Marks.{mark-some, mark-fresh, mark-default, mark-cases, mark_top, var_is, stays_open, opens_construct, opens_switch, takes_case, takes_default, closes_switch, closes-construct}

-- ---- the sort of a row that fits
abbrev pub named : GivenRow → Sort
named (as_is r) = Plain r.kind
named (switch_row o) = Switch
named (case_row o) = Case
named (default_row o) = Default

pub sort-fits : (r : GivenRow) → given_fits r ≡ true → sort_of_lem r ≡ named r
sort-fits (as_is r) e = ap (λ b. own_sort b (Plain r.kind)) e
sort-fits (switch_row o) e = ap (λ b. own_sort b Switch) e
sort-fits (case_row o) e = ap (λ b. own_sort b Case) e
sort-fits (default_row o) e = ap (λ b. own_sort b Default) e

sort-wrong : (r : GivenRow) → given_fits r ≡ false → sort_of_lem r ≡ Wrong
sort-wrong (as_is r) e = ap (λ b. own_sort b (Plain r.kind)) e
sort-wrong (switch_row o) e = ap (λ b. own_sort b Switch) e
sort-wrong (case_row o) e = ap (λ b. own_sort b Case) e
sort-wrong (default_row o) e = ap (λ b. own_sort b Default) e

abbrev pub operands_of : GivenRow → Operands
operands_of (as_is r) = r.operands
operands_of (switch_row o) = o
operands_of (case_row o) = o
operands_of (default_row o) = o

-- ---- 4 and 11
stray-kind : (k : Kind) (fresh : Bool) → stray_in_lem k fresh ≡ is_else k || (fresh && not (is_end_lem k))
stray-kind Function true = refl
stray-kind Function false = refl
stray-kind Do true = refl
stray-kind Do false = refl
stray-kind If true = refl
stray-kind If false = refl
stray-kind Else f = refl
stray-kind Loop true = refl
stray-kind Loop false = refl
stray-kind End true = refl
stray-kind End false = refl
stray-kind Break true = refl
stray-kind Break false = refl
stray-kind Continue true = refl
stray-kind Continue false = refl
stray-kind Call true = refl
stray-kind Call false = refl
stray-kind Unknown true = refl
stray-kind Unknown false = refl

-- the causes of the row itself
abbrev pub own : GivenRow → List Thing → Verdict
own r ts =
    and_then (refuse_if_lem (not (given_fits r)) WrongField) (and_then (refuse_if_lem (strays r ts) Misplaced) (refuse_if_lem (repeats r ts) RepeatedCase))

own-fits : (r : GivenRow) (ts : List Thing) → given_fits r ≡ true → own r ts ≡ and_then (refuse_if_lem (strays r ts) Misplaced) (refuse_if_lem (repeats r ts) RepeatedCase)
own-fits r ts e = ap (λ b. and_then (refuse_if_lem (not b) WrongField) (and_then (refuse_if_lem (strays r ts) Misplaced) (refuse_if_lem (repeats r ts) RepeatedCase))) e

module _ {ms vs us : List ℕ} {count cases : ℕ} where
  stray-is : (r : GivenRow) (ts : List Thing) → OpenIs ts count cases ms vs us → stray_by (named r) (mark_top ts) count ≡ strays r ts
  unfolding strays
  stray-is (as_is r) [] o = refl
  stray-is (as_is r) (construct ∷ ts) o = refl
  stray-is (as_is r) (switch s ∷ ts) o =
      ap (λ b. not b && stray_in_lem r.kind (eqb (mark_of s) 1)) (mark-some s) ∙ ap (stray_in_lem r.kind) (mark-fresh s) ∙ stray-kind r.kind (no_part s)
  stray-is (switch_row q) [] o = ap (λ b. b || false) (eq-eqb count 0 (sym o.count_is))
  stray-is (switch_row q) (construct ∷ ts) o =
      ap (λ b. b || false) (ne_eqb count 0 (λ e. absurd (let z : ⊥ = omega (arith, o.count_is) in z)))
  stray-is (switch_row q) (switch s ∷ ts) o =
      ap (λ b. b || eqb (mark_of s) 1) (ne_eqb count 0 (λ e. absurd (let z : ⊥ = omega (arith, o.count_is) in z))) ∙ mark-fresh s
  stray-is (case_row q) [] o = refl
  stray-is (case_row q) (construct ∷ ts) o = refl
  stray-is (case_row q) (switch s ∷ ts) o = mark-default s
  stray-is (default_row q) [] o = refl
  stray-is (default_row q) (construct ∷ ts) o = refl
  stray-is (default_row q) (switch s ∷ ts) o = mark-default s

  -- a row that is no case has no number to repeat
  lone : (r : GivenRow) (ts : List Thing) → OpenIs ts count cases ms vs us → repeats r ts ≡ false
      → refuse_if_lem (stray_by (named r) (mark_top ts) count) Misplaced ≡ and_then (refuse_if_lem (strays r ts) Misplaced) (refuse_if_lem (repeats r ts) RepeatedCase)
  lone r ts o e =
      ap (λ b. refuse_if_lem b Misplaced) (stray-is r ts o) ∙ sym (then-accepted (refuse_if_lem (strays r ts) Misplaced))
      ∙ ap (λ b. and_then (refuse_if_lem (strays r ts) Misplaced) (refuse_if_lem b RepeatedCase)) (sym e)

  fitting : (r : GivenRow) (ts : List Thing) → OpenIs ts count cases ms vs us
      → cause_of (named r) (operands_of r).n (mark_top ts) count cases us ≡ and_then (refuse_if_lem (strays r ts) Misplaced) (refuse_if_lem (repeats r ts) RepeatedCase)
  unfolding strays repeats
  fitting (as_is r) ts o = lone (as_is r) ts o refl
  fitting (switch_row q) ts o = lone (switch_row q) ts o refl
  fitting (case_row q) [] o = refl
  fitting (case_row q) (construct ∷ ts) o = refl
  fitting (case_row q) (switch s ∷ ts) o =
      let m = mark-cases s in
      let b : cases - length s.used ≡ cases_in ts = omega (arith, o.cases_are) in
      ap (λ d. and_then (refuse_if_lem d Misplaced) (refuse_if_lem (among_words q.n us (cases - marked_cases (mark_of s)) (marked_cases (mark_of s))) RepeatedCase)) (mark-default s)
      ∙ ap (λ a. and_then (refuse_if_lem s.in_default Misplaced) (refuse_if_lem a RepeatedCase))
      (ap (λ k. among_words q.n us (cases - k) k) m ∙ ap (λ i. among_words q.n us i (length s.used)) b
      ∙ among-words q.n us (cases_in ts) s.used o.spelt.0.numbers)
  fitting (default_row q) ts o = lone (default_row q) ts o refl

  pub cause-is : (r : GivenRow) (ts : List Thing) → OpenIs ts count cases ms vs us
      → cause_of (sort_of_lem r) (operands_of r).n (mark_top ts) count cases us ≡ own r ts
  cause-is r ts o = by (given_fits r) refl
    where
      by : (b : Bool) → given_fits r ≡ b → cause_of (sort_of_lem r) (operands_of r).n (mark_top ts) count cases us ≡ own r ts
      by true e = ap (λ s. cause_of s (operands_of r).n (mark_top ts) count cases us) (sort-fits r e) ∙ fitting r ts o ∙ sym (own-fits r ts e)
      by false e =
          ap (λ s. cause_of s (operands_of r).n (mark_top ts) count cases us) (sort-wrong r e)
          ∙ sym (ap (λ b. and_then (refuse_if_lem (not b) WrongField) (and_then (refuse_if_lem (strays r ts) Misplaced) (refuse_if_lem (repeats r ts) RepeatedCase))) e)

-- ---- the rows of the chain
-- the row itself, or the if of a case
abbrev pub own_of : GivenRow → List Thing → Row
own_of (as_is r) ts = r
own_of (switch_row o) ts = bare_row End
own_of (case_row o) ts = in_switch (bare_row End) (λ s. if_row s.p o.n) ts
own_of (default_row o) ts = bare_row End

else_is : (ns : List ℕ) → else_after ns ≡ replicate (elses_by_lem (1 + 2 * length ns)) (bare_row Else)
else_is [] = refl
else_is (n ∷ ns) = ap (λ b. replicate (cond b 1 0) (bare_row Else)) (sym (lt-ltb 2 (1 + 2 * length (n ∷ ns)) (omega arith)))

in-default : (d : Bool) (n : ℕ) → d ≡ false → cond d 2 1 + n ≡ 1 + n
in-default d n e = ap (λ b. cond b 2 1 + n) e

plain_rows : (k : Kind) (r : Row) (n m : ℕ) (c d : ℕ) → m ≡ n
    → cond (is_end_lem k) (replicate n (bare_row End)) (r ∷ []) ≡ planned_rows (cond (true && is_end_lem k) (record { elses = 0; own = 0; ends = m; kind = End; slot = c; mark = 0; count = c - 1; cases = d - m }) (record { elses = 0; own = 1; ends = 0; kind = k; slot = c; mark = 0; count = count_after_lem k c; cases = d })) r
plain_rows Function r n m c d e = refl
plain_rows Do r n m c d e = refl
plain_rows If r n m c d e = refl
plain_rows Else r n m c d e = refl
plain_rows Loop r n m c d e = refl
plain_rows End r n m c d e = ap (λ k. replicate k (bare_row End)) (sym e)
plain_rows Break r n m c d e = refl
plain_rows Continue r n m c d e = refl
plain_rows Call r n m c d e = refl
plain_rows Unknown r n m c d e = refl

pub plan-rows : (r : GivenRow) (ts : List Thing) (count cases : ℕ) → strays r ts ≡ false
    → chain_rows r ts ≡ planned_rows (plan_of (named r) (mark_top ts) count cases) (own_of r ts)
unfolding strays
plan-rows (as_is r) [] n c e = refl
plan-rows (as_is r) (construct ∷ ts) n c e = refl
plan-rows (as_is r) (switch s ∷ ts) n c e =
    plain_rows r.kind r (length s.used) (marked_cases (mark_of s)) n c (mark-cases s)
    ∙ ap (λ b. planned_rows (cond (not b && is_end_lem r.kind) (record { elses = 0; own = 0; ends = marked_cases (mark_of s); kind = End; slot = n; mark = 0; count = n - 1; cases = c - marked_cases (mark_of s) }) (record { elses = 0; own = 1; ends = 0; kind = r.kind; slot = n; mark = 0; count = count_after_lem r.kind n; cases = c })) r)
    (sym (mark-some s))
plan-rows (switch_row o) ts n c e = refl
plan-rows (case_row o) [] n c e = clash refl e
plan-rows (case_row o) (construct ∷ ts) n c e = clash refl e
plan-rows (case_row o) (switch s ∷ ts) n c e =
    ap (λ es. es ++ (if_row s.p o.n ∷ [])) (else_is s.used ∙ ap (λ m. replicate (elses_by_lem m) (bare_row Else)) (sym (in-default s.in_default (2 * length s.used) e)))
plan-rows (default_row o) [] n c e = clash refl e
plan-rows (default_row o) (construct ∷ ts) n c e = clash refl e
plan-rows (default_row o) (switch s ∷ ts) n c e =
    else_is s.used ∙ ap (λ m. replicate (elses_by_lem m) (bare_row Else)) (sym (in-default s.in_default (2 * length s.used) e))
    ∙ sym (append-nil (replicate (elses_by_lem (mark_of s)) (bare_row Else)))

-- ---- what is open after it
module _ {ms vs us : List ℕ} {count cases : ℕ} (v x : ℕ) (room : count < length ms) where
  -- a row of 01 that ends nothing
  goes_on : (k : Kind) (ts : List Thing) → OpenIs ts count cases ms vs us → is_end_lem k ≡ false
      → OpenIs (things_by (shape_of k) ts) (count_after_lem k count) cases (set ms count 0) (set vs count v) (set us cases x)
  goes_on Function ts o e = opens_construct o v x room
  goes_on Do ts o e = stays_open o v x
  goes_on If ts o e = opens_construct o v x room
  goes_on Else ts o e = stays_open o v x
  goes_on Loop ts o e = opens_construct o v x room
  goes_on End ts o e = clash refl e
  goes_on Break ts o e = stays_open o v x
  goes_on Continue ts o e = stays_open o v x
  goes_on Call ts o e = stays_open o v x
  goes_on Unknown ts o e = stays_open o v x

  -- an end outside of every thing, and of a function, an if or a loop
  closes-none : OpenIs [] count cases ms vs us → OpenIs [] (count - 1) cases (set ms count 0) (set vs count v) (set us cases x)
  closes-none o =
      let w = stays_open o v x in
      record { count_is = omega (arith, o.count_is); cases_are = w.cases_are; spelt = tt }

  plain_after : (k : Kind) (ts : List Thing) → OpenIs ts count cases ms vs us → mark_top ts ≡ 0
      → OpenIs (things_by (shape_of k) ts) (count_after_lem k count) cases (set ms count 0) (set vs count v) (set us cases x)
  plain_after End [] o e = closes-none o
  plain_after End (construct ∷ ts) o e = closes-construct o v x
  plain_after End (switch s ∷ ts) o e = clash (eq-eqb (mark_of s) 0 e) (mark-some s)
  plain_after Function ts o e = goes_on Function ts o refl
  plain_after Do ts o e = goes_on Do ts o refl
  plain_after If ts o e = goes_on If ts o refl
  plain_after Else ts o e = goes_on Else ts o refl
  plain_after Loop ts o e = goes_on Loop ts o refl
  plain_after Break ts o e = goes_on Break ts o refl
  plain_after Continue ts o e = goes_on Continue ts o refl
  plain_after Call ts o e = goes_on Call ts o refl
  plain_after Unknown ts o e = goes_on Unknown ts o refl

-- the things after a row, as a plan stores them
abbrev pub StoredBy : (p : Plan) → (v x : ℕ) → (cases : ℕ) → (ms vs us : List ℕ) → List Thing → Type 0
StoredBy p v x cases ms vs us ts = OpenIs ts p.count p.cases (set ms p.slot p.mark) (set vs p.slot v) (set us cases x)

module _ {ms vs us : List ℕ} {count cases : ℕ} (room : count < length ms) (var-room : count < length vs) (case-room : cases < length us) where
  in-switch : (k : Kind) (s : _) (ts : List Thing) (v x : ℕ) → OpenIs (switch s ∷ ts) count cases ms vs us
      → StoredBy (plain_plan k (mark_of s) count cases) v x cases ms vs us (things_by (shape_of k) (switch s ∷ ts))
  in-switch k s ts v x o = by k
    where
      by : (k : Kind) → StoredBy (plain_plan k (mark_of s) count cases) v x cases ms vs us (things_by (shape_of k) (switch s ∷ ts))
      by End = rw (mark-some s, mark-cases s) (closes_switch o x v)
      by Function = rw (mark-some s) (goes_on v x room Function (switch s ∷ ts) o refl)
      by Do = rw (mark-some s) (goes_on v x room Do (switch s ∷ ts) o refl)
      by If = rw (mark-some s) (goes_on v x room If (switch s ∷ ts) o refl)
      by Else = rw (mark-some s) (goes_on v x room Else (switch s ∷ ts) o refl)
      by Loop = rw (mark-some s) (goes_on v x room Loop (switch s ∷ ts) o refl)
      by Break = rw (mark-some s) (goes_on v x room Break (switch s ∷ ts) o refl)
      by Continue = rw (mark-some s) (goes_on v x room Continue (switch s ∷ ts) o refl)
      by Call = rw (mark-some s) (goes_on v x room Call (switch s ∷ ts) o refl)
      by Unknown = rw (mark-some s) (goes_on v x room Unknown (switch s ∷ ts) o refl)

  pub plan-things : (r : GivenRow) (ts : List Thing) → OpenIs ts count cases ms vs us → strays r ts ≡ false
      → StoredBy (plan_of (named r) (mark_top ts) count cases) (var_by (named r) (operands_of r).p vs count) (operands_of r).n cases ms vs us (things_after r ts)
  unfolding strays
  plan-things (as_is r) [] o e = plain_after _ _ room r.kind [] o refl
  plan-things (as_is r) (construct ∷ ts) o e = plain_after _ _ room r.kind (construct ∷ ts) o refl
  plan-things (as_is r) (switch s ∷ ts) o e = in-switch r.kind s ts _ _ o
  plan-things (switch_row q) ts o e = opens_switch o q.p q.n room var-room
  plan-things (case_row q) [] o e = clash refl e
  plan-things (case_row q) (construct ∷ ts) o e = clash refl e
  plan-things (case_row q) (switch s ∷ ts) o e = rw (var_is s ts o) (takes_case o q.n (omega arith) (omega arith) e case-room)
  plan-things (default_row q) [] o e = clash refl e
  plan-things (default_row q) (construct ∷ ts) o e = clash refl e
  plan-things (default_row q) (switch s ∷ ts) o e = rw (var_is s ts o) (takes_default o q.n (omega arith) (omega arith) e)
