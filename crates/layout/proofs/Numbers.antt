-- What the passes that number the rows keep: the words of the regions, the running sum, the values. Assumes nothing.
use mathlib.Core.Logic.{◌≢◌, ◌⊎◌, inl, inr}
use mathlib.Core.Path.{◌≡◌, refl, sym, ap, ◌∙◌, subst}
use mathlib.Core.Bool.{Bool, true, false}
use mathlib.Core.List.{List, [], ◌∷◌, ◌++◌}
use Prim.Native.Nat.{ℕ, zero, suc, ◌+◌, ◌/◌, ◌≤◌, ◌<◌}
use native.Mathlib.Numerals.{add-one}
use native.Mathlib.Nat.{le_refl, add-zero, not-suc-le-zero, eq-or-lt_of_le}
use native.Mathlib.Omega.{arith}
use lib.ListN.{length, get_or, set, take, drop, length-set, length-append, get_or-append, replicate, length-replicate}
use Rattle.std.proofs.lemmas.List.{get_or-take, length-take-le, length-drop}
use lib.Seq.{get_or-set_same, get_or-set_other}
use lib.Dec.{eqb}
use borrow.Author.Tests.{eqb-true, eqb-false}
use mir.Val.{Fits}
use mir.Syntax.{w16}
use Rattle.rules.specs.declared.kind.Kind.{Kind}
use Rattle.rules.specs.Verdict.{Accepted}
use Rattle.rules.specs.Row.{table_of, kind_at}
use Rattle.rules.specs.Scan.{Open, open_at, regions, region_of}
use Rattle.rules.specs.Value.{takes_in, taken, base, value}
use Rattle.rules.specs.Check.{verdict_of}
use Rattle.rules.proofs.Scan.{regions-mono}
use Rattle.rules.proofs.Value.{takes-off}
use Rattle.rules.proofs.Accepted.{table-length}
use Rattle.rules.proofs.ValueBound.{value-bound, base-bound, regions-bound}
use Rattle.layout.specs.declared.scope.Scope.{Scope}
use Rattle.layout.specs.Scope.{scope_of, Surveyed, Stands}
use Rattle.layout.specs.Number.{takes_at, value_of, took_before, Took, Spent, Spends, sums, RunningSum, Summed, Based, Valued}
use Rattle.layout.proofs.Scopes.{few_rows, region-regions}

-- ---- the word of each region
zeros : (n g : ℕ) → ◌≡◌ {A = ℕ} (get_or (replicate n 0) g 0) 0
zeros zero g = refl
zeros (suc n) zero = refl
zeros (suc n) (suc g) = zeros n g

pub nothing-spent : (bs : List ℕ) → Spent bs (replicate 1025 0) 0
unfolding taken
nothing-spent bs = record { room = omega (arith, length-replicate {A = ℕ} 1025 0); each = λ g. zeros 1025 g }

module _ {bs spent : List ℕ} {i g : ℕ} {here : Scope} (s : Stands bs i here) (p : Spent bs spent i) (q : g ≡ here.region) where
  pub spend-in : g < length spent
  spend-in = omega (arith, s.region_low, s.row, s.few_rows, p.room)

  pub spend-fits : (w : ℕ) → w ≤ 2 → Fits w16 (get_or spent g 0 + w)
  unfolding value
  spend-fits w h =
      record { fits = omega (arith, p.each g, value-bound (table_of bs) g i (omega (arith, table-length bs, s.row)), table-length bs, s.few_rows, s.region_low, s.row) }

-- a row takes nothing in another region
takes-away : (k : Kind) (g : ℕ) (fs : List Open) → g ≢ region_of fs → takes_in k g fs ≡ 0
takes-away k g [] h = refl
takes-away k g (f ∷ fs) h = takes-off k g f fs (λ x. h (sym x))

pub spend-more : {bs spent : List ℕ} {i g w : ℕ} {here : Scope} → Stands bs i here → Spent bs spent i → g ≡ here.region → w ≡ takes_at (table_of bs) i
    → Spent bs (set spent g (get_or spent g 0 + w)) (suc i)
unfolding taken takes_at scope_of
spend-more {bs} {spent} {i} {g} {w} {here} s p q e =
    record { room = omega (arith, p.room, length-set spent g (get_or spent g 0 + w)); each = λ x. by x (eqb x g) refl }
  where
    own : g ≡ region_of (open_at (table_of bs) i)
    own = q ∙ ap (λ x. x.region) s.is

    by : (x : ℕ) (b : Bool) → eqb x g ≡ b
        → get_or (set spent g (get_or spent g 0 + w)) x 0 ≡ taken (table_of bs) x i + takes_in (kind_at (table_of bs) i) x (open_at (table_of bs) i)
    by x true y =
        let z : x ≡ g = eqb-true x g y in
        rw z
        (get_or-set_same spent g _ 0 (spend-in s p q) ∙ ap (λ v. v + w) (p.each g)
        ∙ ap (λ v. taken (table_of bs) g i + v) (e ∙ ap (λ v. takes_in (kind_at (table_of bs) i) v (open_at (table_of bs) i)) (sym own)))
    by x false y =
        let n : x ≢ g = eqb-false x g y in
        get_or-set_other spent g x _ 0 n ∙ p.each x
        ∙ sym (ap (λ v. taken (table_of bs) x i + v) (takes-away (kind_at (table_of bs) i) x (open_at (table_of bs) i) (λ z. n (z ∙ sym own))) ∙ add-zero _)

pub spend-took : {bs spent took : List ℕ} {i g w : ℕ} {here : Scope} → Stands bs i here → Spent bs spent i → g ≡ here.region → w ≡ takes_at (table_of bs) i
    → Spends bs i (set spent g (get_or spent g 0 + w)) took (set took i (get_or spent g 0))
unfolding took_before scope_of
spend-took {bs} {spent} {took} {i} {g} s p q e =
    let own : g ≡ region_of (open_at (table_of bs) i) = q ∙ ap (λ x. x.region) s.is in
    record { spent_is = spend-more s p q e; took_is = ap (set took i) (p.each g ∙ ap (λ x. taken (table_of bs) x i) own) }

pub ruleset spends = (spend-in, spend-fits, spend-took)

pub record Spending (bs spent₀ spent took₀ took : List ℕ) (i : ℕ) : Type 0 where
  pub le : i ≤ length bs / 6
  pub few_rows : length bs / 6 ≤ 1024
  pub same : length spent ≡ length spent₀
  pub same_took : length took ≡ length took₀
  pub room : 1024 ≤ length took₀
  pub is : Spent bs spent i
  pub took_is : Took bs took i

pub spend-start : {bs spent took : List ℕ} → verdict_of bs ≡ Accepted → Spent bs spent 0 → 1024 ≤ length took → Spending bs spent spent took took 0
spend-start {bs} a p r =
    record {
      le = omega arith;
      few_rows = few_rows bs a;
      same = refl;
      same_took = refl;
      room = r;
      is = p;
      took_is = record { each = λ k h. absurd (not-suc-le-zero h) };
    }

pub spend-again : {bs spent₀ spent spent' took₀ took took' : List ℕ} {i : ℕ} → Spending bs spent₀ spent took₀ took i → i < length bs / 6
    → Spends bs i spent' took took' → length spent' ≡ length spent → Spending bs spent₀ spent' took₀ took' (i + 1)
spend-again {bs} {spent₀} {spent} {spent'} {took₀} {took} {took'} {i} d l p k =
    record {
      le = omega arith;
      few_rows = d.few_rows;
      same = k ∙ d.same;
      same_took = ap length p.took_is ∙ length-set took i _ ∙ d.same_took;
      room = d.room;
      is = subst (Spent bs spent') (sym (add-one i)) p.spent_is;
      took_is = record { each = λ j x. ap (λ y. get_or y j 0) p.took_is ∙ by j (eq-or-lt_of_le (subst (λ z. j < z) (add-one i) x)) };
    }
  where
    by : (j : ℕ) → (suc j ≡ suc i) ⊎ (suc j < suc i) → get_or (set took i (took_before (table_of bs) i)) j 0 ≡ took_before (table_of bs) j
    by j (inl x) =
        let y : j ≡ i = omega arith in
        rw y (get_or-set_same took i _ 0 (omega (arith, d.same_took, d.few_rows, d.room)))
    by j (inr x) = get_or-set_other took i j _ 0 (omega arith) ∙ d.took_is.each j (omega arith)

pub spend-all : {bs spent₀ spent took₀ took : List ℕ} {i n : ℕ} → Spending bs spent₀ spent took₀ took i → n ≡ length bs / 6 → n ≤ i
    → Spent bs spent (length bs / 6)
spend-all {bs} {spent = spent} {i = i} d q h = let x : i ≡ length bs / 6 = omega (arith, d.le) in subst (Spent bs spent) x d.is

pub took-all : {bs spent₀ spent took₀ took : List ℕ} {i n : ℕ} → Spending bs spent₀ spent took₀ took i → n ≡ length bs / 6 → n ≤ i
    → Took bs took (length bs / 6)
took-all {bs} {took = took} {i = i} d q h = let x : i ≡ length bs / 6 = omega (arith, d.le) in subst (Took bs took) x d.took_is

pub ruleset spendings = (spend-start, spend-again, spend-all, took-all)

-- ---- the running sum gives every region 01's base (02, No. 3)
pub running-sum : RunningSum
unfolding sums base
running-sum t l zero h = refl
running-sum t l (suc g) h = omega (arith, running-sum t l g (λ k b. h k (omega arith)), h g (le_refl (suc g)))

-- ---- the loop that sums
pub record Summing (words₀ : List ℕ) (count : ℕ) (words : List ℕ) (total g : ℕ) : Type 0 where
  pub le : g ≤ count
  pub same : length words ≡ length words₀
  pub total_is : total ≡ sums words₀ g
  pub is : Summed words₀ words g
  pub rest : (k : ℕ) → g ≤ k → get_or words k 0 ≡ get_or words₀ k 0

pub sum-start : {words : List ℕ} {count : ℕ} → Summing words count words 1 0
unfolding sums
sum-start =
    record { le = omega arith; same = refl; total_is = refl; is = record { each = λ g h. absurd (not-suc-le-zero h) }; rest = λ k h. refl }

sum-next : {words₀ words : List ℕ} {count total g : ℕ} → Summing words₀ count words total g → total + (get_or words g 0 + 1) ≡ sums words₀ (suc g)
unfolding sums
sum-next {words₀} {words} {count} {total} {g} p = omega (arith, p.total_is, p.rest g (le_refl g))

pub sum_fits : {words₀ words : List ℕ} {count total g : ℕ} → Summing words₀ count words total g → g < count
    → ((k : ℕ) → k ≤ count → sums words₀ k < 65536) → total + (get_or words g 0 + 1) < 65536
sum_fits {g = g} p h f = omega (arith, sum-next p, f (suc g) h)

pub sum_more : {words₀ words : List ℕ} {count total g : ℕ} → Summing words₀ count words total g → g < count → count ≤ length words₀
    → Summing words₀ count (set words g total) (total + (get_or words g 0 + 1)) (g + 1)
sum_more {words₀} {words} {count} {total} {g} p h r =
    record {
      le = omega arith;
      same = length-set words g total ∙ p.same;
      total_is = sum-next p ∙ ap (sums words₀) (sym (add-one g));
      is = record { each = λ k x. by k (eq-or-lt_of_le (subst (λ z. k < z) (add-one g) x)) };
      rest = λ k x. get_or-set_other words g k total 0 (omega arith) ∙ p.rest k (omega arith);
    }
  where
    by : (k : ℕ) → (suc k ≡ suc g) ⊎ (suc k < suc g) → get_or (set words g total) k 0 ≡ sums words₀ k
    by k (inl x) = let y : k ≡ g = omega arith in rw y (get_or-set_same words g total 0 (omega (arith, p.same)) ∙ p.total_is)
    by k (inr x) = get_or-set_other words g k total 0 (omega arith) ∙ p.is.each k (omega arith)

pub sum-all : {words₀ words : List ℕ} {count total g : ℕ} → Summing words₀ count words total g → count ≤ g → Summed words₀ words count
sum-all {words₀} {words} {count} {total} {g} p h = let x : g ≡ count = omega (arith, p.le) in subst (Summed words₀ words) x p.is

pub ruleset summings = (sum-start, sum_more, sum-all)

-- ---- the bases
-- only the words before word g count
sums-take : (l : List ℕ) (n g : ℕ) → g ≤ n → sums (take n l) g ≡ sums l g
unfolding sums
sums-take l n zero h = refl
sums-take l n (suc g) h = omega (arith, sums-take l n g (omega arith), get_or-take n l g 0 h)

sums_are : {bs spent : List ℕ} → Spent bs spent (length bs / 6) → (g : ℕ) → sums spent g ≡ base (table_of bs) g
sums_are {bs} {spent} p g = running-sum (table_of bs) spent g (λ h l. ap suc (p.each h ∙ ap (taken (table_of bs) h) (sym (table-length bs))))

pub sums-fit : {bs spent : List ℕ} {count : ℕ} {end : Scope} → Stands bs (length bs / 6) end → Spent bs spent (length bs / 6) → count ≡ end.opened
    → (g : ℕ) → g ≤ count + 1 → sums spent g < 65536
sums-fit {bs} s p q g h = omega (arith, sums_are p g, base-bound (table_of bs) g, table-length bs, s.opened_low, s.few_rows)

pub bases-all : {bs spent bases : List ℕ} {count : ℕ} {end : Scope} → Stands bs (length bs / 6) end → Spent bs spent (length bs / 6) → count ≡ end.opened
    → Summed spent bases (count + 1) → length bases ≡ length spent → Based bs bases
unfolding scope_of
bases-all {bs} {end = end} s p q u l =
    let o : end.opened ≡ regions (table_of bs) (length bs / 6) = ap (λ x. x.opened) s.is in
    record { room = omega (arith, p.room); each = λ g h. u.each g (omega arith) ∙ sums_are p g }

-- the same of the words of these regions alone, as the code sums them
pub sums_fit_taken : {bs spent : List ℕ} {count : ℕ} {end : Scope} → Stands bs (length bs / 6) end → Spent bs spent (length bs / 6) → count ≡ end.opened
    → (g : ℕ) → g ≤ length (take (count + 1) spent) → sums (take (count + 1) spent) g < 65536
sums_fit_taken {bs} {spent} {count} s p q g h =
    let l : g ≤ count + 1 = omega (arith, length-take-le (count + 1) spent (omega (arith, s.opened_low, s.few_rows, p.room))) in
    omega (arith, sums-take spent (count + 1) g l, sums-fit s p q g l)

pub bases_all_taken : {bs spent bases : List ℕ} {count : ℕ} {end : Scope} → Stands bs (length bs / 6) end → Spent bs spent (length bs / 6) → count ≡ end.opened
    → Summed (take (count + 1) spent) bases (length (take (count + 1) spent)) → length bases ≡ length (take (count + 1) spent)
    → Based bs (bases ++ drop (count + 1) spent)
unfolding scope_of
bases_all_taken {bs} {spent} {bases} {count} {end} s p q u l =
    let o : end.opened ≡ regions (table_of bs) (length bs / 6) = ap (λ x. x.opened) s.is in
    let n : length (take (count + 1) spent) ≡ count + 1 = length-take-le (count + 1) spent (omega (arith, s.opened_low, s.few_rows, p.room)) in
    record {
      room = omega (arith, p.room, length-append bases (drop (count + 1) spent), length-drop (count + 1) spent);
      each = λ g h. get_or-append bases (drop (count + 1) spent) 0 g (omega arith) ∙ u.each g (omega arith) ∙ sums-take spent (count + 1) g (omega arith) ∙ sums_are p g;
    }

-- ---- the values
region-in : (bs : List ℕ) (i : ℕ) → i ≤ length bs / 6 → region_of (open_at (table_of bs) i) ≤ regions (table_of bs) (length bs / 6)
region-in bs i l = omega (arith, region-regions (table_of bs) i, regions-mono (table_of bs) {i = i} (length bs / 6) l)

module _ {bs bases : List ℕ} {i g took : ℕ} {here : Scope} (s : Stands bs i here) (b : Based bs bases) (p : took ≡ took_before (table_of bs) i) (q : g ≡ here.region) where
  pub value-base-in : g < length bases
  value-base-in = omega (arith, s.region_low, s.row, s.few_rows, b.room)

  pub value-is : get_or bases g 0 + took ≡ value_of (table_of bs) i
  unfolding value_of value scope_of took_before
  value-is =
      let own : g ≡ region_of (open_at (table_of bs) i) = q ∙ ap (λ x. x.region) s.is in
      rw (own, p) (omega (arith, b.each (region_of (open_at (table_of bs) i)) (region-in bs i s.row)))

pub value_low : (bs : List ℕ) (i : ℕ) → verdict_of bs ≡ Accepted → i ≤ length bs / 6 → value_of (table_of bs) i ≤ 4000
unfolding value_of
value_low bs i a l =
    omega
    (arith, value-bound (table_of bs) (region_of (open_at (table_of bs) i)) i (omega (arith, table-length bs)), region-regions (table_of bs) i, regions-bound (table_of bs) i, table-length bs, few_rows bs a)

pub value-fits : {bs bases : List ℕ} {i g took : ℕ} {here : Scope} → Stands bs i here → Based bs bases → took ≡ took_before (table_of bs) i → g ≡ here.region
    → Fits w16 (get_or bases g 0 + took)
value-fits {bs} {i = i} s b p q = record { fits = omega (arith, value-is s b p q, value_low bs i s.accepted s.row) }

pub ruleset valued = (value-base-in, value-is, value-fits)

pub record Valuing (bs values₀ values : List ℕ) (i : ℕ) : Type 0 where
  pub le : i ≤ length bs / 6
  pub few_rows : length bs / 6 ≤ 1024
  pub same : length values ≡ length values₀
  pub is : (k : ℕ) → k < i → get_or values k 0 ≡ value_of (table_of bs) k
  pub rest : (k : ℕ) → i ≤ k → k < length bs / 6 → get_or values k 0 ≡ took_before (table_of bs) k

pub value-start : {bs : List ℕ} {m : List Scope} {values : List ℕ} → Surveyed bs m → Took bs values (length bs / 6) → Valuing bs values values 0
value-start {bs} s t =
    record { le = omega arith; few_rows = s.few_rows; same = refl; is = λ k h. absurd (not-suc-le-zero h); rest = λ k h l. t.each k l }

pub value-took : {bs values₀ values : List ℕ} {i : ℕ} → Valuing bs values₀ values i → i < length bs / 6 → get_or values i 0 ≡ took_before (table_of bs) i
value-took {i = i} d l = d.rest i (omega arith) l

pub value-more : {bs values₀ values : List ℕ} {i v : ℕ} → Valuing bs values₀ values i → i < length bs / 6 → 1024 ≤ length values₀
    → v ≡ value_of (table_of bs) i → Valuing bs values₀ (set values i v) (i + 1)
value-more {bs} {values₀} {values} {i} {v} d l r e =
    record {
      le = omega arith;
      few_rows = d.few_rows;
      same = length-set values i v ∙ d.same;
      is = λ k x. by k (eq-or-lt_of_le (subst (λ z. k < z) (add-one i) x));
      rest = λ k h x. get_or-set_other values i k v 0 (omega arith) ∙ d.rest k (omega arith) x;
    }
  where
    by : (k : ℕ) → (suc k ≡ suc i) ⊎ (suc k < suc i) → get_or (set values i v) k 0 ≡ value_of (table_of bs) k
    by k (inl x) = let y : k ≡ i = omega arith in rw y (get_or-set_same values i v 0 (omega (arith, d.same, d.few_rows)) ∙ e)
    by k (inr x) = get_or-set_other values i k v 0 (omega arith) ∙ d.is k (omega arith)

pub values-all : {bs values₀ values : List ℕ} {i n : ℕ} → Valuing bs values₀ values i → n ≡ length bs / 6 → n ≤ i → 1024 ≤ length values₀ → Valued bs values
values-all {bs} {values₀} {values} {i} d q h r =
    let x : i ≡ length bs / 6 = omega (arith, d.le) in
    record { room = omega (arith, d.same); each = λ k l. d.is k (omega arith) }

pub ruleset valuings = (value-start, value-took, value-more, values-all)
