-- The marks of the things that are open: what the innermost one's says, and what a store leaves as it is. Assumes nothing.
use mathlib.Core.Path.{◌≡◌, refl, sym, ap, ◌∙◌}
use mathlib.Core.Bool.{Bool, true, false, cond, not, ◌&&◌}
use mathlib.Core.List.{List, [], ◌∷◌}
use Prim.Native.Nat.{ℕ, suc, ◌+◌, ◌*◌, ◌-◌, ◌%◌, ◌/◌, ◌≤◌, ◌<◌}
use native.Mathlib.Omega.{arith}
use lib.Dec.{eqb}
use lib.ListN.{length, get_or, set}
use lib.Seq.{get_or-set_same, get_or-set_other}
use borrow.Author.Tests.{eq-eqb, ne_eqb}
use Rattle.rules.specs.Switch.{Switch, Thing, construct, switch}
use Rattle.rules.specs.Given.{is_none, no_part}
use Rattle.rules.specs.Chained.{cases_in}
use Rattle.given.specs.Things.{mark_of, marked_cases, top_mark, NumbersAt, Spelt, OpenIs}

-- ---- the mark of a switch
pub mark-some : (s : Switch) → eqb (mark_of s) 0 ≡ false
mark-some s = by s.in_default
  where
    by : (d : Bool) → eqb (cond d 2 1 + 2 * length s.used) 0 ≡ false
    by true = ne_eqb (2 + 2 * length s.used) 0 (λ e. absurd (let z : ⊥ = omega arith in z))
    by false = ne_eqb (1 + 2 * length s.used) 0 (λ e. absurd (let z : ⊥ = omega arith in z))

pub mark-fresh : (s : Switch) → eqb (mark_of s) 1 ≡ no_part s
mark-fresh s = by s.in_default s.used
  where
    by : (d : Bool) (ns : List ℕ) → eqb (cond d 2 1 + 2 * length ns) 1 ≡ is_none ns && not d
    by true [] = refl
    by true (n ∷ ns) = ne_eqb (2 + 2 * length (n ∷ ns)) 1 (λ e. absurd (let z : ⊥ = omega arith in z))
    by false [] = refl
    by false (n ∷ ns) = ne_eqb (1 + 2 * length (n ∷ ns)) 1 (λ e. absurd (let z : ⊥ = omega arith in z))

pub mark-default : (s : Switch) → eqb (mark_of s % 2) 0 ≡ s.in_default
mark-default s = by s.in_default
  where
    by : (d : Bool) → eqb ((cond d 2 1 + 2 * length s.used) % 2) 0 ≡ d
    by true = eq-eqb ((2 + 2 * length s.used) % 2) 0 (omega arith)
    by false = ne_eqb ((1 + 2 * length s.used) % 2) 0 (λ e. absurd (let z : ⊥ = omega arith in z))

pub mark-cases : (s : Switch) → marked_cases (mark_of s) ≡ length s.used
mark-cases s = by s.in_default
  where
    by : (d : Bool) → ((cond d 2 1 + 2 * length s.used) - 1) / 2 ≡ length s.used
    by true = omega arith
    by false = omega arith

-- ---- the innermost thing
abbrev pub mark_top : List Thing → ℕ
mark_top [] = 0
mark_top (construct ∷ ts) = 0
mark_top (switch s ∷ ts) = mark_of s

module _ {marks vars words : List ℕ} where
  pub top_is : (ts : List Thing) {count cases : ℕ} → OpenIs ts count cases marks vars words → top_mark marks count ≡ mark_top ts
  top_is [] {count} o = ap (λ b. cond b 0 (get_or marks (count - 1) 0)) (eq-eqb count 0 (sym o.count_is))
  top_is (construct ∷ ts) {count} o =
      let q : count - 1 ≡ length ts = omega (arith, o.count_is) in
      ap (λ b. cond b 0 (get_or marks (count - 1) 0)) (ne_eqb count 0 (λ e. absurd (let z : ⊥ = omega (arith, o.count_is) in z)))
      ∙ ap (λ i. get_or marks i 0) q ∙ o.spelt.0
  top_is (switch s ∷ ts) {count} o =
      let q : count - 1 ≡ length ts = omega (arith, o.count_is) in
      ap (λ b. cond b 0 (get_or marks (count - 1) 0)) (ne_eqb count 0 (λ e. absurd (let z : ⊥ = omega (arith, o.count_is) in z)))
      ∙ ap (λ i. get_or marks i 0) q ∙ o.spelt.0.mark_is

  pub var_is : (s : Switch) (ts : List Thing) {count cases : ℕ} → OpenIs (switch s ∷ ts) count cases marks vars words → top_mark vars count ≡ s.p
  var_is s ts {count} o =
      let q : count - 1 ≡ length ts = omega (arith, o.count_is) in
      ap (λ b. cond b 0 (get_or vars (count - 1) 0)) (ne_eqb count 0 (λ e. absurd (let z : ⊥ = omega (arith, o.count_is) in z)))
      ∙ ap (λ i. get_or vars i 0) q ∙ o.spelt.0.var_is

-- ---- what lies past the things that are open may change
numbers-same : (us xs : List ℕ) (b : ℕ) (ns : List ℕ) → ((j : ℕ) → j < b + length ns → get_or xs j 0 ≡ get_or us j 0) → NumbersAt us b ns → NumbersAt xs b ns
numbers-same us xs b [] same h = tt
numbers-same us xs b (n ∷ ns) same h =
    (same (b + length ns) (omega arith) ∙ h.0, numbers-same us xs b ns (λ j l. same j (omega arith)) h.1)

-- the arrays agree on the first so many things and cases
pub record Same (ms vs us ms' vs' us' : List ℕ) (things cases : ℕ) : Type 0 where
  pub marks_same : (j : ℕ) → j < things → get_or ms' j 0 ≡ get_or ms j 0
  pub vars_same : (j : ℕ) → j < things → get_or vs' j 0 ≡ get_or vs j 0
  pub words_same : (j : ℕ) → j < cases → get_or us' j 0 ≡ get_or us j 0

module _ {ms vs us ms' vs' us' : List ℕ} where
  same-less : {t c : ℕ} (t' c' : ℕ) → t' ≤ t → c' ≤ c → Same ms vs us ms' vs' us' t c → Same ms vs us ms' vs' us' t' c'
  same-less t' c' p q h =
      record {
        marks_same = λ j l. h.marks_same j (omega arith);
        vars_same = λ j l. h.vars_same j (omega arith);
        words_same = λ j l. h.words_same j (omega arith);
      }

  pub spelt_same : (ts : List Thing) → Same ms vs us ms' vs' us' (length ts) (cases_in ts) → Spelt ms vs us ts → Spelt ms' vs' us' ts
  spelt_same [] same h = tt
  spelt_same (construct ∷ ts) same h =
      (same.marks_same (length ts) (omega arith) ∙ h.0, spelt_same ts (same-less (length ts) (cases_in ts) (omega arith) (omega arith) same) h.1)
  spelt_same (switch s ∷ ts) same h = (
    record {
      mark_is = same.marks_same (length ts) (omega arith) ∙ h.0.mark_is;
      var_is = same.vars_same (length ts) (omega arith) ∙ h.0.var_is;
      numbers = numbers-same us us' (cases_in ts) s.used (λ j l. same.words_same j (omega arith)) h.0.numbers;
    },
    spelt_same ts (same-less (length ts) (cases_in ts) (omega arith) (omega arith) same) h.1,
  )

pub beyond : (xs : List ℕ) (i x : ℕ) → (j : ℕ) → j < i → get_or (set xs i x) j 0 ≡ get_or xs j 0
beyond xs i x j l = get_or-set_other xs i j x 0 (omega arith)

-- ---- stores: a mark and a variable in a slot, a number behind those of the open switches
module _ {ms vs us : List ℕ} {ts : List Thing} {count cases : ℕ} (o : OpenIs ts count cases ms vs us) (v x : ℕ) where
  -- behind the open things: nothing that is open changes
  same-behind : (m : ℕ) → Same ms vs us (set ms count m) (set vs count v) (set us cases x) (length ts) (cases_in ts)
  same-behind m =
      record {
        marks_same = λ j l. beyond ms count m j (omega (arith, o.count_is));
        vars_same = λ j l. beyond vs count v j (omega (arith, o.count_is));
        words_same = λ j l. beyond us cases x j (omega (arith, o.cases_are));
      }

  pub stays_open : OpenIs ts count cases (set ms count 0) (set vs count v) (set us cases x)
  stays_open = record { count_is = o.count_is; cases_are = o.cases_are; spelt = spelt_same ts (same-behind 0) o.spelt }

  pub opens_construct : count < length ms → OpenIs (construct ∷ ts) (count + 1) cases (set ms count 0) (set vs count v) (set us cases x)
  opens_construct l =
      record {
        count_is = omega (arith, o.count_is);
        cases_are = o.cases_are;
        spelt = (ap (λ i. get_or (set ms count 0) i 0) o.count_is ∙ get_or-set_same ms count 0 0 l, spelt_same ts (same-behind 0) o.spelt);
      }

  -- "0a (switch on vp)"
  pub opens_switch : count < length ms → count < length vs
      → OpenIs (switch (record { p = v; used = []; in_default = false }) ∷ ts) (count + 1) cases (set ms count 1) (set vs count v) (set us cases x)
  opens_switch l k =
      record {
        count_is = omega (arith, o.count_is);
        cases_are = omega (arith, o.cases_are);
        spelt = (
          record {
            mark_is = ap (λ i. get_or (set ms count 1) i 0) o.count_is ∙ get_or-set_same ms count 1 0 l;
            var_is = ap (λ i. get_or (set vs count v) i 0) o.count_is ∙ get_or-set_same vs count v 0 k;
            numbers = tt;
          },
          spelt_same ts (same-behind 1) o.spelt,
        );
      }

module _ {ms vs us : List ℕ} {s : Switch} {ts : List Thing} {count cases : ℕ} (o : OpenIs (switch s ∷ ts) count cases ms vs us) (x : ℕ) where
  slot : count - 1 ≡ length ts
  slot = omega (arith, o.count_is)

  same-below : (m v : ℕ) → Same ms vs us (set ms (count - 1) m) (set vs (count - 1) v) (set us cases x) (length ts) (length s.used + cases_in ts)
  same-below m v =
      record {
        marks_same = λ j l. beyond ms (count - 1) m j (omega (arith, o.count_is));
        vars_same = λ j l. beyond vs (count - 1) v j (omega (arith, o.count_is));
        words_same = λ j l. beyond us cases x j (omega (arith, o.cases_are));
      }

  same_things : (m v : ℕ) → Same ms vs us (set ms (count - 1) m) (set vs (count - 1) v) (set us cases x) (length ts) (cases_in ts)
  same_things m v = same-less (length ts) (cases_in ts) (omega arith) (omega arith) (same-below m v)

  module _ (few : count ≤ length ms) (room : count ≤ length vs) where
    low : count - 1 < length ms
    low = omega (arith, o.count_is)

    in_vars : count - 1 < length vs
    in_vars = omega (arith, o.count_is)

    -- "0b (case n)"
    pub takes_case : s.in_default ≡ false → cases < length us
        → OpenIs (switch (record { p = s.p; used = x ∷ s.used; in_default = s.in_default }) ∷ ts) count (cases + 1)
        (set ms (count - 1) (mark_of s + 2)) (set vs (count - 1) s.p) (set us cases x)
    takes_case d k =
        let m = mark_of s + 2 in
        let after : cases_in ts + length s.used ≡ cases = omega (arith, o.cases_are) in
        record {
          count_is = o.count_is;
          cases_are = omega (arith, o.cases_are);
          spelt = (
            record {
              mark_is = ap (λ i. get_or (set ms (count - 1) m) i 0) (sym slot) ∙ get_or-set_same ms (count - 1) m 0 low ∙ one_more (cond s.in_default 2 1) (length s.used);
              var_is = ap (λ i. get_or (set vs (count - 1) s.p) i 0) (sym slot) ∙ get_or-set_same vs (count - 1) s.p 0 in_vars;
              numbers = (
                ap (λ i. get_or (set us cases x) i 0) after ∙ get_or-set_same us cases x 0 k,
                numbers-same us (set us cases x) (cases_in ts) s.used (λ j h. beyond us cases x j (omega arith)) o.spelt.0.numbers,
              );
            },
            spelt_same ts (same_things m s.p) o.spelt.1,
          );
        }
      where
        one_more : (a n : ℕ) → (a + 2 * n) + 2 ≡ a + 2 * suc n
        one_more a n = omega arith

    -- "0c (default, last)"
    pub takes_default : s.in_default ≡ false
        → OpenIs (switch (record { p = s.p; used = s.used; in_default = true }) ∷ ts) count cases
        (set ms (count - 1) (mark_of s + 1)) (set vs (count - 1) s.p) (set us cases x)
    takes_default d =
        let m = mark_of s + 1 in
        record {
          count_is = o.count_is;
          cases_are = o.cases_are;
          spelt = (
            record {
              mark_is = ap (λ i. get_or (set ms (count - 1) m) i 0) (sym slot) ∙ get_or-set_same ms (count - 1) m 0 low
                  ∙ ap (λ b. cond b 2 1 + 2 * length s.used + 1) d ∙ one_more (length s.used);
              var_is = ap (λ i. get_or (set vs (count - 1) s.p) i 0) (sym slot) ∙ get_or-set_same vs (count - 1) s.p 0 in_vars;
              numbers = numbers-same us (set us cases x) (cases_in ts) s.used (λ j h. beyond us cases x j (omega (arith, o.cases_are))) o.spelt.0.numbers;
            },
            spelt_same ts (same_things m s.p) o.spelt.1,
          );
        }
      where
        one_more : (n : ℕ) → 1 + 2 * n + 1 ≡ 2 + 2 * n
        one_more n = omega arith

  -- "closed by 06"
  pub closes_switch : (v : ℕ) → OpenIs ts (count - 1) (cases - length s.used) (set ms count 0) (set vs count v) (set us cases x)
  closes_switch v =
      let o' = stays_open o v x in
      record { count_is = omega (arith, o.count_is); cases_are = omega (arith, o.cases_are); spelt = o'.spelt.1 }

pub closes-construct : {ms vs us : List ℕ} {ts : List Thing} {count cases : ℕ} → OpenIs (construct ∷ ts) count cases ms vs us → (v x : ℕ)
    → OpenIs ts (count - 1) cases (set ms count 0) (set vs count v) (set us cases x)
closes-construct o v x =
    let o' = stays_open o v x in
    record { count_is = omega (arith, o.count_is); cases_are = o.cases_are; spelt = o'.spelt.1 }
