-- The rows that a plan stands for: no else or one, no row of its own or one, some ends. Assumes nothing.
use mathlib.Core.Path.{◌≡◌, refl, sym, ap, ◌∙◌, subst}
use mathlib.Core.List.{List, [], ◌∷◌, ◌++◌}
use Prim.Native.Nat.{ℕ, zero, suc, ◌+◌, ◌-◌, ◌≤◌, ◌<◌}
use native.Mathlib.Omega.{arith}
use lib.ListN.{length, replicate, length-replicate}
use Rattle.rules.specs.declared.kind.Kind.{Kind}
use Rattle.rules.specs.declared.kind.Kind.TheVariants.{Else, End}
use Rattle.rules.specs.declared.refusal.Refusal.{Refusal}
use Rattle.rules.specs.Row.{Row, Table, kind_byte, row_bytes}
use Rattle.rules.specs.Switch.{bare_row}
use Rattle.rows.specs.declared.row.Row as code
use Rattle.rows.specs.Row as rows
use Rattle.rows.proofs.Six.{bare-bytes}
use Rattle.scan.specs.declared.open.Standing.{Standing}
use Rattle.scan.specs.Next.{Next, Faulty, On}
use Rattle.scan.specs.Standing.{Sane}
use Rattle.scan.specs.Next.{NextSane, NextOk}
use Rattle.given.specs.declared.plan.Plan.{Plan}
use Rattle.given.specs.Through.{stored, Through, OwnOk, BehindOk, SpansOk, many_rows}
use Rattle.given.proofs.Through.{through-none, through-refused, through_one, then-on, then_next, first-refused}

-- ---- the same row some times
copies-both : {A : Type 0} (n m : ℕ) (x : A) → replicate n x ++ replicate m x ≡ replicate (n + m) x
copies-both zero m x = let q : m ≡ 0 + m = omega arith in ap (λ k. replicate k x) q
copies-both (suc n) m x =
    let q : suc (n + m) ≡ suc n + m = omega arith in
    ap (λ l. x ∷ l) (copies-both n m x) ∙ ap (λ k. replicate k x) q

-- ---- no row, or one
once : (r : Row) (count : ℕ) → count ≤ 1 → (count ≡ 0 → ⊥) → (r ∷ []) ≡ replicate count r
once r count few some = let q : 1 ≡ count = omega arith in ap (λ k. replicate k r) q

module _ {count : ℕ} {s : Standing} {ps : List ℕ} {n : ℕ} {out : List ℕ} (r : Row) where
  pub none_of : count ≡ 0 → Sane s ps → Through (replicate count r) s ps ps n out out (On s)
  none_of e ok = subst (λ k. Through (replicate k r) s ps ps n out out (On s)) (sym e) (through-none ok)

  module _ (few : count ≤ 1) (some : count ≡ 0 → ⊥) where
    module _ {k : Kind} {ps' : List ℕ} {x : Next} (ok : NextOk k s ps ps' x) (is : r.kind ≡ k) where
      pub refused-of : {out' : List ℕ} {c : Refusal} → x ≡ Faulty c → Through (replicate count r) s ps ps' n out out' (Faulty c)
      refused-of {out'} {c} m = subst (λ rs. Through rs s ps ps' n out out' (Faulty c)) (once r count few some) (through-refused ok r is m)

      pub one_of : {out' : List ℕ} {s' : Standing} {six : List ℕ} → x ≡ On s' → row_bytes r ≡ six → out' ≡ stored six n out
          → Through (replicate count r) s ps ps' n out out' (On s')
      one_of {out'} {s'} {six} m q e =
          subst (λ o. Through (replicate count r) s ps ps' n out o (On s')) (sym e)
          (subst (λ rs. Through rs s ps ps' n out (stored six n out) (On s')) (once r count few some) (through_one ok r is n out m six q))

-- the bytes of an else and of an end
pub else-bytes : {r : code.Row} → r ≡ rows.bare_row 4 → row_bytes (bare_row Else) ≡ rows.six r
unfolding kind_byte
else-bytes e = bare-bytes Else ∙ ap rows.six (sym e)

pub end-bytes : {r : code.Row} → r ≡ rows.bare_row 6 → row_bytes (bare_row End) ≡ rows.six r
unfolding kind_byte
end-bytes e = bare-bytes End ∙ ap rows.six (sym e)

-- ---- the row itself
module _ {count : ℕ} {k : Kind} {six : List ℕ} {s : Standing} {ps : List ℕ} {n : ℕ} {out : List ℕ} where
  pub own-none : count ≡ 0 → Sane s ps → OwnOk count k six s ps ps n out out (On s)
  own-none e ok = record { sane = ok; through = λ r kind bytes. none_of r e ok }

  module _ (few : count ≤ 1) (some : count ≡ 0 → ⊥) {ps' : List ℕ} {x : Next} (ok : NextOk k s ps ps' x) where
    pub own-refused : {out' : List ℕ} {c : Refusal} → x ≡ Faulty c → OwnOk count k six s ps ps' n out out' (Faulty c)
    own-refused m = record { sane = tt; through = λ r kind bytes. refused-of r few some ok (kind (omega arith)) m }

    pub own_on : {out' : List ℕ} {s' : Standing} → x ≡ On s' → out' ≡ stored six n out → OwnOk count k six s ps ps' n out out' (On s')
    own_on m e = record { sane = subst (NextSane ps') m ok.sane; through = λ r kind bytes. one_of r few some ok (kind (omega arith)) m (bytes (omega arith)) e }

-- ---- ends
-- so many of them are done
pub record EndsTo (count : ℕ) (s₀ : Standing) (ps₀ : List ℕ) (n : ℕ) (out₀ ps out : List ℕ) (s : Standing) (done : ℕ) : Type 0 where
  pub le : done ≤ count
  pub few : n + count ≤ many_rows
  pub through : Through (replicate done (bare_row End)) s₀ ps₀ ps n out₀ out (On s)

pub ends-start : {count n : ℕ} {s : Standing} {ps out : List ℕ} → Sane s ps → n + count ≤ many_rows → EndsTo count s ps n out ps out s 0
ends-start ok few = record { le = omega arith; few = few; through = through-none ok }

module _ {count n done : ℕ} {s₀ s : Standing} {ps₀ out₀ ps out : List ℕ} (v : EndsTo count s₀ ps₀ n out₀ ps out s done) where
  pub ends-sane : Sane s ps
  ends-sane = v.through.goes.sane

  module _ (more : done < count) {ps' : List ℕ} {x : Next} (ok : NextOk End s ps ps' x) where
    pub ends-refused : {out' : List ℕ} {c : Refusal} → x ≡ Faulty c → Through (replicate count (bare_row End)) s₀ ps₀ ps' n out₀ out' (Faulty c)
    ends-refused {out'} {c} m =
        let rest = count - done - 1 in
        let q : done + 1 + rest ≡ count = omega arith in
        subst (λ rs. Through rs s₀ ps₀ ps' n out₀ out' (Faulty c))
        (ap (λ l. l ++ replicate rest (bare_row End)) (copies-both done 1 (bare_row End)) ∙ copies-both (done + 1) rest (bare_row End)
        ∙ ap (λ k. replicate k (bare_row End)) q)
        (first-refused (replicate rest (bare_row End)) (then_next v.through refl (Faulty c) (through-refused ok (bare_row End) refl m)))

    pub ends_on : {out' : List ℕ} {s' : Standing} {six : List ℕ} → x ≡ On s' → row_bytes (bare_row End) ≡ six → out' ≡ stored six (n + done) out
        → EndsTo count s₀ ps₀ n out₀ ps' out' s' (done + 1)
    ends_on {out'} {s'} {six} m q e =
        let z : n + length (replicate done (bare_row End)) ≡ n + done = ap (λ k. n + k) (length-replicate done (bare_row End)) in
        record {
          le = omega arith;
          few = v.few;
          through = subst (λ o. Through (replicate (done + 1) (bare_row End)) s₀ ps₀ ps' n out₀ o (On s')) (sym e)
              (subst (λ rs. Through rs s₀ ps₀ ps' n out₀ (stored six (n + done) out) (On s')) (copies-both done 1 (bare_row End))
              (then-on v.through z (through_one ok (bare_row End) refl (n + done) out m six q)));
        }

  pub ends_done : count ≤ done → Through (replicate count (bare_row End)) s₀ ps₀ ps n out₀ out (On s)
  ends_done h =
      let q : done ≡ count = omega (arith, v.le) in
      subst (λ k. Through (replicate k (bare_row End)) s₀ ps₀ ps n out₀ out (On s)) q v.through

-- ---- all of them
pub passed-sane : {rs : Table} {s s1 : Standing} {ps ps1 : List ℕ} {n : ℕ} {out out1 : List ℕ} {x : Next} → Through rs s ps ps1 n out out1 x → x ≡ On s1
    → Sane s1 ps1
passed-sane {rs} {s} {s1} {ps} {ps1} {n} {out} {out1} a m = (subst (λ y. Through rs s ps ps1 n out out1 y) m a).goes.sane

pub own-sane : {count : ℕ} {k : Kind} {six : List ℕ} {s s1 : Standing} {ps ps1 : List ℕ} {n : ℕ} {out out1 : List ℕ} {x : Next}
    → OwnOk count k six s ps ps1 n out out1 x → x ≡ On s1 → Sane s1 ps1
own-sane {ps1 = ps1} a m = subst (NextSane ps1) m a.sane

module _ (p : Plan) {six : List ℕ} {s : Standing} {ps ps1 : List ℕ} {n : ℕ} {out out1 : List ℕ} {x : Next}
    (a : OwnOk p.own p.kind six s ps ps1 n out out1 x) where
  pub row-refused : {c : Refusal} → x ≡ Faulty c → BehindOk p six s ps ps1 n out out1 (Faulty c)
  row-refused {c} m =
      record {
        through = λ r kind bytes.
            first-refused (replicate p.ends (bare_row End))
            (subst (λ z. Through (replicate p.own r) s ps ps1 n out out1 z) m (a.through r kind bytes));
      }

  pub row_ends : {s1 : Standing} → x ≡ On s1 → {ps2 out2 : List ℕ} {z : Next}
      → Through (replicate p.ends (bare_row End)) s1 ps1 ps2 (n + p.own) out1 out2 z → BehindOk p six s ps ps2 n out out2 z
  row_ends m {z = z} b =
      record {
        through = λ r kind bytes.
            then_next (subst (λ w. Through (replicate p.own r) s ps ps1 n out out1 w) m (a.through r kind bytes))
            (ap (λ k. n + k) (length-replicate p.own r)) z b;
      }

module _ (p : Plan) {six : List ℕ} {s : Standing} {ps ps1 : List ℕ} {n : ℕ} {out out1 : List ℕ} {x : Next}
    (a : Through (replicate p.elses (bare_row Else)) s ps ps1 n out out1 x) where
  pub else-refused : {c : Refusal} → x ≡ Faulty c → SpansOk p six s ps ps1 n out out1 (Faulty c)
  else-refused {c} m =
      let b = subst (λ y. Through (replicate p.elses (bare_row Else)) s ps ps1 n out out1 y) m a in
      record { through = λ r kind bytes. first-refused (replicate p.own r ++ replicate p.ends (bare_row End)) b }

  pub else_rows : {s1 : Standing} → x ≡ On s1 → {ps2 out2 : List ℕ} {z : Next} → BehindOk p six s1 ps1 ps2 (n + p.elses) out1 out2 z
      → SpansOk p six s ps ps2 n out out2 z
  else_rows m {z = z} b =
      record {
        through = λ r kind bytes.
            then_next (subst (λ y. Through (replicate p.elses (bare_row Else)) s ps ps1 n out out1 y) m a)
            (ap (λ k. n + k) (length-replicate p.elses (bare_row Else))) z (b.through r kind bytes);
      }
