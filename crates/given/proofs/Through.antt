-- Rows of the chain that go through one after the other, and into the buffer: none, one, and some behind others. Assumes nothing.
use mathlib.Core.Path.{◌≡◌, refl, sym, ap, ◌∙◌, subst}
use mathlib.Core.Bool.{Bool, true, false, cond}
use mathlib.Core.List.{List, [], ◌∷◌, ◌++◌, append_assoc}
use Prim.Native.Nat.{ℕ, zero, suc, ◌+◌, ◌*◌, ◌/◌, ◌≤◌, ◌<◌}
use native.Mathlib.Nat.{add-zero}
use native.Mathlib.Omega.{arith}
use lib.Dec.{ltb}
use lib.ListN.{length, take, drop, length-append}
use lib.Seq.{sets, sets-eq, take_at, length-sets}
use borrow.Author.Tests.{ltb-true, ltb-false}
use Rattle.rules.specs.declared.kind.Kind.{Kind}
use Rattle.rules.specs.declared.refusal.Refusal.{Refusal}
use Rattle.rules.specs.Verdict.{Accepted}
use Rattle.rules.specs.Row.{Row, Table, row_width, table_of, kind_at, row_bytes, table_bytes}
use Rattle.rules.specs.Check.{row_verdict, rows_verdict}
use Rattle.rules.specs.Refusal.{and_then}
use Rattle.rules.specs.Given.{span_verdict}
use Rattle.rules.proofs.Logic.{append-nil}
use Rattle.rules.proofs.Encode.{table-bytes-length}
use Rattle.rules.proofs.Accepted.{then-right}
use Rattle.rules.proofs.Switch.Chain.{then-assoc, spans}
use Rattle.scan.specs.declared.open.Standing.{Standing}
use Rattle.scan.specs.Next.{Next, Faulty, On}
use Rattle.scan.specs.Standing.{Stands, Sane}
use Rattle.scan.specs.Next.{At, NextOk}
use Rattle.given.specs.Through.{Written, stored, KindsAt, Through}

-- ---- the buffer
bytes-both : (xs ys : Table) → table_bytes (xs ++ ys) ≡ table_bytes xs ++ table_bytes ys
unfolding table_bytes
bytes-both [] ys = refl
bytes-both (x ∷ xs) ys = ap (λ b. row_bytes x ++ b) (bytes-both xs ys) ∙ sym (append_assoc (row_bytes x) (table_bytes xs) (table_bytes ys))

-- a row more, its six bytes stored where there is room
pub written-more : (c : Table) (r : Row) (out : List ℕ) → Written c out → Written (c ++ (r ∷ [])) (stored (row_bytes r) (length c) out)
unfolding table_bytes row_bytes
written-more c r out w = by (ltb (length c) (length out / row_width)) refl
  where
    by : (b : Bool) → ltb (length c) (length out / row_width) ≡ b
        → Written (c ++ (r ∷ [])) (cond b (sets out (row_width * length c) (row_bytes r)) out)
    by true e h =
        let l = ltb-true (length c) (length out / row_width) e in
        let n : length (c ++ (r ∷ [])) ≡ length c + 1 = length-append c (r ∷ []) in
        let front : take (row_width * length c) out ≡ table_bytes c = w (omega arith) in
        let fits : row_width * length c + length (row_bytes r) ≤ length out = omega arith in
        let rest = drop (row_width * length c + length (row_bytes r)) out in
        let split : sets out (row_width * length c) (row_bytes r) ≡ (table_bytes c ++ row_bytes r) ++ rest
        = sets-eq (row_bytes r) out (row_width * length c) fits ∙ ap (λ x. (x ++ row_bytes r) ++ rest) front in
        let m : length (table_bytes c ++ row_bytes r) ≡ row_width * length (c ++ (r ∷ []))
        = length-append (table_bytes c) (row_bytes r) ∙ omega (arith, table-bytes-length c) in
        ap (take (row_width * length (c ++ (r ∷ [])))) split ∙ take_at (table_bytes c ++ row_bytes r) rest (row_width * length (c ++ (r ∷ []))) m
        ∙ sym (bytes-both c (r ∷ []))
    by false e h =
        let l = ltb-false (length c) (length out / row_width) e in
        let n : length (c ++ (r ∷ [])) ≡ length c + 1 = length-append c (r ∷ []) in
        absurd (let z : ⊥ = omega arith in z)

pub stored-length : (xs : List ℕ) (n : ℕ) (out : List ℕ) → length (stored xs n out) ≡ length out
stored-length xs n out = by (ltb n (length out / row_width))
  where
    by : (b : Bool) → length (cond b (sets out (row_width * n) xs) out) ≡ length out
    by true = length-sets out (row_width * n) xs
    by false = refl

-- ---- the verdict of some rows behind others
span-all : (c : Table) (j n m : ℕ) → span_verdict c j (n + m) ≡ and_then (span_verdict c j n) (span_verdict c (j + n) m)
unfolding span_verdict
span-all c j zero m =
    let q : 0 + m ≡ m = omega arith in
    ap (span_verdict c j) q ∙ ap (λ x. span_verdict c x m) (sym (add-zero j))
span-all c j (suc n) m =
    let q : suc j + n ≡ j + suc n = omega arith in
    let p : suc n + m ≡ suc (n + m) = omega arith in
    ap (span_verdict c j) p ∙ ap (λ v. and_then (row_verdict c j) v) (span-all c (suc j) n m ∙ ap (λ x. and_then (span_verdict c (suc j) n) (span_verdict c x m)) q)
    ∙ sym (then-assoc (row_verdict c j) (span_verdict c (suc j) n) (span_verdict c (j + suc n) m))

pub span-good : (bs : List ℕ) (j n : ℕ) {s : Standing} {ps : List ℕ} → Stands bs (j + n) s ps → span_verdict (table_of bs) j n ≡ Accepted
span-good bs j n w = then-right (rows_verdict (table_of bs) j) _ (sym (spans (table_of bs) j n) ∙ w.good)

-- ---- none
pub through-none : {s : Standing} {ps out : List ℕ} {n : ℕ} → Sane s ps → Through [] s ps ps n out out (On s)
through-none {s} {ps} {out} ok = record {
  goes = record {
    sane = ok;
    leads = λ bs j k w. subst (λ i. Stands bs i s ps) (sym (add-zero j)) w;
    kept = λ c q w. subst (λ x. Written x out) (sym (append-nil c)) w;
    long = refl;
  };
}

-- ---- one
module _ {k : Kind} {s : Standing} {ps ps' : List ℕ} {x : Next} (ok : NextOk k s ps ps' x) (r : Row) (is : r.kind ≡ k) where
  here : (bs : List ℕ) (j : ℕ) → KindsAt (r ∷ []) bs j → At k bs j
  here bs j h = subst (λ i. At k bs i) (add-zero j) (subst (λ z. At z bs (j + 0)) is (h 0 (omega arith)))

  pub through-refused : {n : ℕ} {out out' : List ℕ} {c : Refusal} → x ≡ Faulty c → Through (r ∷ []) s ps ps' n out out' (Faulty c)
  unfolding span_verdict
  through-refused {c = c} m =
      let o = rw m at ok in
      record { goes = λ bs j h w. ap (λ v. and_then v Accepted) (o.leads bs j (here bs j h) w) }

  pub through_one : (n : ℕ) (out : List ℕ) {s' : Standing} → x ≡ On s' → (six : List ℕ) → row_bytes r ≡ six
      → Through (r ∷ []) s ps ps' n out (stored six n out) (On s')
  through_one n out {s'} m six q =
      let o = rw m at ok in
      record {
        goes = record {
          sane = o.sane;
          leads = λ bs j h w.
              let z : suc j ≡ j + 1 = omega arith in
              subst (λ i. Stands bs i s' ps') z (o.leads bs j (here bs j h) w);
          kept = λ c p w.
              subst (Written (c ++ (r ∷ []))) (ap (λ i. stored (row_bytes r) i out) p ∙ ap (λ b. stored b n out) q) (written-more c r out w);
          long = stored-length six n out;
        };
      }

-- ---- some behind others
at_first : (rs qs : Table) (d : ℕ) → d < length rs → kind_at (rs ++ qs) d ≡ kind_at rs d
at_first [] qs d h = absurd (let z : ⊥ = omega arith in z)
at_first (r ∷ rs) qs zero h = refl
at_first (r ∷ rs) qs (suc d) h = at_first rs qs d (omega arith)

at_rest : (rs qs : Table) (d : ℕ) → kind_at (rs ++ qs) (length rs + d) ≡ kind_at qs d
at_rest [] qs d = let q : 0 + d ≡ d = omega arith in ap (kind_at qs) q
at_rest (r ∷ rs) qs d = let q : suc (length rs) + d ≡ suc (length rs + d) = omega arith in ap (kind_at (r ∷ (rs ++ qs))) q ∙ at_rest rs qs d

module _ (rs qs : Table) (bs : List ℕ) (j : ℕ) (h : KindsAt (rs ++ qs) bs j) where
  kinds-first : KindsAt rs bs j
  kinds-first d l = subst (λ k. At k bs (j + d)) (at_first rs qs d l) (h d (omega (arith, length-append rs qs)))

  kinds-rest : KindsAt qs bs (j + length rs)
  kinds-rest d l =
      let z : j + (length rs + d) ≡ (j + length rs) + d = omega arith in
      subst (λ i. At (kind_at qs d) bs i) z (subst (λ k. At k bs (j + (length rs + d))) (at_rest rs qs d) (h (length rs + d) (omega (arith, length-append rs qs))))

module _ {rs qs : Table} {s s1 : Standing} {ps ps1 ps2 : List ℕ} {n m : ℕ} {out out1 out2 : List ℕ}
    (a : Through rs s ps ps1 n out out1 (On s1)) (z : n + length rs ≡ m) where
  pub then-refused : {c : Refusal} → Through qs s1 ps1 ps2 m out1 out2 (Faulty c) → Through (rs ++ qs) s ps ps2 n out out2 (Faulty c)
  then-refused {c} b = record {
    goes = λ bs j h w.
        let v = a.goes.leads bs j (kinds-first rs qs bs j h) w in
        ap (span_verdict (table_of bs) j) (length-append rs qs) ∙ span-all (table_of bs) j (length rs) (length qs)
        ∙ ap (λ u. and_then u (span_verdict (table_of bs) (j + length rs) (length qs))) (span-good bs j (length rs) v)
        ∙ b.goes bs (j + length rs) (kinds-rest rs qs bs j h) v;
  }

  pub then-on : {s2 : Standing} → Through qs s1 ps1 ps2 m out1 out2 (On s2) → Through (rs ++ qs) s ps ps2 n out out2 (On s2)
  then-on {s2} b = record {
    goes = record {
      sane = b.goes.sane;
      leads = λ bs j h w.
          let l : (j + length rs) + length qs ≡ j + length (rs ++ qs) = omega (arith, length-append rs qs) in
          subst (λ i. Stands bs i s2 ps2) l
          (b.goes.leads bs (j + length rs) (kinds-rest rs qs bs j h) (a.goes.leads bs j (kinds-first rs qs bs j h) w));
      kept = λ c p w.
          subst (λ x. Written x out2) (append_assoc c rs qs)
          (b.goes.kept (c ++ rs) (length-append c rs ∙ omega (arith, p, z)) (a.goes.kept c p w));
      long = b.goes.long ∙ a.goes.long;
    };
  }

-- the rows refused at once refuse all
pub first-refused : {rs : Table} {s : Standing} {ps ps' : List ℕ} {n : ℕ} {out out' : List ℕ} {c : Refusal} (qs : Table)
    → Through rs s ps ps' n out out' (Faulty c) → Through (rs ++ qs) s ps ps' n out out' (Faulty c)
first-refused {rs} {c = c} qs a = record {
  goes = λ bs j h w.
      ap (span_verdict (table_of bs) j) (length-append rs qs) ∙ span-all (table_of bs) j (length rs) (length qs)
      ∙ ap (λ u. and_then u (span_verdict (table_of bs) (j + length rs) (length qs))) (a.goes bs j (kinds-first rs qs bs j h) w);
}

pub then_next : {rs qs : Table} {s s1 : Standing} {ps ps1 ps2 : List ℕ} {n m : ℕ} {out out1 out2 : List ℕ} → Through rs s ps ps1 n out out1 (On s1)
    → n + length rs ≡ m → (x : Next) → Through qs s1 ps1 ps2 m out1 out2 x → Through (rs ++ qs) s ps ps2 n out out2 x
then_next a z (Faulty c) b = then-refused a z b
then_next a z (On s2) b = then-on a z b
