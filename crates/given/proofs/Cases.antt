-- A case, as the code meets it: what it is by its bytes, and the rows that it stands for. Assumes nothing.
use mathlib.Core.Path.{◌≡◌, refl, sym, ap, ◌∙◌, subst}
use mathlib.Core.Bool.{Bool, true, false, not}
use mathlib.Core.List.{List, ◌++◌}
use Prim.Native.Nat.{ℕ, ◌+◌, ◌*◌, ◌-◌}
use native.Mathlib.Omega.{arith}
use lib.ListN.{length, get_or, take, drop, replicate}
use Rattle.rules.specs.declared.kind.Kind.TheVariants.{If, Else, End, Call}
use Rattle.rules.specs.declared.refusal.Refusal.TheVariants.{WrongField}
use Rattle.rules.specs.Bytes.{word_at}
use Rattle.rules.specs.Row.{row_width, row_in, fields_fit_lem}
use Rattle.rules.specs.Switch.{bare_row}
use Rattle.scan.specs.declared.open.Standing.{Standing}
use Rattle.scan.specs.Next.{Next}
use Rattle.scan.specs.Next as next
use Rattle.rules.proofs.Logic.{not-true, not-false}
use Rattle.given.specs.declared.plan.Plan.{Plan}
use Rattle.given.specs.Reached.{Faulty}
use Rattle.given.specs.declared.sort.Sort.TheVariants.{Wrong, Case}
use Rattle.given.specs.declared.things.Things.{Things}
use Rattle.given.specs.Sort.{own_sort, sort_of_lem, first_given}
use Rattle.given.specs.Things.{top_mark}
use Rattle.given.specs.Through.{Through, OwnOk, SpansOk}
use Rattle.given.specs.Reached.{Reached, Here, RowOk}
use Rattle.given.proofs.Sorts.{first-case}
use Rattle.given.proofs.Spans.{else_rows}
use Rattle.given.proofs.Rows.{row-refused}
use Rattle.given.proofs.Dos.{own_first}

-- ---- the rows that it stands for
module _ (p : Plan) (once : p.own ≡ 1) (none : p.ends ≡ 0) (is : p.kind ≡ If) {six : List ℕ} {s : Standing} {ps ps1 : List ℕ} {n : ℕ}
    {out out1 : List ℕ} {x : Next} (a : Through (replicate p.elses (bare_row Else)) s ps ps1 n out out1 x) where
  pub case-on : {s1 : Standing} → x ≡ next.On s1 → {ps2 out2 : List ℕ} {z : Next} → OwnOk 1 If six s1 ps1 ps2 (n + p.elses) out1 out2 z
      → SpansOk p six s ps ps2 n out out2 z
  case-on {s1} m {ps2} {out2} {z} b =
      else_rows p a m
      (record {
        through = λ r kind bytes.
            subst (λ k. Through (replicate k r ++ replicate p.ends (bare_row End)) s1 ps1 ps2 (n + p.elses) out1 out2 z) (sym once)
            (subst (λ k. Through (replicate 1 r ++ replicate k (bare_row End)) s1 ps1 ps2 (n + p.elses) out1 out2 z) (sym none)
            (b.through r (λ h. kind (omega arith) ∙ is) (λ h. bytes (omega arith))));
      })

-- ---- row i
module _ {bs : List ℕ} {i : ℕ} (here : Here bs i) (first : get_or bs (row_width * i) 0 ≡ 11) {f : Bool}
    (fit : f ≡ fields_fit_lem Call (row_in (take (length bs - row_width * i) (drop (row_width * i) bs)) 0).operands) where
  sort_is : own_sort f Case ≡ sort_of_lem (first_given (take (length bs - row_width * i) (drop (row_width * i) bs)))
  sort_is =
      first-case (take (length bs - row_width * i) (drop (row_width * i) bs)) f (own_sort f Case) (own_first bs i first) fit refl

  pub case-named : not f ≡ false → Case ≡ sort_of_lem (first_given (take (length bs - row_width * i) (drop (row_width * i) bs)))
  case-named e = sym (ap (λ b. own_sort b Case) (not-false f e)) ∙ sort_is

  pub case-wrong : {s : Standing} {ps : List ℕ} {t : Things} {ms vs us out : List ℕ} → Reached bs i s ps t ms vs us out → not f ≡ true
      → RowOk bs i ps ms vs us out (Faulty WrongField)
  case-wrong {t = t} {ms = ms} v e =
      row-refused v here {sort = Wrong} {top = top_mark ms t.count} {number = word_at bs (row_width * i + 4)}
      (sym (ap (λ b. own_sort b Case) (not-true f e)) ∙ sort_is) refl refl refl refl
