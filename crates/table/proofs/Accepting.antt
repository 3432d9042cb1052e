-- What `check` answers: the verdict of the bytes, and the links of an accepted table. Assumes nothing.
use mathlib.Core.Path.{◌≡◌, refl, sym, ◌∙◌}
use mathlib.Core.Bool.{Bool, true, false, cond}
use mathlib.Core.List.{List}
use Prim.Native.Nat.{ℕ, suc, ◌/◌, ◌%◌, ◌-◌, ◌≤◌, ◌<◌}
use native.Mathlib.Omega.{arith}
use native.Mathlib.Decide.{dec_lt}
use lib.Dec.{ltb}
use lib.ListN.{length, get_or}
use borrow.Author.Tests.{ne_eqb, lt-ltb, le-ltb}
use Rattle.rules.specs.declared.kind.Kind.TheVariants.{If}
use Rattle.rules.specs.declared.refusal.Refusal.{Refusal}
use Rattle.rules.specs.declared.refusal.Refusal.TheVariants.{NoWholeRows, TooManyRows}
use Rattle.rules.specs.Verdict.{Verdict, Accepted, Refused}
use Rattle.rules.specs.Row.{Table, table_of, kind_at}
use Rattle.rules.specs.Scan.{is_else_of, else_of, end_of, function_count}
use Rattle.rules.specs.Check.{table_verdict, calls_verdict, verdict_of}
use Rattle.rules.specs.Links.{is_opening, else_link, Links, Checked}
use Rattle.rules.proofs.Search.{Found, hit, miss, found}
use Rattle.rules.proofs.Scan.{opening-pushes}
use Rattle.rules.proofs.Accepted.{Proper, proper, refused-not}
use Rattle.rules.proofs.Close.{end_is}
use Rattle.walk.specs.Standing.{Linked}
use Rattle.table.specs.Checking.{Scanned, AllOk}
use Rattle.walk.proofs.Once.{else-below}
use Rattle.walk.proofs.Verdicts.{none_open}
use Rattle.std.specs.Prelude.{Result, Ok, Err}

-- ---- the links of an accepted table
module _ (t : Table) {e l : List ℕ} (w : Linked t (length t) e l) where
  ends-link : Proper t → (i : ℕ) → i < length t → is_opening (kind_at t i) ≡ true → get_or e i 0 ≡ end_of t i
  ends-link ok i h o =
      let s = opening-pushes (kind_at t i) o in
      let x = end_is t i s.0 ok h s.1 in
      w.ended i (end_of t i) x.inside x.ends

  -- no else row before row x
  none-to : (i x : ℕ) → ((j : ℕ) → suc i ≤ j → j < x → is_else_of t i j ≡ false) → (j : ℕ) → j < x → is_else_of t i j ≡ false
  none-to i x f j h = by (is_else_of t i j) refl
    where
      by : (b : Bool) → is_else_of t i j ≡ b → b ≡ false
      by true q = sym q ∙ f j (else-below t i j q) h
      by false q = refl

  else-found : (i r : ℕ) → i < length t → kind_at t i ≡ If → Found (is_else_of t i) (length t - i) (suc i) r → get_or l i 0 ≡ cond (ltb r (length t)) r 0
  else-found i r h k f = by (dec_lt r (length t)) f
    where
      by : Dec (r < length t) → Found (is_else_of t i) (length t - i) (suc i) r → get_or l i 0 ≡ cond (ltb r (length t)) r 0
      by (yes b) (hit c x y z) = rw (lt-ltb r (length t) b) (w.turned i r b c)
      by (yes b) (miss q z) = absurd (let v : ⊥ = omega arith in v)
      by (no b) (hit c x y z) = rw (le-ltb r (length t) (omega arith))
          (w.bare i h k (none-to i (length t) (λ j p s. z j p (omega arith))))
      by (no b) (miss q z) = rw (le-ltb r (length t) (omega arith))
          (w.bare i h k (none-to i (length t) (λ j p s. z j p (omega arith))))

  elses-link : (i : ℕ) → i < length t → kind_at t i ≡ If → get_or l i 0 ≡ else_link t i
  unfolding else_link else_of
  elses-link i h k = else-found i (else_of t i) h k (found (is_else_of t i) (length t - i) (suc i))

linked : {bs : List ℕ} {n : ℕ} {e l a : List ℕ} → Scanned bs n e l a → verdict_of bs ≡ Accepted → Links (table_of bs) e l a
linked {bs} s v = record {
  ends_are = ends-link (table_of bs) s.links (proper bs v);
  elses_are = elses-link (table_of bs) s.links;
  heads_are = λ m h. s.headed.each m (omega (arith, s.count));
}

-- ---- the verdict
refused-checked : {bs e l a : List ℕ} {c : Refusal} → Refused c ≡ verdict_of bs → Checked bs (Refused c) e l a
refused-checked q = record { verdict_is = q; links = λ z. refused-not z }

pub verdict-of : (bs : List ℕ) → (length bs ≡ 0 → ⊥) → length bs % 6 ≡ 0 → length bs / 6 ≤ 1024 → verdict_of bs ≡ table_verdict (table_of bs)
unfolding verdict_of
verdict-of bs some whole few = rw (ne_eqb (length bs) 0 some, whole, le-ltb 1024 (length bs / 6) few)

module _ {bs e l a : List ℕ} where
  pub no_bytes : length bs ≡ 0 → Checked bs (Refused NoWholeRows) e l a
  unfolding verdict_of
  no_bytes h = refused-checked (rw h)

  module _ (some : length bs ≡ 0 → ⊥) where
    pub ragged : (length bs % 6 ≡ 0 → ⊥) → Checked bs (Refused NoWholeRows) e l a
    unfolding verdict_of
    ragged h = refused-checked (rw (ne_eqb (length bs) 0 some, ne_eqb (length bs % 6) 0 h))

    module _ (whole : length bs % 6 ≡ 0) where
      pub too_long : 1024 < length bs / 6 → Checked bs (Refused TooManyRows) e l a
      unfolding verdict_of
      too_long h = refused-checked (rw (ne_eqb (length bs) 0 some, whole, lt-ltb 1024 (length bs / 6) h))

      module _ (few : length bs / 6 ≤ 1024) where
        module _ {r : Result ℕ Refusal} (ok : AllOk bs e l a r) where
          pub rejected : {c : Refusal} → r ≡ Err c → Checked bs (Refused c) e l a
          rejected m = let o = rw m at ok in refused-checked (sym (verdict-of bs some whole few ∙ o.leads))

          pub counted : {n : ℕ} {v : Verdict} → r ≡ Ok n → v ≡ calls_verdict (table_of bs) (length (table_of bs)) → Checked bs v e l a
          counted m q =
              let o = rw m at ok in
              let z : _ ≡ verdict_of bs = q ∙ sym (verdict-of bs some whole few ∙ none_open (table_of bs) o.leads.good o.leads.closed) in
              record { verdict_is = z; links = λ y. linked o.leads (sym z ∙ y) }

pub ruleset checks = (no_bytes, ragged, too_long, rejected, counted)

-- the count that `functions` answers
pub count_is : (bs e l a : List ℕ) (r : Result ℕ Refusal) (n : ℕ) → AllOk bs e l a r → r ≡ Ok n → n ≡ function_count (table_of bs)
count_is bs e l a r n ok m = let o = rw m at ok in o.leads.count
