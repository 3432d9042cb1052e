-- The scope of the row after row i, by row i's kind, and the survey's loop. Assumes nothing.
use mathlib.Core.Path.{◌≡◌, refl, sym, ap, ◌∙◌, subst}
use mathlib.Core.Bool.{true, false}
use mathlib.Core.Logic.{◌⊎◌, inl, inr}
use mathlib.Core.List.{List, [], ◌∷◌}
use Prim.Native.Nat.{ℕ, suc, ◌+◌, ◌/◌, ◌≤◌, ◌<◌}
use native.Mathlib.Numerals.{add-one}
use native.Mathlib.Nat.{add-zero, not-suc-le-zero}
use native.Mathlib.Omega.{arith}
use lib.ListN.{length}
use Rattle.rules.specs.declared.kind.Kind.{Kind}
use Rattle.rules.specs.declared.kind.Kind.TheVariants.{Function, Do, If, Else, Loop, End, Break, Continue, Call, Unknown}
use Rattle.rules.specs.Verdict.{Accepted}
use Rattle.rules.specs.Row.{Table, table_of, kind_at}
use Rattle.rules.specs.Scan.{Part, then_part, Open, stays, turns, shape_of, regions_after, open_after_lem, open_at, regions, body_region, opener_of, from_loop}
use Rattle.rules.specs.Check.{is_outside, is_then, misplaced_in, verdict_of}
use Rattle.rules.specs.Harden.{line_count, line_of}
use Rattle.rules.proofs.Logic.{clash, not-false}
use Rattle.rules.proofs.Scan.{open_next, regions-next}
use Rattle.rules.proofs.Value.{AllHeld, held}
use Rattle.rules.proofs.Accepted.{Proper, proper, outside-nil, table-length}
use Rattle.rules.proofs.Harden.{line-suc}
use Rattle.rules.proofs.Function.{Formed, formed, placed-in}
use Rattle.layout.specs.declared.scope.Scope.{Scope}
use Rattle.layout.specs.Scope.{scope_at, put_scope, scoped, scope_of, outermost, passed, entered, forked, looped, turned, closed, Mapped, Surveyed, Stands}
use Rattle.layout.proofs.Scopes.{mapped-more, few_rows, standing}

-- the scope that a row of kind k leaves
next-scope : (t : Table) (i : ℕ) (k : Kind) → kind_at t i ≡ k
    → scope_of t (suc i) ≡ scoped (regions_after (shape_of k) (regions t i)) (open_after_lem (shape_of k) i (regions t i) (open_at t i)) (line_of t i + line_count k)
unfolding scope_of
next-scope t i k e = rw (regions-next t i e, open_next t i e refl, line-suc t i e)

-- some part is open
pub some-open : (fs : List Open) → is_outside fs ≡ false → (f : Open) × (hs : List Open) × (fs ≡ f ∷ hs)
some-open [] e = clash refl e
some-open (f ∷ fs) e = (f, fs, refl)

pub is-then : (p : Part) → is_then p ≡ true → p ≡ then_part
is-then Part.body e = cc
is-then then_part e = refl
is-then Part.else_part e = cc
is-then Part.loop_body e = cc

-- an else turns a then part, which stands in another part
turned-scope : (t : Table) (i g l : ℕ) (fs : List Open) → Formed t fs → misplaced_in Else fs ≡ false
    → scoped (suc g) (open_after_lem turns i g fs) l
    ≡ record { opened = suc g; region = g; body = body_region fs; opener = opener_of fs; repeat = opener_of (from_loop fs); line = l }
unfolding misplaced_in
turned-scope t i g l [] m e = clash refl e
turned-scope t i g l (f ∷ []) m e = clash (ap is_then (sym m.0) ∙ not-false _ e) refl
turned-scope t i g l (f ∷ h ∷ hs) m e = rw (is-then f.part (not-false _ e))

-- ---- one law for each kind of row
module _ {bs : List ℕ} {i : ℕ} {here : Scope} {k : Kind} (s : Stands bs i here) (l : i < length bs / 6) (e : k ≡ kind_at (table_of bs) i) where
  pub ok : Proper (table_of bs)
  ok = proper bs s.accepted

  pub within : i < length (table_of bs)
  within = omega (arith, table-length bs)

  pub kind_is : {j : Kind} → k ≡ j → kind_at (table_of bs) i ≡ j
  kind_is q = sym e ∙ q

  pub not-misplaced : {j : Kind} → k ≡ j → misplaced_in j (open_at (table_of bs) i) ≡ false
  not-misplaced q = placed-in (table_of bs) ok i within (kind_is q) refl

  pub function-next : {r : Scope} → k ≡ Function → r ≡ entered here i → r ≡ scope_of (table_of bs) (suc i)
  unfolding scope_of misplaced_in
  function-next q w =
      let z : open_at (table_of bs) i ≡ [] = outside-nil (open_at (table_of bs) i) (not-false _ (not-misplaced q)) in
      w ∙ rw s.is (sym (next-scope (table_of bs) i Function (kind_is q) ∙ rw (z, add-one (regions (table_of bs) i), add-zero (line_of (table_of bs) i))))

  pub if-next : {r : Scope} → k ≡ If → r ≡ forked here i → r ≡ scope_of (table_of bs) (suc i)
  unfolding scope_of misplaced_in
  if-next q w =
      let z = some-open (open_at (table_of bs) i) (not-misplaced q) in
      w ∙ rw s.is (sym (next-scope (table_of bs) i If (kind_is q) ∙ rw (z.2, add-one (regions (table_of bs) i))))

  pub loop-next : {r : Scope} → k ≡ Loop → r ≡ looped here i → r ≡ scope_of (table_of bs) (suc i)
  unfolding scope_of misplaced_in
  loop-next q w =
      let z = some-open (open_at (table_of bs) i) (not-misplaced q) in
      w ∙ rw s.is (sym (next-scope (table_of bs) i Loop (kind_is q) ∙ rw (z.2, add-one (regions (table_of bs) i))))

  pub else-next : {r : Scope} → k ≡ Else → r ≡ turned here → r ≡ scope_of (table_of bs) (suc i)
  unfolding scope_of
  else-next q w =
      w
      ∙ rw (s.is, add-one (regions (table_of bs) i))
      (sym (next-scope (table_of bs) i Else (kind_is q) ∙ turned-scope (table_of bs) i (regions (table_of bs) i) (line_of (table_of bs) i + 1) (open_at (table_of bs) i) (formed (table_of bs) ok i (omega (arith, within))) (not-misplaced q)))

  pub end-next : {m : List Scope} {x : ℕ} {o r : Scope} → Mapped bs m (suc i) → k ≡ End → x ≡ here.opener → o ≡ scope_at m x → r ≡ closed here o
      → r ≡ scope_of (table_of bs) (suc i)
  unfolding scope_of misplaced_in
  end-next {m} {x} {o} {r} a q y v w = let z = some-open (open_at (table_of bs) i) (not-misplaced q) in by z.0 z.1 z.2
    where
      by : (f : Open) (fs : List Open) → open_at (table_of bs) i ≡ f ∷ fs → r ≡ scoped (regions (table_of bs) (suc i)) (open_at (table_of bs) (suc i)) (line_of (table_of bs) (suc i))
      by f fs z =
          let g : AllHeld (table_of bs) i (f ∷ fs) = subst (AllHeld (table_of bs) i) z (held (table_of bs) i) in
          let n : x ≡ f.opener = y ∙ ap (λ p. p.opener) s.is ∙ ap opener_of z in
          let u : o ≡ scoped (regions (table_of bs) f.opener) fs (line_of (table_of bs) f.opener)
          = v ∙ ap (scope_at m) n ∙ a.each f.opener (omega (arith, g.0.before)) ∙ ap (λ h. scoped (regions (table_of bs) f.opener) h (line_of (table_of bs) f.opener)) g.0.outer in
          w ∙ rw (s.is, u) (sym (next-scope (table_of bs) i End (kind_is q) ∙ rw z))

  stay : {r : Scope} (j : Kind) → k ≡ j → shape_of j ≡ stays → r ≡ passed here (line_count j) → r ≡ scope_of (table_of bs) (suc i)
  unfolding scope_of
  stay j q z w = w ∙ rw s.is (sym (next-scope (table_of bs) i j (kind_is q) ∙ rw z))

  pub unknown-next : {r : Scope} → k ≡ Unknown → r ≡ passed here 0 → r ≡ scope_of (table_of bs) (suc i)
  unknown-next q w = stay Unknown q refl w

  pub one-line-next : {r : Scope} → (k ≡ Break) ⊎ (k ≡ Continue) → r ≡ passed here 1 → r ≡ scope_of (table_of bs) (suc i)
  one-line-next (inl q) w = stay Break q refl w
  one-line-next (inr q) w = stay Continue q refl w

  pub two-lines-next : {r : Scope} → (k ≡ Do) ⊎ (k ≡ Call) → r ≡ passed here 2 → r ≡ scope_of (table_of bs) (suc i)
  two-lines-next (inl q) w = stay Do q refl w
  two-lines-next (inr q) w = stay Call q refl w

pub ruleset nexts = (function-next, if-next, else-next, loop-next, end-next, one-line-next, two-lines-next, unknown-next)

-- ---- the survey's loop: the scopes before row i are in the map, and here is row i's
pub record Surveying (bs : List ℕ) (m₀ m : List Scope) (i : ℕ) (here : Scope) : Type 0 where
  pub accepted : verdict_of bs ≡ Accepted
  pub le : i ≤ length bs / 6
  pub few_rows : length bs / 6 ≤ 1024
  pub room : 1025 ≤ length m
  pub same : length m ≡ length m₀
  pub mapped : Mapped bs m i
  pub is : here ≡ scope_of (table_of bs) i

pub survey-start : {bs : List ℕ} {m : List Scope} {here : Scope} → verdict_of bs ≡ Accepted → 1025 ≤ length m → here ≡ outermost → Surveying bs m m 0 here
unfolding scope_of regions open_at line_of
survey-start {bs} a r e =
    record {
      accepted = a;
      le = omega arith;
      few_rows = few_rows bs a;
      room = r;
      same = refl;
      mapped = record { each = λ i h. absurd (not-suc-le-zero h) };
      is = e;
    }

pub survey-stands : {bs : List ℕ} {m₀ m : List Scope} {i : ℕ} {here : Scope} → Surveying bs m₀ m i here → Stands bs i here
survey-stands d = standing d.accepted d.le d.is

pub survey-mapped : {bs : List ℕ} {m₀ m m' : List Scope} {i : ℕ} {here : Scope} → Surveying bs m₀ m i here → m' ≡ put_scope m i here → Mapped bs m' (suc i)
survey-mapped {bs} {m₀} {m} {m'} {i} {here} d q =
    subst (λ x. Mapped bs x (suc i)) (sym q) (mapped-more bs m i here (omega (arith, d.room, d.le, d.few_rows)) d.mapped d.is)

pub survey-more : {bs : List ℕ} {m₀ m m' : List Scope} {i : ℕ} {here next : Scope} → Surveying bs m₀ m i here → i < length bs / 6 → m' ≡ put_scope m i here
    → length m' ≡ length m → next ≡ scope_of (table_of bs) (suc i) → Surveying bs m₀ m' (i + 1) next
survey-more {bs} {m₀} {m} {m'} {i} d l q k e =
    record {
      accepted = d.accepted;
      le = omega arith;
      few_rows = d.few_rows;
      room = omega (arith, d.room);
      same = k ∙ d.same;
      mapped = subst (Mapped bs m') (sym (add-one i)) (survey-mapped d q);
      is = e ∙ ap (scope_of (table_of bs)) (sym (add-one i));
    }

pub survey-all : {bs : List ℕ} {m₀ m m' : List Scope} {i n : ℕ} {here : Scope} → Surveying bs m₀ m i here → n ≡ length bs / 6 → n ≤ i → m' ≡ put_scope m n here
    → length m' ≡ length m → Surveyed bs m'
survey-all {bs} {m₀} {m} {m'} {i} {n} {here} d q h e k =
    let x : i ≡ length bs / 6 = omega (arith, d.le) in
    let y : n ≡ i = omega arith in
    record {
      accepted = d.accepted;
      few_rows = d.few_rows;
      room = omega (arith, d.room);
      mapped = subst (λ z. Mapped bs m' (suc z)) x (survey-mapped d (e ∙ ap (λ z. put_scope m z here) y));
    }

pub ruleset surveys = (survey-start, survey-stands, survey-mapped, survey-more, survey-all)
