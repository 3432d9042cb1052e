-- A function of the table: from the row that opens it, outside of every function, to past its end row. What `body` and `function`
-- answer, as laws. Assumes nothing.
use mathlib.Core.Logic.{◌≢◌}
use mathlib.Core.Logic.{◌⊎◌, inl, inr}
use mathlib.Core.Path.{◌≡◌, refl, sym, ap, ◌∙◌}
use mathlib.Core.Bool.{Bool, true, false, ◌&&◌}
use mathlib.Core.List.{List, []}
use Prim.Native.Nat.{ℕ, suc, ◌+◌, ◌*◌, ◌-◌, ◌≤◌, ◌<◌}
use native.Mathlib.Nat.{eq-or-lt_of_le}
use native.Mathlib.Numerals.{add-one}
use native.Mathlib.Omega.{arith}
use lib.Dec.{eqb}
use lib.ListN.{length, take, drop, set, get_or, length-set, length-drop}
use lib.Seq.{drop-drop, get_or-set_same, get_or-set_other}
use borrow.Author.Tests.{le-leb, lt-leb, eq-eqb, ne_eqb}
use Rattle.rules.specs.declared.kind.Kind.{Kind}
use Rattle.rules.specs.declared.kind.Kind.TheVariants.{Function, Do, If, Else, Loop, End, Break, Continue, Call, Unknown}
use Rattle.rules.specs.declared.refusal.Refusal.{Refusal}
use Rattle.rules.specs.declared.refusal.Refusal.TheVariants.{WrongField, Misplaced, TooManyFunctions}
use Rattle.rules.specs.Limits.{max_functions}
use Rattle.rules.specs.Row.{Table, row_width, table_of, kind_at}
use Rattle.rules.specs.Scan.{body, Open, regions, is_function_lem, functions, function_row}
use Rattle.rules.specs.Check.{misplaced_in, one_too_many}
use Rattle.rules.proofs.Logic.{clash}
use Rattle.rules.proofs.Search.{first_is}
use Rattle.rules.proofs.Scan.{open_next, regions-next}
use Rattle.rules.proofs.Function.{is-function, functions-mono}
use Rattle.rows.specs.First.{first_kind_lem}
use Rattle.walk.specs.Standing.{Inside}
use Rattle.table.specs.Outside.{Headed, Outside}
use Rattle.walk.specs.Walked.{TurnedAway, seq_rows, SeqOk}
use Rattle.table.specs.Checking.{stray_cause, one_rows, OneOk}
use Rattle.walk.specs.Answer.{SeqAnswer, Broken, AtEnd, AtElse}
use Rattle.walk.proofs.Linking.{stays-linked, end-linked}
use Rattle.rows.proofs.Rows.{drops, is_known, Reads, reads, reads_wrong, cut-length, cut-within, cut_on}
use Rattle.walk.proofs.Verdicts.{wrong-refused, row-good, misplaced-refused, functions-refused}
use Rattle.walk.proofs.Stepping.{inside-at, same-functions, else-misplaced}
use Rattle.walk.proofs.Nested.{seq-at}
use Rattle.std.specs.Prelude.{Result, Ok, Err}

abbrev body_of : (base g : ℕ) → Open
body_of base g = record { part = body; opener = base; region = g }

-- ---- the row of function n
pub next-function : (t : Table) (i : ℕ) → is_function_lem (kind_at t i) ≡ true → functions t (suc i) ≡ suc (functions t i)
unfolding functions
next-function t i e = rw e

earlier : (t : Table) (i n m : ℕ) → functions t i ≡ n → m < i → (b : Bool) → is_function_lem (kind_at t m) ≡ b → b && eqb (functions t m) n ≡ false
earlier t i n m c l true e = ne_eqb (functions t m) n (λ q. absurd (bad q))
  where
    bad : functions t m ≡ n → ⊥
    bad q = omega (arith, next-function t m e, functions-mono t {i = suc m} i l)
earlier t i n m c l false e = refl

function-row : (t : Table) (i n : ℕ) → i < length t → kind_at t i ≡ Function → functions t i ≡ n → function_row t n ≡ i
unfolding function_row
function-row t i n l k c =
    first_is (λ m. is_function_lem (kind_at t m) && eqb (functions t m) n) (length t) 0 i (omega arith) (omega arith)
    (λ h. rw k (eq-eqb (functions t i) n c))
    (λ m a b. earlier t i n m c b (is_function_lem (kind_at t m)) refl)

head-next : (t : Table) (i n : ℕ) {a : List ℕ} → Headed t n a → n < max_functions → function_row t n ≡ i → Headed t (suc n) (set a n i)
head-next t i n {a} w h q = record { heads_long = length-set a n i ∙ w.heads_long; each = λ m l. by m (eq-or-lt_of_le l) }
  where
    by : (m : ℕ) → (suc m ≡ suc n) ⊎ (suc m < suc n) → get_or (set a n i) m 0 ≡ function_row t m
    by m (inl e) =
        let z : m ≡ n = omega arith in
        ap (λ x. get_or (set a n i) x 0) z ∙ get_or-set_same a n i 0 (omega (arith, w.heads_long)) ∙ sym q ∙ ap (function_row t) (sym z)
    by m (inr l) = get_or-set_other a n m i 0 (omega arith) ∙ w.each m (omega arith)

-- ---- one row on
module _ {bs xs : List ℕ} {i n : ℕ} {e l a : List ℕ} (w : Outside bs xs i n e l a) (long : 5 < length xs) where
  read : {k : Kind} → first_kind_lem xs ≡ k → is_known k ≡ true → Reads bs i k
  read = reads bs xs i w.cut w.within long

  pub outside-wrong : first_kind_lem xs ≡ Unknown → TurnedAway bs WrongField
  outside-wrong q =
      wrong-refused (table_of bs) i w.good (cut-within bs xs i w.cut w.within long)
      (reads_wrong bs xs i w.cut w.within long q)

  outside-misplaced : {k : Kind} → first_kind_lem xs ≡ k → is_known k ≡ true → misplaced_in k [] ≡ true → TurnedAway bs Misplaced
  outside-misplaced q s m =
      let r = read q s in
      misplaced-refused (table_of bs) i w.good r.kind_is w.parts r.fits r.inside m

  module _ (q : first_kind_lem xs ≡ Function) where
    outside-many : max_functions ≤ n → TurnedAway bs TooManyFunctions
    unfolding misplaced_in
    outside-many c =
        let r = read q refl in
        functions-refused (table_of bs) i w.good r.kind_is w.parts r.fits r.inside refl
        (le-leb max_functions (functions (table_of bs) i) (omega (arith, w.count)))

    outside-opens : n < max_functions → Inside bs (drop row_width xs) (i + 1) (body_of i (regions (table_of bs) i)) [] 0 1 false (suc n) e l
    unfolding misplaced_in one_too_many
    outside-opens c =
        let r = read q refl in
        inside-at {i = suc i} (record {
          cut = cut_on bs xs i w.cut w.within 1 ∙ ap (λ k. drop (row_width * k) bs) (add-one i);
          within = omega (arith, cut-length bs xs i w.cut w.within);
          few = w.few;
          good = row-good (table_of bs) i w.good r.kind_is w.parts r.fits refl
              (lt-leb max_functions (functions (table_of bs) i) (omega (arith, w.count))) refl;
          parts = open_next (table_of bs) i r.kind_is w.parts;
          depth = refl;
          loops = refl;
          opened = omega (arith, regions-next (table_of bs) i r.kind_is);
          count = next-function (table_of bs) i (ap is_function_lem r.kind_is) ∙ ap suc w.count;
          links = stays-linked (table_of bs) i w.links r.kind_is refl;
        }) refl (sym (add-one i)) refl refl

    outside-heads : n < max_functions → Headed (table_of bs) (suc n) (set a n i)
    outside-heads c =
        let r = read q refl in
        head-next (table_of bs) i n w.headed c (function-row (table_of bs) i n r.inside r.kind_is w.count)

  -- a row that opens no function
  outside-stray : (k : Kind) → first_kind_lem xs ≡ k → is_function_lem k ≡ false → TurnedAway bs (stray_cause k)
  unfolding misplaced_in
  outside-stray Function q f = clash refl f
  outside-stray Do q f = outside-misplaced q refl refl
  outside-stray If q f = outside-misplaced q refl refl
  outside-stray Else q f = outside-misplaced q refl refl
  outside-stray Loop q f = outside-misplaced q refl refl
  outside-stray End q f = outside-misplaced q refl refl
  outside-stray Break q f = outside-misplaced q refl refl
  outside-stray Continue q f = outside-misplaced q refl refl
  outside-stray Call q f = outside-misplaced q refl refl
  outside-stray Unknown q f = outside-wrong q

-- the function's end row
leaves : {bs xs : List ℕ} {i : ℕ} {f : Open} {d o : ℕ} {b : Bool} {n : ℕ} {e l a : List ℕ} → Inside bs xs i f [] d o b n e l → 5 < length xs
    → first_kind_lem xs ≡ End → Headed (table_of bs) n a → Outside bs (drop row_width xs) (suc i) n (set e f.opener i) l a
unfolding misplaced_in one_too_many
leaves {bs} {xs} {i} {f} w long q a =
    let r = reads bs xs i w.cut w.within long q refl in
    record {
      cut = cut_on bs xs i w.cut w.within 1 ∙ ap (λ k. drop (row_width * k) bs) (add-one i);
      within = omega (arith, cut-length bs xs i w.cut w.within);
      few = w.few;
      good = row-good (table_of bs) i w.good r.kind_is w.parts r.fits refl refl refl;
      parts = open_next (table_of bs) i r.kind_is w.parts;
      count = same-functions bs i r.kind_is refl ∙ w.count;
      links = end-linked (table_of bs) i w.links f [] r.kind_is w.parts (omega (arith, r.inside, w.few));
      headed = a;
    }

pub outside-at : {bs xs ys : List ℕ} {i j n m : ℕ} {e l a : List ℕ} → Outside bs xs i n e l a → xs ≡ ys → i ≡ j → n ≡ m → Outside bs ys j m e l a
outside-at w p q s = rw (← p, ← q, ← s) w

-- ---- what `body` and `function` answer
unsound : {xs : List ℕ} {base n : ℕ} {e l a e' l' a' : List ℕ} {c : Refusal} → 5 < length xs
    → ((bs : List ℕ) → Outside bs xs base n e l a → TurnedAway bs c) → OneOk xs base n e l a e' l' a' (Err c)
unfolding one_rows
unsound long f = record { some = omega arith; fit = omega arith; leads = f }

no-function : (k : Kind) → k ≢ Function → is_function_lem k ≡ false
no-function Function m = absurd (m refl)
no-function Do m = refl
no-function If m = refl
no-function Else m = refl
no-function Loop m = refl
no-function End m = refl
no-function Break m = refl
no-function Continue m = refl
no-function Call m = refl
no-function Unknown m = refl

module _ {xs : List ℕ} {base n : ℕ} {e l a : List ℕ} (long : 5 < length xs) where
  pub function-stray : {k : Kind} {c : Refusal} → k ≡ first_kind_lem xs → k ≢ Function → c ≡ stray_cause k
      → OneOk xs base n e l a e l a (Err c)
  function-stray {k} p m s = rw s (unsound long (λ bs w. outside-stray w long k (sym p) (no-function k m)))

  module _ (q : first_kind_lem xs ≡ Function) where
    pub body-many : 32 ≤ n → OneOk xs base n e l a e l a (Err TooManyFunctions)
    body-many c = unsound long (λ bs w. outside-many w long q c)

    module _ {a' e' l' : List ℕ} {r : SeqAnswer} (c : n < 32) (y : a' ≡ set a n base)
        (ok : SeqOk (take (length xs - 6) (drop 6 xs)) (base + 1) 0 1 false e l e' l' r) where
      pub body-broken : {f : Refusal} → r ≡ Broken f → OneOk xs base n e l a e' l' a' (Err f)
      body-broken m = let s = seq-at xs 6 ok m in unsound long (λ bs w. s.leads bs _ [] (suc n) (outside-opens w long q c))

      pub body-turned : {k o : ℕ} → r ≡ AtElse k o → OneOk xs base n e l a e' l' a' (Err Misplaced)
      unfolding seq_rows
      body-turned {k} m = let s = seq-at xs 6 ok m in
          unsound long (λ bs w. let v = s.leads bs _ [] (suc n) (outside-opens w long q c) in
          else-misplaced v.here (omega (arith, s.fit, length-drop (6 * k) (drop 6 xs))) v.kind_is refl)

      pub body_ended : {k o : ℕ} {e'' : List ℕ} → r ≡ AtEnd k o → e'' ≡ set e' base (base + 1 + k) → OneOk xs base n e l a e'' l' a' (Ok (k + 2))
      unfolding seq_rows one_rows
      body_ended {k} m z = let s = seq-at xs 6 ok m in rw (y, z) (record {
        some = omega arith;
        fit = omega (arith, s.fit, length-drop 6 xs);
        leads = λ bs w. let v = s.leads bs _ [] (suc n) (outside-opens w long q c) in
            outside-at (leaves v.here (omega (arith, s.fit, length-drop (6 * k) (drop 6 xs))) v.kind_is (outside-heads w long q c))
            (ap (drop 6) (drop-drop (6 * k) 6 xs) ∙ drops xs (6 + 6 * k) 6 (6 * (k + 2)) (omega arith)) (omega arith) (sym (add-one n));
      })

-- what the test of the kind says
pub function-at : (xs : List ℕ) (k : Kind) (f : Bool) → k ≡ first_kind_lem xs → f ≡ is_function_lem k → f ≡ true → first_kind_lem xs ≡ Function
function-at xs k f p q m = sym p ∙ is-function k (sym q ∙ m)

pub ruleset bodies = (body-many, body-broken, body-turned, body_ended)

pub one-rows : (r : Result ℕ Refusal) (k : ℕ) → r ≡ Ok k → one_rows r ≡ k
unfolding one_rows
one-rows r k m = ap one_rows m
