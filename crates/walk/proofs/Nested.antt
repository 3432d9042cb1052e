-- What `if_part`, `else_part` and `loop_part` answer, as laws. Assumes nothing.
use mathlib.Core.Path.{◌≡◌, refl, sym, ap, ◌∙◌}
use mathlib.Core.Bool.{Bool, true, false}
use mathlib.Core.List.{List, ◌∷◌}
use Prim.Native.Nat.{ℕ, ◌+◌, ◌*◌, ◌-◌, ◌≤◌, ◌<◌}
use native.Mathlib.Numerals.{add-one}
use native.Mathlib.Omega.{arith}
use lib.ListN.{length, take, drop, set, length-drop}
use lib.Seq.{drop-drop}
use Rattle.rules.specs.declared.kind.Kind.TheVariants.{If, Else, Loop, End}
use Rattle.rules.specs.declared.refusal.Refusal.{Refusal}
use Rattle.rules.specs.declared.refusal.Refusal.TheVariants.{Misplaced, TooManyParts}
use Rattle.rules.specs.Row.{row_width, table_of}
use Rattle.rules.specs.Scan.{Open, regions}
use Rattle.rows.specs.First.{first_kind_lem}
use Rattle.walk.specs.Standing.{has_loop, Inside}
use Rattle.walk.specs.Limit.{NoRegion, Full}
use Rattle.walk.specs.Walked.{TurnedAway, Before, then_of, seq_rows, step_rows, rest_rows, SeqOk, StepOk, RestOk}
use Rattle.rows.proofs.Rows.{rest_all, drops}
use Rattle.walk.proofs.Stepping.{else_of, loop_of, inside-at, inside_if, inside_loop, inside-else, inside-close, if_full, loop_full, else_full, else-misplaced}
use Rattle.walk.proofs.Constructs.{faulty}
use Rattle.walk.specs.Answer.{SeqAnswer, Broken, AtEnd, AtElse, Faulty, Past, RestAnswer, Torn, Rows}

-- what a sequence over `&xs[a..]` says, said of the bytes from a on and of an answer by name
pub seq-at : (xs : List ℕ) {base d o : ℕ} {b : Bool} {e l e' l' : List ℕ} {r r' : SeqAnswer} (a : ℕ)
    → SeqOk (take (length xs - a) (drop a xs)) base d o b e l e' l' r → r ≡ r' → SeqOk (drop a xs) base d o b e l e' l' r'
seq-at xs a h q = rw (rest_all a xs, q) at h

rest_at : (xs : List ℕ) {row base d o : ℕ} {b : Bool} {e l e' l' : List ℕ} {r r' : RestAnswer} (a : ℕ)
    → RestOk (take (length xs - a) (drop a xs)) row base d o b e l e' l' r → r ≡ r' → RestOk (drop a xs) row base d o b e l e' l' r'
rest_at xs a h q = rw (rest_all a xs, q) at h

-- the end row of a part that was entered after one row of xs: past it
closes : {bs : List ℕ} (xs : List ℕ) (i k : ℕ) {f h : Open} {hs : List Open} {d d' o : ℕ} {b c : Bool} {n : ℕ} {e l : List ℕ}
    → row_width * (k + 1) ≤ length (drop row_width xs) → Before End bs (drop (row_width * k) (drop row_width xs)) (i + 1 + k) f (h ∷ hs) d' o b n e l
    → length hs ≡ d → has_loop (h ∷ hs) ≡ c
    → Inside bs (drop (row_width * (k + 2)) xs) (i + (k + 2)) h hs d o c n (set e f.opener (i + 1 + k)) l
closes xs i k fit w p z =
    let q : row_width + row_width * k + row_width ≡ row_width * (k + 2) = omega arith in
    inside-at
    (inside-close w.here (omega (arith, fit, length-drop (row_width * k) (drop row_width xs))) w.kind_is p z)
    (ap (drop row_width) (drop-drop (row_width * k) row_width xs) ∙ drops xs (row_width + row_width * k) row_width (row_width * (k + 2)) q)
    (omega arith)
    refl
    refl

-- ---- an if
module _ {xs : List ℕ} {base d o : ℕ} {b : Bool} {e l : List ℕ} {f : Bool} (long : 5 < length xs) (q : first_kind_lem xs ≡ If) (u : Full d o f) where
  pub if-over : f ≡ true → StepOk xs base d o b e l e l (Faulty TooManyParts)
  if-over t = faulty long (λ bs h hs n w. if_full w long q (sym u.is ∙ t))

  module _ {l' e' l'' : List ℕ} {r : SeqAnswer} (t : f ≡ false) (y : l' ≡ set l base 0)
      (ok : SeqOk (take (length xs - 6) (drop 6 xs)) (base + 1) (d + 1) (o + 1) b e l' e' l'' r) where
    -- the then part
    enters : {bs : List ℕ} {h : Open} {hs : List Open} {n : ℕ} → Inside bs xs base h hs d o b n e l
        → Inside bs (drop 6 xs) (base + 1) (then_of base (regions (table_of bs) base)) (h ∷ hs) (d + 1) (o + 1) b n e l'
    enters w = rw y (inside-at (inside_if w long q (sym u.is ∙ t)) refl (sym (add-one base)) (sym (add-one d)) (sym (add-one o)))

    pub if-broken : {c : Refusal} → r ≡ Broken c → StepOk xs base d o b e l e' l'' (Faulty c)
    if-broken m = let s = seq-at xs 6 ok m in faulty long (λ bs h hs n w. s.leads bs _ (h ∷ hs) n (enters w))

    pub if-ended : {k o' : ℕ} {e'' : List ℕ} → r ≡ AtEnd k o' → e'' ≡ set e' base (base + 1 + k) → StepOk xs base d o b e l e'' l'' (Past (k + 2) o')
    unfolding seq_rows step_rows
    if-ended {k} m z = let s = seq-at xs 6 ok m in rw z (record {
      some = omega arith;
      fit = omega (arith, s.fit, length-drop 6 xs);
      leads = λ bs h hs n w. closes xs base k s.fit (s.leads bs _ (h ∷ hs) n (enters w)) w.depth w.loops;
    })

    module _ {k o' : ℕ} {e'' l''' : List ℕ} {r' : RestAnswer} (m : r ≡ AtElse k o')
        (ok' : RestOk (take (length xs - 6 * (k + 1)) (drop (6 * (k + 1)) xs)) (base + 1 + k) base d o' b e' l'' e'' l''' r') where
      -- the else row
      reaches : {bs : List ℕ} {h : Open} {hs : List Open} {n : ℕ} → Inside bs xs base h hs d o b n e l
          → Before Else bs (drop (6 * (k + 1)) xs) (base + 1 + k) (then_of base (regions (table_of bs) base)) (h ∷ hs) (d + 1) o' b n e' l''
      reaches {bs} {h} {hs} {n} w =
          let s = (seq-at xs 6 ok m).leads bs _ (h ∷ hs) n (enters w) in
          let z : 6 + 6 * k ≡ 6 * (k + 1) = omega arith in
          rw (← drops xs 6 (6 * k) (6 * (k + 1)) z) s

      pub rest-torn : {c : Refusal} → r' ≡ Torn c → StepOk xs base d o b e l e'' l''' (Faulty c)
      rest-torn m' = let s = rest_at xs (6 * (k + 1)) ok' m' in faulty long (λ bs h hs n w. s.leads bs _ h hs n (reaches w))

      pub rest-rows : {j o'' : ℕ} → r' ≡ Rows j o'' → StepOk xs base d o b e l e'' l''' (Past (k + 1 + j) o'')
      unfolding seq_rows rest_rows step_rows
      rest-rows {j} m' = let s = rest_at xs (6 * (k + 1)) ok' m' in record {
        some = omega arith;
        fit = omega (arith, s.fit, length-drop (6 * (k + 1)) xs, (seq-at xs 6 ok m).fit, length-drop 6 xs);
        leads = λ bs h hs n w. inside-at (s.leads bs _ h hs n (reaches w)) (drops xs (6 * (k + 1)) (6 * j) (6 * (k + 1 + j)) (omega arith)) (omega arith) refl refl;
      }

-- ---- the rest of an if
torn : {xs : List ℕ} {row base d o : ℕ} {b : Bool} {e l e' l' : List ℕ} {c : Refusal} → 5 < length xs
    → ((bs : List ℕ) (g : ℕ) (h : Open) (hs : List Open) (n : ℕ) → Before Else bs xs row (then_of base g) (h ∷ hs) (d + 1) o b n e l → TurnedAway bs c)
    → RestOk xs row base d o b e l e' l' (Torn c)
unfolding rest_rows
torn long f = record { fit = omega arith; leads = f }

module _ {xs : List ℕ} {row base : ℕ} (d : ℕ) {o : ℕ} {b : Bool} {e l : List ℕ} {f : Bool} (long : 5 < length xs) (u : NoRegion o f) where
  pub else-over : f ≡ true → RestOk xs row base d o b e l e l (Torn TooManyParts)
  else-over t = torn long (λ bs g h hs n w. else_full w.here long w.kind_is (sym u.is ∙ t))

  module _ {l' e' l'' : List ℕ} {r : SeqAnswer} (t : f ≡ false) (y : l' ≡ set l base row)
      (ok : SeqOk (take (length xs - 6) (drop 6 xs)) (row + 1) (d + 1) (o + 1) b e l' e' l'' r) where
    turns : {bs : List ℕ} {g : ℕ} {h : Open} {hs : List Open} {n : ℕ} → Before Else bs xs row (then_of base g) (h ∷ hs) (d + 1) o b n e l
        → Inside bs (drop 6 xs) (row + 1) (else_of base (regions (table_of bs) row)) (h ∷ hs) (d + 1) (o + 1) b n e l'
    turns w = rw y (inside-at (inside-else w.here long w.kind_is (sym u.is ∙ t)) refl (sym (add-one row)) refl (sym (add-one o)))

    pub else-broken : {c : Refusal} → r ≡ Broken c → RestOk xs row base d o b e l e' l'' (Torn c)
    else-broken m = let s = seq-at xs 6 ok m in torn long (λ bs g h hs n w. s.leads bs _ (h ∷ hs) n (turns w))

    pub else-twice : {k o' : ℕ} → r ≡ AtElse k o' → RestOk xs row base d o b e l e' l'' (Torn Misplaced)
    unfolding seq_rows
    else-twice {k} m = let s = seq-at xs 6 ok m in
        torn long (λ bs g h hs n w. let v = s.leads bs _ (h ∷ hs) n (turns w) in
        else-misplaced v.here (omega (arith, s.fit, length-drop (6 * k) (drop 6 xs))) v.kind_is refl)

    pub else-ended : {k o' : ℕ} {e'' : List ℕ} → r ≡ AtEnd k o' → e'' ≡ set e' base (row + 1 + k) → RestOk xs row base d o b e l e'' l'' (Rows (k + 2) o')
    unfolding seq_rows rest_rows
    else-ended {k} m z = let s = seq-at xs 6 ok m in rw z (record {
      fit = omega (arith, s.fit, length-drop 6 xs);
      leads = λ bs g h hs n w. closes xs row k s.fit (s.leads bs _ (h ∷ hs) n (turns w)) (omega (arith, w.here.depth)) w.here.loops;
    })

-- ---- a loop
module _ {xs : List ℕ} {base d o : ℕ} {b : Bool} {e l : List ℕ} {f : Bool} (long : 5 < length xs) (q : first_kind_lem xs ≡ Loop) (u : Full d o f) where
  pub loop-over : f ≡ true → StepOk xs base d o b e l e l (Faulty TooManyParts)
  loop-over t = faulty long (λ bs h hs n w. loop_full w long q (sym u.is ∙ t))

  module _ {e' l' : List ℕ} {r : SeqAnswer} (t : f ≡ false)
      (ok : SeqOk (take (length xs - 6) (drop 6 xs)) (base + 1) (d + 1) (o + 1) true e l e' l' r) where
    loops : {bs : List ℕ} {h : Open} {hs : List Open} {n : ℕ} → Inside bs xs base h hs d o b n e l
        → Inside bs (drop 6 xs) (base + 1) (loop_of base (regions (table_of bs) base)) (h ∷ hs) (d + 1) (o + 1) true n e l
    loops w = inside-at (inside_loop w long q (sym u.is ∙ t)) refl (sym (add-one base)) (sym (add-one d)) (sym (add-one o))

    pub loop-broken : {c : Refusal} → r ≡ Broken c → StepOk xs base d o b e l e' l' (Faulty c)
    loop-broken m = let s = seq-at xs 6 ok m in faulty long (λ bs h hs n w. s.leads bs _ (h ∷ hs) n (loops w))

    pub loop-turned : {k o' : ℕ} → r ≡ AtElse k o' → StepOk xs base d o b e l e' l' (Faulty Misplaced)
    unfolding seq_rows
    loop-turned {k} m = let s = seq-at xs 6 ok m in
        faulty long (λ bs h hs n w. let v = s.leads bs _ (h ∷ hs) n (loops w) in
        else-misplaced v.here (omega (arith, s.fit, length-drop (6 * k) (drop 6 xs))) v.kind_is refl)

    pub loop_ended : {k o' : ℕ} {e'' : List ℕ} → r ≡ AtEnd k o' → e'' ≡ set e' base (base + 1 + k) → StepOk xs base d o b e l e'' l' (Past (k + 2) o')
    unfolding seq_rows step_rows
    loop_ended {k} m z = let s = seq-at xs 6 ok m in rw z (record {
      some = omega arith;
      fit = omega (arith, s.fit, length-drop 6 xs);
      leads = λ bs h hs n w. closes xs base k s.fit (s.leads bs _ (h ∷ hs) n (loops w)) w.depth w.loops;
    })

pub ruleset ifs = (if-over, if-broken, if-ended, rest-torn, rest-rows)

pub ruleset elses = (else-over, else-broken, else-twice, else-ended)

pub ruleset loops-in = (loop-over, loop-broken, loop-turned, loop_ended)
