-- The public calls by what the table gets: what a refusal gives back, and what is left to do for an accepted table. Assumes nothing.
use mathlib.Core.Path.{◌≡◌, refl, ap, ◌∙◌}
use mathlib.Core.Logic.{◌≢◌}
use mathlib.Core.Bool.{Bool, true, false, cond, not, ◌||◌}
use mathlib.Core.List.{List}
use Prim.Native.Nat.{ℕ, ◌≤◌, ◌<◌}
use native.Mathlib.Omega.{arith}
use lib.Dec.{ltb}
use lib.ListN.{length}
use borrow.Author.Tests.{lt-ltb, le-ltb}
use Rattle.rules.specs.declared.refusal.Refusal.{Refusal}
use Rattle.rules.specs.declared.refusal.Refusal.TheVariants.{NoWholeRows, TooManyRows, WrongField, Misplaced, TooManyFunctions, TooManyParts, NoSuchFunction, ShortOutput, ShortRoom, NotHardened, RepeatedCase, NotFinished}
use Rattle.rules.specs.Verdict.{Verdict, Accepted, Refused}
use Rattle.rules.specs.Refusal.{number_of, refuse_if_lem, and_then}
use Rattle.rules.specs.Switch.{chain_bytes}
use Rattle.rules.specs.Given.{given_verdict}
use Rattle.rules.specs.Chained.{StandsFor}
use Rattle.rules.specs.Harden.{hardened_bytes}
use Rattle.rules.specs.ReadBack.{source_bytes, is_hardened_lem}
use Rattle.rules.specs.Row.{table_of}
use Rattle.rules.specs.Line.{lines_in}
use Rattle.rules.specs.Run.{Answer}
use Rattle.rules.specs.Source.{source_run}
use Rattle.rules.specs.Hardened.{strike_by_lem, hardened_run}
use Rattle.rules.specs.Calls.{over, writing, short_output, harden_call, check_hardened_call, read_back_call, Running, running, short_trace, run_source_call, short_counters, counters_after, hardened_verdict, run_hardened_call}

-- number 0 says that nothing was refused
pub no_zero : (r : Refusal) → number_of (Refused r) ≡ 0 → ⊥
no_zero NoWholeRows e = omega arith
no_zero TooManyRows e = omega arith
no_zero WrongField e = omega arith
no_zero Misplaced e = omega arith
no_zero TooManyFunctions e = omega arith
no_zero TooManyParts e = omega arith
no_zero NoSuchFunction e = omega arith
no_zero ShortOutput e = omega arith
no_zero ShortRoom e = omega arith
no_zero NotHardened e = omega arith
no_zero RepeatedCase e = omega arith
no_zero NotFinished e = omega arith

pub accepted-of : (v : Verdict) → number_of v ≡ 0 → v ≡ Accepted
accepted-of Accepted e = refl
accepted-of (Refused r) e = absurd (no_zero r e)

-- of a run too
pub run-accepted : {C : Type 0} (v : Verdict) (a : Answer C) (vs slots : List ℕ) → (running v a vs slots).ran.number ≡ 0 → v ≡ Accepted
unfolding running
run-accepted Accepted a vs slots e = refl
run-accepted (Refused r) a vs slots e = absurd (no_zero r e)

pub harden-refused : (rows out : List ℕ) (r : Refusal) → given_verdict rows ≡ Refused r
    → harden_call rows out ≡ record { wrote = record { number = number_of (Refused r); length = 0 }; out = out }
unfolding harden_call writing
harden-refused rows out r e =
    ap (λ v. writing (and_then v (short_output (hardened_bytes (chain_bytes rows)) out)) (hardened_bytes (chain_bytes rows)) out) e

-- by the chain, which is the table itself where it has no switch
pub harden-accepted : (rows chain out : List ℕ) → StandsFor rows chain
    → harden_call rows out ≡ writing (short_output (hardened_bytes chain) out) (hardened_bytes chain) out
unfolding harden_call
harden-accepted rows chain out s =
    ap (λ v. writing (and_then v (short_output (hardened_bytes (chain_bytes rows)) out)) (hardened_bytes (chain_bytes rows)) out) s.accepted
    ∙ ap (λ c. writing (short_output (hardened_bytes c) out) (hardened_bytes c) out) s.chain_is

pub check-hardened : (lines : List ℕ) (b : Bool) → is_hardened_lem lines ≡ b → check_hardened_call lines ≡ cond b 0 10
check-hardened lines true e = ap (λ b. number_of (refuse_if_lem (not b) NotHardened)) e
check-hardened lines false e = ap (λ b. number_of (refuse_if_lem (not b) NotHardened)) e

pub read-back-refused : (lines out : List ℕ) → is_hardened_lem lines ≡ false
    → read_back_call lines out ≡ record { wrote = record { number = 10; length = 0 }; out = out }
unfolding read_back_call writing
read-back-refused lines out e =
    ap (λ b. writing (and_then (refuse_if_lem (not b) NotHardened) (short_output (source_bytes lines) out)) (source_bytes lines) out) e

pub read-back-accepted : (lines out : List ℕ) → is_hardened_lem lines ≡ true
    → read_back_call lines out ≡ writing (short_output (source_bytes lines) out) (source_bytes lines) out
unfolding read_back_call
read-back-accepted lines out e =
    ap (λ b. writing (and_then (refuse_if_lem (not b) NotHardened) (short_output (source_bytes lines) out)) (source_bytes lines) out) e

-- a hardened table meets nothing but 8
pub read-back-number : (lines out : List ℕ) → is_hardened_lem lines ≡ true → (read_back_call lines out).wrote.number ≢ 10
unfolding writing
read-back-number lines out h z = by (ltb (length out) (length (source_bytes lines))) refl
  where
    by : (b : Bool) → ltb (length out) (length (source_bytes lines)) ≡ b → ⊥
    by true e =
        let q = read-back-accepted lines out h ∙ ap (λ b. writing (refuse_if_lem b ShortOutput) (source_bytes lines) out) e in
        omega (arith, z, ap (λ w. w.wrote.number) q)
    by false e =
        let q = read-back-accepted lines out h ∙ ap (λ b. writing (refuse_if_lem b ShortOutput) (source_bytes lines) out) e in
        omega (arith, z, ap (λ w. w.wrote.number) q)

-- an answer that is copied to the front of the output, or does not fit there
pub write-short : (answer out : List ℕ) → length out < length answer
    → writing (short_output answer out) answer out ≡ record { wrote = record { number = 8; length = 0 }; out = out }
unfolding writing
write-short answer out h = ap (λ b. writing (refuse_if_lem b ShortOutput) answer out) (lt-ltb (length out) (length answer) h)

pub write-fits : (answer out : List ℕ) → length answer ≤ length out
    → writing (short_output answer out) answer out ≡ record { wrote = record { number = 0; length = length answer }; out = over answer out }
unfolding writing
write-fits answer out h = ap (λ b. writing (refuse_if_lem b ShortOutput) answer out) (le-ltb (length out) (length answer) h)

-- ---- runs: what a refusal gives back, and what is left to do
-- "Returned: number, zeros, variables as given. Unchanged: all."
abbrev pub refused_running : Refusal → (vars slots : List ℕ) → Running
refused_running r vs slots =
    record { ran = record { number = number_of (Refused r); outcome = 0; steps = 0; traced = 0; variables = vs }; trace = slots }

-- a source run, by what the table gets and by its chain
run-source-by : (rows vs : List ℕ) (b : ℕ) (slots : List ℕ) {v : Verdict} → given_verdict rows ≡ v
    → run_source_call rows vs b slots ≡ running (and_then v (refuse_if_lem (short_trace b slots) ShortRoom)) (source_run (table_of (chain_bytes rows)) b vs) vs slots
unfolding run_source_call
run-source-by rows vs b slots e =
    ap (λ v. running (and_then v (refuse_if_lem (short_trace b slots) ShortRoom)) (source_run (table_of (chain_bytes rows)) b vs) vs slots) e

pub run-source-refused : (rows vs : List ℕ) (b : ℕ) (slots : List ℕ) (r : Refusal) → given_verdict rows ≡ Refused r
    → run_source_call rows vs b slots ≡ refused_running r vs slots
unfolding running
run-source-refused rows vs b slots r e = run-source-by rows vs b slots e

pub run-source-stands : (rows chain vs : List ℕ) (b : ℕ) (slots : List ℕ) → StandsFor rows chain
    → run_source_call rows vs b slots ≡ running (refuse_if_lem (short_trace b slots) ShortRoom) (source_run (table_of chain) b vs) vs slots
run-source-stands rows chain vs b slots s =
    run-source-by rows vs b slots s.accepted
    ∙ ap (λ c. running (refuse_if_lem (short_trace b slots) ShortRoom) (source_run (table_of c) b vs) vs slots) s.chain_is

-- the slots are fewer than the budget, or enough
module _ {C : Type 0} (a : Answer C) (vs : List ℕ) (b : ℕ) (slots : List ℕ) where
  pub room-short : length slots < b → running (refuse_if_lem (short_trace b slots) ShortRoom) a vs slots ≡ refused_running ShortRoom vs slots
  unfolding running
  room-short h = ap (λ x. running (refuse_if_lem x ShortRoom) a vs slots) (lt-ltb (length slots) b h)

  pub room-enough : b ≤ length slots → running (refuse_if_lem (short_trace b slots) ShortRoom) a vs slots ≡ running Accepted a vs slots
  room-enough h = ap (λ x. running (refuse_if_lem x ShortRoom) a vs slots) (le-ltb (length slots) b h)

module _ (lines vs : List ℕ) (b k p : ℕ) (slots words : List ℕ) where
  -- by what the lines, the slots and the words get
  hardened-by : {v : Verdict} → hardened_verdict lines b slots words ≡ v
      → run_hardened_call lines vs b k p slots words
      ≡ record { run = running v (hardened_run (lines_in lines) (strike_by_lem k p) b vs) vs slots; words = counters_after v words }
  unfolding run_hardened_call
  hardened-by e =
      ap (λ v. record { run = running v (hardened_run (lines_in lines) (strike_by_lem k p) b vs) vs slots; words = counters_after v words }) e

  room-verdict : {x y : Bool} → is_hardened_lem lines ≡ true → short_trace b slots ≡ x → short_counters words ≡ y
      → hardened_verdict lines b slots words ≡ refuse_if_lem (x || y) ShortRoom
  unfolding hardened_verdict
  room-verdict {x} {y} e f g =
      ap (λ c. and_then (refuse_if_lem (not c) NotHardened) (refuse_if_lem (short_trace b slots || short_counters words) ShortRoom)) e
      ∙ ap (λ c. refuse_if_lem (c || short_counters words) ShortRoom) f ∙ ap (λ c. refuse_if_lem (x || c) ShortRoom) g

  pub run-hardened-refused : is_hardened_lem lines ≡ false
      → run_hardened_call lines vs b k p slots words ≡ record { run = refused_running NotHardened vs slots; words = words }
  unfolding hardened_verdict running counters_after
  run-hardened-refused e =
      hardened-by (ap (λ c. and_then (refuse_if_lem (not c) NotHardened) (refuse_if_lem (short_trace b slots || short_counters words) ShortRoom)) e)

  pub run-hardened-no-slots : is_hardened_lem lines ≡ true → length slots < b
      → run_hardened_call lines vs b k p slots words ≡ record { run = refused_running ShortRoom vs slots; words = words }
  unfolding running counters_after
  run-hardened-no-slots e h = hardened-by (room-verdict e (lt-ltb (length slots) b h) refl)

  pub run-hardened-no-words : is_hardened_lem lines ≡ true → b ≤ length slots → length words < 1024
      → run_hardened_call lines vs b k p slots words ≡ record { run = refused_running ShortRoom vs slots; words = words }
  unfolding running counters_after
  run-hardened-no-words e h g = hardened-by (room-verdict e (le-ltb (length slots) b h) (lt-ltb (length words) 1024 g))

  pub run-hardened-accepted : is_hardened_lem lines ≡ true → b ≤ length slots → 1024 ≤ length words
      → run_hardened_call lines vs b k p slots words
      ≡ record {
        run = running Accepted (hardened_run (lines_in lines) (strike_by_lem k p) b vs) vs slots;
        words = counters_after Accepted words;
      }
  run-hardened-accepted e h g = hardened-by (room-verdict e (le-ltb (length slots) b h) (le-ltb (length words) 1024 g))

  -- a hardened table meets nothing but 9
  pub run-hardened-number : is_hardened_lem lines ≡ true → (run_hardened_call lines vs b k p slots words).run.ran.number ≢ 10
  unfolding running
  run-hardened-number h z = by (short_trace b slots || short_counters words) refl
    where
      by : (x : Bool) → short_trace b slots || short_counters words ≡ x → ⊥
      by true e =
          let q = hardened-by (room-verdict h refl refl ∙ ap (λ c. refuse_if_lem c ShortRoom) e) in
          omega (arith, z, ap (λ r. r.run.ran.number) q)
      by false e =
          let q = hardened-by (room-verdict h refl refl ∙ ap (λ c. refuse_if_lem c ShortRoom) e) in
          omega (arith, z, ap (λ r. r.run.ran.number) q)
