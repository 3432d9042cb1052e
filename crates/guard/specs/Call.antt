-- What a call, a return and a test do to the registers, to the functions that wait, and to the counters.
use Rattle.std.specs.Prelude.{ℕ, ◌+◌, cond, List, eqb, ltb, get_or}
use Rattle.rules.specs.declared.step.Step.TheVariants.{Finished, Alarm, TooManyOpen}
use Rattle.rules.specs.Limits.{max_open}
use Rattle.rules.specs.Variables.{holds_on}
use Rattle.line.specs.declared.Line.{Line}
use Rattle.state.specs.declared.machine.Registers.{Registers}
use Rattle.state.specs.declared.machine.Moved.{Moved}
use Rattle.state.specs.Machine.{moved}
use Rattle.state.specs.Open.{Opened, opened_of, closed_of}
use Rattle.guard.specs.Counters.{counter, with_counter, fresh_at}
use Rattle.guard.specs.Guard.{test_of}

-- ---- a call
pub record Shifted : Type 0 where
  pub to : Moved
  pub resumes : List ℕ
  pub functions : List ℕ
  pub words : List ℕ

abbrev pub shifted : Moved → (resumes functions words : List ℕ) → Shifted
shifted x ks fs ws = record { to = x; resumes = ks; functions = fs; words = ws }

abbrev pub shifting : Opened → (words : List ℕ) → Shifted
shifting x ws = shifted x.to x.resumes x.functions ws

unfoldable pub call_of : Line → (owners : List ℕ) → Registers → (resumes functions words : List ℕ) → Shifted
call_of l owners h ks fs ws =
    cond (eqb (counter ws h.depth l.r) l.e)
    (cond (ltb (h.depth + 1) max_open)
    (shifting (opened_of h (get_or owners l.go 0) l.go ks fs)
    (fresh_at (with_counter ws h.depth l.r l.a) (h.depth + 1) l.b))
    (shifted (moved (TooManyOpen max_open) h) ks fs ws))
    (shifted (moved Alarm h) ks fs ws)

-- ---- a return: home is the a of function 0's ret
unfoldable pub return_of : (home : ℕ) → Registers → (resumes functions words : List ℕ) → Moved
return_of home h ks fs ws =
    let v = counter ws h.depth 0 in
    cond (ltb 0 h.depth) (closed_of h v ks fs)
    (cond (eqb v home) (moved Finished h) (moved Alarm h))

pub record Settled : Type 0 where
  pub to : Moved
  pub words : List ℕ

abbrev pub settled : Moved → (words : List ℕ) → Settled
settled x ws = record { to = x; words = ws }

unfoldable pub ret_of : Line → (home : ℕ) → Registers → (resumes functions words : List ℕ) → Settled
ret_of l home h ks fs ws =
    let ended = with_counter ws h.depth 0 l.a in
    cond (eqb (counter ws h.depth 0) l.e) (settled (return_of home h ks fs ended) ended) (settled (moved Alarm h) ws)

-- ---- a test
abbrev pub tested_of : Line → Registers → (vars words : List ℕ) → Settled
tested_of l h vs ws =
    let x = test_of l (holds_on l.operands vs) h.at h.depth ws in
    settled (moved x.step h) x.words
