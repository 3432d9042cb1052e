-- That a table with its map is ready has one proof at most, so that a struct can say it.
use Rattle.std.specs.Prelude.{ℕ, ◌*◌, ◌≤◌, ◌<◌, ◌≡◌, List, length, get_or}
use Rattle.std.proofs.Props.{props}
use Rattle.rules.specs.declared.operands.Operands.{Operands}
use Rattle.rules.specs.Limits.{max_rows, max_functions, max_variables}
use Rattle.rules.specs.Line.{Line, do_line, tick_line, test_line, leave_line, out_line, call_line, back_line, ret_line, line_at, lines_in}
use Rattle.rules.specs.Function.{function_at, start_of, finish_of, ret_value}
use Rattle.rules.specs.Bounds.{Word, VariablesIn, LineIn, Fits, Within}
use Rattle.machine.specs.Step.{Map}
use Rattle.machine.specs.Stands.{Inside, Sound, Located, Mapped, Ready}

-- ---- the bounds
VariablesIn-prop : (o : Operands) → IsProp (VariablesIn o)
VariablesIn-prop o x y =
    let op_prop : IsProp (o.op < 4) = Prim.hlevel props in
    let p_prop : IsProp (o.p < max_variables) = Prim.hlevel props in
    let q_prop : IsProp (o.q < max_variables) = Prim.hlevel props in
    let n_prop : IsProp (Word o.n) = Prim.hlevel props in
    λ i. record {
      op_in = op_prop x.op_in y.op_in i;
      p_in = p_prop x.p_in y.p_in i;
      q_in = q_prop x.q_in y.q_in i;
      n_in = n_prop x.n_in y.n_in i;
    }

LineIn-prop : (ls : List Line) (f k : ℕ) → IsProp (LineIn ls f k)
LineIn-prop ls f k x y =
    let before_prop : IsProp (start_of ls f ≤ k) = Prim.hlevel props in
    let after_prop : IsProp (k < finish_of ls f) = Prim.hlevel props in
    let table_prop : IsProp (k < length ls) = Prim.hlevel props in
    λ i. record {
      not_before = before_prop x.not_before y.not_before i;
      not_after = after_prop x.not_after y.not_after i;
      in_table = table_prop x.in_table y.in_table i;
    }

Fits-prop : (ls : List Line) (f k : ℕ) (l : Line) → IsProp (Fits ls f k l)
Fits-prop ls f k (do_line o e) = Prim.hlevel (props, VariablesIn-prop, LineIn-prop)
Fits-prop ls f k (tick_line r e a) = Prim.hlevel (props, LineIn-prop)
Fits-prop ls f k (test_line o r s t e a b c go) = Prim.hlevel (props, VariablesIn-prop, LineIn-prop)
Fits-prop ls f k (leave_line r s e a b go) = Prim.hlevel (props, LineIn-prop)
Fits-prop ls f k (out_line r s t e a go) = Prim.hlevel (props, LineIn-prop)
Fits-prop ls f k (call_line r e a b go) = Prim.hlevel (props, LineIn-prop)
Fits-prop ls f k (back_line r e a b) = Prim.hlevel (props, LineIn-prop)
Fits-prop ls f k (ret_line e a) = Prim.hlevel props

Within-prop : (ls : List Line) → IsProp (Within ls)
Within-prop ls x y =
    let some_prop : IsProp (0 < length ls) = Prim.hlevel props in
    let lines_prop : IsProp (length ls ≤ 2 * max_rows) = Prim.hlevel props in
    let functions_prop : IsProp (function_at ls (length ls) ≤ max_functions) = Prim.hlevel props in
    let inside_prop : IsProp ((k : ℕ) → k < length ls → LineIn ls (function_at ls k) k) = Prim.hlevel (props, LineIn-prop) in
    let fits_prop : IsProp ((k : ℕ) → k < length ls → Fits ls (function_at ls k) k (line_at ls k)) = Prim.hlevel (props, Fits-prop) in
    λ i. record {
      some_line = some_prop x.some_line y.some_line i;
      few_lines = lines_prop x.few_lines y.few_lines i;
      few_functions = functions_prop x.few_functions y.few_functions i;
      each_inside = inside_prop x.each_inside y.each_inside i;
      each_fits = fits_prop x.each_fits y.each_fits i;
    }

-- ---- the table
Inside-prop : (ls : List Line) (f k : ℕ) → IsProp (Inside ls f k)
Inside-prop ls f k x y =
    let known_prop : IsProp (f < function_at ls (length ls)) = Prim.hlevel props in
    let before_prop : IsProp (start_of ls f ≤ k) = Prim.hlevel props in
    let after_prop : IsProp (k ≤ finish_of ls f) = Prim.hlevel props in
    λ i. record {
      known = known_prop x.known y.known i;
      not_before = before_prop x.not_before y.not_before i;
      not_after = after_prop x.not_after y.not_after i;
    }

Sound-prop : (ls : List Line) → IsProp (Sound ls)
Sound-prop ls x y =
    let first_prop : IsProp (Inside ls 0 0) = Inside-prop ls 0 0 in
    let known_prop : IsProp ((k : ℕ) → k < length ls → function_at ls k < function_at ls (length ls)) = Prim.hlevel props in
    let numbered_prop : IsProp ((f k : ℕ) → Inside ls f k → k < finish_of ls f → function_at ls k ≡ f) = Prim.hlevel props in
    let ordered_prop : IsProp ((f : ℕ) → f < function_at ls (length ls) → start_of ls f ≤ finish_of ls f) = Prim.hlevel props in
    let finish_prop : IsProp ((f : ℕ) → f < function_at ls (length ls) → finish_of ls f ≤ length ls) = Prim.hlevel props in
    λ i. record {
      within = Within-prop ls x.within y.within i;
      first = first_prop x.first y.first i;
      known = known_prop x.known y.known i;
      numbered = numbered_prop x.numbered y.numbered i;
      ordered = ordered_prop x.ordered y.ordered i;
      finish_in = finish_prop x.finish_in y.finish_in i;
    }

Located-prop : (ls : List Line) (starts owners : List ℕ) → IsProp (Located ls starts owners)
Located-prop ls starts owners x y =
    let start_prop : IsProp ((n : ℕ) → n ≤ function_at ls (length ls) → get_or starts n 0 ≡ start_of ls n) = Prim.hlevel props in
    let owner_prop : IsProp ((k : ℕ) → k < length ls → get_or owners k 0 ≡ function_at ls k) = Prim.hlevel props in
    λ i. record {
      start_is = start_prop x.start_is y.start_is i;
      owner_is = owner_prop x.owner_is y.owner_is i;
    }

Mapped-prop : (ls : List Line) (m : Map) → IsProp (Mapped ls m)
Mapped-prop ls m x y =
    let home_prop : IsProp (m.home ≡ ret_value ls 0) = Prim.hlevel props in
    λ i. record {
      located = Located-prop ls m.starts m.owners x.located y.located i;
      home_is = home_prop x.home_is y.home_is i;
    }

pub Ready-prop : (bs : List ℕ) (m : Map) → IsProp (Ready bs m)
Ready-prop bs m x y =
    λ i. record {
      sound = Sound-prop (lines_in bs) x.sound y.sound i;
      mapped = Mapped-prop (lines_in bs) m x.mapped y.mapped i;
    }
