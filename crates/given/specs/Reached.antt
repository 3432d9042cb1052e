-- Where a pass over the rows as given stands: what is open there and what the chain is so far, as numbers, bytes and words. Assumes
-- nothing: these are definitions.
use Rattle.std.specs.Prelude.{Result, Ok, Err, ℕ, suc, ◌+◌, ◌*◌, ◌≤◌, ◌<◌, ◌≡◌, cond, List, length, get_or, drop}
use Rattle.rules.specs.declared.refusal.Refusal.{Refusal}
use Rattle.rules.specs.Verdict.{Accepted, Refused}
use Rattle.rules.specs.Bytes.{word_at}
use Rattle.rules.specs.Limits.{max_rows, max_constructs}
use Rattle.rules.specs.Row.{row_width}
use Rattle.rules.specs.Switch.{given_of, things_at, chain_to, chain_of, chain_bytes}
use Rattle.rules.specs.Given.{given_row_verdict, given_rows_verdict}
use Rattle.rules.specs.Fault.{row_of}
use Rattle.rows.specs.declared.row.Row.{Row}
use Rattle.rows.specs.Row.{read_row, test_row}
use Rattle.scan.specs.declared.open.Standing.{Standing}
use Rattle.scan.specs.Standing.{Stands, Sane}
use Rattle.given.specs.declared.plan.Plan.{Plan}
use Rattle.given.specs.declared.sort.Sort.{Sort}
use Rattle.given.specs.declared.things.Things.{Things}
use Rattle.given.specs.Sort.{sort_of_lem, first_given, is_switch_lem, is_case_lem}
use Rattle.given.specs.Things.{top_mark, OpenIs, long_row_lem}
use Rattle.given.specs.Plan.{cause_of}
use Rattle.given.specs.Through.{Written}

-- before row i of the rows that bs spell, where no row before it has a fault; the chain's parts are those of `scan`
pub record Reached (bs : List ℕ) (i : ℕ) (s : Standing) (ps : List ℕ) (t : Things) (marks vars words out : List ℕ) : Type 0 where
  pub good : given_rows_verdict (given_of bs) (chain_of (given_of bs)) i ≡ Accepted
  pub chain : Stands (chain_bytes bs) t.chained s ps
  pub chained_is : length (chain_to (given_of bs) i) ≡ t.chained
  pub things : OpenIs (things_at (given_of bs) i) t.count t.cases marks vars words
  pub written : Written (chain_to (given_of bs) i) out
  pub long_is : max_rows < t.chained → row_of (given_of bs) max_rows ≡ t.long
  pub sane : Sane s ps
  pub marks_long : length marks ≡ max_rows
  pub vars_long : length vars ≡ max_rows
  pub words_long : length words ≡ max_constructs + 1
  pub count_low : t.count ≤ i
  pub cases_low : t.cases ≤ max_constructs
  pub chained_low : t.chained + t.cases ≤ 3 * i

-- there is a row i
pub record Here (bs : List ℕ) (i : ℕ) : Type 0 where
  pub within : row_width * i + 5 < length bs
  pub few : length bs ≤ row_width * max_rows

-- what is known of row i that meets none of 3, 4 and 11
pub record Sound (bs : List ℕ) (i : ℕ) (t : Things) (marks words : List ℕ) (sort : Sort) (top number : ℕ) : Type 0 where
  pub sort_is : sort ≡ sort_of_lem (first_given (drop (row_width * i) bs))
  pub top_is : top ≡ top_mark marks t.count
  pub number_is : number ≡ word_at bs (row_width * i + 4)
  pub no_cause : cause_of sort number top t.count t.cases words ≡ Accepted

-- the variable of the switch that the row opens, or of the innermost thing
abbrev pub var_by : Sort → (p : ℕ) → (vars : List ℕ) → (count : ℕ) → ℕ
var_by s p vs n = cond (is_switch_lem s) p (top_mark vs n)

-- the if of a case, or the row itself, which the bytes xs begin with
abbrev pub own_row : Sort → (var : ℕ) → (xs : List ℕ) → Row
own_row s v xs = cond (is_case_lem s) (test_row 0x03 v (get_or xs 4 0) (get_or xs 5 0)) (read_row xs)

abbrev pub rows_in_lem : Plan → ℕ
rows_in_lem p = p.elses + (p.own + p.ends)

-- after row i
abbrev pub grown : Things → Plan → (i : ℕ) → Things
grown t p i =
    record {
      count = p.count;
      cases = p.cases;
      chained = t.chained + rows_in_lem p;
      long = long_row_lem t.chained (t.chained + rows_in_lem p) t.long i;
    }

-- after row i, which is one row of the chain and neither opens nor closes anything
abbrev pub lengthened : Things → (i : ℕ) → Things
lengthened t i =
    record {
      count = t.count;
      cases = t.cases;
      chained = t.chained + 1;
      long = long_row_lem t.chained (t.chained + 1) t.long i;
    }

-- after a row: why it is turned away, or what is open and what the chain is
abbrev pub After : Type 0
After = Result (Standing × Things) Refusal

pattern abbrev pub Faulty : Refusal → After
Faulty c = Err c

pattern abbrev pub On : Standing → Things → After
On s t = Ok (s, t)

abbrev pub AfterRow : (bs : List ℕ) (i : ℕ) (ps marks vars words out : List ℕ) → After → Type 0
AfterRow bs i ps ms vs us out (Faulty c) = given_row_verdict (given_of bs) (chain_of (given_of bs)) i ≡ Refused c
AfterRow bs i ps ms vs us out (On s t) = Reached bs (suc i) s ps t ms vs us out

pub record RowOk (bs : List ℕ) (i : ℕ) (ps marks vars words out : List ℕ) (r : After) : Type 0 where
  pub leads : AfterRow bs i ps marks vars words out r
