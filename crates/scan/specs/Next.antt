-- What a row of each kind promises: that it has no fault and where the pass stands after it, or why it is refused. Assumes nothing:
-- these are definitions.
use Rattle.std.specs.Prelude.{Result, Ok, Err, ℕ, suc, ◌+◌, ◌*◌, ◌<◌, ◌≡◌, List, length, drop}
use Rattle.rules.specs.declared.kind.Kind.{Kind}
use Rattle.rules.specs.declared.kind.Kind.TheVariants.{Do, If, Loop, Break, Continue, Call}
use Rattle.rules.specs.declared.refusal.Refusal.{Refusal}
use Rattle.rules.specs.Verdict.{Refused}
use Rattle.rules.specs.Row.{row_width, table_of}
use Rattle.rules.specs.Scan.{then_part, loop_body}
use Rattle.rules.specs.Check.{row_verdict}
use Rattle.rows.specs.First.{first_kind_lem}
use Rattle.scan.specs.declared.open.Standing.{Standing}
use Rattle.scan.specs.Standing.{part_byte, Stands, Sane}

-- after a row: why it is turned away, or what is open
abbrev pub Next : Type 0
Next = Result Standing Refusal

pattern abbrev pub Faulty : Refusal → Next
Faulty c = Err c

pattern abbrev pub On : Standing → Next
On s = Ok s

-- row i of the table that the bytes spell is of kind k, or has a wrong field where k is Unknown
pub record At (k : Kind) (bs : List ℕ) (i : ℕ) : Type 0 where
  pub within : row_width * i + 5 < length bs
  pub kind_is : first_kind_lem (drop (row_width * i) bs) ≡ k

abbrev pub AfterRow : (bs : List ℕ) (i : ℕ) (ps : List ℕ) → Next → Type 0
AfterRow bs i ps (Faulty c) = row_verdict (table_of bs) i ≡ Refused c
AfterRow bs i ps (On s) = Stands bs (suc i) s ps

abbrev pub NextSane : (ps : List ℕ) → Next → Type 0
NextSane ps (Faulty c) = Unit {0}
NextSane ps (On s) = Sane s ps

-- for every table, and every row of kind k before which the pass stands so
pub record NextOk (k : Kind) (s : Standing) (ps ps' : List ℕ) (r : Next) : Type 0 where
  pub sane : NextSane ps' r
  pub leads : (bs : List ℕ) (i : ℕ) → At k bs i → Stands bs i s ps → AfterRow bs i ps' r

-- a do and a call
pub data Plain (k : Kind) : Type 0 where
  by_do : k ≡ Do → Plain k
  by_call : k ≡ Call → Plain k

pub record PlainOk (s : Standing) (r : Next) : Type 0 where
  pub for_all : (k : Kind) (ps : List ℕ) → Plain k → Sane s ps → NextOk k s ps ps r

-- a break and a continue
pub data Jump (k : Kind) : Type 0 where
  by_break : k ≡ Break → Jump k
  by_continue : k ≡ Continue → Jump k

pub record JumpOk (s : Standing) (r : Next) : Type 0 where
  pub for_all : (k : Kind) (ps : List ℕ) → Jump k → Sane s ps → NextOk k s ps ps r

-- an if and a loop: the byte of the part, and the loop bodies open in it where `outer` are open around it
pub data Enters (k : Kind) (part loops outer : ℕ) : Type 0 where
  by_if : k ≡ If → part ≡ part_byte then_part → loops ≡ outer → Enters k part loops outer
  by_loop : k ≡ Loop → part ≡ part_byte loop_body → loops ≡ outer + 1 → Enters k part loops outer

pub record EnterOk (part loops : ℕ) (s : Standing) (ps ps' : List ℕ) (r : Next) : Type 0 where
  pub for_all : (k : Kind) → Enters k part loops s.loops → NextOk k s ps ps' r
