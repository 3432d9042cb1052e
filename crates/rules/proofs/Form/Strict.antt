-- What a form owes beside: from where an unstruck run stands no guard passes across another guard, and nothing is taken for ended. Every
-- law is about one kind of line; none is about a run. Assumes nothing.
use mathlib.Core.Path.{◌≡◌}
use mathlib.Core.Bool.{true, false}
use mathlib.Core.List.{List, ◌∷◌}
use Prim.Native.Nat.{ℕ, suc, ◌≤◌, ◌<◌}
use Rattle.rules.specs.declared.kind.Kind.TheVariants.{Call}
use Rattle.rules.specs.Row.{Table, kind_at, operands_at}
use Rattle.rules.specs.Scan.{Open}
use Rattle.rules.specs.Line.{line_at, is_guard}
use Rattle.rules.specs.Harden.{line_of, back_of, harden}
use Rattle.rules.specs.Function.{start_of, finish_of}
use Rattle.rules.specs.Form.{Form}
use Rattle.rules.proofs.Function.{InFunction}
use Rattle.rules.proofs.Form.Settles.{Settles}
use Rattle.rules.proofs.Between.{Between}
use Rattle.rules.proofs.Form.Where.{Stands}

-- The run stands before line k of function n, so that it keeps `S.at k (f ∷ fs) w`.
pub record Strict {H : Type 0} {t : Table} {F : Form H} (S : Settles t F) : Type 0 where
  -- a guard of the function, k', that lies across another
  pub refuses : (n k w : ℕ) (f : Open) (fs : List Open) → Stands t n k w f fs → (k' : ℕ) → start_of (harden t) n ≤ k' → k' < finish_of (harden t) n → is_guard (line_at (harden t) k') ≡ true
      → Between (harden t) k k' → (z : H) → (F.guard k' (line_at (harden t) k')).passes (S.at k (f ∷ fs) w) z ≡ false
  -- the back of a caller, where the function returned too early
  pub not_back : (n k w : ℕ) (f : Open) (fs : List Open) → Stands t n k w f fs → {m i : ℕ} {g : Open} {gs : List Open} → InFunction t m i g gs → kind_at t i ≡ Call → (operands_at t i).n ≡ n
      → (x : H) → (F.guard (suc (line_of t i)) (back_of t i (g ∷ gs) n)).passes x (S.at k (f ∷ fs) w) ≡ false
  -- the host, where function 0 did
  pub not_host : (k w : ℕ) (f : Open) (fs : List Open) → Stands t 0 k w f fs → F.ended (S.at k (f ∷ fs) w) ≡ false
