-- A word and a number that `write!` printed on a page stand there as `Named` says: so does each that a program prints in that way, where
-- the answer is `Ok`. Of an error std says nothing: what each piece then leaves is `write_str`'s to say. Assumes nothing.
use Rattle.std.proofs.Common.{◌≡◌, ℕ, zero, suc, ◌+◌, ◌-◌, ◌/◌, ◌%◌, ◌^◌, ◌<◌, ◌≤◌, cond, List, [], ◌∷◌, ◌++◌, length, sym, ap, subst, ◌∙◌, arith, length-append}
use Rattle.std.proofs.lemmas.Bool.{lt-ltb}
use Rattle.std.proofs.lemmas.Fmt.{decimal_by_steps}
use Rattle.std.specs.List.{FoldsTo, concat}
use Rattle.std.specs.Fmt.{decimal, WritesInCalls}
use Rattle.io.specs.Digits.{hex_digit_ascii, last_digits, IsDigitCount}
use Rattle.console.specs.declared.page.Page.{Page}
use Rattle.console.specs.Page.{Printed, Named}
use Rattle.console.proofs.Paging.{printed-none, printed-more}

-- ---- a number as std spells it: its digits, as few as hold it
abbrev pub Spelt : ℕ → List ℕ → Type 0
Spelt n ds = IsDigitCount 10 1 n (length ds) × (ds ≡ last_digits 10 (length ds) n)

figure : (d : ℕ) → d < 10 → 48 + d ≡ hex_digit_ascii d
figure d h = sym (ap (λ t. cond t (48 + d) (87 + d)) (lt-ltb d 10 h))

one : (n : ℕ) → n < 10 → Spelt n ((48 + n) ∷ [])
one n h =
    let e : n % 10 ≡ n = omega arith in
    ((omega arith, omega arith, λ z. absurd (let y : ⊥ = omega arith in y)), ap (λ d. d ∷ []) (figure n h) ∙ ap (λ d. hex_digit_ascii d ∷ []) (sym e))

least : (k n : ℕ) → 10 ≤ n → (1 < suc k → 10 ^ (suc k - 1) ≤ n / 10) → 10 ^ suc k ≤ n
least zero n h j = omega arith
least (suc k) n h j =
    let e : suc (suc k) - 1 ≡ suc k = omega arith in
    let p : 10 ^ suc k ≤ n / 10 = subst (λ x. 10 ^ x ≤ n / 10) e (j (omega arith)) in
    omega arith

more : (n : ℕ) (ds : List ℕ) → 10 ≤ n → Spelt (n / 10) ds → Spelt n (ds ++ (48 + n % 10) ∷ [])
more n [] h s = absurd (let y : ⊥ = omega (arith, s.0.0) in y)
more n (d ∷ ds) h s = subst (λ k. IsDigitCount 10 1 n k × (whole ≡ last_digits 10 k n)) (sym long) (few, digits)
  where
    whole : List ℕ
    whole = (d ∷ ds) ++ (48 + n % 10) ∷ []

    k : ℕ
    k = suc (length ds)

    long : length whole ≡ suc k
    long = omega (arith, length-append (d ∷ ds) ((48 + n % 10) ∷ []))

    few : IsDigitCount 10 1 n (suc k)
    few =
        let fits : n / 10 < 10 ^ k = s.0.1 in
        let e : suc k - 1 ≡ k = omega arith in
        (omega arith, omega arith, λ z. subst (λ x. 10 ^ x ≤ n) (sym e) (least (length ds) n h s.0.2))

    digits : whole ≡ last_digits 10 (suc k) n
    digits = ap (λ x. x ++ (48 + n % 10) ∷ []) s.1 ∙ ap (λ x. last_digits 10 k (n / 10) ++ x ∷ []) (figure (n % 10) (omega arith))

pub decimal-spelt : (n : ℕ) → n < 2 ^ 64 → Spelt n (decimal n)
decimal-spelt = decimal_by_steps Spelt one more

-- ---- one piece behind another
abbrev pub Takes : {P : Type 0} → Page P → List ℕ → Page P → Type 0
Takes p s q = Printed s p.held p.text q.text q.held

printed-all : {P : Type 0} (p : Page P) (parts : List (List ℕ)) (q : Page P) → FoldsTo Takes p parts q → Printed (concat parts) p.held p.text q.text q.held
printed-all p [] q e = subst (λ r. Printed [] p.held p.text r.text r.held) e (printed-none p.held p.text p.within)
printed-all p (s ∷ ss) q (j, h, f) = printed-more s (concat ss) p.held j.held q.held p.text j.text q.text p.within h (printed-all j ss q f)

pub written-named : {P : Type 0} (word : List ℕ) (x : ℕ) (p q : Page P) → x < 2 ^ 64 → WritesInCalls Takes p (word ++ decimal x) q
    → Named word x p.held p.text q.text q.held
written-named word x p q h w =
    let s = decimal-spelt x h in
    record {
      count = length (decimal x);
      fewest = s.0;
      printed = subst (λ t. Printed t p.held p.text q.text q.held) (w.whole ∙ ap (λ d. word ++ d) s.1) (printed-all p w.parts q w.calls);
    }
