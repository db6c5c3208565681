-- A place of a text by the rest of the text that begins there: what is read at the place is what is read of the rest.
-- Assumes nothing.
use Rattle.std.specs.Prelude.{Some, Ok}
use mathlib.Core.Path.{◌≡◌, refl, sym, ◌∙◌, ap}
use mathlib.Core.Bool.{Bool, true, false, cond}
use mathlib.Core.List.{List, [], ◌∷◌, ◌++◌, append-nil}
use Prim.Native.Nat.{ℕ, suc, ◌+◌, ◌≤◌}
use native.Mathlib.Nat.{add-zero}
use native.Mathlib.Omega.{arith}
use lib.Dec.{eqb}
use lib.ListN.{length, get_or, drop, length-drop}
use lib.Seq.{get_or-drop, drop-drop, drop-append_seam, take-append_seam}
use borrow.Author.Tests.{ne_eqb}
use Rattle.order.specs.All.{All}
use Rattle.order.proofs.Elements.{all_weaker}
use Rattle.chars.specs.Class.{class_of, separator, digit, between, front}
use Rattle.decimal.specs.Digits.{decimal}
use Rattle.decimal.specs.Parse.{digits_of, leading_of}
use Rattle.version_parts.specs.Places.{separator_end, number_at}
use Rattle.version_roundtrip.specs.Readable.{Fits}
use Rattle.version_roundtrip.proofs.Numbers.{Digit, digit_class, digit_between, decimal_digits, number_back, begins_with_digit}

-- a step of the reader comes out at a place where `rest` is left of the text
pub record Left {A : Type 0} (s rest : List ℕ) (step : A) (out : ℕ → A) : Type 0 where
  pub next : ℕ
  pub is : step ≡ out next
  pub left : drop next s ≡ rest

-- a step that does no more than another one
pub stepped : {A B : Type 0} {s rest : List ℕ} {step : A} {out : ℕ → A} {step' : B} {out' : ℕ → B} →
    Left s rest step out → ((next : ℕ) → step ≡ out next → step' ≡ out' next) → Left s rest step' out'
stepped l f = record { next = l.next; is = f l.next l.is; left = l.left }

-- 1 if the text begins with a separator, and 0 if not
abbrev pub separated : List ℕ → ℕ
separated rest = cond (eqb (class_of (get_or rest 0 0)) separator) 1 0

module _ (s : List ℕ) (at : ℕ) (rest : List ℕ) (here : drop at s ≡ rest) where
  pub byte_here : get_or s at 0 ≡ get_or rest 0 0
  byte_here = rw (← here) (sym (rw (add-zero at) at (get_or-drop at s 0 0)))

  pub further : (k : ℕ) → drop (at + k) s ≡ drop k rest
  further k = rw (← here) (sym (drop-drop k at s))

  pub separator_here : separator_end s at ≡ at + separated rest
  unfolding separator_end
  separator_here = rw byte_here (go (eqb (class_of (get_or rest 0 0)) separator))
    where
      go : (t : Bool) → cond t (at + 1) at ≡ at + cond t 1 0
      go true = refl
      go false = sym (add-zero at)

  pub past_separator : drop (separator_end s at) s ≡ drop (separated rest) rest
  past_separator = rw separator_here (further (separated rest))

pub past : (s : List ℕ) (at : ℕ) (part rest : List ℕ) → drop at s ≡ part ++ rest → drop (at + length part) s ≡ rest
past s at part rest here = further s at (part ++ rest) here (length part) ∙ drop-append_seam part rest

pub at_end : (s : List ℕ) (at : ℕ) → drop at s ≡ [] → length s ≤ at
at_end s at here = omega (arith, sym (length-drop at s) ∙ ap length here)

-- a run ends where the rest begins with nothing of its kind
pub run_ends : (p : ℕ → Bool) (run rest : List ℕ) → All (λ b. p b ≡ true) run → front p rest ≡ 0 → front p (run ++ rest) ≡ length run
unfolding front
run_ends p [] rest all e = e
run_ends p (b ∷ run) rest all e = rw all.0 (ap suc (run_ends p run rest all.1 e))

pub digits_end : (n : ℕ) (rest : List ℕ) → digits_of rest ≡ 0 → digits_of (decimal n ++ rest) ≡ length (decimal n)
digits_end n rest e =
    let all = all_weaker Digit _ (digit_between digit refl) (decimal n) (decimal_digits n).digits in
    run_ends (between digit digit) (decimal n) rest all e

pub all_digits : (n : ℕ) → digits_of (decimal n) ≡ length (decimal n)
unfolding front
all_digits n = rw (append-nil (decimal n)) at (digits_end n [] refl)

leading_back : (n : ℕ) (rest : List ℕ) → Fits n → digits_of rest ≡ 0 → leading_of (decimal n ++ rest) ≡ Ok (Some (n, (length (decimal n))))
unfolding leading_of
leading_back n rest h e =
    let some = (decimal_digits n).some in
    rw (digits_end n rest e, ne_eqb (length (decimal n)) 0 (λ z. omega arith), take-append_seam, number_back n h)

pub no_separator : (n : ℕ) (rest : List ℕ) → separated (decimal n ++ rest) ≡ 0
no_separator = begins_with_digit (λ s. separated s ≡ 0) (λ b s d. rw (digit_class b d))

pub number_here : (s : List ℕ) (at n : ℕ) (rest : List ℕ) → drop at s ≡ decimal n ++ rest → Fits n → digits_of rest ≡ 0 →
    Left s rest (number_at s at) (λ next. Ok (Some (n, next)))
unfolding number_at
number_here s at n rest here h e = record {
  next = at + length (decimal n);
  is = rw (here, leading_back n rest h e);
  left = past s at (decimal n) rest here;
}
