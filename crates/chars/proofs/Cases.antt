-- Which arm a choice takes, by the fact that its test stands for: `search cases` closes a return that rests on tests alone.
-- Assumes nothing.
use mathlib.Core.Path.{◌≡◌, sym, ◌∙◌}
use mathlib.Core.Bool.{Bool, true, false, cond}
use Prim.Native.Nat.{ℕ, ◌<◌, ◌≤◌}
use lib.Dec.{ltb, leb, eqb}
use borrow.Author.Tests.{lt-ltb, le-ltb, le-leb, lt-leb, eq-eqb, ne_eqb}

-- the test is what a call gave
pub yes_call : {A : Type 0} {r t : Bool} {x a : A} (b : A) → r ≡ t → r ≡ true → x ≡ a → x ≡ cond t a b
yes_call b e f g = rw (← e, f) g

pub no_call : {A : Type 0} {r t : Bool} {x b : A} (a : A) → r ≡ t → r ≡ false → x ≡ b → x ≡ cond t a b
no_call a e f g = rw (← e, f) g

-- the test is a flag
pub yes_flag : {A : Type 0} {t : Bool} {x a : A} (b : A) → t ≡ true → x ≡ a → x ≡ cond t a b
yes_flag b e g = rw e g

pub no_flag : {A : Type 0} {t : Bool} {x b : A} (a : A) → t ≡ false → x ≡ b → x ≡ cond t a b
no_flag a e g = rw e g

-- a test of two numbers
pub yes_lt : {A : Type 0} {x a : A} (m n : ℕ) (b : A) → m < n → x ≡ a → x ≡ cond (ltb m n) a b
yes_lt m n b h g = rw (lt-ltb m n h) g

pub no_lt : {A : Type 0} {x b : A} (m n : ℕ) (a : A) → n ≤ m → x ≡ b → x ≡ cond (ltb m n) a b
no_lt m n a h g = rw (le-ltb m n h) g

pub yes_le : {A : Type 0} {x a : A} (m n : ℕ) (b : A) → m ≤ n → x ≡ a → x ≡ cond (leb m n) a b
yes_le m n b h g = rw (le-leb m n h) g

pub no_le : {A : Type 0} {x b : A} (m n : ℕ) (a : A) → n < m → x ≡ b → x ≡ cond (leb m n) a b
no_le m n a h g = rw (lt-leb m n h) g

pub yes_eq : {A : Type 0} {x a : A} (m n : ℕ) (b : A) → m ≡ n → x ≡ a → x ≡ cond (eqb m n) a b
yes_eq m n b h g = rw (eq-eqb m n h) g

pub no_eq : {A : Type 0} {x b : A} (m n : ℕ) (a : A) → (m ≡ n → ⊥) → x ≡ b → x ≡ cond (eqb m n) a b
no_eq m n a h g = rw (ne_eqb m n h) g

-- an equation of a number that a call gave
pub yes_is : {A : Type 0} {r m : ℕ} {x a : A} (n : ℕ) (b : A) → r ≡ m → r ≡ n → x ≡ a → x ≡ cond (eqb m n) a b
yes_is n b e h g = yes_eq _ n b (sym e ∙ h) g

pub no_is : {A : Type 0} {r m : ℕ} {x b : A} (n : ℕ) (a : A) → r ≡ m → (r ≡ n → ⊥) → x ≡ b → x ≡ cond (eqb m n) a b
no_is n a e h g = no_eq _ n a (λ q. h (e ∙ q)) g

pub ruleset cases = (yes_flag, no_flag, yes_call, no_call, yes_lt, no_lt, yes_le, no_le, yes_eq, no_eq, yes_is, no_is)
