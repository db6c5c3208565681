-- Tests of order, for what needs no more than "a is at most b". A fact is an equation: `le a b ≡ true` says that a is at most b, and
-- `le b a ≡ false` that a lies strictly below b. Definitions only; assumes nothing.
use Rattle.std.specs.Prelude.{◌≡◌, Bool, true, false}
use Rattle.order.specs.Ordering.{is_le}
use Rattle.order.specs.Compare.{Comparison}

-- of any two one is at most the other, and "at most" is transitive; two may each be at most the other and still differ
pub record TotalPreorder {P : Type 0} (le : P → P → Bool) : Type 0 where
  pub total : {a b : P} → le a b ≡ false → le b a ≡ true
  pub trans : {a b c : P} → le a b ≡ true → le b c ≡ true → le a c ≡ true

-- bot is at most all, all are at most top, and bot lies strictly below top
pub record Bounded {P : Type 0} (le : P → P → Bool) (bot top : P) : Type 0 where
  pub least : (c : P) → le bot c ≡ true
  pub greatest : (c : P) → le c top ≡ true
  pub apart : le top bot ≡ false

-- the test that a comparison gives
abbrev pub at_most : {A : Type 0} → Comparison A → A → A → Bool
at_most cmp a b = is_le (cmp a b)
