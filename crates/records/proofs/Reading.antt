-- The ways of `two_at` and `record_at`, and what is known of what they answer.
-- Assumes nothing.
use mathlib.Core.Path.{◌≡◌, refl}
use mathlib.Core.List.{List}
use Prim.Native.Nat.{ℕ, ◌+◌, ◌-◌, ◌≤◌, ◌<◌}
use native.Mathlib.Omega.{arith}
use lib.ListN.{length, get_or-eq_default}
use borrow.Author.Tests.{lt-ltb, le-ltb, le-leb, lt-leb}
use Rattle.records.specs.declared.record.RecordAt.{RecordAt}
use Rattle.records.specs.declared.record.RecordAt.TheVariants.{Found, Cut, Nothing}
use Rattle.records.specs.Record.{two_at, record_at, start_of, next_of}

module _ (s : List ℕ) (at : ℕ) where
  pub two_past : length s ≤ at → 0 ≡ two_at s at
  two_past h =
      let past : length s ≤ at + 1 = omega arith in
      rw (get_or-eq_default s 0 h, get_or-eq_default s 0 past)

  pub record_past : length s ≤ at → Nothing ≡ record_at s at
  unfolding record_at
  record_past h = rw (le-leb (length s) at h)

  -- the body has len bytes
  module _ (inside : at < length s) (len : ℕ) (e : len ≡ two_at s at) where
    pub record_cut : length s - at < 4 + len → Cut ≡ record_at s at
    unfolding record_at
    record_cut h = rw (lt-leb (length s) at inside, ← e, lt-ltb (length s) (at + 4 + len) (omega arith))

    pub record_found : (kind : ℕ) → 4 + len ≤ length s - at → kind ≡ two_at s (at + 2) → Found kind (at + 4) (at + 4 + len) ≡ record_at s at
    unfolding record_at
    record_found kind h f = rw (lt-leb (length s) at inside, ← e, le-ltb (length s) (at + 4 + len) (omega arith), f)

-- the body of a record that was found lies within the text
module _ (r : RecordAt) (kind start next n : ℕ) (f : r ≡ Found kind start next) where
  pub found_ordered : start_of r ≤ next_of r → start ≤ next
  found_ordered h = rw f at h

  pub found_within : next_of r ≤ n → next ≤ n
  found_within h = rw f at h

  pub found_starts : start_of r ≤ next_of r → next_of r ≤ n → start ≤ n
  found_starts h g = omega (arith, found_ordered h, found_within g)

-- what is known in the `else` of `let RecordAt::Found(..) = r`
abbrev pub NotFound : RecordAt → Type 0
NotFound r = (kind start next : ℕ) → r ≡ Found kind start next → ⊥

-- who says the same of a record that is cut and of none says that of what was not found
pub not_found : {A : Type 0} (said : RecordAt → A) (a : A) → said Cut ≡ a → said Nothing ≡ a → (r : RecordAt) → NotFound r → said r ≡ a
not_found said a e f (Found kind start next) other = absurd (other kind start next refl)
not_found said a e f Cut other = e
not_found said a e f Nothing other = f
