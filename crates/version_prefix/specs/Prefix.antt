-- What `==V.*` matches, and the end of what it matches: the next prefix.
use Rattle.std.specs.Prelude.{Bool, true, ◌&&◌, cond, ℕ, suc, ◌-◌, ◌≤◌, eqb, length, take, None, Some, Option}
use mathlib.Core.List.{List, [], ◌∷◌, tail}
use Rattle.order.specs.All.{All}
use Rattle.order.specs.Ordering.{is_gt}
use Rattle.order.specs.Compare.{head_or}
use Rattle.version_reading.specs.Value.{Value}
use Rattle.decimal.specs.Parse.{largest}
use Rattle.version_order.specs.Versions.{compare_public}

-- at each position of the prefix the number, 0 where there is none, equals the prefix's
abbrev pub begins : List ℕ → List ℕ → Bool
begins [] numbers = true
begins (x ∷ prefix) numbers = eqb x (head_or 0 numbers) && begins prefix (tail numbers)

-- equal epochs, and the release begins with the prefix's
unfoldable pub prefix_matches : Value → Value → Bool
prefix_matches v w = eqb v.epoch w.epoch && begins v.release w.release

-- the version with the first `count` of its release numbers, and with its release less the last number
abbrev pub cut_to : ℕ → Value → Value
cut_to count v = record {
  epoch = v.epoch;
  release = take count v.release;
  pre = v.pre;
  post = v.post;
  dev = v.dev;
  label = v.label;
}

abbrev pub shorter : Value → Value
shorter v = cut_to (length v.release - 1) v

-- the number x, and what the numbers after it have become; with all of them dropped, it is the last
abbrev pub raised : ℕ → Option (List ℕ) → Option (List ℕ)
raised x (Some rest) = Some (x ∷ rest)
raised x None = cond (eqb x largest) None (Some (suc x ∷ []))

-- add 1 to the last number; if that was the largest, drop it and go on with the one before
abbrev pub next_release : List ℕ → Option (List ℕ)
next_release [] = None
next_release (x ∷ rest) = raised x (next_release rest)

pub record Prefix : Type 0 where
  pub epoch : ℕ
  pub release : List ℕ

-- with no number left, epoch + 1 and release 0; with the largest epoch, none
abbrev pub carried : ℕ → Option (List ℕ) → Option Prefix
carried epoch (Some release) = Some (record { epoch = epoch; release = release })
carried epoch None = cond (eqb epoch largest) None (Some (record { epoch = suc epoch; release = 0 ∷ [] }))

unfoldable pub next_prefix : ℕ → List ℕ → Option Prefix
next_prefix epoch release = carried epoch (next_release release)

-- an epoch and a release with `.dev0`
abbrev pub dev_zero : ℕ → List ℕ → Value
dev_zero epoch release = record {
  epoch = epoch;
  release = release;
  pre = None;
  post = None;
  dev = Some 0;
  label = [];
}

-- where what `==V.*` matches begins, and where it ends, if it does
abbrev pub prefix_start : Value → Value
prefix_start v = dev_zero v.epoch v.release

abbrev pub zeroed : Option Prefix → Option Value
zeroed None = None
zeroed (Some p) = Some (dev_zero p.epoch p.release)

abbrev pub prefix_end : Value → Option Value
prefix_end v = zeroed (next_prefix v.epoch v.release)

-- the end, where there is one, is above the version
abbrev pub ends_above : Option Value → Value → Bool
ends_above None w = true
ends_above (Some end) w = is_gt (compare_public end w)

-- numbers that a version can hold: 64 bits do
abbrev pub Fit : List ℕ → Type 0
Fit numbers = All (λ n. n ≤ largest) numbers

pub record Held (v : Value) : Type 0 where
  pub epoch : v.epoch ≤ largest
  pub release : Fit v.release
