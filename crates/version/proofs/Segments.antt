-- What the label of a text comes to, by how much of it was read: some segments, or all of it.
-- Assumes nothing.
use mathlib.Core.Path.{◌≡◌, refl}
use mathlib.Core.List.{List}
use Prim.Native.Nat.{ℕ, suc, ◌-◌, ◌<◌}
use native.Mathlib.Omega.{arith}
use borrow.Author.Tests.{eq-eqb}
use Rattle.version_parts.specs.declared.fields.Local.{Local}
use Rattle.version_parts.specs.Fields.{no_local, pushed_span}
use Rattle.version_parts.specs.Places.{separator_end}
use Rattle.version_reading.specs.Label.{word_end, spanning, label_read, label_refused, segments_from, label_at}
use Rattle.version_reading.proofs.Labels.{label_none, segment_empty, segment_full, segment_last, segment_more}
use Rattle.version.specs.Refusals.{DevRead, Segmented, Labelled}

-- `count` segments were read: the label goes on from `at` as it went from its start
pub record SoFar (s : List ℕ) (at count : ℕ) : Type 0 where
  pub start : ℕ
  pub before : DevRead s start
  local : Local
  size : local.len ≡ count
  same : segments_from (16 - local.len) s local at ≡ label_at s start

-- the label was read, up to `at`
pub record Whole (s : List ℕ) (at : ℕ) : Type 0 where
  pub start : ℕ
  pub before : DevRead s start
  pub local : Local
  pub same : label_read local at ≡ label_at s start

-- the segment that is due at `at`: it is missing, the 17th, the last, or one of more
module _ {s : List ℕ} {at count : ℕ} (f : SoFar s at count) where
  pub due_missing : word_end s at ≡ at → label_refused 4 at ≡ label_at s f.start
  due_missing e = segment_empty s f.local at _ _ f.same refl _ e refl

  module _ (some : word_end s at ≡ at → ⊥) where
    pub due_over : count ≡ 16 → label_refused 10 at ≡ label_at s f.start
    due_over full = segment_full s f.local at _ _ f.same refl some _ (omega arith) refl

    module _ (few : count < 16) where
      abbrev kept : Local
      kept = pushed_span f.local (spanning at (word_end s at))

      due_last : separator_end s (word_end s at) ≡ word_end s at → Whole s (word_end s at)
      due_last e = record {
        start = f.start;
        before = f.before;
        local = kept;
        same = segment_last s f.local at _ _ f.same refl some kept _ refl (omega arith) (omega arith) refl e;
      }

      due_more : (separator_end s (word_end s at) ≡ word_end s at → ⊥) → SoFar s (separator_end s (word_end s at)) (suc count)
      due_more e = record {
        start = f.start;
        before = f.before;
        local = kept;
        size = omega arith;
        same = segment_more s f.local at _ _ f.same refl some kept _ refl (omega arith) (omega arith) refl e;
      }

pub so_far : {s : List ℕ} {at count : ℕ} → Segmented s at count → SoFar s at count
unfolding label_at
so_far (Segmented.opened at d e) = record { start = at; before = d; local = no_local; size = refl; same = rw (eq-eqb _ _ e) }
so_far (Segmented.separated at count g few some e) = due_more (so_far g) some few e

pub whole : {s : List ℕ} {at : ℕ} → Labelled s at → Whole s at
whole (Labelled.unlabelled at d e) = record { start = at; before = d; local = no_local; same = label_none _ at _ no_local refl e refl }
whole (Labelled.last_segment at count g few some e) = due_last (so_far g) some few e
