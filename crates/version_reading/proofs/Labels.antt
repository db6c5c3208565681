-- The ways of the functions that read the label: rule 8.
-- Assumes nothing.
use mathlib.Core.Path.{◌≡◌, sym, ◌∙◌}
use mathlib.Core.List.{List}
use Prim.Native.Nat.{ℕ, zero, suc, ◌+◌, ◌-◌, ◌≤◌}
use native.Mathlib.Omega.{arith}
use lib.ListN.{length, get_or, take, drop}
use borrow.Author.Tests.{eq-eqb, ne_eqb}
use Rattle.chars.specs.Class.{digit, letter, between, front}
use Rattle.chars.proofs.Cases.{no_is}
use Rattle.chars.proofs.Parts.{take_rest}
use Rattle.version_parts.specs.declared.fields.Local.{Local}
use Rattle.version_parts.specs.Fields.{no_local, pushed_span}
use Rattle.version_parts.specs.Places.{separator_end}
use Rattle.version_parts.specs.Suffix.{Step}
use Rattle.version_reading.specs.Label.{word_end, spanning, label_read, label_refused, segments_from, label_at}

pub word_is : (s : List ℕ) (at r : ℕ) → r ≡ front (between digit letter) (take (length s - at) (drop at s)) → at + r ≡ word_end s at
unfolding word_end
word_is s at r e = rw e (rw (take_rest s at))

pub label_none : (s : List ℕ) (at k : ℕ) (local : Local) → k ≡ get_or s at 0 → (k ≡ 43 → ⊥) → local ≡ no_local → label_read local at ≡ label_at s at
unfolding label_at
label_none s at k local e f g = no_is _ _ e f (rw g)

-- one turn: the segments so far at `at`, the end of the word there, and the answer t of the whole
module _ (s : List ℕ) (local : Local) (at end : ℕ) (t : Step Local)
    (same : segments_from (16 - local.len) s local at ≡ t) (e : end ≡ word_end s at) where
  pub segment_empty : (q : Step Local) → end ≡ at → q ≡ label_refused 4 at → q ≡ t
  unfolding segments_from
  segment_empty q f g = g ∙ sym (go (16 - local.len)) ∙ same
    where
      go : (room : ℕ) → segments_from room s local at ≡ label_refused 4 at
      go zero = rw (eq-eqb _ _ (sym e ∙ f))
      go (suc room) = rw (eq-eqb _ _ (sym e ∙ f))

  module _ (some : end ≡ at → ⊥) where
    pub segment_full : (q : Step Local) → local.len ≡ 16 → q ≡ label_refused 10 at → q ≡ t
    unfolding segments_from
    segment_full q full g = g ∙ sym turn ∙ same
      where
        turn : segments_from (16 - local.len) s local at ≡ label_refused 10 at
        turn = rw (full, ne_eqb _ _ (λ q. some (e ∙ q)))

    module _ (kept : Local) (next : ℕ) (k : kept ≡ pushed_span local (spanning at end)) (few : local.len ≤ 16) (room : local.len ≡ 16 → ⊥) (f : next ≡ separator_end s end) where
      one : 16 - local.len ≡ suc (16 - (local.len + 1))
      one = omega arith

      pub segment_last : next ≡ end → label_read kept end ≡ t
      unfolding segments_from
      segment_last g = rw k (sym turn ∙ same)
        where
          turn : segments_from (16 - local.len) s local at ≡ label_read (pushed_span local (spanning at end)) end
          turn = rw (one, ← e, ne_eqb _ _ some, ← f, eq-eqb _ _ g)

      pub segment_more : (next ≡ end → ⊥) → segments_from (16 - kept.len) s kept next ≡ t
      unfolding segments_from
      segment_more g = rw k (sym turn ∙ same)
        where
          turn : segments_from (16 - local.len) s local at ≡ segments_from (16 - (local.len + 1)) s (pushed_span local (spanning at end)) next
          turn = rw (one, ← e, ne_eqb _ _ some, ← f, ne_eqb _ _ g)
