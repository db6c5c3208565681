-- The ways of `part_at` and of `step_at`.
-- Assumes nothing.
use Rattle.answers.specs.declared.Refusal.{Refusal}
use Rattle.std.specs.Prelude.{Result}
use mathlib.Core.Path.{◌≡◌}
use mathlib.Core.Bool.{true, false}
use mathlib.Core.List.{List, []}
use Prim.Native.Nat.{ℕ, ◌+◌, ◌-◌, ◌≤◌, ◌<◌, max}
use native.Mathlib.Omega.{arith}
use lib.ListN.{length, drop, length-take, drop_of_length-le}
use lib.Seq.{take-nil}
use borrow.Author.Tests.{le-leb, lt-leb}
use Rattle.chars.specs.Scan.{index_of}
use Rattle.chars.specs.Class.{between, front}
use Rattle.list_clauses.specs.declared.clause.Clause.{Clause}
use Rattle.list_clauses.specs.declared.step.Part.{Part}
use Rattle.list_clauses.specs.Trim.{trimmed_length}
use Rattle.list_clauses.specs.Step.{bytes_in, comma_after, part_end, part_start, part_at, clause_between, clause_in, step_at, PartIs}

-- past the end there is no comma and no byte
module _ (s : List ℕ) (start : ℕ) (outside : length s < start) where
  nothing_there : drop start s ≡ []
  nothing_there = let h : length s ≤ start = omega arith in drop_of_length-le s h

  none_in : (to : ℕ) → bytes_in s start to ≡ []
  none_in to = rw (nothing_there, take-nil {A = ℕ} (to - start))

  comma_outside : comma_after s start ≡ start
  unfolding comma_after index_of
  comma_outside = rw nothing_there (omega arith)

  end_outside : part_end s start ≡ start
  unfolding part_end trimmed_length
  end_outside = rw (none_in (comma_after s start)) (omega arith)

  start_outside : part_start s start ≡ start
  unfolding part_start front
  start_outside = rw (none_in (part_end s start)) (omega arith)

  pub part_outside : PartIs s start (record { from = start; to = start; next = start; last = true })
  unfolding part_at
  part_outside = record {
    is = rw (start_outside, end_outside, comma_outside, le-leb (length s) start (omega arith));
    starts = omega arith;
    some = omega arith;
    inside = omega arith;
    onward = omega arith;
    within = omega arith;
  }

-- within the list: `comma` is where a comma or the end was found, n bytes are left without trailing blanks, and m blanks lead them
module _ (s : List ℕ) (start comma n m : ℕ) (e : comma ≡ start + index_of 44 (drop start s)) (h : comma ≤ max start (length s)) (i : start ≤ length s)
    (f : n ≡ trimmed_length (bytes_in s start comma)) (k : n ≤ length (bytes_in s start comma))
    (g : m ≡ front (between 1 1) (bytes_in s start (start + n))) (l : m ≤ length (bytes_in s start (start + n))) where
  comma_there : comma ≡ comma_after s start
  unfolding comma_after
  comma_there = e

  end_there : start + n ≡ part_end s start
  unfolding part_end
  end_there = rw (← comma_there, ← f)

  start_there : start + m ≡ part_start s start
  unfolding part_start
  start_there = rw (← end_there, ← g)

  trimmed_within : n ≤ comma - start
  trimmed_within = omega (arith, length-take (comma - start) (drop start s))

  lead_within : m ≤ n
  lead_within = omega (arith, length-take (start + n - start) (drop start s))

  pub part_last : comma ≡ length s → PartIs s start (record { from = start + m; to = start + n; next = comma; last = true })
  unfolding part_at
  part_last z = record {
    is = rw (← start_there, ← end_there, ← comma_there, le-leb (length s) comma (omega arith));
    starts = omega arith;
    some = omega (arith, lead_within);
    inside = omega (arith, trimmed_within);
    onward = omega arith;
    within = omega arith;
  }

  pub part_more : (comma ≡ length s → ⊥) → PartIs s start (record { from = start + m; to = start + n; next = comma + 1; last = false })
  unfolding part_at
  part_more z = record {
    is = rw (← start_there, ← end_there, ← comma_there, lt-leb (length s) comma (omega arith));
    starts = omega arith;
    some = omega (arith, lead_within);
    inside = omega (arith, trimmed_within);
    onward = omega arith;
    within = omega arith;
  }

-- a clause between the ends of its part
pub step_made : (s : List ℕ) (start : ℕ) (p : Part) (c : Result Clause Refusal) → p ≡ part_at s start → c ≡ clause_between s start p.from p.to →
    record { clause = c; part = p } ≡ step_at s start
unfolding part_at clause_in step_at
step_made s start p c e f = let there : c ≡ clause_in s start = rw e at f in λ i. record { clause = there i; part = e i }
