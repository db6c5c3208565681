-- A record that was written is read again, wherever it stands.
-- Assumes nothing.
use mathlib.Core.Path.{◌≡◌, sym, ◌∙◌, ap}
use mathlib.Core.List.{List, ◌++◌, append_assoc}
use Prim.Native.Nat.{ℕ, ◌+◌, ◌-◌, ◌*◌, ◌/◌, ◌%◌, ◌≤◌, ◌<◌}
use native.Mathlib.Nat.{add-zero}
use native.Mathlib.Omega.{arith}
use lib.ListN.{length, get_or, take, drop, length-append, length-take}
use lib.Seq.{get_or-drop, drop-drop, drop-append_seam, take-append_seam, drop_at, sets-eq}
use borrow.Author.Tests.{le-ltb, lt-leb}
use Rattle.decimal.specs.Put.{Wrote}
use Rattle.records.specs.declared.record.RecordAt.TheVariants.{Found}
use Rattle.records.specs.Record.{two_bytes_of, two_at, record_text, record_at, body_of}
use Rattle.records.proofs.Writing.{record_long}

-- at a place of s, `rest` is left
pub record Here (s : List ℕ) (at : ℕ) (rest : List ℕ) : Type 0 where
  pub left : drop at s ≡ rest
  pub size : at + length rest ≡ length s

pub passed : (s : List ℕ) (at : ℕ) (part rest : List ℕ) → Here s at (part ++ rest) → Here s (at + length part) rest
passed s at part rest h = record {
  left = sym (drop-drop (length part) at s) ∙ ap (drop (length part)) h.left ∙ drop-append_seam part rest;
  size = omega (arith, h.size, length-append part rest);
}

-- what a writer has left in a buffer that has room for it
pub wrote_here : (old new text : List ℕ) (at next : ℕ) → Wrote old at text new next → at + length text ≤ length old →
    Here new at (text ++ drop (at + length text) old)
wrote_here old new text at next p room =
    let rest = drop (at + length text) old in
    let front : length (take at old) ≡ at = length-take at old ∙ omega arith in
    let whole : new ≡ take at old ++ (text ++ rest) = p.bytes ∙ sets-eq text old at room ∙ append_assoc (take at old) text rest in
    record {
      left = ap (drop at) whole ∙ drop_at (take at old) (text ++ rest) at front;
      size = omega (arith, ap length whole, length-append (take at old) (text ++ rest), front);
    }

two_bytes : (n : ℕ) → n < 65536 → n % 256 + 256 * (n / 256 % 256) ≡ n
two_bytes n l = omega arith

two_here : (s : List ℕ) (at n : ℕ) (rest : List ℕ) → n < 65536 → drop at s ≡ two_bytes_of n ++ rest → two_at s at ≡ n
unfolding two_bytes_of
two_here s at n rest small here =
    let low : get_or s at 0 ≡ n % 256 = rw (add-zero at) at (sym (get_or-drop at s 0 0) ∙ ap (λ l. get_or l 0 0) here) in
    let high : get_or s (at + 1) 0 ≡ n / 256 % 256 = sym (get_or-drop at s 1 0) ∙ ap (λ l. get_or l 1 0) here in
    rw (low, high) (two_bytes n small)

module _ (s : List ℕ) (at kind : ℕ) (body rest : List ℕ) (here : Here s at (record_text kind body ++ rest)) where
  front : drop at s ≡ two_bytes_of (length body) ++ (two_bytes_of kind ++ (body ++ rest))
  unfolding record_text two_bytes_of
  front = here.left

  further : (k : ℕ) → drop (at + k) s ≡ drop k (two_bytes_of (length body) ++ (two_bytes_of kind ++ (body ++ rest)))
  further k = sym (drop-drop k at s) ∙ ap (drop k) front

  kind_left : drop (at + 2) s ≡ two_bytes_of kind ++ (body ++ rest)
  unfolding two_bytes_of
  kind_left = further 2

  body_left : drop (at + 4) s ≡ body ++ rest
  unfolding two_bytes_of
  body_left = further 4

  pub record_next : Here s (at + 4 + length body) rest
  record_next =
      let e : at + length (record_text kind body) ≡ at + 4 + length body = omega (arith, record_long kind body) in
      rw e at (passed s at (record_text kind body) rest here)

  pub body_here : body_of s (at + 4) (at + 4 + length body) ≡ body
  body_here =
      let size : at + 4 + length body - (at + 4) ≡ length body = omega arith in
      rw (size, body_left) (take-append_seam body rest)

  pub record_here : kind < 65536 → length body < 65536 → record_at s at ≡ Found kind (at + 4) (at + 4 + length body)
  unfolding record_at
  record_here small short =
      let wide : at + 4 + length body ≤ length s = omega (arith, record_next.size) in
      let n : two_at s at ≡ length body = two_here s at (length body) _ short front in
      let k : two_at s (at + 2) ≡ kind = two_here s (at + 2) kind _ small kind_left in
      rw (lt-leb (length s) at (omega (arith, wide)), n, le-ltb (length s) (at + 4 + length body) wide, k)

-- the body is a number
pub number_here : (s : List ℕ) (at kind n : ℕ) (rest : List ℕ) → Here s at (record_text kind (two_bytes_of n) ++ rest) → n < 65536 →
    two_at s (at + 4) ≡ n
number_here s at kind n rest here small = two_here s (at + 4) n rest small (body_left s at kind (two_bytes_of n) rest here)

-- from the writer's buffer, where there was room
pub written_reads_back : (old new body : List ℕ) (at kind next : ℕ) → Wrote old at (record_text kind body) new next →
    at + 4 + length body ≤ length old → kind < 65536 → length body < 65536 →
    (record_at new at ≡ Found kind (at + 4) next) × (body_of new (at + 4) next ≡ body)
written_reads_back old new body at kind next p room small short =
    let long = record_long kind body in
    let here = wrote_here old new (record_text kind body) at next p (omega (arith, long)) in
    let place : next ≡ at + 4 + length body = omega (arith, p.moved, p.size, long) in
    rw place (record_here new at kind body _ here small short, body_here new at kind body _ here)
