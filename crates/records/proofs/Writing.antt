-- A record, as it is written: a head and then a body, or a head in front of a body that is there already.
-- Assumes nothing.
use mathlib.Core.Path.{◌≡◌, refl, ◌∙◌, ap}
use mathlib.Core.List.{List, [], ◌∷◌, ◌++◌}
use Prim.Native.Nat.{ℕ, suc, ◌+◌, ◌-◌, ◌/◌, ◌%◌, ◌<◌}
use native.Mathlib.Nat.{add-zero}
use native.Mathlib.Omega.{arith}
use lib.ListN.{length, set}
use lib.Seq.{sets, set_comm}
use Rattle.decimal.specs.Put.{farthest, Wrote, Put}
use Rattle.decimal.proofs.Puts.{then, whole}
use Rattle.records.specs.Record.{two_bytes_of, head_text, record_text}

pub two_put : (n i j k : ℕ) (a b c : List ℕ) → Wrote a i (n % 256 ∷ []) b j → Wrote b j (n / 256 % 256 ∷ []) c k → Wrote a i (two_bytes_of n) c k
unfolding two_bytes_of
two_put n i j k a b c p q = then p q

pub two_long : (n : ℕ) → length (two_bytes_of n) ≡ 2
unfolding two_bytes_of
two_long n = refl

pub head_long : (len kind : ℕ) → length (head_text len kind) ≡ 4
unfolding two_bytes_of
head_long len kind = refl

pub record_long : (kind : ℕ) (body : List ℕ) → length (record_text kind body) ≡ 4 + length body
unfolding record_text two_bytes_of
record_long kind body = omega arith

-- a byte in front of a text may be stored before or after it
byte_first : (t l : List ℕ) (i j a : ℕ) → i < j → set (sets l j t) i a ≡ sets (set l i a) j t
byte_first [] l i j a h = refl
byte_first (b ∷ t) l i j a h =
    byte_first t (set l j b) i (suc j) a (omega arith) ∙ ap (λ (m : List ℕ). sets m (suc j) t) (set_comm l j i b a (λ e. omega arith))

-- a text in front of one that is there already
front_first : (s t l : List ℕ) (i : ℕ) → sets (sets l (i + length s) t) i s ≡ sets l i (s ++ t)
front_first [] t l i = rw add-zero
front_first (a ∷ s) t l i =
    let place : i + suc (length s) ≡ suc i + length s = omega arith in
    ap (λ (m : List ℕ). sets m (suc i) s) (byte_first t l i (i + suc (length s)) a (omega arith)) ∙ rw place (front_first s t (set l i a) (suc i))

-- a head and a body are a record, where the head says the body's length
module _ (kind i j k : ℕ) (body a b c : List ℕ) where
  pub record_put : (n : ℕ) → n ≡ length body → Wrote a i (head_text n kind) b j → Wrote b j body c k → Wrote a i (record_text kind body) c k
  unfolding record_text
  record_put n e p q = then (rw e at p) q

  -- the writer of the body, run over no buffer, has told the length
  pub measured_put : (most need : ℕ) (none none' : List ℕ) → most < farthest → Put most none 0 body none' need →
      Wrote a i (head_text need kind) b j → Wrote b j body c k → Wrote a i (record_text kind body) c k
  measured_put most need none none' few dry p q = record_put need (whole most body none none' need dry few) p q

-- the body was written first, four bytes further on, and its end has told the length
pub front_put : (most kind i next j : ℕ) (body a b c : List ℕ) → i + 4 + most < farthest → Put most a (i + 4) body b next →
    Put 4 b i (head_text (next - (i + 4)) kind) c j → Wrote a i (record_text kind body) c next
unfolding record_text
front_put most kind i next j body a b c near first second =
    let moved = first.wrote.moved in
    let close = first.near in
    let told : next - (i + 4) ≡ length body = omega arith in
    record {
      bytes = second.wrote.bytes ∙ rw (first.wrote.bytes, told, ← head_long (length body) kind) (front_first (head_text (length body) kind) body a i);
      moved = omega (arith, record_long kind body);
      size = first.wrote.size;
    }
