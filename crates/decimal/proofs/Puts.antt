-- Laws of `Wrote`: writers in a row are one writer of their texts in a row, with no room to show.
-- Assumes nothing.
use Rattle.std.specs.Prelude.{Ok, Err}
use mathlib.Core.Path.{◌≡◌, refl, sym, ap, ◌∙◌, subst}
use mathlib.Core.Bool.{Bool, true, false}
use mathlib.Core.List.{List, [], ◌∷◌, ◌++◌}
use Prim.Native.Nat.{ℕ, suc, ◌+◌, ◌/◌, ◌%◌, ◌^◌, ◌≤◌, ◌<◌}
use native.Mathlib.Nat.{add-zero, zero-add, add-suc, suc-add}
use native.Mathlib.Omega.{arith}
use lib.Dec.{leb, ltb}
use lib.ListN.{length, length-append, set}
use lib.Seq.{sets, length-sets, sets-eq, set_out}
use borrow.Author.Tests.{leb-true, leb-false, lt-ltb, le-ltb}
use Rattle.answers.specs.Refusal.{refusal}
use Rattle.answers.specs.Printed.{answer, filled, Printed}
use Rattle.decimal.specs.Digits.{decimal}
use Rattle.decimal.specs.Put.{farthest, onward, Wrote, Put}
use Rattle.decimal.proofs.Figures.{one_digit, more_digits, twenty_digits}

pub sets_append : (s t l : List ℕ) (i : ℕ) → sets (sets l i s) (i + length s) t ≡ sets l i (s ++ t)
sets_append [] t l i = rw add-zero
sets_append (a ∷ s) t l i = rw (add-suc i (length s), ← suc-add i (length s)) (sets_append s t (set l i a) (suc i))

pub sets_past : (s l : List ℕ) (i : ℕ) → length l ≤ i → sets l i s ≡ l
sets_past [] l i h = refl
sets_past (a ∷ s) l i h = rw (set_out l i a h) (sets_past s l (suc i) (omega arith))

-- the second text follows the first, also where the first ends after the last place
follow : (s t l : List ℕ) (i : ℕ) → length l ≤ farthest → sets (sets l i s) (onward i (length s)) t ≡ sets l i (s ++ t)
follow s t l i h = go (leb (i + length s) farthest) refl
  where
    go : (b : Bool) → leb (i + length s) farthest ≡ b → sets (sets l i s) (onward i (length s)) t ≡ sets l i (s ++ t)
    go true e =
        let near : i + length s ≤ farthest = leb-true _ _ e in
        let place : onward i (length s) ≡ i + length s = omega arith in
        rw place (sets_append s t l i)
    go false e =
        let far : farthest < i + length s = leb-false _ _ e in
        let place : onward i (length s) ≡ farthest = omega arith in
        let size = length-sets l i s in
        rw (place, sets_past t (sets l i s) farthest (omega arith))
        (sym (sets_past t (sets l i s) (i + length s) (omega arith)) ∙ sets_append s t l i)

pub nothing : (l : List ℕ) (i : ℕ) → length l < 2 ^ 64 → i < 2 ^ 64 → Wrote l i [] l i
nothing l i h g = record { bytes = refl; moved = omega arith; size = omega arith }

-- a byte after the buffer's end changes nothing
pub byte_out : (l : List ℕ) (i b j : ℕ) → length l ≤ i → length l ≤ farthest → j ≡ onward i 1 → Wrote l i (b ∷ []) l j
byte_out l i b j h g e = record { bytes = sym (set_out l i b h); moved = e; size = g }

-- nor does a whole text
pub all_out : (l text : List ℕ) (i j : ℕ) → length l ≤ i → length l ≤ farthest → j ≡ onward i (length text) → Wrote l i text l j
all_out l text i j h g e = record { bytes = sym (sets_past text l i h); moved = e; size = g }

pub then : {a b c s t : List ℕ} {i j k : ℕ} → Wrote a i s b j → Wrote b j t c k → Wrote a i (s ++ t) c k
then {a} {b} {c} {s} {t} {i} {j} {k} p q = record {
  bytes = q.bytes ∙ (rw (p.bytes, p.moved) (follow s t a i p.size));
  moved = omega (arith, p.moved, q.moved, length-append s t);
  size = p.size;
}

pub same_size : {a b s : List ℕ} {i j : ℕ} → Wrote a i s b j → length b ≡ length a
same_size {a} {b} {s} {i} p = ap length p.bytes ∙ length-sets a i s

-- the same text, said another way
pub retext : {a b s t : List ℕ} {i j : ℕ} → s ≡ t → Wrote a i s b j → Wrote a i t b j
retext {a} {b} {s} {t} {i} {j} e p = subst (λ (x : List ℕ). Wrote a i x b j) e p

-- a number of 64 bits has at most twenty digits
pub number_put : {a b : List ℕ} {i j n : ℕ} → Wrote a i (decimal n) b j → n < 2 ^ 64 → Put 20 a i (decimal n) b j
number_put {n = n} p h = record { wrote = p; near = omega (arith, p.moved, twenty_digits n h) }

-- the ways out of `put_number`: a number below ten, and the digits before the last one
pub one_put : (a b : List ℕ) (i j n : ℕ) → n < 10 → Put 1 a i ((48 + n) ∷ []) b j → Put 20 a i (decimal n) b j
one_put a b i j n h p = number_put (retext (sym (one_digit n h)) p.wrote) (omega arith)

pub more_put : (a b c : List ℕ) (i j k n : ℕ) → 10 ≤ n → n < 2 ^ 64 → Put 20 a i (decimal (n / 10)) b j → Put 1 b j ((48 + n % 10) ∷ []) c k →
    Put 20 a i (decimal n) c k
more_put a b c i j k n h few p q = number_put (retext (sym (more_digits n h)) (then p.wrote q.wrote)) few

-- what a printer owes: where there is no room, and where there is
-- its writer was run on an empty buffer first, and said where it would be
module _ (most : ℕ) (text none none' : List ℕ) (need : ℕ) (dry : Put most none 0 text none' need) (few : most < farthest) where
  pub whole : need ≡ length text
  whole = omega (arith, dry.wrote.moved, dry.near)

  pub short : (buf : List ℕ) → length buf < need → Printed text buf buf (Err (refusal 11 need))
  unfolding answer filled
  short buf h =
      let l : ltb (length buf) (length text) ≡ true = lt-ltb (length buf) (length text) (omega (arith, whole)) in
      record { answers = rw (l, whole); leaves = rw l }

  pub printed : (buf new : List ℕ) (r : ℕ) → Put most buf 0 text new r → need ≤ length buf → Printed text buf new (Ok r)
  unfolding answer filled
  printed buf new r p h =
      let l : ltb (length buf) (length text) ≡ false = le-ltb (length buf) (length text) (omega (arith, whole)) in
      let all : r ≡ length text = omega (arith, p.wrote.moved, p.near) in
      record {
        answers = rw (l, all);
        leaves = rw (l, p.wrote.bytes, sets-eq text buf 0 (omega (arith, whole)), zero-add);
      }
