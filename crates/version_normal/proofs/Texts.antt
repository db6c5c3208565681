-- What is written of each part, by what is there: the ways of the writers.
-- Assumes nothing.
use Rattle.std.specs.Prelude.{Option, None, Some, Result, Err}
use mathlib.Core.Path.{◌≡◌, refl, sym, ap}
use mathlib.Core.List.{List, [], ◌∷◌, ◌++◌}
use Prim.Native.Nat.{ℕ, zero, suc, ◌+◌, ◌^◌, ◌≤◌, ◌<◌}
use lib.ListN.{length, get_or, take}
use Rattle.std.proofs.lemmas.List.{take_more}
use Rattle.answers.specs.declared.Refusal.{Refusal}
use Rattle.answers.specs.Printed.{Printed}
use Rattle.chars.specs.Text.{ascii}
use Rattle.chars.specs.Case.{lower_of, lowered}
use Rattle.chars.specs.declared.spelling.PreKind.{PreKind}
use Rattle.decimal.specs.Digits.{decimal}
use Rattle.chars.proofs.Beginnings.{lowered_length}
use Rattle.decimal.specs.Put.{farthest, onward, Wrote}
use Rattle.decimal.proofs.Puts.{nothing, all_out, then, retext}
use Rattle.version_reading.specs.declared.segment.Segment.{Segment}
use Rattle.version_reading.specs.declared.segment.Segment.TheVariants.{Number, Text}
use Rattle.version_reading.specs.Segment.{segment_of}
use Rattle.version_reading.specs.declared.text.VersionReading.{VersionReading}
use Rattle.version_reading.specs.declared.text.Verdict.{Verdict}
use Rattle.version_reading.specs.declared.text.Verdict.TheVariants.{Accepted, Refused}
use Rattle.version_reading.specs.Reading.{version_of}
use Rattle.version_normal.specs.Normal.{epoch_text, kind_text, pre_text, part_text, segment_text, version_text, normal_text, NormalPrinted}

-- a part that is not there
module _ (l : List ℕ) (i : ℕ) (h : length l < 2 ^ 64) (g : i < 2 ^ 64) where
  pub epoch_none : (n : ℕ) → n ≡ 0 → Wrote l i (epoch_text n) l i
  unfolding epoch_text
  epoch_none n e = rw e (nothing l i h g)

  pub pre_none : (p : Option (PreKind × ℕ)) → p ≡ None → Wrote l i (pre_text p) l i
  pre_none p e = rw e (nothing l i h g)

  pub part_none : (name : List ℕ) (p : Option ℕ) → p ≡ None → Wrote l i (part_text name p) l i
  part_none name p e = rw e (nothing l i h g)

some_epoch : (n : ℕ) → (n ≡ 0 → ⊥) → epoch_text n ≡ decimal n ++ ascii "!"
unfolding epoch_text
some_epoch zero h = absurd (h refl)
some_epoch (suc n) h = refl

-- two writers in a row, and the part that they write
module _ {a b c : List ℕ} {i j k : ℕ} where
  pub epoch_there : (n : ℕ) → (n ≡ 0 → ⊥) → Wrote a i (decimal n) b j → Wrote b j (33 ∷ []) c k → Wrote a i (epoch_text n) c k
  epoch_there n h p q = retext (sym (some_epoch n h)) (then p q)

  pub pre_there : (x : Option (PreKind × ℕ)) (kind : PreKind) (n : ℕ) → x ≡ Some (kind, n) → Wrote a i (kind_text kind) b j → Wrote b j (decimal n) c k → Wrote a i (pre_text x) c k
  pre_there x kind n e p q = rw e (then p q)

  pub part_there : (name : List ℕ) (x : Option ℕ) (n : ℕ) → x ≡ Some n → Wrote a i name b j → Wrote b j (decimal n) c k → Wrote a i (part_text name x) c k
  part_there name x n e p q = rw e (then p q)

-- one writer, and the text that it writes
pub kind_there : (m kind : PreKind) (a b : List ℕ) (i j : ℕ) → kind ≡ m → Wrote a i (kind_text m) b j → Wrote a i (kind_text kind) b j
kind_there m kind a b i j e p = rw e p

module _ {a b : List ℕ} {i j : ℕ} where
  pub number_there : (bytes : List ℕ) (r : Segment) (n : ℕ) → r ≡ segment_of bytes → r ≡ Number n → Wrote a i (decimal n) b j → Wrote a i (segment_text bytes) b j
  unfolding segment_text
  number_there bytes r n e f p = rw (← e, f) p

  pub text_there : (bytes : List ℕ) (r : Segment) → r ≡ segment_of bytes → r ≡ Text → Wrote a i (lowered bytes) b j → Wrote a i (segment_text bytes) b j
  unfolding segment_text
  text_there bytes r e f p = rw (← e, f) p

-- the lower case of a text, byte by byte
lowered_append : (s t : List ℕ) → lowered (s ++ t) ≡ lowered s ++ lowered t
unfolding lowered
lowered_append [] t = refl
lowered_append (b ∷ s) t = ap (λ (l : List ℕ). lower_of b ∷ l) (lowered_append s t)

-- nothing has room
pub lower_out : (s old : List ℕ) (at j : ℕ) → length old ≤ at → length old ≤ farthest → j ≡ onward at (length s) → Wrote old at (lowered s) old j
lower_out s old at j h g e = all_out old (lowered s) at j h g (rw (lowered_length s) e)

pub lower_next : (s old b c : List ℕ) (at i j k r : ℕ) → Wrote old at (lowered (take i s)) b j → i < length s → r ≡ lower_of (get_or s i 0) →
    Wrote b j (r ∷ []) c k → Wrote old at (lowered (take (i + 1) s)) c k
unfolding lowered
lower_next s old b c at i j k r p h e q =
    let text : lowered (take i s) ++ (r ∷ []) ≡ lowered (take (i + 1) s) = rw (take_more s i 0 h, lowered_append, e) in
    retext text (then p q)

-- the ways of `print_normal`: what was read of the text
module _ (s : List ℕ) (read : VersionReading) (v : Verdict) (d : read ≡ version_of s) (e : v ≡ read.verdict) where
  pub normal_refused : (buf : List ℕ) (x : Refusal) → v ≡ Refused x → NormalPrinted s buf buf (Err x)
  normal_refused buf x f = record { answers = rw (← d, ← e, f); leaves = rw (← d, ← e, f) }

  pub normal_printed : (old new : List ℕ) (r : Result ℕ Refusal) → v ≡ Accepted → Printed (version_text s read.version) old new r → NormalPrinted s old new r
  unfolding normal_text
  normal_printed old new r f p = record { answers = rw (← d, ← e, f) p.answers; leaves = rw (← d, ← e, f) p.leaves }
