-- Two results that meet one statement are the same.
-- Assumes nothing.
use Rattle.answers.specs.declared.Refusal.{Refusal}
use Rattle.std.specs.Prelude.{Result}
use mathlib.Core.Path.{◌≡◌, refl, sym, ◌∙◌}
use mathlib.Core.List.{List}
use Prim.Native.Nat.{ℕ}
use Rattle.version_reading.specs.declared.text.PatternReading.{PatternReading}
use Rattle.version_reading.specs.Reading.{Read}
use Rattle.version_normal.specs.Normal.{NormalPrinted}
use Rattle.version.specs.declared.reading.Reading.{Reading}
use Rattle.version.specs.Reading.{TextRead}
use Rattle.version.proofs.Readings.{verdict_is, version_is}

pub one_reading : {s : List ℕ} {r q : Reading} → TextRead s r → TextRead s q → r ≡ q
one_reading p q = rw (verdict_is p, version_is p, p.word) (rw (verdict_is q, version_is q, q.word) refl)

pub one_pattern : {spec r q : PatternReading} → Read spec r → Read spec q → r ≡ q
one_pattern p q = p.is ∙ sym q.is

-- what a plain equation fixes: the bytes of a segment, a comparison, a word
pub one_answer : {A : Type 0} {spec r q : A} → r ≡ spec → q ≡ spec → r ≡ q
one_answer p q = p ∙ sym q

-- the answer and the buffer afterwards
pub one_normal : {s old new new' : List ℕ} {r q : Result ℕ Refusal} → NormalPrinted s old new r → NormalPrinted s old new' q → (r ≡ q) × (new ≡ new')
one_normal p q = (p.answers ∙ sym q.answers, p.leaves ∙ sym q.leaves)
