-- Demand 3, from bytes to bytes: looking a version up in the table that was compiled from a list says what each clause by itself says.
-- Assumes nothing.
use Rattle.std.specs.Prelude.{Ok}
use mathlib.Core.Path.{◌≡◌, refl, sym, ◌∙◌, ap}
use mathlib.Core.Logic.{◌↔◌}
use mathlib.Core.Bool.{Bool, true, false}
use mathlib.Core.List.{List}
use Prim.Native.Nat.{ℕ, suc}
use native.Mathlib.Omega.{arith}
use lib.Dec.{ltb}
use lib.ListN.{length, take, drop}
use lib.Seq.{take-append_seam}
use Rattle.answers.specs.YesNo.{yes_or_no}
use Rattle.answers.specs.Printed.{answer, filled, answer_if, filled_if}
use Rattle.version_reading.specs.declared.text.Verdict.{Verdict}
use Rattle.version_reading.specs.declared.text.Verdict.TheVariants.{Accepted, Refused}
use Rattle.version_reading.specs.Reading.{version_of}
use Rattle.version_reading.specs.Value.{Value, value_in}
use Rattle.version_prefix.proofs.Bounds.{held_version}
use Rattle.list_clauses.specs.declared.clause.Clause.{Clause}
use Rattle.list_clauses.specs.List.{Listing, refused, clauses, list_of}
use Rattle.list_accepting.specs.Accept.{all_accept, judged_by, accepted}
use Rattle.list_ends.specs.Shape.{ranges_of}
use Rattle.list_ends.proofs.Tables.{ranges_ascend, ranges_hold, ranges_most}
use Rattle.list_ends.proofs.Written.{ends_written}
use Rattle.table_reading.specs.Text.{table_text}
use Rattle.table_reading.specs.Table.{ranges, table_of}
use Rattle.table_reading.specs.Lookup.{judged, looked}
use Rattle.table_compile.specs.Compiled.{answer_to, filled_to, Compiled}
use Rattle.table_agreement.proofs.Reread.{reread}

yes_means : (b : Bool) → yes_or_no b ≡ Ok true → b ≡ true
yes_means true e = refl
yes_means false e = let impossible : ◌≡◌ {A = ℕ} 0 1 = cc in absurd (omega arith)

same_answer : (cs : List Clause) (v : Verdict) (w : Value) → judged v (all_accept cs w) ≡ judged_by (clauses cs) v w
same_answer cs Accepted w = refl
same_answer cs (Refused refusal) w = refl

module _ (s : List ℕ) (cs : List Clause) (e : list_of s ≡ clauses cs) where
  -- every compiled table is well formed, and says the list's ranges
  pub compiled_well_formed : table_of (table_text (ranges_of cs)) ≡ ranges (ranges_of cs)
  compiled_well_formed = reread (ranges_of cs) (ends_written s cs e) (ranges_ascend cs) (ranges_most s cs e)

  -- what the table says of any text, a refused one too, is what the list says
  pub table_agrees : (t : List ℕ) → looked (table_text (ranges_of cs)) t ≡ accepted s t
  unfolding looked accepted
  table_agrees t = rw (compiled_well_formed, e, ranges_hold cs (value_in t) (held_version t t)) (same_answer cs (version_of t).verdict (value_in t))

-- a table that was written whole
module _ (s old new : List ℕ) (n : ℕ) where
  written : (l : Listing) → Ok n ≡ answer_to l old → new ≡ filled_to l old → (t : List ℕ) → list_of s ≡ l →
      looked (take n new) t ≡ accepted s t
  unfolding answer filled
  written (refused number place) a f t e = let impossible : n ≡ suc n = cc in absurd (omega arith)
  written (clauses cs) a f t e = go (ltb (length old) (length text)) a f
    where
      text : List ℕ
      text = table_text (ranges_of cs)

      go : (short : Bool) → Ok n ≡ answer_if short text → new ≡ filled_if short text old → looked (take n new) t ≡ accepted s t
      go true a f = let impossible : n ≡ suc n = cc in absurd (omega arith)
      go false a f =
          let size : n ≡ length text = cc in
          rw (f, size, take-append_seam text (drop (length text) old)) (table_agrees s cs e t)

  -- demand 3: whatever the buffer was, and whatever the version
  pub agreement : Compiled s old new (Ok n) → (t : List ℕ) → looked (take n new) t ≡ accepted s t
  agreement c t = written (list_of s) c.answers c.leaves t refl

  pub yes_exactly : Compiled s old new (Ok n) → (cs : List Clause) → list_of s ≡ clauses cs → (t : List ℕ) → (version_of t).verdict ≡ Accepted →
      (looked (take n new) t ≡ Ok true) ↔ (all_accept cs (value_in t) ≡ true)
  unfolding accepted
  yes_exactly c cs e t a =
      let answer : looked (take n new) t ≡ yes_or_no (all_accept cs (value_in t)) = agreement c t ∙ (rw (e, a) refl) in
      (λ y. yes_means (all_accept cs (value_in t)) (sym answer ∙ y), λ h. answer ∙ ap yes_or_no h)
