-- Two results that meet one statement are the same, and so are two rows that are left. Comparing rows and holding one against a prefix are
-- plain equations.
-- Assumes nothing.
use Rattle.std.specs.Prelude.{Option, None, Some, Result, Ok, Err}
use mathlib.Core.Path.{◌≡◌, sym, ◌∙◌}
use mathlib.Core.Bool.{Bool}
use mathlib.Core.List.{List, []}
use Prim.Native.Nat.{ℕ}
use Rattle.version_reading.specs.declared.text.Verdict.{Verdict}
use Rattle.version_reading.specs.declared.text.PatternReading.{PatternReading}
use Rattle.version_parts.specs.declared.fields.Version.{Version}
use Rattle.version_reading.specs.Value.{Value, value_of}
use Rattle.version_rows.specs.declared.read.PatternRow.{PatternRow}
use Rattle.version_rows.specs.Row.{RowOf}
use Rattle.version_rows.specs.Read.{RowRead, PatternRowRead}
use Rattle.version_rows.specs.Normal.{NormalRead, NormalRow}

pub one_row : {v : Value} {new new' : List ℕ} → RowOf v new → RowOf v new' → new ≡ new'
one_row p q = p.is ∙ sym q.is

module _ {s old new new' : List ℕ} where
  pub one_row_read : {r q : Verdict} → RowRead s old new r → RowRead s old new' q → (r ≡ q) × (new ≡ new')
  one_row_read p q = (p.is ∙ sym q.is, p.leaves ∙ sym q.leaves)

  pub one_normal_row : {r q : Bool} → NormalRow s old new r → NormalRow s old new' q → (r ≡ q) × (new ≡ new')
  one_normal_row p q = (p.is ∙ sym q.is, p.leaves ∙ sym q.leaves)

pub one_pattern_row : {p : PatternReading} {old new new' : List ℕ} {r q : PatternRow} →
    PatternRowRead p old new r → PatternRowRead p old new' q → (r ≡ q) × (new ≡ new')
one_pattern_row a b = (a.is ∙ sym b.is, a.leaves ∙ sym b.leaves)

pub one_normal_reading : {s : List ℕ} {r q : Result Version Version} → NormalRead s r → NormalRead s q → r ≡ q
one_normal_reading {s} {r = Err v} {q = Err w} a b = let e : v ≡ w = a.fields ∙ sym b.fields in rw e
one_normal_reading {s} {r = Err v} {q = Ok w} a b = let e : None ≡ Some (value_of [] w) = a.said ∙ sym b.said in cc
one_normal_reading {s} {r = Ok v} {q = Err w} a b = let e : Some (value_of [] v) ≡ None = a.said ∙ sym b.said in cc
one_normal_reading {s} {r = Ok v} {q = Ok w} a b = let e : v ≡ w = a.fields ∙ sym b.fields in rw e
