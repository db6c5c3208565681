-- Every clause that was read is sound, and so is every clause of an accepted list.
-- Assumes nothing.
use mathlib.Core.Path.{◌≡◌}
use mathlib.Core.Bool.{Bool, false}
use mathlib.Core.List.{List, [], ◌∷◌}
use Prim.Native.Nat.{ℕ, ◌≤◌}
use native.Mathlib.Omega.{arith}
use lib.Dec.{eqb}
use lib.ListN.{length}
use borrow.Author.Tests.{eqb-false}
use Rattle.order.specs.All.{All}
use Rattle.version_parts.specs.declared.fields.Version.{Version}
use Rattle.version_reading.specs.Reading.{pattern_of}
use Rattle.version_reading.proofs.Values.{release_count, same_value, no_label_lem}
use Rattle.version_roundtrip.proofs.Read.{Said, pattern_said}
use Rattle.list_clauses.specs.declared.operator.Operator.{Operator}
use Rattle.list_clauses.specs.declared.operator.Operator.TheVariants.{Compatible}
use Rattle.list_clauses.specs.declared.clause.Clause.{Clause}
use Rattle.list_clauses.specs.Clause.{clause_with, too_short_for}
use Rattle.list_clauses.specs.Step.{first_clauses}
use Rattle.list_clauses.specs.List.{clauses, list_of}
use Rattle.list_clauses.proofs.Origins.{Origin, first_origins}
use Rattle.list_clauses.proofs.Lists.{all_read}
use Rattle.list_ends.specs.Sound.{Sound}

module _ (operator : Operator) (s : List ℕ) (v : Version) (said : Said s v) (short : too_short_for operator v.release.len ≡ false) where
  some : 1 ≤ v.release.len
  some = omega (arith, said.readable.some, release_count s v said.few said.size)

  long_enough : operator ≡ Compatible → 2 ≤ v.release.len
  long_enough e =
      let other : eqb v.release.len 1 ≡ false = rw e at short in
      let f : v.release.len ≡ 1 → ⊥ = eqb-false _ _ other in
      omega (arith, some)

  read_sound : (wildcard : Bool) → v.local.len ≡ 0 → Sound (clause_with operator wildcard v)
  read_sound wildcard e = record {
    local = e;
    some = some;
    few = said.few;
    size = said.size;
    readable = rw (same_value s [] v e) at said.readable;
    unlabelled = no_label_lem [] v e;
    two = long_enough;
  }

origin_sound : {c : Clause} → Origin c → Sound c
origin_sound (Origin.read operator text a l short) =
    read_sound operator text (pattern_of text).version (pattern_said text a) short (pattern_of text).wildcard l

all_sound : (cs : List Clause) → All Origin cs → All Sound cs
all_sound [] o = tt
all_sound (c ∷ cs) o = (origin_sound o.0, all_sound cs o.1)

-- the first clauses, as far as they were read
pub first_sound : (s : List ℕ) (n : ℕ) → All Sound (first_clauses s n)
first_sound s n = all_sound (first_clauses s n) (first_origins s n)

module _ (s : List ℕ) (cs : List Clause) (e : list_of s ≡ clauses cs) where
  pub clauses_sound : All Sound cs
  clauses_sound = rw (all_read s cs e).are (first_sound s (length cs))
