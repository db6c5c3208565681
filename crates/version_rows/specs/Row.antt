-- A version as a row of 22 numbers, which compare number by number as the versions do. The label is left out.
use Rattle.std.specs.Prelude.{◌≡◌, Bool, List, [], ◌∷◌, ◌++◌, ℕ, suc, ◌-◌, ◌≤◌, min, length, take, replicate, Option, None, Some}
use Rattle.version_reading.specs.Value.{Value}
use Rattle.version_order.specs.declared.key.Key.{Key}
use Rattle.version_order.specs.Versions.{key}
use Rattle.version_prefix.specs.Prefix.{begins}

-- a missing post is below any post
abbrev pub post_mark : Option ℕ → ℕ
post_mark None = 0
post_mark (Some n) = 1

abbrev pub post_number : Option ℕ → ℕ
post_number None = 0
post_number (Some n) = n

-- what decides after the release: kind, pre, whether there is a post, post, dev
abbrev pub key_numbers : Key → List ℕ
key_numbers k = k.kind ∷ k.pre ∷ post_mark k.post ∷ post_number k.post ∷ k.dev ∷ []

-- a release of at most 16 numbers, continued with zeros
abbrev pub sixteen : List ℕ → List ℕ
sixteen release = release ++ replicate (16 - length release) 0

unfoldable pub row_of : Value → List ℕ
row_of v = v.epoch ∷ (sixteen v.release ++ key_numbers (key v))

-- r is the row of v, whose release has room in it
pub record RowOf (v : Value) (r : List ℕ) : Type 0 where
  pub is : r ≡ row_of v
  pub few : length v.release ≤ 16

-- the same epoch, and the same first `count` release numbers, of which a row has 16
unfoldable pub row_begins : ℕ → List ℕ → List ℕ → Bool
row_begins count prefix row = begins (take (suc (min count 16)) prefix) row
