-- A quoted text as its bytes, so that definitions can show the words that they are about.
use Rattle.std.specs.Prelude.{List, [], ◌∷◌, ℕ}
use Prim.Native.Char.{code}
use Prim.Native.String.{String}

-- of ASCII characters alone
abbrev pub ascii : String → List ℕ
ascii String.[] = []
ascii (String.◌∷◌ c cs) = code c ∷ ascii cs
