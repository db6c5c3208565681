-- Small versions, and the word of one.
use Rattle.chars.specs.declared.spelling.PreKind.{PreKind}
use Rattle.std.specs.Prelude.{Bool, true, false, ◌&&◌, List, [], ◌∷◌, ℕ, ◌+◌, ◌*◌, ◌^◌, eqb, leb, length, get_or, None, Some, Option}
use Rattle.version_reading.specs.Value.{LocalSegment, Value}
use Rattle.version_order.specs.Key.{kind_of}

-- the first number at most 65535 and the others at most 255
abbrev pub small_numbers : ℕ → ℕ → ℕ → ℕ → Bool
small_numbers first second third fourth = leb first 65535 && (leb second 255 && (leb third 255 && leb fourth 255))

-- at most four release numbers, of which one that is not there counts as 0
unfoldable pub small_release : List ℕ → Bool
small_release r = leb (length r) 4 && small_numbers (get_or r 0 0) (get_or r 1 0) (get_or r 2 0) (get_or r 3 0)

-- the number of a suffix, where neither of two others is there
abbrev pub alone : ℕ → Option ℕ → Option ℕ → Option ℕ
alone n None None = Some n
alone n None (Some m) = None
alone n (Some m) b = None

-- the number of the only suffix, 0 where there is none; nothing, where there are two and more
abbrev pub only_suffix : Option (PreKind × ℕ) → Option ℕ → Option ℕ → Option ℕ
only_suffix (Some (kind, n)) post dev = alone n post dev
only_suffix None (Some n) dev = alone n None dev
only_suffix None None (Some n) = Some n
only_suffix None None None = Some 0

-- at most one of pre, post, dev, its number at most 2097151
abbrev pub small_suffix : Option ℕ → Bool
small_suffix None = false
small_suffix (Some n) = leb n 2097151

abbrev pub no_label : List LocalSegment → Bool
no_label [] = true
no_label (x ∷ l) = false

unfoldable pub is_small : Value → Bool
is_small v =
    eqb v.epoch 0
    && (small_release v.release && (small_suffix (only_suffix v.pre v.post v.dev) && no_label v.label))

abbrev pub or_zero : Option ℕ → ℕ
or_zero None = 0
or_zero (Some n) = n

-- first·2^48 + second·2^40 + third·2^32 + fourth·2^24
abbrev pub numbers_word : ℕ → ℕ → ℕ → ℕ → ℕ
numbers_word first second third fourth = first * 2 ^ 48 + second * 2 ^ 40 + third * 2 ^ 32 + fourth * 2 ^ 24

unfoldable pub release_word : List ℕ → ℕ
release_word r = numbers_word (get_or r 0 0) (get_or r 1 0) (get_or r 2 0) (get_or r 3 0)

-- to the release's part, kind·2^21 + suffix number
abbrev pub with_suffix : ℕ → Option (PreKind × ℕ) → Option ℕ → Option ℕ → ℕ
with_suffix release pre post dev = release + kind_of pre post dev * 2 ^ 21 + or_zero (only_suffix pre post dev)

unfoldable pub word_of : Value → ℕ
word_of v = with_suffix (release_word v.release) v.pre v.post v.dev
