-- Worked points: records of the table of `>=4.2,!=4.3`, as they are written and as they are read.
-- Assumes nothing.
use mathlib.Core.Path.{◌≡◌, refl}
use mathlib.Core.List.{List, [], ◌∷◌, ◌++◌, map}
use Prim.Native.Nat.{ℕ}
use lib.ListN.{drop}
use Rattle.chars.specs.Text.{ascii}
use Rattle.records.specs.declared.record.RecordAt.TheVariants.{Found, Cut, Nothing}
use Rattle.records.specs.Record.{two_bytes_of, record_text, record_at, body_of}

-- the lower byte comes first
pub numbers_written : map two_bytes_of (2 ∷ 258 ∷ 65534 ∷ []) ≡ (0x02 ∷ 0x00 ∷ []) ∷ (0x02 ∷ 0x01 ∷ []) ∷ (0xFE ∷ 0xFF ∷ []) ∷ []
unfolding two_bytes_of
numbers_written = refl

-- two ranges; before 4.2; none above
abbrev three : List ℕ
three = record_text 1 (two_bytes_of 2) ++ (record_text 3 (ascii "4.2") ++ record_text 5 [])

pub records_written : three ≡
    0x02 ∷ 0x00 ∷ 0x01 ∷ 0x00 ∷ 0x02 ∷ 0x00
    ∷ 0x03 ∷ 0x00 ∷ 0x03 ∷ 0x00 ∷ 0x34 ∷ 0x2E ∷ 0x32
    ∷ 0x00 ∷ 0x00 ∷ 0x05 ∷ 0x00
    ∷ []
unfolding record_text two_bytes_of
records_written = refl

-- at each record, at the end and after it
pub records_read : map (record_at three) (0 ∷ 6 ∷ 13 ∷ 17 ∷ 18 ∷ []) ≡ Found 1 4 6 ∷ Found 3 10 13 ∷ Found 5 17 17 ∷ Nothing ∷ Nothing ∷ []
unfolding record_at record_text two_bytes_of
records_read = refl

pub body_read : body_of three 10 13 ≡ ascii "4.2"
unfolding record_text two_bytes_of
body_read = refl

-- a body of 258 bytes would have to follow
abbrev long : List ℕ
long = 0x02 ∷ 0x01 ∷ 0x22 ∷ 0x80 ∷ 0x00 ∷ 0x00 ∷ []

-- without its last byte, within its head, at the last byte of all, and with a length that counts on more
pub records_cut : map (λ s. record_at s 0) ((0x02 ∷ 0x00 ∷ 0x01 ∷ 0x00 ∷ 0x02 ∷ []) ∷ (0x00 ∷ 0x00 ∷ 0x05 ∷ []) ∷ drop 16 three ∷ long ∷ []) ≡
    Cut ∷ Cut ∷ Cut ∷ Cut ∷ []
unfolding record_at record_text two_bytes_of
records_cut = refl
