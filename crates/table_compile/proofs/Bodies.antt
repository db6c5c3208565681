-- The record of one end, as it is written, and that its body is the text of the end's place.
-- Assumes nothing.
use mathlib.Core.Path.{◌≡◌, refl, sym}
use mathlib.Core.List.{List, []}
use Prim.Native.Nat.{ℕ, ◌^◌, ◌<◌}
use native.Mathlib.Omega.{arith}
use lib.ListN.{length}
use Rattle.decimal.specs.Put.{Wrote, Put}
use Rattle.decimal.proofs.Puts.{nothing}
use Rattle.records.specs.Record.{two_bytes_of, head_text, record_text}
use Rattle.records.proofs.Writing.{two_long, record_put, measured_put}
use Rattle.version_reading.specs.Value.{value_of}
use Rattle.version_normal.specs.Normal.{version_text}
use Rattle.version_roundtrip.specs.Text.{value_text}
use Rattle.version_roundtrip.proofs.Texts.{text_of_value}
use Rattle.list_ends.specs.declared.end.Side.{Side}
use Rattle.list_ends.specs.declared.end.Side.TheVariants.{Bottom, Top, Before, After}
use Rattle.list_ends.specs.declared.end.End.{End}
use Rattle.table_reading.specs.Kind.{range_count}
use Rattle.list_ends.specs.Cut.{Place}
use Rattle.list_ends.specs.End.{place_at, EndIs}
use Rattle.table_reading.specs.Text.{body_text}
use Rattle.table_compile.specs.Body.{side_text, end_text}

-- the text of the fields is the text of the place
pub end_body : {p : Place} (e : End) → EndIs p 16 e → end_text e ≡ body_text p
end_body e h = rw (← h.is) (go e.side)
  where
    text : version_text [] e.version ≡ value_text (value_of [] e.version)
    text = text_of_value [] e.version h.few h.size

    go : (side : Side) → side_text side e.version ≡ body_text (place_at side e.version)
    go Bottom = refl
    go Top = refl
    go Before = text
    go After = text

-- the ways of `put_body`
module _ (e : End) (a : List ℕ) (i : ℕ) where
  pub body_bottom : e.side ≡ Bottom → length a < 2 ^ 64 → i < 2 ^ 64 → Wrote a i (end_text e) a i
  body_bottom f h g = rw f (nothing a i h g)

  pub body_top : e.side ≡ Top → length a < 2 ^ 64 → i < 2 ^ 64 → Wrote a i (end_text e) a i
  body_top f h g = rw f (nothing a i h g)

  pub body_before : (b : List ℕ) (j : ℕ) → e.side ≡ Before → Wrote a i (version_text [] e.version) b j → Wrote a i (end_text e) b j
  body_before b j f p = rw f p

  pub body_after : (b : List ℕ) (j : ℕ) → e.side ≡ After → Wrote a i (version_text [] e.version) b j → Wrote a i (end_text e) b j
  body_after b j f p = rw f p

-- the ways of `put_count` and `put_far_end`
pub count_put : (count i j k : ℕ) (a b c : List ℕ) → Wrote a i (head_text 2 range_count) b j → Wrote b j (two_bytes_of count) c k →
    Wrote a i (record_text range_count (two_bytes_of count)) c k
count_put count i j k a b c p q = record_put range_count i j k (two_bytes_of count) a b c 2 (sym (two_long count)) p q

pub far_put : (kind need i j k : ℕ) (text none none' a b c : List ℕ) → Put 1049325 none 0 text none' need → Wrote a i (head_text need kind) b j →
    Wrote b j text c k → Wrote a i (record_text kind text) c k
far_put kind need i j k text none none' a b c dry p q = measured_put kind i j k text a b c 1049325 need none none' (omega arith) dry p q
