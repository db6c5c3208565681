-- The order of versions. What the local label decides stands apart: `compare_public` is the order of versions without it.
use Rattle.std.specs.Prelude.{List, [], Option, None, Some}
use Prim.Native.Nat.{ℕ, compare}
use Rattle.order.specs.Compare.{Comparison, by, lex, list, padded, option}
use Rattle.version_reading.specs.Value.{LocalSegment, number, text, Value}
use Rattle.version_order.specs.declared.key.Key.{Key}
use Rattle.version_order.specs.Key.{key_of}

-- epoch, then release, the shorter padded with zeros
unfoldable pub compare_release : Comparison Value
compare_release = lex (by (λ v. v.epoch) compare) (by (λ v. v.release) (padded compare 0))

-- kind, pre number, post, dev
unfoldable pub compare_key : Comparison Key
compare_key =
    lex (by (λ k. k.kind) compare)
    (lex (by (λ k. k.pre) compare)
    (lex (by (λ k. k.post) (option compare))
    (by (λ k. k.dev) compare)))

abbrev pub key : Value → Key
key v = key_of v.pre v.post v.dev

unfoldable pub compare_public : Comparison Value
compare_public = lex compare_release (by key compare_key)

-- a segment's number, and its text
abbrev pub number_in : LocalSegment → Option ℕ
number_in (number n) = Some n
number_in (text bytes) = None

abbrev pub text_in : LocalSegment → List ℕ
text_in (number n) = []
text_in (text bytes) = bytes

-- text below number, text by bytes
unfoldable pub compare_label : Comparison LocalSegment
compare_label = lex (by number_in (option compare)) (by text_in (list compare))

-- the label segment by segment, a proper beginning first
unfoldable pub compare_values : Comparison Value
compare_values = lex compare_public (by (λ v. v.label) (list compare_label))
