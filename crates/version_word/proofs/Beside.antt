-- The word beside a version's fields: there exactly where the version is small. Where two versions have one, the words decide as the versions do.
-- Assumes nothing.
use Rattle.chars.specs.declared.spelling.PreKind.{PreKind}
use Rattle.std.specs.Prelude.{Option, None, Some, Ok}
use mathlib.Core.Path.{◌≡◌, refl, sym, ◌∙◌, ap}
use mathlib.Core.Bool.{Bool, true, false, and-true}
use mathlib.Core.List.{List, [], ◌∷◌}
use Prim.Native.Nat.{ℕ, zero, suc, ◌≤◌, compare, min}
use native.Mathlib.Omega.{arith}
use lib.Dec.{eqb, eqb-suc-zero}
use lib.ListN.{length, get_or, take, replicate}
use borrow.Author.Tests.{eq-eqb, le-leb}
use Rattle.chars.specs.declared.spelling.PreKind.TheVariants.{Alpha, Beta, Rc}
use Rattle.std.specs.declared.cmp.Ordering.{Ordering as Order}
use Rattle.order.specs.Answer.{name_of}
use Rattle.version_parts.specs.declared.fields.Version.{Version}
use Rattle.version_reading.specs.declared.plain.Plain.{Plain}
use Rattle.version_reading.specs.Plain.{Filled, FilledPlain, whole_version}
use Rattle.version_reading.specs.Value.{LocalSegment, Value, listed, value_of}
use Rattle.version_order.specs.Key.{kind_of}
use Rattle.version_order.specs.Versions.{compare_values}
use Rattle.version_compare.specs.Plain.{compare_numbers, compare_plains}
use Rattle.version_compare.proofs.Plains.{plains_order}
use Rattle.version_word.specs.declared.packed.Word.{Word}
use Rattle.version_word.specs.Small.{small_release, only_suffix, small_suffix, no_label, is_small, release_word, word_of}
use Rattle.version_word.specs.Beside.{word_is, word_if, word_beside, packed_word, word_of_plain}
use Rattle.version_word.specs.Worded.{worded_if, worded}
use Rattle.version_word.proofs.Words.{word_compare}

-- no version has the word 0, since no kind is 0: a caller of C takes it for none
kind_some : (pre : Option (PreKind × ℕ)) (post dev : Option ℕ) → 1 ≤ kind_of pre post dev
kind_some (Some (Alpha, n)) post dev = omega arith
kind_some (Some (Beta, n)) post dev = omega arith
kind_some (Some (Rc, n)) post dev = omega arith
kind_some None (Some n) dev = omega arith
kind_some None None (Some n) = omega arith
kind_some None None None = omega arith

pub word_some : (v : Value) → 1 ≤ word_of v
unfolding word_of
word_some v =
    let some = kind_some v.pre v.post v.dev in
    omega arith

-- as an answer
pub beside_answer : (v : Value) → Ok (word_beside v) ≡ worded v
unfolding word_beside worded
beside_answer v = go (is_small v)
  where
    go : (b : Bool) → Ok (word_if b (word_of v)) ≡ worded_if b (word_of v)
    go true = refl
    go false = refl

-- a version with a word is small, and the word is its sum
pub beside_small : (v : Value) (m : Word) → Some m ≡ word_beside v → (is_small v ≡ true) × (m.0 ≡ word_of v)
unfolding word_beside
beside_small v m e = go (is_small v) e
  where
    go : (b : Bool) → Some m ≡ word_if b (word_of v) → (b ≡ true) × (m.0 ≡ word_of v)
    go true f = let k : m ≡ word_is (word_of v) = cc in (refl, ap (λ (w : Word). w.0) k)
    go false f = (cc, cc)

pub words_decide : (v w : Value) (m n : Word) (r : Order) → Some m ≡ word_beside v → Some n ≡ word_beside w → r ≡ name_of (compare m.0 n.0) →
    r ≡ name_of (compare_values v w)
words_decide v w m n r e f k =
    let a = beside_small v m e in
    let b = beside_small w n f in
    k ∙ rw (a.1, b.1, word_compare v w a.0 b.0)

-- a label of no segment is none, wherever it would lie
pub no_label_lem : (f : ℕ → LocalSegment) (n : ℕ) → no_label (listed f 0 n) ≡ eqb n 0
unfolding listed
no_label_lem f zero = refl
no_label_lem f (suc n) = sym (eqb-suc-zero n)

pub beside_blind : (s : List ℕ) (v : Version) → word_beside (value_of [] v) ≡ word_beside (value_of s v)
unfolding word_beside is_small word_of value_of
beside_blind s v = rw (no_label_lem _ (min v.local.len 16), no_label_lem _ (min v.local.len 16))

-- of a release's numbers, as many as are there, the first four are a, b, c and d, and there is no fifth
pub record Four (release : List ℕ) (a b c d : ℕ) : Type 0 where
  pub few : length release ≤ 4
  pub first : a ≡ get_or release 0 0
  pub second : b ≡ get_or release 1 0
  pub third : c ≡ get_or release 2 0
  pub fourth : d ≡ get_or release 3 0

pub value_packed : (v : Value) (a b c d : ℕ) → v.epoch ≡ 0 → Four v.release a b c d → v.label ≡ [] →
    packed_word a b c d v.pre v.post v.dev ≡ word_beside v
unfolding packed_word word_beside is_small small_release word_of release_word
value_packed v a b c d e n l =
    rw (
      n.first,
      n.second,
      n.third,
      n.fourth,
      eq-eqb v.epoch 0 e,
      le-leb (length v.release) 4 n.few,
      ap no_label l,
      and-true (small_suffix (only_suffix v.pre v.post v.dev)),
    )

-- a plain version's word is that of the version that it is
four_there : (count a b c d : ℕ) → Filled count a b c d → Four (take count (a ∷ b ∷ c ∷ d ∷ replicate 12 0)) a b c d
four_there count a b c d (Filled.none n p q r t) = rw (n, p, q, r, t) (record { few = omega arith; first = refl; second = refl; third = refl; fourth = refl })
four_there count a b c d (Filled.one n q r t) = rw (n, q, r, t) (record { few = omega arith; first = refl; second = refl; third = refl; fourth = refl })
four_there count a b c d (Filled.two n r t) = rw (n, r, t) (record { few = omega arith; first = refl; second = refl; third = refl; fourth = refl })
four_there count a b c d (Filled.three n t) = rw (n, t) (record { few = omega arith; first = refl; second = refl; third = refl; fourth = refl })
four_there count a b c d (Filled.four n) = rw n (record { few = omega arith; first = refl; second = refl; third = refl; fourth = refl })

pub plain_word : (s : List ℕ) (v : Plain) → FilledPlain v → word_of_plain v ≡ word_beside (value_of s (whole_version v))
unfolding word_of_plain value_of listed
plain_word s v f =
    value_packed (value_of s (whole_version v)) v.first v.second v.third v.fourth refl
    (four_there v.count v.first v.second v.third v.fourth f)
    refl

-- the same numbers, all four of them there
abbrev all_there : Plain → Plain
all_there v = record {
  count = 4;
  first = v.first;
  second = v.second;
  third = v.third;
  fourth = v.fourth;
  pre = v.pre;
  post = v.post;
  dev = v.dev;
}

pub plain_words_decide : (v w : Plain) (one other : Option Word) (m n : Word) (r : Order) → one ≡ word_of_plain v → other ≡ word_of_plain w →
    one ≡ Some m → other ≡ Some n → r ≡ name_of (compare m.0 n.0) → r ≡ name_of (compare_plains v w)
unfolding word_of_plain compare_numbers compare_plains
plain_words_decide v w one other m n r e f g h k =
    let whole : (v : Plain) → Value = λ v. value_of [] (whole_version (all_there v)) in
    let first = plain_word [] (all_there v) (Filled.four refl) in
    let second = plain_word [] (all_there w) (Filled.four refl) in
    words_decide (whole v) (whole w) m n r (sym g ∙ (e ∙ first)) (sym h ∙ (f ∙ second)) k
    ∙ ap name_of (plains_order [] [] (all_there v) (all_there w) (Filled.four refl) (Filled.four refl))
