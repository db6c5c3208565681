-- What is read of the suffix of any text, rules 5 to 7: numbers of 64 bits, and parts that are written again with at most a number of bytes
-- more: two for a pre-release (`c` as `rc0`), five for a post-release (`r` as `.post0`), two for a development release (`dev` as `.dev0`).
-- Assumes nothing.
use Rattle.answers.specs.declared.Refusal.{Refusal}
use Rattle.std.specs.Prelude.{Option, Some, None, Ok, Err}
use mathlib.Core.Path.{◌≡◌, refl}
use mathlib.Core.Bool.{Bool, true, false, false≢true, cond}
use mathlib.Core.List.{List, [], ◌∷◌, ◌++◌}
use Prim.Native.Nat.{ℕ, suc, ◌+◌, ◌≤◌}
use Prim.Native.Char.{code}
use Prim.Native.String.{String}
use native.Mathlib.Omega.{arith}
use lib.Dec.{eqb}
use lib.ListN.{length, drop, length-append, length-drop}
use Rattle.chars.specs.Text.{ascii}
use Rattle.chars.specs.Case.{lower_of, starts_with}
use Rattle.chars.specs.declared.spelling.PreKind.{PreKind}
use Rattle.chars.specs.declared.spelling.PreKind.TheVariants.{Alpha, Beta, Rc}
use Rattle.chars.specs.Spelling.{tried, pre_spelling, tried_word, post_spelling, dev_spelling}
use Rattle.decimal.specs.Digits.{digits, decimal}
use Rattle.version_parts.specs.Places.{NumberAt, separator_end, number_at, marked_number}
use Rattle.version_parts.specs.Suffix.{
  Step,
  Parts,
  or_zero,
  number_or_zero,
  pre_of,
  pre_from,
  pre_at,
  part_of,
  part_from,
  spelled_post,
  post_at,
  dev_at,
  after_post,
  after_pre,
  suffix_from,
  suffix_at,
}
use Rattle.version_normal.specs.Normal.{kind_text, pre_text, part_text}
use Rattle.version_roundtrip.specs.Readable.{Fits, PreFits, PartFits}
use Rattle.version_roundtrip.proofs.ReadPlaces.{
  by_cond,
  Onward,
  separator_onward,
  NumberSound,
  number_sound,
  marked_sound,
  by_number,
}

-- a number was read from `at` to `next`, or none, which is written again as 0
record Counting (s : List ℕ) (at n next : ℕ) : Type 0 where
  fits : Fits n
  long : at + length (decimal n) ≤ next + 1
  within : next ≤ length s

by_count : (P : Step ℕ → Type 0) (s : List ℕ) (at : ℕ) → at ≤ length s → ((n next : ℕ) → Counting s at n next → P (Ok (n, next))) →
    ((e : Refusal) → P (Err e)) → P (number_or_zero s at)
unfolding number_or_zero decimal digits
by_count P s at h read refused =
    let o = separator_onward s at h in
    go (separator_end s at) o (number_at s (separator_end s at)) (number_sound s (separator_end s at) o.within)
  where
    go : (d : ℕ) → Onward s at d → (x : NumberAt) → NumberSound s d x → P (or_zero d x)
    go d o (Ok None) r = read 0 d (record { fits = omega arith; long = omega (arith, o.forward); within = o.within })
    go d o (Ok (Some (n, next))) r = read n next (record { fits = r.fits; long = omega (arith, o.forward, r.long); within = r.within })
    go d o (Err e) r = refused e

-- a word that the text begins with is no longer than the text
word_within : (w s : List ℕ) → starts_with w s ≡ true → length w ≤ length s
unfolding starts_with
word_within [] s e = omega arith
word_within (x ∷ w) [] e = absurd (false≢true e)
word_within (x ∷ w) (b ∷ s) e = go (eqb (lower_of b) x) (word_within w s) e
  where
    go : (t : Bool) → (starts_with w s ≡ true → length w ≤ length s) → cond t (starts_with w s) false ≡ true → suc (length w) ≤ suc (length s)
    go true rest f = omega (arith, rest f)
    go false rest f = absurd (false≢true f)

-- a spelling of a pre-release is written again with at most one byte more
abbrev PreSpellingSound : List ℕ → Option (PreKind × ℕ) → Type 0
PreSpellingSound s (Some (kind, len)) = (length (kind_text kind) ≤ len + 1) × (len ≤ length s)
PreSpellingSound s None = Unit {0}

tried_sound : (word : String) (kind : PreKind) (s : List ℕ) (next : Option (PreKind × ℕ)) → length (kind_text kind) ≤ length (ascii word) + 1 →
    PreSpellingSound s next → PreSpellingSound s (tried word kind s next)
tried_sound word kind s next h g =
    by_cond (PreSpellingSound s) (starts_with (ascii word) s) (λ e. (h, word_within (ascii word) s e)) (λ e. g)

pre_spelling_sound : (s : List ℕ) → PreSpellingSound s (pre_spelling s)
unfolding pre_spelling
pre_spelling_sound s =
    tried_sound "alpha" Alpha s _ (omega arith)
    (tried_sound "beta" Beta s _ (omega arith)
    (tried_sound "preview" Rc s _ (omega arith)
    (tried_sound "pre" Rc s _ (omega arith)
    (tried_sound "rc" Rc s _ (omega arith)
    (tried_sound "a" Alpha s _ (omega arith)
    (tried_sound "b" Beta s _ (omega arith)
    (tried_sound "c" Rc s _ (omega arith) tt)))))))

-- a spelling of another part has a least length
abbrev SpellingSound : ℕ → List ℕ → Option ℕ → Type 0
SpellingSound least s (Some len) = (least ≤ len) × (len ≤ length s)
SpellingSound least s None = Unit {0}

plain_sound : (least : ℕ) (word : String) (s : List ℕ) (next : Option ℕ) → least ≤ length (ascii word) → SpellingSound least s next →
    SpellingSound least s (tried_word word s next)
plain_sound least word s next h g =
    by_cond (SpellingSound least s) (starts_with (ascii word) s) (λ e. (h, word_within (ascii word) s e)) (λ e. g)

post_spelling_sound : (s : List ℕ) → SpellingSound 1 s (post_spelling s)
unfolding post_spelling
post_spelling_sound s =
    plain_sound 1 "post" s _ (omega arith) (plain_sound 1 "rev" s _ (omega arith) (plain_sound 1 "r" s _ (omega arith) tt))

dev_spelling_sound : (s : List ℕ) → SpellingSound 3 s (dev_spelling s)
unfolding dev_spelling
dev_spelling_sound s = plain_sound 3 "dev" s _ (omega arith) tt

-- a part was read from `at` to `next`, and is written again as `text`, with at most `more` bytes more
record PartRead (s : List ℕ) (at more : ℕ) (text : List ℕ) (next : ℕ) : Type 0 where
  grows : at + length text ≤ next + more
  within : next ≤ length s

abbrev PreSound : List ℕ → ℕ → Step (Option (PreKind × ℕ)) → Type 0
PreSound s at (Ok (pre, next)) = PreFits pre × PartRead s at 2 (pre_text pre) next
PreSound s at (Err d) = Unit {0}

abbrev PartSound : List ℕ → ℕ → ℕ → List ℕ → Step (Option ℕ) → Type 0
PartSound s at more name (Ok (part, next)) = PartFits part × PartRead s at more (part_text name part) next
PartSound s at more name (Err d) = Unit {0}

module _ (s : List ℕ) (at : ℕ) (h : at ≤ length s) where
  -- a part that is not there
  unread : (more : ℕ) → PartRead s at more [] at
  unread more = record { grows = omega arith; within = h }

  -- a part whose spelling has `len` bytes from `from` on
  module _ (from len : ℕ) (o : Onward s at from) where
    spelling_within : len ≤ length (drop from s) → from + len ≤ length s
    spelling_within g = omega (arith, o.within, length-drop from s)

    spelled : (more : ℕ) (name : List ℕ) (n next : ℕ) → length name + 1 ≤ len + more → Counting s (from + len) n next →
        PartRead s at more (name ++ decimal n) next
    spelled more name n next g c = record {
      grows = omega (arith, o.forward, c.long, length-append name (decimal n));
      within = c.within;
    }

  pre_sound : PreSound s at (pre_at s at)
  unfolding pre_at
  pre_sound = go (separator_end s at) (separator_onward s at h) (pre_spelling (drop (separator_end s at) s)) (pre_spelling_sound _)
    where
      go : (from : ℕ) → Onward s at from → (x : Option (PreKind × ℕ)) → PreSpellingSound (drop from s) x → PreSound s at (pre_from s at from x)
      go from o (Some (kind, len)) g =
          by_count (λ c. PreSound s at (pre_of kind c)) s (from + len) (spelling_within from len o g.1)
          (λ n next c. (c.fits, spelled from len o 2 (kind_text kind) n next (omega (arith, g.0)) c))
          (λ d. tt)
      go from o None g = (tt, unread 2)

  part_sound : (f : List ℕ → Option ℕ) (least more : ℕ) (name : List ℕ) → ((t : List ℕ) → SpellingSound least t (f t)) →
      length name + 1 ≤ least + more → PartSound s at more name (part_from s at (separator_end s at) (f (drop (separator_end s at) s)))
  part_sound f least more name spelling k = go (separator_end s at) (separator_onward s at h) (f (drop (separator_end s at) s)) (spelling _)
    where
      go : (from : ℕ) → Onward s at from → (x : Option ℕ) → SpellingSound least (drop from s) x →
          PartSound s at more name (part_from s at from x)
      go from o (Some len) g =
          by_count (λ c. PartSound s at more name (part_of c)) s (from + len) (spelling_within from len o g.1)
          (λ n next c. (c.fits, spelled from len o more name n next (omega (arith, g.0)) c))
          (λ d. tt)
      go from o None g = (tt, unread more)

  post_sound : PartSound s at 5 (ascii ".post") (post_at s at)
  unfolding post_at spelled_post
  post_sound =
      by_number (PartSound s at 5 (ascii ".post")) s (at + 1) (marked_number (code "-") s at) (marked_sound (code "-") s at refl)
      (part_sound post_spelling 1 5 (ascii ".post") post_spelling_sound (omega arith))
      (λ n next r. (r.fits, record { grows = omega (arith, r.long, length-append (ascii ".post") (decimal n)); within = r.within }))
      (λ e. tt)

  dev_sound : PartSound s at 2 (ascii ".dev") (dev_at s at)
  unfolding dev_at
  dev_sound = part_sound dev_spelling 3 2 (ascii ".dev") dev_spelling_sound (omega arith)

-- the three parts were read from `at` to `next`
pub record SuffixRead (s : List ℕ) (at : ℕ) (pre : Option (PreKind × ℕ)) (post dev : Option ℕ) (next : ℕ) : Type 0 where
  pub pre_fits : PreFits pre
  pub post_fits : PartFits post
  pub dev_fits : PartFits dev
  pub grows : at + (length (pre_text pre) + (length (part_text (ascii ".post") post) + length (part_text (ascii ".dev") dev))) ≤ next + 9
  pub within : next ≤ length s

abbrev pub SuffixSound : List ℕ → ℕ → Step Parts → Type 0
SuffixSound s at (Ok ((pre, post, dev), next)) = SuffixRead s at pre post dev next
SuffixSound s at (Err d) = Unit {0}

pub suffix_sound : (s : List ℕ) (at : ℕ) → at ≤ length s → SuffixSound s at (suffix_at s at)
unfolding suffix_at
suffix_sound s at h = after_start (pre_at s at) (pre_sound s at h)
  where
    after_post_lem : (pre : Option (PreKind × ℕ)) (post : Option ℕ) (a b : ℕ) → PreSound s at (Ok (pre, a)) → PartSound s a 5 (ascii ".post") (Ok (post, b)) →
        (x : Step (Option ℕ)) → PartSound s b 2 (ascii ".dev") x → SuffixSound s at (after_post s pre post x)
    after_post_lem pre post a b f g (Ok (dev, c)) i = record {
      pre_fits = f.0;
      post_fits = g.0;
      dev_fits = i.0;
      grows = omega (arith, f.1.grows, g.1.grows, i.1.grows);
      within = i.1.within;
    }
    after_post_lem pre post a b f g (Err d) i = tt

    after_pre_lem : (pre : Option (PreKind × ℕ)) (a : ℕ) → PreSound s at (Ok (pre, a)) → (x : Step (Option ℕ)) → PartSound s a 5 (ascii ".post") x →
        SuffixSound s at (after_pre s pre x)
    after_pre_lem pre a f (Ok (post, b)) g = after_post_lem pre post a b f g (dev_at s b) (dev_sound s b g.1.within)
    after_pre_lem pre a f (Err d) g = tt

    after_start : (x : Step (Option (PreKind × ℕ))) → PreSound s at x → SuffixSound s at (suffix_from s x)
    after_start (Ok (pre, a)) f = after_pre_lem pre a f (post_at s a) (post_sound s a f.1.within)
    after_start (Err d) f = tt
