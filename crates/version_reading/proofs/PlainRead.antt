-- What is found by the quick way is what the rules read, as a version and as a pattern.
-- Assumes nothing.
use Rattle.std.specs.Prelude.{Option, None, Some, Result, Ok, Err}
use mathlib.Core.Path.{◌≡◌, refl, sym, ◌∙◌}
use mathlib.Core.Bool.{Bool, true, false, true≢false, cond}
use mathlib.Core.List.{List, [], ◌∷◌}
use Prim.Native.Nat.{ℕ, suc, ◌+◌, ◌≤◌}
use native.Mathlib.Nat.{add-zero}
use native.Mathlib.Omega.{arith}
use lib.Dec.{eqb, ltb, leb}
use lib.ListN.{length, get_or, drop}
use borrow.Author.Tests.{eqb-true, le-ltb, le-leb, lt-leb, ne_eqb, leb-true}
use Rattle.answers.specs.declared.Refusal.{Refusal}
use Rattle.chars.specs.declared.spelling.PreKind.{PreKind}
use Rattle.chars.specs.Class.{is_letter, is_separator, is_blank, class_of, in_range, between, front}
use Rattle.chars.specs.Case.{lower_of, starts_with}
use Rattle.decimal.specs.Parse.{leading_of}
use Rattle.version_parts.specs.declared.fields.Version.{Version}
use Rattle.version_parts.specs.declared.head.Head.{Head}
use Rattle.version_parts.specs.Fields.{no_local, only_number, pushed_number}
use Rattle.version_parts.specs.Places.{NumberAt, number_at, marked_number, on_number}
use Rattle.version_parts.specs.Head.{lead_end, head_with, head_read, release_from, after_epoch, head_at, head_of}
use Rattle.version_parts.specs.Suffix.{Step, Parts, suffix_at}
use Rattle.version_parts.proofs.Ended.{gone, zero_there, suffix_ended}
use Rattle.version_reading.specs.declared.plain.PlainHead.{PlainHead}
use Rattle.version_reading.specs.declared.plain.Plain.{Plain}
use Rattle.version_reading.specs.declared.text.PatternReading.{PatternReading}
use Rattle.version_reading.specs.Label.{label_at}
use Rattle.version_reading.specs.Reading.{refused_with, fielded, accepted, starred, after_suffix, suffixed, after_release, after_head, pattern_as, Read as ReadAs}
use Rattle.version_reading.specs.Plain.{
  plain_head,
  after_fourth,
  after_third,
  after_second,
  after_first,
  plain_head_of,
  found_with,
  not_plain,
  plain_suffixed,
  plain_at,
  plain_from,
  plain_of,
  PlainFilled,
  PlainRead,
  whole_release,
  whole_version,
}

-- the head that the rules read
abbrev whole_head : PlainHead → Head
whole_head h = head_with 0 (whole_release h.count h.first h.second h.third h.fourth) h.at

-- where a head was found, x is what the rules read there
abbrev Heads : Result Head Refusal → Option PlainHead → Type 0
Heads x None = Unit {0}
Heads x (Some h) = x ≡ Ok (whole_head h)

-- number by number
module _ (s : List ℕ) (a : ℕ) where
  fourth : (b c d at : ℕ) → Heads (release_from 12 s 0 (whole_release 4 a b c d) at) (after_fourth s a b c d at)
  unfolding release_from after_fourth
  fourth b c d at = go (marked_number 46 s at)
    where
      go : (x : NumberAt) → Heads
          (on_number x (head_read 0 (whole_release 4 a b c d) at) (λ n next. release_from 11 s 0 (pushed_number (whole_release 4 a b c d) n) next) Err)
          (on_number x (Some (plain_head 4 a b c d at)) (λ e next. None) (λ e. None))
      go (Ok None) = refl
      go (Ok (Some (n, next))) = tt
      go (Err e) = tt

  third : (b c at : ℕ) → Heads (release_from 13 s 0 (whole_release 3 a b c 0) at) (after_third s a b c at)
  unfolding release_from after_third
  third b c at = go (marked_number 46 s at)
    where
      go : (x : NumberAt) → Heads
          (on_number x (head_read 0 (whole_release 3 a b c 0) at) (λ n next. release_from 12 s 0 (whole_release 4 a b c n) next) Err)
          (on_number x (Some (plain_head 3 a b c 0 at)) (λ d next. after_fourth s a b c d next) (λ e. None))
      go (Ok None) = refl
      go (Ok (Some (d, next))) = fourth b c d next
      go (Err e) = tt

  second : (b at : ℕ) → Heads (release_from 14 s 0 (whole_release 2 a b 0 0) at) (after_second s a b at)
  unfolding release_from after_second
  second b at = go (marked_number 46 s at)
    where
      go : (x : NumberAt) → Heads
          (on_number x (head_read 0 (whole_release 2 a b 0 0) at) (λ n next. release_from 13 s 0 (whole_release 3 a b n 0) next) Err)
          (on_number x (Some (plain_head 2 a b 0 0 at)) (λ c next. after_third s a b c next) (λ e. None))
      go (Ok None) = refl
      go (Ok (Some (c, next))) = third b c next
      go (Err e) = tt

  first : (at : ℕ) → Heads (release_from 15 s 0 (whole_release 1 a 0 0 0) at) (after_first s a at)
  unfolding release_from after_first
  first at = go (marked_number 46 s at)
    where
      go : (x : NumberAt) → Heads
          (on_number x (head_read 0 (whole_release 1 a 0 0 0) at) (λ n next. release_from 14 s 0 (whole_release 2 a n 0 0) next) Err)
          (on_number x (Some (plain_head 1 a 0 0 0 at)) (λ b next. after_second s a b next) (λ e. None))
      go (Ok None) = refl
      go (Ok (Some (b, next))) = second b next
      go (Err e) = tt

-- the first byte is a digit
not_digit : (x y z : Bool) → in_range 3 3 (cond x 4 (cond y 2 (cond z 1 0))) ≡ false
not_digit true y z = refl
not_digit false true z = refl
not_digit false false true = refl
not_digit false false false = refl

digit_bounds : (b : ℕ) → between 3 3 b ≡ true → (48 ≤ b) × (b ≤ 57)
unfolding between class_of
digit_bounds b = go (leb 48 b) (leb b 57) refl refl
  where
    go : (x y : Bool) → leb 48 b ≡ x → leb b 57 ≡ y → between 3 3 b ≡ true → (48 ≤ b) × (b ≤ 57)
    go true true p q e = (leb-true 48 b p, leb-true b 57 q)
    go true false p q e = absurd (true≢false (sym (rw (p, q) at e) ∙ not_digit (is_letter b) (is_separator b) (is_blank b)))
    go false y p q e = absurd (true≢false (sym (rw p at e) ∙ not_digit (is_letter b) (is_separator b) (is_blank b)))

digit_class : (b : ℕ) → 48 ≤ b → b ≤ 57 → class_of b ≡ 3
unfolding class_of
digit_class b low high = rw (le-leb 48 b low, le-leb b 57 high)

abbrev nothing : NumberAt
nothing = Ok None

absent_not_read : {a next : ℕ} → nothing ≡ Ok (Some (a, next)) → ⊥
absent_not_read {a} e = let impossible : a ≡ suc a = cc in omega arith

no_lead : (s : List ℕ) (a next : ℕ) → number_at s 0 ≡ Ok (Some (a, next)) → lead_end s ≡ 0
unfolding number_at leading_of lead_end front between lower_of
no_lead [] a next e = absurd (absent_not_read e)
no_lead (b ∷ t) a next e = go (between 3 3 b) refl e
  where
    go : (x : Bool) → between 3 3 b ≡ x → number_at (b ∷ t) 0 ≡ Ok (Some (a, next)) → lead_end (b ∷ t) ≡ 0
    go false p e = absurd (absent_not_read (rw p at e))
    go true p e =
        let low = (digit_bounds b p).0 in
        let high = (digit_bounds b p).1 in
        rw (digit_class b low high, lt-leb 65 b (omega arith), ne_eqb b 118 (λ q. absurd (omega arith)))

-- a text that has ended
rest_ended : (s : List ℕ) (at : ℕ) → length s ≤ at → (x : Head) (pre : Option (PreKind × ℕ)) (post dev : Option ℕ) →
    after_suffix s x pre post dev at ≡ accepted false (fielded x pre post dev no_local)
unfolding after_suffix label_at front
rest_ended s at h x pre post dev = rw (zero_there s at h, gone s at h, add-zero at, le-ltb at (length s) h)

-- the head that was found is the one that the rules read
head_found : (s : List ℕ) → Heads (head_of s) (plain_head_of s)
unfolding head_of head_at plain_head_of
head_found s = go (number_at s 0) refl
  where
    marked : (a next : ℕ) (x : Bool) → Heads
        (cond x (after_epoch s a (next + 1)) (release_from 15 s 0 (only_number a) next))
        (cond x None (after_first s a next))
    marked a next true = tt
    marked a next false = first s a next

    go : (x : NumberAt) → number_at s 0 ≡ x → Heads
        (head_at s (lead_end s))
        (on_number x None (λ a next. cond (eqb (get_or s next 0) 33) None (after_first s a next)) (λ e. None))
    go (Ok None) e = tt
    go (Ok (Some (a, next))) e = rw (no_lead s a next e, e) (marked a next (eqb (get_or s next 0) 33))
    go (Err x) e = tt

-- where a plain version was found, x is what the rules read
abbrev Reads : PatternReading → Option Plain → Type 0
Reads x None = Unit {0}
Reads x (Some v) = x ≡ accepted false (whole_version v)

-- after the head
module _ (wildcards : Bool) (s : List ℕ) (h : PlainHead) where
  no_star : length s ≤ h.at → starts_with (46 ∷ 42 ∷ []) (drop h.at s) ≡ false
  unfolding starts_with
  no_star over = rw (gone s h.at over)

  suffix_found : (x : Step Parts) → Reads (suffixed s (whole_head h) x) (plain_suffixed s h x)
  suffix_found (Err d) = tt
  suffix_found (Ok ((pre, post, dev), next)) = go (eqb next (length s)) refl
    where
      go : (b : Bool) → eqb next (length s) ≡ b → Reads (after_suffix s (whole_head h) pre post dev next) (cond b (found_with h pre post dev) not_plain)
      go true e = rest_ended s next (omega (arith, eqb-true next (length s) e)) (whole_head h) pre post dev
      go false e = tt

  rest_found : Reads (cond (starts_with (46 ∷ 42 ∷ []) (drop h.at s)) (starred wildcards s (whole_head h)) (after_release s (whole_head h))) (plain_at s h)
  unfolding plain_at after_release
  rest_found = at_end (eqb h.at (length s)) refl
    where
      at_star : (b : Bool) → Reads
          (cond b (starred wildcards s (whole_head h)) (after_release s (whole_head h)))
          (cond b not_plain (plain_suffixed s h (suffix_at s h.at)))
      at_star true = tt
      at_star false = suffix_found (suffix_at s h.at)

      at_end : (b : Bool) → eqb h.at (length s) ≡ b → Reads
          (cond (starts_with (46 ∷ 42 ∷ []) (drop h.at s)) (starred wildcards s (whole_head h)) (after_release s (whole_head h)))
          (cond b (found_with h None None None) (cond (starts_with (46 ∷ 42 ∷ []) (drop h.at s)) not_plain (plain_suffixed s h (suffix_at s h.at))))
      at_end true e =
          let over : length s ≤ h.at = omega (arith, eqb-true h.at (length s) e) in
          rw (no_star over, suffix_ended s h.at over) (rest_ended s h.at over (whole_head h) None None None)
      at_end false e = at_star (starts_with (46 ∷ 42 ∷ []) (drop h.at s))

-- a plain reading is what the rules read, with wildcards or without
pub plain_read : (wildcards : Bool) (s : List ℕ) → Reads (pattern_as wildcards s) (plain_of s)
unfolding pattern_as plain_of
plain_read wildcards s = by_length (ltb 1024 (length s))
  where
    by_head : (o : Option PlainHead) → plain_head_of s ≡ o → Reads (after_head wildcards s (head_of s)) (plain_from s o)
    by_head None e = tt
    by_head (Some h) e = rw (rw e at (head_found s)) (rest_found wildcards s h)

    by_length : (b : Bool) → Reads
        (cond b (refused_with 8 1024) (after_head wildcards s (head_of s)))
        (cond b not_plain (plain_from s (plain_head_of s)))
    by_length true = tt
    by_length false = by_head (plain_head_of s) refl

-- the same of a reading r that a call gave
pub plain_said : (wildcards : Bool) (s : List ℕ) (r : Option Plain) (v : Plain) → r ≡ plain_of s → r ≡ Some v →
    pattern_as wildcards s ≡ accepted false (whole_version v)
plain_said wildcards s r v e k = rw (sym e ∙ k) at (plain_read wildcards s)

-- it has four numbers at most
pub said_filled : {spec r : Option Plain} {v : Plain} → PlainRead spec r → r ≡ Some v → PlainFilled v
said_filled read k = rw k at read.sound

-- and where w are the fields, that is what a reading by the rules promises
pub plain_promised : (wildcards : Bool) (s : List ℕ) (r : Option Plain) (v : Plain) (w : Version) → PlainRead (plain_of s) r → r ≡ Some v →
    w ≡ whole_version v → ReadAs (pattern_as wildcards s) (accepted false w)
plain_promised wildcards s r v w read k e =
    record {
      is = rw e (sym (plain_said wildcards s r v read.is k));
      few = rw e (omega (arith, (said_filled read k).few));
      short = rw e (omega arith);
      near = omega arith;
    }
