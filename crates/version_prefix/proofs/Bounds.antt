-- What is read of a text has numbers below 2^64, so that the prefix law holds of it.
-- Assumes nothing.
use Rattle.answers.specs.declared.Refusal.{Refusal}
use Rattle.chars.specs.declared.spelling.PreKind.{PreKind}
use Rattle.std.specs.Prelude.{Option, Ok, Err, None, Result, Some}
use mathlib.Core.Path.{◌≡◌, refl}
use mathlib.Core.Bool.{Bool, true, false, cond}
use mathlib.Core.List.{List, [], ◌∷◌}
use Prim.Native.Nat.{ℕ, zero, suc, ◌+◌, ◌^◌, ◌≤◌}
use Prim.Native.Char.{code}
use native.Mathlib.Omega.{arith}
use lib.Dec.{ltb, eqb}
use lib.ListN.{length, get_or, take, drop, set, replicate}
use borrow.Author.Tests.{ltb-true}
use Rattle.order.proofs.Elements.{all_take}
use Rattle.chars.specs.Text.{ascii}
use Rattle.chars.specs.Case.{starts_with}
use Rattle.decimal.specs.declared.parse.NumberError.TheVariants.{TooBig}
use Rattle.decimal.specs.Parse.{value_from, number_of, digits_of, sized, leading_of}
use Rattle.version_parts.specs.declared.fields.Release.{Release}
use Rattle.version_parts.specs.declared.fields.Local.{Local}
use Rattle.version_parts.specs.declared.head.Head.{Head}
use Rattle.version_reading.specs.declared.text.PatternReading.{PatternReading}
use Rattle.version_parts.specs.Fields.{no_release, only_number, pushed_number}
use Rattle.version_parts.specs.Places.{NumberAt, placed, number_at, marked_number, on_number}
use Rattle.version_parts.specs.Head.{release_from, after_epoch, head_at, head_of, lead_end}
use Rattle.version_parts.specs.Suffix.{Step, Parts, suffix_at}
use Rattle.version_reading.specs.Label.{label_at}
use Rattle.version_reading.specs.Reading.{
  longest,
  starred,
  after_label,
  after_suffix,
  suffixed,
  after_release,
  after_head,
  pattern_as,
  version_of,
}
use Rattle.version_reading.specs.Value.{value_of}
use Rattle.decimal.specs.Parse.{largest}
use Rattle.version_prefix.specs.Prefix.{Fit, Held}

fit_set : (l : List ℕ) (i n : ℕ) → n ≤ largest → Fit l → Fit (set l i n)
fit_set [] zero n h a = tt
fit_set [] (suc i) n h a = tt
fit_set (x ∷ l) zero n h a = (h, a.1)
fit_set (x ∷ l) (suc i) n h a = (a.0, fit_set l i n h a.1)

fit_zeros : (k : ℕ) → Fit (replicate k 0)
fit_zeros zero = tt
fit_zeros (suc k) = (omega arith, fit_zeros k)

-- a number that was read
abbrev NumberFit : NumberAt → Type 0
NumberFit (Ok None) = Unit {0}
NumberFit (Ok (Some (n, next))) = n ≤ largest
NumberFit (Err e) = Unit {0}

value_fit : (at len v : ℕ) (b : Bool) → ltb v (2 ^ 64) ≡ b → NumberFit (placed at (sized len (cond b (Ok v) (Err TooBig))))
value_fit at len v true e = omega (arith, ltb-true v (2 ^ 64) e)
value_fit at len v false e = tt

number_fit : (s : List ℕ) (at : ℕ) → NumberFit (number_at s at)
unfolding number_at leading_of number_of
number_fit s at = go (eqb n 0)
  where
    n : ℕ
    n = digits_of (drop at s)

    digits : List ℕ
    digits = take n (drop at s)

    go : (b : Bool) → NumberFit (placed at (cond b (Ok None) (sized n (number_of digits))))
    go true = tt
    go false = value_fit at n (value_from 0 digits) (ltb (value_from 0 digits) (2 ^ 64)) refl

marked_fit : (mark : ℕ) (s : List ℕ) (at : ℕ) → NumberFit (marked_number mark s at)
unfolding marked_number
marked_fit mark s at = go (eqb (get_or s at 0) mark)
  where
    go : (b : Bool) → NumberFit (cond b (number_at s (at + 1)) (Ok None))
    go true = number_fit s (at + 1)
    go false = tt

-- an epoch and a release
record Fitting (e : ℕ) (r : Release) : Type 0 where
  epoch : e ≤ largest
  numbers : Fit r.numbers

blank : Fitting 0 no_release
blank = record { epoch = omega arith; numbers = fit_zeros 16 }

-- the head of a text
abbrev HeadFit : Result Head Refusal → Type 0
HeadFit (Ok h) = Fitting h.epoch h.release
HeadFit (Err e) = Unit {0}

-- by what number stands there
on_number_lem : (x : NumberAt) (none : Result Head Refusal) (read : ℕ → ℕ → Result Head Refusal) → NumberFit x → HeadFit none →
    ((n next : ℕ) → n ≤ largest → HeadFit (read n next)) → HeadFit (on_number x none read Err)
on_number_lem (Ok None) none read x a f = a
on_number_lem (Ok (Some (n, next))) none read x a f = f n next x
on_number_lem (Err e) none read x a f = tt

release_fit : (room : ℕ) (s : List ℕ) (e : ℕ) (r : Release) (at : ℕ) → e ≤ largest → Fit r.numbers → HeadFit (release_from room s e r at)
unfolding release_from
release_fit zero s e r at h a =
    on_number_lem (marked_number (code ".") s at) _ _ (marked_fit (code ".") s at) (record { epoch = h; numbers = a })
    (λ n next k. tt)
release_fit (suc room) s e r at h a =
    on_number_lem (marked_number (code ".") s at) _ _ (marked_fit (code ".") s at) (record { epoch = h; numbers = a })
    (λ n next k. release_fit room s e (pushed_number r n) next h (fit_set r.numbers r.len n k a))

first_fit : (s : List ℕ) (e n at : ℕ) → e ≤ largest → n ≤ largest → HeadFit (release_from 15 s e (only_number n) at)
first_fit s e n at h k = release_fit 15 s e (only_number n) at h (fit_set (replicate 16 0) 0 n k (fit_zeros 16))

behind_fit : (s : List ℕ) (e at : ℕ) → e ≤ largest → HeadFit (after_epoch s e at)
unfolding after_epoch
behind_fit s e at h = on_number_lem (number_at s at) _ _ (number_fit s at) tt (λ n next k. first_fit s e n next h k)

head_fit : (s : List ℕ) → HeadFit (head_of s)
unfolding head_of head_at
head_fit s =
    on_number_lem (number_at s (lead_end s)) _ _ (number_fit s (lead_end s)) tt
    (λ n next k. go n next k (eqb (get_or s next 0) (code "!")))
  where
    go : (n next : ℕ) → n ≤ largest → (b : Bool) → HeadFit (cond b (after_epoch s n (next + 1)) (release_from 15 s 0 (only_number n) next))
    go n next k true = behind_fit s n (next + 1) k
    go n next k false = first_fit s 0 n next (omega arith) k

-- a whole text: the version that was read of it, or the blank one
abbrev ReadingFit : PatternReading → Type 0
ReadingFit r = Fitting r.version.epoch r.version.release

pick_fit : (b : Bool) (x y : PatternReading) → ReadingFit x → ReadingFit y → ReadingFit (cond b x y)
pick_fit true x y f g = f
pick_fit false x y f g = g

module _ (s : List ℕ) (h : Head) (f : Fitting h.epoch h.release) where
  label_fit : (pre : Option (PreKind × ℕ)) (post dev : Option ℕ) (l : Step Local) → ReadingFit (after_label s h pre post dev l)
  label_fit pre post dev (Ok (local, at)) = pick_fit (ltb _ (length s)) _ _ blank f
  label_fit pre post dev (Err e) = blank

  suffix_fit : (x : Step Parts) → ReadingFit (suffixed s h x)
  unfolding after_suffix
  suffix_fit (Ok ((pre, post, dev), next)) = label_fit pre post dev (label_at s next)
  suffix_fit (Err d) = blank

  star_fit : (wildcards : Bool) → ReadingFit (starred wildcards s h)
  unfolding starred
  star_fit wildcards = pick_fit wildcards _ _ (pick_fit (ltb (h.at + 2) (length s)) _ _ blank f) blank

after_fit : (wildcards : Bool) (s : List ℕ) (x : Result Head Refusal) → HeadFit x → ReadingFit (after_head wildcards s x)
unfolding after_release
after_fit wildcards s (Ok h) f =
    pick_fit (starts_with (ascii ".*") (drop h.at s)) _ _ (star_fit s h f wildcards) (suffix_fit s h f (suffix_at s h.at))
after_fit wildcards s (Err e) f = blank

pattern_fit : (wildcards : Bool) (s : List ℕ) → ReadingFit (pattern_as wildcards s)
unfolding pattern_as
pattern_fit wildcards s = pick_fit (ltb longest (length s)) _ _ blank (after_fit wildcards s (head_of s) (head_fit s))

-- wherever the label lies
pub held_pattern : (wildcards : Bool) (s t : List ℕ) → Held (value_of t (pattern_as wildcards s).version)
unfolding value_of
held_pattern wildcards s t =
    let f = pattern_fit wildcards s in
    let v = (pattern_as wildcards s).version in
    record { epoch = f.epoch; release = all_take (λ n. n ≤ largest) v.release.len v.release.numbers f.numbers }

pub held_version : (s t : List ℕ) → Held (value_of t (version_of s).version)
unfolding version_of
held_version s t = held_pattern false s t
