-- What is read of the head of any text, rules 1 to 3: at most 16 numbers of 64 bits, which are written again in no more bytes.
-- Assumes nothing.
use Rattle.std.specs.Prelude.{Result, Ok, Err}
use mathlib.Core.Path.{◌≡◌, refl, ◌∙◌}
use mathlib.Core.Bool.{cond}
use mathlib.Core.List.{List, [], ◌∷◌, map, map-append, append-nil}
use Prim.Native.Nat.{ℕ, zero, suc, ◌+◌, ◌≤◌, ◌<◌}
use Prim.Native.Char.{code}
use native.Mathlib.Omega.{arith}
use lib.Dec.{eqb}
use lib.ListN.{length, get_or, length-set}
use Rattle.order.specs.All.{All}
use Rattle.order.proofs.Elements.{all_append}
use Rattle.chars.specs.Class.{blank, between, front}
use Rattle.chars.specs.Case.{lower_of}
use Rattle.decimal.specs.Digits.{decimal}
use Rattle.answers.specs.declared.Refusal.{Refusal}
use Rattle.version_parts.specs.declared.fields.Release.{Release}
use Rattle.version_parts.specs.declared.head.Head.{Head}
use Rattle.version_parts.specs.Fields.{only_number, pushed_number}
use Rattle.version_parts.specs.Places.{number_at, marked_number}
use Rattle.version_parts.specs.Head.{lead_end, release_from, after_epoch, head_at, head_of}
use Rattle.version_normal.specs.Normal.{epoch_text}
use Rattle.version_roundtrip.specs.Text.{dotted_all}
use Rattle.version_roundtrip.specs.Readable.{Fits}
use Rattle.version_roundtrip.proofs.Fields.{numbers_of, pushed_number_lem}
use Rattle.version_roundtrip.proofs.Lengths.{dotted_snoc, epoch_length}
use Rattle.version_roundtrip.proofs.ReadPlaces.{
  by_cond,
  run_within,
  byte_within,
  NumberRead,
  number_sound,
  marked_sound,
  by_number,
}

-- an epoch and a release were read up to `at`; to count the same for each number, a dot is counted before the first one too
pub record HeadRead (s : List ℕ) (epoch : ℕ) (release : Release) (at : ℕ) : Type 0 where
  pub epoch_fits : Fits epoch
  pub some : 1 ≤ release.len
  pub few : release.len ≤ 16
  pub size : length release.numbers ≡ 16
  pub fits : All Fits (numbers_of release)
  pub long : length (epoch_text epoch) + length (dotted_all (map decimal (numbers_of release))) ≤ at + 1
  pub within : at ≤ length s

abbrev pub HeadSound : List ℕ → Result Head Refusal → Type 0
HeadSound s (Ok h) = HeadRead s h.epoch h.release h.at
HeadSound s (Err e) = Unit {0}

first_number : (s : List ℕ) (epoch at n next : ℕ) → Fits epoch → length (epoch_text epoch) ≤ at → NumberRead s at n next →
    HeadRead s epoch (only_number n) next
first_number s epoch at n next fit h r = record {
  epoch_fits = fit;
  some = omega arith;
  few = omega arith;
  size = refl;
  fits = (r.fits, tt);
  long = rw (append-nil (decimal n)) (omega (arith, r.long));
  within = r.within;
}

next_number : (s : List ℕ) (epoch : ℕ) (release : Release) (at n next : ℕ) → HeadRead s epoch release at → release.len < 16 →
    NumberRead s (at + 1) n next → HeadRead s epoch (pushed_number release n) next
next_number s epoch release at n next h room r =
    let pushed = pushed_number_lem release n (omega (arith, h.size)) in
    record {
      epoch_fits = h.epoch_fits;
      some = omega arith;
      few = omega arith;
      size = length-set release.numbers release.len n ∙ h.size;
      fits = rw pushed (all_append Fits (numbers_of release) (n ∷ []) h.fits (r.fits, tt));
      long = rw (pushed, map-append decimal (numbers_of release) (n ∷ []), dotted_snoc) (omega (arith, h.long, r.long));
      within = r.within;
    }

release_sound : (room : ℕ) (s : List ℕ) (epoch : ℕ) (release : Release) (at : ℕ) → release.len + room ≡ 16 → HeadRead s epoch release at →
    HeadSound s (release_from room s epoch release at)
unfolding release_from
release_sound zero s epoch release at full h =
    by_number (HeadSound s) s (at + 1) (marked_number (code ".") s at) (marked_sound (code ".") s at refl)
    h
    (λ n next r. tt)
    (λ e. tt)
release_sound (suc room) s epoch release at full h =
    by_number (HeadSound s) s (at + 1) (marked_number (code ".") s at) (marked_sound (code ".") s at refl)
    h
    (λ n next r.
    release_sound room s epoch (pushed_number release n) next (omega arith) (next_number s epoch release at n next h (omega arith) r))
    (λ e. tt)

lead_within : (s : List ℕ) → lead_end s ≤ length s
unfolding lead_end lower_of
lead_within s =
    let at = front (between blank blank) s in
    by_cond (λ k. k ≤ length s) (eqb (lower_of (get_or s at 0)) (code "v"))
    (λ e. omega (arith, byte_within s at (λ b. eqb (lower_of b) (code "v")) refl e))
    (λ e. run_within (between blank blank) s)

-- the number after the mark of the epoch n, which ends at `at`
after_epoch_sound : (s : List ℕ) (from n at : ℕ) → NumberRead s from n at → at < length s → HeadSound s (after_epoch s n (at + 1))
unfolding after_epoch
after_epoch_sound s from n at r inside =
    by_number (HeadSound s) s (at + 1) (number_at s (at + 1)) (number_sound s (at + 1) (omega arith))
    tt
    (λ m next q. release_sound 15 s n (only_number m) next refl (first_number s n (at + 1) m next r.fits written q))
    (λ e. tt)
  where
    written : length (epoch_text n) ≤ at + 1
    written = omega (arith, r.long, epoch_length n)

first_sound : (s : List ℕ) (at : ℕ) → at ≤ length s → HeadSound s (head_at s at)
unfolding head_at epoch_text
first_sound s at h =
    by_number (HeadSound s) s at (number_at s at) (number_sound s at h) tt number (λ e. tt)
  where
    number : (n next : ℕ) → NumberRead s at n next →
        HeadSound s (cond (eqb (get_or s next 0) (code "!")) (after_epoch s n (next + 1)) (release_from 15 s 0 (only_number n) next))
    number n next r =
        by_cond (HeadSound s) (eqb (get_or s next 0) (code "!"))
        (λ e. after_epoch_sound s at n next r (byte_within s next (λ b. eqb b (code "!")) refl e))
        (λ e. release_sound 15 s 0 (only_number n) next refl (first_number s 0 at n next (omega arith) (omega arith) r))

pub head_sound : (s : List ℕ) → HeadSound s (head_of s)
unfolding head_of
head_sound s = first_sound s (lead_end s) (lead_within s)
