-- What the head of a text comes to, by how much of it was read: nothing, an epoch, some release numbers, the whole release.
-- Assumes nothing.
use Rattle.std.specs.Prelude.{None, Ok, Some, Err}
use mathlib.Core.Path.{◌≡◌, refl}
use mathlib.Core.List.{List}
use Prim.Native.Nat.{ℕ, suc, ◌+◌, ◌-◌, ◌<◌}
use Prim.Native.Char.{code}
use native.Mathlib.Omega.{arith}
use borrow.Author.Tests.{eq-eqb, ne_eqb}
use Rattle.answers.specs.Refusal.{refusal}
use Rattle.version_parts.specs.declared.fields.Release.{Release}
use Rattle.version_parts.specs.declared.head.Head.{Head}
use Rattle.version_parts.specs.Fields.{only_number, pushed_number}
use Rattle.version_parts.specs.Places.{number_at, marked_number}
use Rattle.version_parts.specs.Head.{lead_end, head_with, head_refused, release_from, after_epoch, head_at, head_of}
use Rattle.version_parts.proofs.Heads.{release_done, release_big, release_full, release_more}
use Rattle.version.specs.Refusals.{Epoch, Listed, Released}

-- nothing was read: the first number is missing, or too big
module _ (s : List ℕ) where
  pub lead_missing : number_at s (lead_end s) ≡ Ok None → head_refused 1 (lead_end s) ≡ head_of s
  unfolding head_of head_at
  lead_missing e = rw e

  pub lead_big : number_at s (lead_end s) ≡ Err (refusal 3 (lead_end s)) → head_refused 3 (lead_end s) ≡ head_of s
  unfolding head_of head_at
  lead_big e = rw e

-- an epoch was read, and the first release number is due at `at`
module _ {s : List ℕ} {at : ℕ} (b : Epoch s at) where
  behind_mark_lem : after_epoch s b.epoch at ≡ head_of s
  unfolding head_of head_at
  behind_mark_lem = rw (b.number, eq-eqb _ _ b.marked, b.behind)

  pub first_missing : number_at s at ≡ Ok None → head_refused 2 at ≡ head_of s
  unfolding after_epoch
  first_missing e = rw e at behind_mark_lem

  pub first_big : number_at s at ≡ Err (refusal 3 at) → head_refused 3 at ≡ head_of s
  unfolding after_epoch
  first_big e = rw e at behind_mark_lem

  first_read : (n next : ℕ) → number_at s at ≡ Ok (Some (n, next)) → release_from 15 s b.epoch (only_number n) next ≡ head_of s
  unfolding after_epoch
  first_read n next e = rw e at behind_mark_lem

-- `count` numbers were read: the head goes on from `at` as it went from the start
record SoFar (s : List ℕ) (at count : ℕ) : Type 0 where
  epoch : ℕ
  release : Release
  size : release.len ≡ count
  same : release_from (16 - release.len) s epoch release at ≡ head_of s

one_more : {s : List ℕ} {from count : ℕ} (n at : ℕ) → count < 16 → marked_number (code ".") s from ≡ Ok (Some (n, at)) →
    SoFar s from count → SoFar s at (suc count)
one_more n at few e f = record {
  epoch = f.epoch;
  release = pushed_number f.release n;
  size = omega arith;
  same = release_more _ _ f.release _ _ _ f.same refl _ n at e (omega arith) (omega arith) refl;
}

so_far : {s : List ℕ} {at count : ℕ} → Listed s at count → SoFar s at count
unfolding head_of head_at
so_far (Listed.plain n at e f) = record { epoch = 0; release = only_number n; size = refl; same = rw (e, ne_eqb _ _ f) }
so_far (Listed.behind_epoch n from at b e) =
    record { epoch = b.epoch; release = only_number n; size = refl; same = first_read b n at e }
so_far (Listed.another n from at count l few e) = one_more n at few e (so_far l)

-- the number that is due after a dot at `at` is too big, or the 17th
module _ {s : List ℕ} {at : ℕ} where
  pub next_big : {count : ℕ} → Listed s at count → marked_number (code ".") s at ≡ Err (refusal 3 (at + 1)) → head_refused 3 (at + 1) ≡ head_of s
  next_big l e = let f = so_far l in release_big _ _ f.release _ _ _ f.same refl _ _ e refl

  pub next_over : (n next : ℕ) → Listed s at 16 → marked_number (code ".") s at ≡ Ok (Some (n, next)) → head_refused 9 (at + 1) ≡ head_of s
  next_over n next l e = let f = so_far l in release_full _ _ f.release _ _ _ f.same refl _ n next e f.size refl

-- the whole release was read, up to `at`
pub record HeadHere (s : List ℕ) (at : ℕ) : Type 0 where
  pub head : Head
  pub is : Ok head ≡ head_of s
  pub ends : head.at ≡ at

pub head_read : {s : List ℕ} {at : ℕ} → Released s at → HeadHere s at
head_read {at = at} r =
    let f = so_far r.listed in
    record { head = head_with f.epoch f.release at; is = release_done _ _ f.release _ _ _ f.same refl r.last; ends = refl }
