-- The head of a normal text is read back, rules 1 to 3.
-- Assumes nothing.
use Rattle.std.specs.Prelude.{Result, None, Ok, Some}
use mathlib.Core.Path.{◌≡◌, refl, sym, ◌∙◌}
use mathlib.Core.Bool.{Bool, true, false, cond}
use mathlib.Core.List.{List, [], ◌∷◌, ◌++◌, map, append-nil, append_assoc}
use Prim.Native.Nat.{ℕ, zero, suc, ◌+◌, ◌-◌, ◌≤◌}
use Prim.Native.Char.{code}
use native.Mathlib.Omega.{arith}
use lib.Dec.{eqb}
use lib.ListN.{length, get_or, drop, length-set}
use lib.Seq.{append_snoc}
use borrow.Author.Tests.{ne_eqb}
use Rattle.order.specs.All.{All}
use Rattle.answers.specs.declared.Refusal.{Refusal}
use Rattle.chars.specs.Class.{class_of, between, front}
use Rattle.chars.proofs.Beginnings.{lower_under}
use Rattle.decimal.specs.Digits.{decimal}
use Rattle.decimal.specs.Parse.{digits_of, leading_of}
use Rattle.decimal.proofs.Values.{lead_none}
use Rattle.version_parts.specs.declared.fields.Release.{Release}
use Rattle.version_parts.specs.declared.head.Head.{Head}
use Rattle.version_parts.specs.Fields.{only_number, pushed_number}
use Rattle.version_parts.specs.Places.{placed, number_at, marked_number}
use Rattle.version_parts.specs.Head.{head_read, lead_end, release_from, after_epoch, head_at, head_of}
use Rattle.version_parts.proofs.Heads.{release_done, release_more}
use Rattle.version_normal.specs.Normal.{epoch_text}
use Rattle.version_roundtrip.specs.Text.{dotted_all, joined_all}
use Rattle.version_roundtrip.specs.Readable.{Fits}
use Rattle.version_roundtrip.proofs.Numbers.{digit_class, begins_with_digit}
use Rattle.version_roundtrip.proofs.Fields.{numbers_of, pushed_number_lem}
use Rattle.version_roundtrip.proofs.Rests.{Left, stepped, byte_here, further, number_here}
use Rattle.version_roundtrip.proofs.BackSuffix.{Quiet}

-- rule 1: neither blanks nor a `v` stand before a number
no_lead : (n : ℕ) (rest : List ℕ) → lead_end (decimal n ++ rest) ≡ 0
unfolding lead_end front between
no_lead = begins_with_digit (λ s. lead_end s ≡ 0) (λ b s d.
    let small = lower_under b (omega (arith, d.1)) in
    rw (digit_class b d, ← small, ne_eqb b (code "v") (λ e. omega (arith, d.1))))

-- rule 2: the first number is the release's first, or the epoch
module _ (s : List ℕ) (lead : lead_end s ≡ 0) where
  no_epoch : (n next : ℕ) → number_at s 0 ≡ Ok (Some (n, next)) → eqb (get_or s next 0) (code "!") ≡ false →
      head_of s ≡ release_from 15 s 0 (only_number n) next
  unfolding head_of head_at
  no_epoch n next e f = rw (lead, e, f)

  some_epoch : (epoch n at next : ℕ) → number_at s 0 ≡ Ok (Some (epoch, at)) → get_or s at 0 ≡ code "!" → number_at s (at + 1) ≡ Ok (Some (n, next)) →
      head_of s ≡ release_from 15 s epoch (only_number n) next
  unfolding head_of head_at after_epoch
  some_epoch epoch n at next e f g = rw (lead, e, f, g)

-- a release was read back, and `rest` is left of the text
pub record ReleaseBack (s rest : List ℕ) (epoch : ℕ) (numbers : List ℕ) (step : Result Head Refusal) : Type 0 where
  pub release : Release
  pub read : Left s rest step (head_read epoch release)
  pub is : numbers_of release ≡ numbers

module _ (s : List ℕ) (rest : List ℕ) (q : Quiet rest) where
  -- what follows a number of the release: more numbers, and the rest
  abbrev following : List ℕ → List ℕ
  following ns = dotted_all (map decimal ns) ++ rest

  no_digit : (ns : List ℕ) → digits_of (following ns) ≡ 0
  unfolding front between class_of
  no_digit [] = q.digits
  no_digit (n ∷ ns) = refl

  no_mark : (ns : List ℕ) → eqb (get_or (following ns) 0 0) (code "!") ≡ false
  no_mark [] = q.mark
  no_mark (n ∷ ns) = refl

  no_number : (at : ℕ) → drop at s ≡ rest → marked_number (code ".") s at ≡ Ok None
  unfolding marked_number number_at
  no_number at here = rw (byte_here s at rest here, further s at rest here 1) (go (eqb (get_or rest 0 0) (code ".")) q.dot)
    where
      go : (t : Bool) → cond t (digits_of (drop 1 rest)) 0 ≡ 0 → cond t (placed (at + 1) (leading_of (drop 1 rest))) (Ok None) ≡ Ok None
      go true e = rw (← lead_none (drop 1 rest) 0 (sym e) refl)
      go false e = refl

  dotted_number : (at : ℕ) (behind : List ℕ) → drop at s ≡ code "." ∷ behind → marked_number (code ".") s at ≡ number_at s (at + 1)
  unfolding marked_number
  dotted_number at behind here = rw (byte_here s at _ here)

  -- rule 3, from any turn on
  release_back : (epoch : ℕ) (ns : List ℕ) (release : Release) (at : ℕ) → All Fits ns → release.len + length ns ≤ 16 →
      length release.numbers ≡ 16 → drop at s ≡ following ns →
      ReleaseBack s rest epoch (numbers_of release ++ ns) (release_from (16 - release.len) s epoch release at)
  release_back epoch [] release at fits h size here =
      let done = release_done s epoch release at _ (Ok None) refl (sym (no_number at here)) refl in
      record {
        release = release;
        read = record { next = at; is = sym done; left = here };
        is = sym (append-nil (numbers_of release));
      }
  release_back epoch (n ∷ ns) release at fits h size here =
      let dot : drop (at + 1) s ≡ decimal n ++ following ns = further s at _ here 1 ∙ append_assoc (decimal n) _ rest in
      let number = number_here s (at + 1) n (following ns) dot fits.0 (no_digit ns) in
      let marked = sym (dotted_number at _ here ∙ number.is) in
      let grown = pushed_number release n in
      let more = release_more s epoch release at _ _ refl marked grown n number.next refl (omega arith) (λ e. omega arith) refl in
      let size' = length-set release.numbers release.len n ∙ size in
      let back = release_back epoch ns grown number.next fits.1 (omega arith) size' number.left in
      record {
        release = back.release;
        read = stepped back.read (λ next e. sym more ∙ e);
        is = back.is ∙ (rw (pushed_number_lem release n (omega arith)) (append_snoc (numbers_of release) n ns));
      }

  -- the release's first number n ends at `next`
  behind_first : (epoch n : ℕ) (ns : List ℕ) (next : ℕ) → All Fits ns → suc (length ns) ≤ 16 → drop next s ≡ following ns →
      ReleaseBack s rest epoch (n ∷ ns) (release_from 15 s epoch (only_number n) next)
  behind_first epoch n ns next fits few here = release_back epoch ns (only_number n) next fits (omega arith) refl here

  first_number : (at n : ℕ) (ns : List ℕ) → drop at s ≡ joined_all (map decimal (n ∷ ns)) ++ rest → Fits n →
      Left s (following ns) (number_at s at) (λ next. Ok (Some (n, next)))
  first_number at n ns here fits = number_here s at n (following ns) (here ∙ append_assoc (decimal n) _ rest) fits (no_digit ns)

  pub head_back : (epoch : ℕ) (release : List ℕ) → Fits epoch → All Fits release → 1 ≤ length release → length release ≤ 16 →
      s ≡ epoch_text epoch ++ (joined_all (map decimal release) ++ rest) → ReleaseBack s rest epoch release (head_of s)
  unfolding epoch_text front between class_of
  head_back epoch [] fit fits some few text = absurd (omega arith)
  head_back zero (n ∷ ns) fit fits some few text =
      let lead : lead_end s ≡ 0 = rw (text, append_assoc (decimal n)) (no_lead n _) in
      let number = first_number 0 n ns text fits.0 in
      let plain : eqb (get_or s number.next 0) (code "!") ≡ false = rw (byte_here s number.next _ number.left) (no_mark ns) in
      rw (no_epoch s lead n number.next number.is plain) (behind_first 0 n ns number.next fits.1 few number.left)
  head_back (suc epoch) (n ∷ ns) fit fits some few text =
      let mark : s ≡ decimal (suc epoch) ++ (code "!" ∷ (joined_all (map decimal (n ∷ ns)) ++ rest)) =
      text ∙ append_assoc (decimal (suc epoch)) _ _ in
      let lead : lead_end s ≡ 0 = rw mark (no_lead (suc epoch) _) in
      let first = number_here s 0 (suc epoch) _ mark fit refl in
      let marked = byte_here s first.next _ first.left in
      let number = first_number (first.next + 1) n ns (further s first.next _ first.left 1) fits.0 in
      rw (some_epoch s lead (suc epoch) n first.next number.next first.is marked number.is)
      (behind_first (suc epoch) n ns number.next fits.1 few number.left)
