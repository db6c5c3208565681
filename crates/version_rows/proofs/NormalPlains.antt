-- The ways of the functions that read a plain version in normal text, and what is found: the version whose normal text it is.
-- Assumes nothing.
use Rattle.std.specs.Prelude.{Option, None, Some}
use mathlib.Core.Path.{◌≡◌, refl, sym, ◌∙◌, ap}
use mathlib.Core.List.{List, [], ◌∷◌, ◌++◌, append_assoc, append-nil}
use Prim.Native.Nat.{ℕ, ◌≤◌}
use native.Mathlib.Omega.{arith}
use lib.ListN.{length, drop, drop_of_length-le, length-take, replicate}
use Rattle.chars.specs.Text.{ascii}
use Rattle.chars.specs.declared.spelling.PreKind.{PreKind}
use Rattle.decimal.specs.Digits.{decimal}
use Rattle.version_reading.specs.declared.plain.PlainHead.{PlainHead}
use Rattle.version_reading.specs.declared.plain.Plain.{Plain}
use Rattle.version_reading.specs.Plain.{Filled, plain_head, no_head, plain_with, whole_version}
use Rattle.version_reading.specs.Value.{listed, value_of}
use Rattle.version_normal.specs.Normal.{epoch_text, pre_text, part_text}
use Rattle.version_roundtrip.specs.Text.{from_pre, value_text}
use Rattle.version_roundtrip.specs.Readable.{Fits, PreFits, PartFits, Readable}
use Rattle.version_rows.specs.declared.figures.PartAt.{PartAt}
use Rattle.version_rows.specs.declared.normal_plain.PreAt.{PreAt}
use Rattle.version_rows.specs.Normal.{normal_value}
use Rattle.version_rows.specs.NormalPlain.{PartRead, PreRead, TwoRead, HeadRead, NormalPlain}
use Rattle.version_rows.proofs.Written.{normal_here}

-- the ways of `head_of`
pub head_none : (s : List ℕ) (r : PlainHead) → r ≡ no_head → HeadRead s r
head_none s r g = rw g (record { written = refl; within = omega arith; fits = tt; few = omega arith; filled = Filled.none refl refl refl refl refl })

module _ (s : List ℕ) (a : ℕ) (one : PartAt) (p : PartRead s (drop 0 s) [] one) (e : one.part ≡ Some a) where
  one_fits : Fits a
  one_fits = rw e at p.fits

  from_one : s ≡ decimal a ++ drop one.next s
  from_one = rw e at p.written

  pub head_one : (r : PlainHead) → r ≡ plain_head 1 a 0 0 0 one.next → HeadRead s r
  head_one r g = rw g (record {
    written = from_one ∙ sym (simp append-nil);
    within = p.within;
    fits = (one_fits, tt);
    few = omega arith;
    filled = Filled.one refl refl refl refl;
  })

  pub two_read : (b : ℕ) (two : PartAt) → PartRead s (drop one.next s) (46 ∷ []) two → two.part ≡ Some b → TwoRead s a b two.next
  two_read b two q f = record {
    written = from_one ∙ ap (λ (t : List ℕ). decimal a ++ t) (rw f at q.written);
    within = q.within;
    one = one_fits;
    two = rw f at q.fits;
  }

-- the ways of `after_second`
module _ (s : List ℕ) (a b at : ℕ) (p : TwoRead s a b at) where
  pub head_two : (r : PlainHead) → r ≡ plain_head 2 a b 0 0 at → HeadRead s r
  head_two r g = rw g (record {
    written = p.written ∙ sym (simp (append_assoc, append-nil));
    within = p.within;
    fits = (p.one, (p.two, tt));
    few = omega arith;
    filled = Filled.two refl refl refl;
  })

  module _ (c : ℕ) (three : PartAt) (q : PartRead s (drop at s) (46 ∷ []) three) (f : three.part ≡ Some c) where
    three_fits : Fits c
    three_fits = rw f at q.fits

    from_three : s ≡ decimal a ++ (46 ∷ (decimal b ++ (46 ∷ (decimal c ++ drop three.next s))))
    from_three = p.written ∙ ap (λ (t : List ℕ). decimal a ++ (46 ∷ (decimal b ++ t))) (rw f at q.written)

    pub head_three : (r : PlainHead) → r ≡ plain_head 3 a b c 0 three.next → HeadRead s r
    head_three r g = rw g (record {
      written = from_three ∙ sym (simp (append_assoc, append-nil));
      within = q.within;
      fits = (p.one, (p.two, (three_fits, tt)));
      few = omega arith;
      filled = Filled.three refl refl;
    })

    pub head_four : (d : ℕ) (four : PartAt) → PartRead s (drop three.next s) (46 ∷ []) four → four.part ≡ Some d →
        (r : PlainHead) → r ≡ plain_head 4 a b c d four.next → HeadRead s r
    head_four d four u i r g = rw g (record {
      written =
          from_three
          ∙ ap (λ (t : List ℕ). decimal a ++ (46 ∷ (decimal b ++ (46 ∷ (decimal c ++ t))))) (rw i at u.written)
          ∙ sym (simp (append_assoc, append-nil));
      within = u.within;
      fits = (p.one, (p.two, (three_fits, (rw i at u.fits, tt))));
      few = omega arith;
      filled = Filled.four refl;
    })

-- the ways of `suffixed` and `read_normal_plain`
module _ (s : List ℕ) (h : PlainHead) (p : HeadRead s h) (some-there : h.count ≡ 0 → ⊥) where
  module _ (pre : Option (PreKind × ℕ)) (post dev : Option ℕ) (a : PreFits pre) (b : PartFits post) (c : PartFits dev) (rest : drop h.at s ≡ from_pre pre post dev []) where
    readable : Readable (value_of [] (whole_version (plain_with h pre post dev)))
    unfolding value_of listed
    readable =
        let size = length-take h.count (h.first ∷ h.second ∷ h.third ∷ h.fourth ∷ replicate 12 0) in
        record {
          epoch = omega arith;
          some = omega (arith, size, p.few);
          few = omega (arith, size, p.few);
          release = p.fits;
          pre = a;
          post = b;
          dev = c;
          short = omega arith;
          label = tt;
        }

    text_is : s ≡ value_text (value_of [] (whole_version (plain_with h pre post dev)))
    unfolding value_text epoch_text value_of listed
    text_is = p.written ∙ rw rest

    said_is : normal_value s ≡ Some (value_of [] (whole_version (plain_with h pre post dev)))
    unfolding value_of listed
    said_is = ap normal_value text_is ∙ normal_here _ (record { readable = readable; unlabelled = refl })

    found_is : (v : Plain) → v ≡ plain_with h pre post dev → NormalPlain s v
    found_is v g = rw g (record { said = said_is; filled = p.filled })

  ended : (at : ℕ) → at ≡ length s → drop at s ≡ []
  ended at e = let past : length s ≤ at = omega arith in drop_of_length-le s past

  pub plain_release : (v : Plain) → h.at ≡ length s → v ≡ plain_with h None None None → NormalPlain s v
  plain_release v e = found_is None None None tt tt tt (ended h.at e) v

  pub plain_suffix : (pre : PreAt) (post dev : PartAt) → PreRead s h.at pre →
      PartRead s (drop pre.next s) (ascii ".post") post → PartRead s (drop post.next s) (ascii ".dev") dev →
      dev.next ≡ length s → (v : Plain) → v ≡ plain_with h pre.pre post.part dev.part → NormalPlain s v
  plain_suffix pre post dev a b c e v =
      found_is pre.pre post.part dev.part a.fits b.fits c.fits
      (a.written ∙ ap (λ (t : List ℕ). pre_text pre.pre ++ t)
      (b.written ∙ ap (λ (t : List ℕ). part_text (ascii ".post") post.part ++ t)
      (c.written ∙ ap (λ (t : List ℕ). part_text (ascii ".dev") dev.part ++ t) (ended dev.next e))))
      v
