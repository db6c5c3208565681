-- A reader in lent bytes, by the ways of `take`, `end`, `said` and `text`.
-- Assumes nothing.
use mathlib.Core.Path.{◌≡◌, refl, sym, ap, ◌∙◌}
use mathlib.Core.Bool.{Bool, true, false, cond}
use mathlib.Core.List.{List, ◌++◌}
use Prim.Native.Nat.{ℕ, ◌+◌, ◌-◌, ◌≤◌, ◌<◌}
use native.Mathlib.Omega.{arith}
use lib.Dec.{ltb}
use lib.ListN.{length, take, drop}
use lib.Seq.{sets, length-sets, length-take-le, take_at, take-take}
use borrow.Author.Tests.{lt-ltb, le-ltb, ltb-false}
use Rattle.version_reading.specs.Reading.{version_of}
use Rattle.fragment_rules.specs.declared.answer.Answer.{Answer}
use Rattle.fragment_rules.specs.Reader.{Said, counted, given, marked, nothing, said_by, settled, taken, too_long}
use Rattle.fragment_rules.specs.Lent.{lent, reader_in, text_in}
use Rattle.fragment_rules.proofs.Kept.{ended_settled, taken_behind}
use Rattle.fragment_reader.specs.Hold.{reader_by}
use Rattle.fragment_reader.proofs.Answers.{first_part}
use Rattle.fragment_reader.proofs.Bytes.{held_in}
use Rattle.fragment_reader.proofs.Takes.{added_before}

-- what a test picks, where that is the test itself
same : (b : Bool) → b ≡ cond b true false
same true = refl
same false = refl

pub lent_marked : (s new : List ℕ) (count : ℕ) → count ≡ (reader_in s).count → new ≡ lent (reader_by (take 1024 s) count true) → new ≡ lent (marked (reader_in s))
unfolding lent reader_in
lent_marked s new count e f = rw (← e) f

module _ (s lump new : List ℕ) (count : ℕ) (ended : Bool) (e : count ≡ (reader_in s).count) (f : ended ≡ (reader_in s).ended) where
  -- after the end mark
  pub settled_behind : ended ≡ true → true ≡ settled (taken (reader_in s) lump)
  settled_behind t = rw (taken_behind (reader_in s) lump (sym f ∙ t)) (sym (ended_settled (reader_in s) (sym f ∙ t)))

  as_read : new ≡ lent (reader_by (take 1024 s) count ended) → new ≡ lent (reader_in s)
  unfolding lent reader_in
  as_read g = rw (← e, ← f) g

  pub lent_behind : ended ≡ true → new ≡ lent (reader_by (take 1024 s) count true) → new ≡ lent (taken (reader_in s) lump)
  lent_behind t g = rw (taken_behind (reader_in s) lump (sym f ∙ t)) (as_read (rw t g))

  -- before it
  module _ (t : ended ≡ false) (mid : List ℕ) (came : ℕ) (h : came ≡ counted (count + length lump)) where
    pub settled_before : ltb 1024 came ≡ settled (taken (reader_in s) lump)
    settled_before = rw (added_before (reader_in s) lump (sym f ∙ t), ← e, ← h) (same (ltb 1024 came))

    pub lent_before : length s ≡ 1027 → mid ≡ sets (take 1024 s) count lump ++ drop 1024 s → new ≡ lent (reader_by (take 1024 mid) came false) → new ≡ lent (taken (reader_in s) lump)
    unfolding lent reader_in
    lent_before size m g =
        let long = length-sets (take 1024 s) count lump ∙ length-take-le 1024 s (omega (arith, size)) in
        let kept : take 1024 mid ≡ sets (take 1024 s) count lump = ap (take 1024) m ∙ take_at _ (drop 1024 s) 1024 long in
        rw (added_before (reader_in s) lump (sym f ∙ t), ← e, ← h, ← kept) g

module _ (s part : List ℕ) (count : ℕ) (e : count ≡ (reader_in s).count) where
  pub text_over : 1024 < count → part ≡ take (count - 0) (drop 0 s) → part ≡ text_in s
  unfolding text_in
  text_over h p = rw (← e, lt-ltb 1024 count h) (first_part s part count p)

  module _ (ended : Bool) (f : ended ≡ (reader_in s).ended) (h : count ≤ 1024) where
    pub text_ended : ended ≡ true → part ≡ take (count - 0) (drop 0 s) → part ≡ text_in s
    unfolding text_in
    text_ended t p = rw (← e, le-ltb 1024 count h, ← f, t) (first_part s part count p)

    pub text_unended : ended ≡ false → part ≡ take 0 (drop 0 s) → part ≡ text_in s
    unfolding text_in
    text_unended t p = rw (← e, le-ltb 1024 count h, ← f, t) p

-- a text that is read lies before the mark
pub lent_said : (s : List ℕ) (count : ℕ) (ended : Bool) (a : Answer) → count ≡ (reader_in s).count → ended ≡ (reader_in s).ended →
    Said (said_by (reader_by s count ended)) a → Said (said_by (reader_in s)) a
unfolding said_by
lent_said s count ended a e f h = rw (← e, ← f, held_in s) (go (ltb 1024 count) refl)
  where
    go : (b : Bool) → ltb 1024 count ≡ b → Said (cond (ltb 1024 count) too_long (cond ended (given (version_of (take count (take 1024 s)))) nothing)) a
    go true t = rw t (rw t at h)
    go false t = rw (take-take count 1024 s (ltb-false 1024 count t)) h
