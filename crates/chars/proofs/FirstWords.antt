-- Searching words one after the other: what the first of the words decides, the word that the chain of `first_word` finds, and what it says of the words in their order.
-- Assumes nothing.
use mathlib.Core.Path.{◌≡◌, refl, sym, ◌∙◌}
use mathlib.Core.Bool.{Bool, true, false, cond, not}
use mathlib.Core.List.{List, [], ◌∷◌, map}
use Prim.Native.Nat.{ℕ, suc, ◌+◌, ◌-◌, ◌≤◌, ◌<◌}
use native.Mathlib.Omega.{arith}
use lib.Dec.{eqb}
use lib.ListN.{length, length-drop, take, drop}
use lib.Seq.{take-length, drop-drop}
use borrow.Author.Tests.{eq-eqb, ne_eqb, eqb-true, eqb-false}
use Rattle.std.specs.Prelude.{Option, None, Some}
use native.Mathlib.Numerals.{add-one}
use Rattle.chars.proofs.Beginnings.{beginning_within}
use Rattle.chars.proofs.Scans.{found_as}
use Rattle.std.specs.List.{slice_split, onto_first, enumerate_from, find}
use Rattle.chars.specs.Scan.{index_of, index_after}
use Rattle.chars.specs.Case.{starts_with, beginning_of}
use Rattle.chars.specs.Words.{onto, words_in, first_in, WordFound, length_found}

-- the words of a text that has no blank, and of one that has
last_by : (b : ℕ) (s : List ℕ) (t : Bool) → index_after t (index_of 32 s) ≡ suc (length s) → (index_of 32 s ≡ length s → words_in s ≡ s ∷ []) →
    cond t ([] ∷ words_in s) (onto b (words_in s)) ≡ (b ∷ s) ∷ []
unfolding index_after
last_by b s true e more = absurd (omega arith)
last_by b s false e more = rw (more (omega arith))

last_word : (s : List ℕ) → index_of 32 s ≡ length s → words_in s ≡ s ∷ []
unfolding words_in index_of
last_word [] e = refl
last_word (b ∷ s) e = last_by b s (eqb b 32) e (last_word s)

next_by : (b : ℕ) (s : List ℕ) (t : Bool) → index_after t (index_of 32 s) < suc (length s) →
    (index_of 32 s < length s → words_in s ≡ take (index_of 32 s) s ∷ words_in (drop (suc (index_of 32 s)) s)) →
    cond t ([] ∷ words_in s) (onto b (words_in s))
    ≡ take (index_after t (index_of 32 s)) (b ∷ s) ∷ words_in (drop (suc (index_after t (index_of 32 s))) (b ∷ s))
unfolding index_after
next_by b s true h more = refl
next_by b s false h more = rw (more (omega arith))

next_word : (s : List ℕ) → index_of 32 s < length s → words_in s ≡ take (index_of 32 s) s ∷ words_in (drop (suc (index_of 32 s)) s)
unfolding words_in index_of
next_word [] h = absurd (omega arith)
next_word (b ∷ s) h = next_by b s (eqb b 32) h (next_word s)

-- the first word decides, or the words after it do
data Front (s : List ℕ) : List (List ℕ) → Type 0 where
  alone : index_of 32 s ≡ length s → Front s (s ∷ [])
  more : index_of 32 s < length s → Front s (take (index_of 32 s) s ∷ words_in (drop (suc (index_of 32 s)) s))

front_by : (s : List ℕ) (t : Bool) → eqb (index_of 32 s) (length s) ≡ t → Front s (words_in s)
front_by s true e = let all = eqb-true _ _ e in rw (last_word s all) (Front.alone all)
front_by s false e =
    let found = found_as s 0 32 s _ refl refl in
    let some : index_of 32 s < length s = omega (arith, found.is, found.within, eqb-false (index_of 32 s) (length s) e) in
    rw (next_word s some) (Front.more some)

first_by : (s rest : List ℕ) (which n : ℕ) (ws : List (List ℕ)) → Front s ws → n ≡ beginning_of (take (index_of 32 s) s) rest → (n ≡ 0 → ⊥) →
    Some (which, n) ≡ first_in which ws rest
unfolding first_in
first_by s rest which n ws (Front.alone all) e h =
    let whole : n ≡ beginning_of s rest = rw (all, take-length s) at e in rw (← whole, ne_eqb n 0 h)
first_by s rest which n ws (Front.more some) e h = rw (← e, ne_eqb n 0 h)

none_by : (s rest : List ℕ) (which n : ℕ) (ws : List (List ℕ)) → Front s ws → n ≡ beginning_of (take (index_of 32 s) s) rest → n ≡ 0 →
    index_of 32 s ≡ length s → None ≡ first_in which ws rest
unfolding first_in
none_by s rest which n ws (Front.alone all) e z f =
    let whole : n ≡ beginning_of s rest = rw (all, take-length s) at e in rw (← whole, eq-eqb n 0 z)
none_by s rest which n ws (Front.more some) e z f = absurd (omega arith)

next_from : (s rest : List ℕ) (which n : ℕ) (ws : List (List ℕ)) → Front s ws → n ≡ beginning_of (take (index_of 32 s) s) rest → n ≡ 0 →
    (index_of 32 s ≡ length s → ⊥) → first_in (suc which) (words_in (drop (suc (index_of 32 s)) s)) rest ≡ first_in which ws rest
unfolding first_in
next_from s rest which n ws (Front.alone all) e z f = absurd (f all)
next_from s rest which n ws (Front.more some) e z f = rw (← e, eq-eqb n 0 z)

-- from the word at a place on, which has a number and ends at `end`
module _ (words rest : List ℕ) (at which : ℕ) (t : Option (ℕ × ℕ)) (same : first_in which (words_in (drop at words)) rest ≡ t) (end len : ℕ)
    (h : at < length words) (ends : end ≡ at + index_of 32 (drop at words)) (f : len ≡ beginning_of (take (end - at) (drop at words)) rest) where
  begins : len ≡ beginning_of (take (index_of 32 (drop at words)) (drop at words)) rest
  begins = let size : end - at ≡ index_of 32 (drop at words) = omega arith in rw size at f

  front : Front (drop at words) (words_in (drop at words))
  front = front_by (drop at words) _ refl

  pub word_found : (len ≡ 0 → ⊥) → Some (which, len) ≡ t
  word_found z = first_by (drop at words) rest which len _ front begins z ∙ same

  pub words_done : len ≡ 0 → end ≡ length words → None ≡ t
  words_done z g = none_by (drop at words) rest which len _ front begins z (omega (arith, ends, length-drop at words)) ∙ same

  pub words_on : len ≡ 0 → (end ≡ length words → ⊥) → first_in (which + 1) (words_in (drop (end + 1) words)) rest ≡ t
  words_on z g =
      let left = length-drop at words in
      let other : index_of 32 (drop at words) ≡ length (drop at words) → ⊥ = λ q. g (omega (arith, ends, left, q)) in
      let further : drop (end + 1) words ≡ drop (suc (index_of 32 (drop at words))) (drop at words) =
      let sum : end + 1 ≡ at + suc (index_of 32 (drop at words)) = omega (arith, ends) in
      rw sum (sym (drop-drop (suc (index_of 32 (drop at words))) at words)) in
      rw (further, add-one which) (next_from (drop at words) rest which len _ front begins z other ∙ same)

-- the words of a text are the parts of its split
parts_are : (s : List ℕ) → slice_split (λ b. eqb b 32) s ≡ words_in s
unfolding words_in
parts_are [] = refl
parts_are (b ∷ s) = rw (parts_are s) (by (words_in s))
  where
    by : (ws : List (List ℕ)) → cond (eqb b 32) ([] ∷ ws) (onto_first b ws) ≡ cond (eqb b 32) ([] ∷ ws) (onto b ws)
    by [] = refl
    by (w ∷ ws) = refl

-- what the chain finds, as a word
abbrev pub word_of : Option (ℕ × ℕ) → Option (ℕ × ℕ)
word_of None = None
word_of (Some p) = Some (p.0, p.1)

abbrev lens_of : List (List ℕ) → List ℕ → List ℕ
lens_of ws rest = map (λ w. beginning_of w rest) ws

abbrev pub found_in : ℕ → List (List ℕ) → List ℕ → Option (ℕ × ℕ)
found_in which ws rest = find (λ (p : ℕ × ℕ). not (eqb p.1 0)) (enumerate_from which (lens_of ws rest))

first_is : (which : ℕ) (ws : List (List ℕ)) (rest : List ℕ) → word_of (found_in which ws rest) ≡ first_in which ws rest
unfolding first_in
first_is which [] rest = refl
first_is which (w ∷ ws) rest = by (eqb (beginning_of w rest) 0) (first_is (suc which) ws rest)
  where
    by : (t : Bool) → word_of (found_in (suc which) ws rest) ≡ first_in (suc which) ws rest →
        word_of (cond (not t) (Some (which, beginning_of w rest)) (found_in (which + 1) ws rest)) ≡ cond t (first_in (suc which) ws rest) (Some (which, (beginning_of w rest)))
    by true e = rw (add-one which) e
    by false e = refl

first_within : (which : ℕ) (ws : List (List ℕ)) (rest : List ℕ) → length_found (first_in which ws rest) ≤ length rest
unfolding first_in
first_within which [] rest = omega arith
first_within which (w ∷ ws) rest = by (eqb (beginning_of w rest) 0) (first_within (suc which) ws rest)
  where
    by : (t : Bool) → length_found (first_in (suc which) ws rest) ≤ length rest →
        length_found (cond t (first_in (suc which) ws rest) (Some (which, (beginning_of w rest)))) ≤ length rest
    by true h = h
    by false h = beginning_within w rest

-- r is what the chain finds, and x is what `first_word` makes of it
pub word_chained : (words rest : List ℕ) (r : Option (ℕ × ℕ)) (x : Option (ℕ × ℕ)) → r ≡ found_in 0 (slice_split (λ b. eqb b 32) words) rest → word_of r ≡ x →
    WordFound rest (first_in 0 (words_in words) rest) x
word_chained words rest r x e f =
    let is : x ≡ first_in 0 (words_in words) rest = sym f ∙ rw (e, parts_are words) (first_is 0 (words_in words) rest) in
    record { is = is; within = rw is (first_within 0 (words_in words) rest) }

-- what f makes of the word that is found: of the first of the words, tried in their order, each of which has a byte
abbrev pub tried_in : {A : Type 0} → (Option (ℕ × ℕ) → A) → ℕ → List (List ℕ) → List ℕ → A
tried_in f which [] s = f None
tried_in f which (w ∷ ws) s = cond (starts_with w s) (f (Some (which, (length w)))) (tried_in f (suc which) ws s)

abbrev AllBegin : List (List ℕ) → Type 0
AllBegin [] = Unit {0}
AllBegin (w ∷ ws) = (1 ≤ length w) × AllBegin ws

tried_by : {A : Type 0} (f : Option (ℕ × ℕ) → A) (t : Bool) (which n : ℕ) (a : A) (other : Option (ℕ × ℕ)) → 1 ≤ n → f other ≡ a →
    f (cond (eqb (cond t n 0) 0) other (Some (which, (cond t n 0)))) ≡ cond t (f (Some (which, n))) a
tried_by f true which n a other h e = rw (ne_eqb n 0 (λ z. omega arith))
tried_by f false which n a other h e = e

pub tried_first : {A : Type 0} (f : Option (ℕ × ℕ) → A) (which : ℕ) (ws : List (List ℕ)) (s : List ℕ) → AllBegin ws → f (first_in which ws s) ≡ tried_in f which ws s
unfolding first_in beginning_of
tried_first f which [] s h = refl
tried_first f which (w ∷ ws) s h = tried_by f (starts_with w s) which (length w) _ _ h.0 (tried_first f (suc which) ws s h.1)
