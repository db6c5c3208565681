-- Entries in an array: what is held is read again, one more goes after the others, and what lies after the first 65 is not held.
-- Assumes nothing.
use mathlib.Core.Path.{◌≡◌, sym, ◌∙◌, ap}
use mathlib.Core.List.{List, [], ◌∷◌, ◌++◌, append_assoc}
use Prim.Native.Nat.{ℕ, ◌+◌, ◌≤◌, ◌<◌, min}
use native.Mathlib.Decide.{dec_lt}
use native.Mathlib.Numerals.{add-one}
use native.Mathlib.Omega.{arith}
use lib.ListN.{length, get_or, take, set, replicate, length-append, length-take, length-replicate, replicate-append-replicate}
use lib.Seq.{take-suc, get_or-take, take-take, take-append-le, take-length, take_all, take-set-lt, set-append_seam, append_snoc}
use borrow.Author.Tests.{lt-ltb, le-ltb}
use Rattle.register_entries.specs.declared.entry.Entry.{Entry}
use Rattle.register_entries.specs.declared.held.Held.{Held}
use Rattle.register_entries.specs.Held.{blank, held_of, entries_in, with_entry}

-- what is held is read again
pub entries_again : (es : List Entry) → entries_in (held_of es) ≡ take 65 es
unfolding entries_in held_of
entries_again es =
    let m = length (take 65 es) in
    let size = length-take 65 es in
    take-take m 65 (es ++ replicate 65 blank) (omega arith)
    ∙ take-append-le m es (replicate 65 blank) (omega arith)
    ∙ sym (take-take m 65 es (omega arith))
    ∙ take-length (take 65 es)

-- two that are made are the same by their fields
same : {l k : List Entry} {m n : ℕ} → l ≡ k → m ≡ n → ◌≡◌ {A = Held} (record { list = l; count = m }) (record { list = k; count = n })
same e f = rw (e, f)

-- only the first 65 count
same_first : (es fs : List Entry) → 65 ≤ length es → 65 ≤ length fs → take 65 es ≡ take 65 fs → held_of es ≡ held_of fs
unfolding held_of
same_first es fs h k e =
    same (take-append-le 65 es (replicate 65 blank) h ∙ e ∙ sym (take-append-le 65 fs (replicate 65 blank) k)) (rw e)

-- what stands after the first 65 is not held
pub first_held : (es : List Entry) (n : ℕ) → min (length es) 65 ≤ n → held_of (take n es) ≡ held_of es
first_held es n h =
    elim (dec_lt n (length es)) [
      | yes k ↦
          same_first (take n es) es (omega (arith, length-take n es)) (omega arith)
          (take-take 65 n es (omega arith))
      | no k ↦ rw (take_all n es (omega arith))
    ]

-- of a list that is not empty, 64 blanks after it are as good as 65
one_blank_less : (es : List Entry) → 0 < length es → take 65 (es ++ replicate 64 blank) ≡ take 65 (es ++ replicate 65 blank)
one_blank_less es h =
    let size = length-append es (replicate 64 blank) in
    let blanks = length-replicate 64 blank in
    sym (rw (← replicate-append-replicate 64 1 blank, ← append_assoc es (replicate 64 blank) (replicate 1 blank))
    (take-append-le 65 (es ++ replicate 64 blank) (replicate 1 blank) (omega arith)))

stored : (es : List Entry) (e : Entry) → length es < 65
    → set (take 65 (es ++ replicate 65 blank)) (length es) e ≡ take 65 ((es ++ (e ∷ [])) ++ replicate 65 blank)
stored es e h =
    sym (take-set-lt 65 (es ++ replicate 65 blank) (length es) e h)
    ∙ rw (set-append_seam es blank (replicate 64 blank) e, ← append_snoc es e (replicate 64 blank))
    (one_blank_less (es ++ (e ∷ [])) (omega (arith, length-append es (e ∷ []))))

-- one more after the others
pub one_more : (es : List Entry) (e : Entry) → with_entry (held_of es) e ≡ held_of (es ++ (e ∷ []))
unfolding with_entry held_of
one_more es e =
    let size = length-append es (e ∷ []) in
    let some = length-take 65 es in
    let more = length-take 65 (es ++ (e ∷ [])) in
    elim (dec_lt (length es) 65) [
      | yes h ↦
          rw (lt-ltb (length (take 65 es)) 65 (omega arith))
          (same (rw (take_all 65 es (omega arith)) (stored es e h)) (omega arith))
      | no h ↦
          rw (le-ltb (length (take 65 es)) 65 (omega arith))
          (same_first es (es ++ (e ∷ [])) (omega arith) (omega arith) (sym (take-append-le 65 es (e ∷ []) (omega arith))))
    ]

-- a list by value that is lent
pub held_whole : (h : Held) → length h.list ≡ 65 → take (min h.count 65) h.list ≡ entries_in h
unfolding entries_in
held_whole h l =
    elim (dec_lt h.count 65) [
      | yes k ↦ let n : min h.count 65 ≡ h.count = omega arith in rw n
      | no k ↦ take_all (min h.count 65) h.list (omega arith) ∙ sym (take_all h.count h.list (omega arith))
    ]

-- the turn of `gathered`, over the first n entries
module _ (n : ℕ) (es first : List Entry) (f : first ≡ take n es) (i : ℕ) where
  few : length first ≡ min n (length es)
  few = ap length f ∙ length-take n es

  pub gathers_turn : (d : Entry) → i < length first → with_entry (held_of (take i es)) (get_or first i d) ≡ held_of (take (i + 1) es)
  gathers_turn d h =
      let same : get_or first i d ≡ get_or es i d = ap (λ l. get_or l i d) f ∙ get_or-take n es i d (omega (arith, few)) in
      one_more (take i es) (get_or first i d)
      ∙ rw (same, add-one, take-suc es i d (omega (arith, few)))

-- and its end: 65 of them are enough
pub gathers_end : (es first : List Entry) (i : ℕ) (held : Held) → first ≡ take (min (length es) 65) es → length first ≤ i → held ≡ held_of (take i es) → held ≡ held_of es
gathers_end es first i held f h e = e ∙ first_held es i (omega (arith, few _ es first f i))
