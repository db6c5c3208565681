-- An array of 65 that holds a list's first entries: how long it is, how many are held, and that a list cut there is held the same.
-- Assumes nothing.
use mathlib.Core.Path.{◌≡◌, sym, ◌∙◌}
use mathlib.Core.List.{List, map}
use Prim.Native.Nat.{min}
use native.Mathlib.Decide.{dec_lt}
use native.Mathlib.Omega.{arith}
use lib.ListN.{length, take, replicate, length-map, length-take}
use lib.Seq.{take-take, take-append-le, take_all}
use Rattle.register_entries.specs.declared.entry.Entry.{Entry}
use Rattle.register_entries.specs.Held.{blank, held_of}

-- the array of a struct's field is as long as its image, which is what owning the struct tells
pub held_long : {A B : Type 0} (f : A → B) (l : List A) → length (map f l) ≡ 65 → length l ≡ 65
held_long f l e = sym (length-map l f) ∙ e

-- 65 tells a list over 64
pub held_count : (es : List Entry) → (held_of es).count ≡ min 65 (length es)
unfolding held_of
held_count es = length-take 65 es

-- a loop that goes through a list, and gathers its first entries
pub gather_end : (es : List Entry) → held_of (take (min (length es) 65) es) ≡ held_of es
unfolding held_of
gather_end es =
    elim (dec_lt (length es) 65) [
      | yes h ↦ rw (take_all (min (length es) 65) es (omega arith))
      | no h ↦
          let n : min (length es) 65 ≡ 65 = omega arith in
          let size = length-take 65 es in
          rw (
            n,
            take-append-le 65 (take 65 es) (replicate 65 blank) (omega arith),
            take-append-le 65 es (replicate 65 blank) (omega arith),
            take-take 65 65 es (omega arith),
          )
    ]
