-- What is read as a record is one, byte for byte; a record that is cut is none; and nothing is there exactly if the text has ended.
-- Assumes nothing.
use mathlib.Core.Path.{◌≡◌, refl, sym, ◌∙◌, ap}
use mathlib.Core.Logic.{◌↔◌}
use mathlib.Core.Bool.{Bool, true, false, cond}
use mathlib.Core.List.{List, [], ◌∷◌, ◌++◌, append_assoc}
use Prim.Native.Nat.{ℕ, ◌+◌, ◌*◌, ◌/◌, ◌%◌, ◌-◌, ◌≤◌, ◌<◌}
use native.Mathlib.Numerals.{add-one}
use native.Mathlib.Omega.{arith}
use lib.Dec.{leb, ltb}
use lib.ListN.{length, get_or, drop, length-drop, take-append-drop}
use lib.Seq.{drop-cons, drop-drop, length-take-le}
use borrow.Author.Tests.{leb-true, leb-false, ltb-false}
use Rattle.records.specs.declared.record.RecordAt.{RecordAt}
use Rattle.records.specs.declared.record.RecordAt.TheVariants.{Found, Cut, Nothing}
use Rattle.records.specs.Record.{two_bytes_of, two_at, head_text, record_text, record_at, body_of}
use Rattle.records.proofs.Reading.{record_past}
use Rattle.records.proofs.Readback.{Here, record_here}

two_again : (low high : ℕ) → low < 256 → high < 256 → two_bytes_of (low + 256 * high) ≡ low ∷ high ∷ []
unfolding two_bytes_of
two_again low high l h =
    let first : (low + 256 * high) % 256 ≡ low = omega arith in
    let over : (low + 256 * high) / 256 ≡ high = omega arith in
    let second : high % 256 ≡ high = omega arith in
    rw (first, over, second)

module _ (s : List ℕ) where
  one_byte : (i j : ℕ) → j ≡ i + 1 → i < length s → drop i s ≡ get_or s i 0 ∷ drop j s
  one_byte i j e h = rw (e, add-one, drop-cons s i 0)

  module _ (at : ℕ) where
    pub record FoundAt (kind start next : ℕ) : Type 0 where
      pub kind_is : kind ≡ two_at s (at + 2)
      pub start_is : start ≡ at + 4
      pub next_is : next ≡ at + 4 + two_at s at
      pub within : at + 4 + two_at s at ≤ length s

    -- what each answer says of the place
    abbrev Says : RecordAt → Type 0
    Says (Found kind start next) = FoundAt kind start next
    Says Cut = at < length s
    Says Nothing = length s ≤ at

    record_says : Says (record_at s at)
    unfolding record_at
    record_says = go (leb (length s) at) (ltb (length s) (at + 4 + two_at s at)) refl refl
      where
        go : (past cut : Bool) → leb (length s) at ≡ past → ltb (length s) (at + 4 + two_at s at) ≡ cut →
            Says (cond past Nothing (cond cut Cut (Found (two_at s (at + 2)) (at + 4) (at + 4 + two_at s at))))
        go true cut e f = leb-true _ _ e
        go false true e f = leb-false _ _ e
        go false false e f = record { kind_is = refl; start_is = refl; next_is = refl; within = ltb-false _ _ f }

    pub found_at : (kind start next : ℕ) → record_at s at ≡ Found kind start next → FoundAt kind start next
    found_at kind start next e = rw e at record_says

    pub nothing_exactly : (record_at s at ≡ Nothing) ↔ (length s ≤ at)
    nothing_exactly = (λ e. rw e at record_says, λ h. sym (record_past s at h))

    -- some bytes are there, and they are no record, whatever its kind and its body
    pub cut_some : record_at s at ≡ Cut → at < length s
    cut_some e = rw e at record_says

    pub cut_no_record : record_at s at ≡ Cut → (kind : ℕ) (body rest : List ℕ) → kind < 65536 → length body < 65536 →
        Here s at (record_text kind body ++ rest) → ⊥
    cut_no_record e kind body rest small short here =
        let found = record_here s at kind body rest here small short in
        let z : ◌≡◌ {A = ℕ} 0 1 = cc in
        omega arith

    module _ (bytes : (i : ℕ) → get_or s i 0 < 256) where
      two_stand : (i : ℕ) → two_bytes_of (two_at s i) ≡ get_or s i 0 ∷ get_or s (i + 1) 0 ∷ []
      two_stand i = two_again (get_or s i 0) (get_or s (i + 1) 0) (bytes i) (bytes (i + 1))

      four_stand : at + 4 ≤ length s → drop at s ≡ (two_bytes_of (two_at s at) ++ two_bytes_of (two_at s (at + 2))) ++ drop (at + 4) s
      four_stand h =
          let second = one_byte (at + 1) (at + 2) (omega arith) (omega arith) in
          let third = one_byte (at + 2) (at + 2 + 1) refl (omega arith) in
          let fourth = one_byte (at + 2 + 1) (at + 4) (omega arith) (omega arith) in
          rw (two_stand at, two_stand (at + 2)) (one_byte at (at + 1) refl (omega arith) ∙ rw (second, third, fourth))

      body_stands : (len : ℕ) → at + 4 + len ≤ length s →
          (length (body_of s (at + 4) (at + 4 + len)) ≡ len) × (drop (at + 4) s ≡ body_of s (at + 4) (at + 4 + len) ++ drop (at + 4 + len) s)
      body_stands len h =
          let size : at + 4 + len - (at + 4) ≡ len = omega arith in
          rw (size, ← drop-drop len (at + 4) s)
          (length-take-le len (drop (at + 4) s) (omega (arith, length-drop (at + 4) s)), sym (take-append-drop len (drop (at + 4) s)))

      -- the bytes from `at` on are the record's, and what follows them
      pub record_stands : (kind start next : ℕ) → record_at s at ≡ Found kind start next → drop at s ≡ record_text kind (body_of s start next) ++ drop next s
      unfolding record_text
      record_stands kind start next e =
          let f = found_at kind start next e in
          let b = body_stands (two_at s at) f.within in
          let head = head_text (two_at s at) (two_at s (at + 2)) in
          rw (f.kind_is, f.start_is, f.next_is, b.0)
          (four_stand (omega (arith, f.within)) ∙ ap (λ rest. head ++ rest) b.1 ∙ sym (append_assoc head _ _))
