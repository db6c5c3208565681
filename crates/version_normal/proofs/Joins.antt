-- Joined texts, as a loop writes them after the first: what is written is as many of them as the loop has come by.
-- Assumes nothing.
use Rattle.std.proofs.Common.{◌≡◌, refl, sym, ap, ◌∙◌, ℕ, zero, suc, ◌+◌, ◌-◌, ◌*◌, ◌^◌, ◌≤◌, ◌<◌, List, [], ◌∷◌, ◌++◌, append-nil, append_assoc, add-zero, add_comm, add-one, arith, length, get_or, take, drop, min}
use Rattle.std.proofs.lemmas.List.{get_or-take, length-take-le, length-drop}
use Rattle.std.proofs.lemmas.Grind.{get_or_after_one}
use Rattle.decimal.specs.Put.{Wrote}
use Rattle.decimal.proofs.Puts.{nothing, then, retext}
use Rattle.decimal.specs.Digits.{decimal}
use Rattle.version_parts.specs.declared.fields.Release.{Release}
use Rattle.version_parts.specs.declared.fields.Local.{Local}
use Rattle.version_reading.specs.Segment.{segment_bytes}
use Rattle.version_normal.specs.Normal.{dotted, joined, release_text, segment_text, labelled, label_text}

dotted_more : (text : ℕ → List ℕ) (i n : ℕ) → dotted text i (suc n) ≡ dotted text i n ++ (46 ∷ text (i + n))
unfolding dotted
dotted_more text i zero = rw (append-nil, add-zero)
dotted_more text i (suc n) =
    let place : suc i + n ≡ i + suc n = omega arith in
    rw (dotted_more text (suc i) n, place, append_assoc)

joined_more : (text : ℕ → List ℕ) (n : ℕ) → 1 ≤ n → joined text (n + 1) ≡ joined text n ++ (46 ∷ text n)
unfolding joined
joined_more text zero h = absurd (omega arith)
joined_more text (suc n) h = let place : 1 + n ≡ suc n = omega arith in rw (add-one (suc n), dotted_more text 1 n, place, append_assoc)

module _ {a b : List ℕ} {i j : ℕ} (text : ℕ → List ℕ) where
  pub join_start : Wrote a i (text 0) b j → Wrote a i (joined text 1) b j
  unfolding joined dotted
  join_start p = retext (sym (append-nil (text 0))) p

  pub join_next : {c d : List ℕ} {k l : ℕ} (n : ℕ) → Wrote a i (joined text n) b j → 1 ≤ n → Wrote b j (46 ∷ []) c k → Wrote c k (text n) d l →
      Wrote a i (joined text (n + 1)) d l
  join_next n p h dot one = retext (sym (joined_more text n h)) (then p (then dot one))

-- the release, whose first `count` numbers are joined
module _ (r : Release) (count : ℕ) (e : count ≡ min r.len 16) where
  pub release_none : (l : List ℕ) (i : ℕ) → length l < 2 ^ 64 → i < 2 ^ 64 → count ≡ 0 → Wrote l i (release_text r) l i
  unfolding release_text joined
  release_none l i h g z = rw (← e, z) (nothing l i h g)

  -- number n + 1 is number n after the first
  module _ (n : ℕ) (some : count ≡ 0 → ⊥) (size : length r.numbers ≡ 16) where
    others : length (take (count - 1) (drop 1 r.numbers)) ≡ count - 1
    others = length-take-le (count - 1) (drop 1 r.numbers) (omega (arith, length-drop 1 r.numbers))

    pub release_next : {a b c d : List ℕ} {i j k l : ℕ} → Wrote a i (joined (λ k. decimal (get_or r.numbers k 0)) (n + 1)) b j →
        n < length (take (count - 1) (drop 1 r.numbers)) → Wrote b j (46 ∷ []) c k →
        Wrote c k (decimal (get_or (take (count - 1) (drop 1 r.numbers)) n 0)) d l →
        Wrote a i (joined (λ k. decimal (get_or r.numbers k 0)) (n + 1 + 1)) d l
    release_next p h dot one =
        let few : n < count - 1 = omega (arith, others) in
        let place : get_or (take (count - 1) (drop 1 r.numbers)) n 0 ≡ get_or r.numbers (n + 1) 0 =
        get_or-take (count - 1) (drop 1 r.numbers) n 0 few ∙ get_or_after_one r.numbers n 0 ∙ rw (add_comm 1 n) in
        join_next (λ k. decimal (get_or r.numbers k 0)) (n + 1) p (omega arith) dot (rw place at one)

    -- the loop went over all the others
    module _ (h : n ≤ length (take (count - 1) (drop 1 r.numbers))) where
      pub release_near : (at j : ℕ) → j ≤ at + 21 * (n + 1) → j ≤ at + 336
      release_near at j g = omega (arith, others)

      pub release_done : (a b : List ℕ) (i j : ℕ) → Wrote a i (joined (λ k. decimal (get_or r.numbers k 0)) (n + 1)) b j →
          length (take (count - 1) (drop 1 r.numbers)) ≤ n → Wrote a i (release_text r) b j
      unfolding release_text
      release_done a b i j p g =
          let all : n + 1 ≡ count = omega (arith, others) in
          rw (← e, ← all) p

-- the label, whose first `count` segments are joined after a plus; x is the bytes of a segment
module _ (s : List ℕ) (l : Local) where
  pub label_start : {a b c x : List ℕ} {i j k : ℕ} → Wrote a i (43 ∷ []) b j → x ≡ segment_bytes s l 0 → Wrote b j (segment_text x) c k →
      Wrote a i (43 ∷ joined (λ k. segment_text (segment_bytes s l k)) 1) c k
  label_start plus f p = then plus (join_start (λ k. segment_text (segment_bytes s l k)) (rw f at p))

  pub label_next : {a b c d x : List ℕ} {i j k m : ℕ} (n : ℕ) → Wrote a i (43 ∷ joined (λ k. segment_text (segment_bytes s l k)) n) b j → 1 ≤ n →
      Wrote b j (46 ∷ []) c k → x ≡ segment_bytes s l n → Wrote c k (segment_text x) d m →
      Wrote a i (43 ∷ joined (λ k. segment_text (segment_bytes s l k)) (n + 1)) d m
  label_next n p h dot f one =
      let more = joined_more (λ k. segment_text (segment_bytes s l k)) n h in
      retext (ap (λ (x : List ℕ). 43 ∷ x) (sym more)) (then p (then dot (rw f at one)))

  module _ (count : ℕ) (e : count ≡ min l.len 16) where
    pub label_none : (a : List ℕ) (i : ℕ) → length a < 2 ^ 64 → i < 2 ^ 64 → count ≡ 0 → Wrote a i (label_text s l) a i
    unfolding label_text
    label_none a i h g z = rw (← e, z) (nothing a i h g)

    -- the loop went over all the segments
    module _ (n : ℕ) (some : count ≡ 0 → ⊥) (within : 1 ≤ count → n ≤ count) where
      pub label_near : (at j : ℕ) → j ≤ at + 65556 * n → j ≤ at + 1048897
      label_near at j g = let few : n ≤ count = within (omega arith) in omega arith

      pub label_done : (a b : List ℕ) (i j : ℕ) → Wrote a i (43 ∷ joined (λ k. segment_text (segment_bytes s l k)) n) b j → count ≤ n →
          Wrote a i (label_text s l) b j
      unfolding label_text
      label_done a b i j p h =
          let few : n ≤ count = within (omega arith) in
          let all : n ≡ count = omega arith in
          rw (← e) (go count some (rw all at p))
        where
          go : (m : ℕ) → (m ≡ 0 → ⊥) → Wrote a i (43 ∷ joined (λ k. segment_text (segment_bytes s l k)) m) b j →
              Wrote a i (labelled (λ k. segment_text (segment_bytes s l k)) m) b j
          go zero none w = absurd (none refl)
          go (suc m) some w = w
