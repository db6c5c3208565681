-- The two lowest identifiers of the entries that accept a version, entry by entry from the first: right for those looked at so far, and then for
-- all. Assumes nothing.
use Rattle.answers.specs.declared.RefusedInput.TheVariants.{First, Second}
use Rattle.answers.specs.declared.RefusedInput.{RefusedInput}
use Rattle.std.specs.Prelude.{Result, Ok, Err}
use mathlib.Core.Path.{◌≡◌, refl, sym, ◌∙◌, ap}
use mathlib.Core.Bool.{Bool, true, false, false≢true, cond}
use mathlib.Core.List.{List, [], ◌∷◌}
use Prim.Native.Nat.{ℕ, zero, suc, ◌+◌, ◌≤◌, ◌<◌}
use native.Mathlib.Decide.{ℕ_discrete}
use native.Mathlib.Omega.{arith}
use lib.Dec.{ltb}
use lib.ListN.{length, drop, drop_of_length-le}
use lib.Seq.{drop-cons}
use borrow.Author.Tests.{ltb-true, ltb-false}
use Rattle.version.proofs.Answers.{FlagCases, flag_cases}
use Rattle.version_roundtrip.proofs.ReadPlaces.{by_cond}
use Rattle.answers.specs.YesNo.{says_yes}
use Rattle.table_reading.specs.Lookup.{looked}
use Rattle.register_entries.specs.declared.entry.Entry.{Entry}
use Rattle.register_entries.specs.Held.{blank}
use Rattle.register_rules.specs.declared.lowest.Lowest.{Lowest}
use Rattle.register_rules.specs.declared.lowest.Lowest.TheVariants.{Nothing, One, Two}
use Rattle.register_rules.specs.Guilt.{entry_at}
use Rattle.register_rules.specs.Lowest.{lowered, lowest_from}
use Rattle.register_rules.specs.Fit.{fits, fitting}
use Rattle.register_rules.specs.Cases.{id_at, table_at, Differ, Accepts, NoneAccepts, OneAccepts, TwoAccept}

-- what is the two lowest identifiers of the indices at which P holds
pub data Right (id : ℕ → ℕ) (P : ℕ → Type 0) : Lowest → Type 0 where
  none : ((k : ℕ) → P k → ⊥) → Right id P Nothing
  one : (a i : ℕ) → P i → id i ≡ a → ((k : ℕ) → P k → k ≡ i) → Right id P (One a)
  two : (a b i j : ℕ) → P i → P j → id i ≡ a → id j ≡ b → a < b → ((k : ℕ) → P k → (k ≡ i → ⊥) → (k ≡ j → ⊥) → b < id k) → Right id P (Two a b)

-- index n joins those of P
module _ (id : ℕ → ℕ) (P Q : ℕ → Type 0) (n : ℕ) (up : (k : ℕ) → P k → Q k) (new : Q n) (down : (k : ℕ) → Q k → (k ≡ n → ⊥) → P k)
    (differ : (k : ℕ) → P k → id k ≡ id n → ⊥) where
  beside_one : (a i : ℕ) → P i → id i ≡ a → ((k : ℕ) → P k → k ≡ i) → Right id Q (lowered (One a) (id n))
  beside_one a i p e alone =
      by_cond (Right id Q) (ltb (id n) a)
      (λ t. Right.two (id n) a n i new (up i p) refl e (ltb-true (id n) a t) (λ k q f g. absurd (g (alone k (down k q f)))))
      (λ t.
      let above : a ≤ id n = ltb-false (id n) a t in
      let apart : id i ≡ id n → ⊥ = differ i p in
      Right.two a (id n) i n (up i p) new e refl (omega arith) (λ k q f g. absurd (f (alone k (down k q g)))))

  beside_two : (a b i j : ℕ) → P i → P j → id i ≡ a → id j ≡ b → a < b → ((k : ℕ) → P k → (k ≡ i → ⊥) → (k ≡ j → ⊥) → b < id k) →
      Right id Q (lowered (Two a b) (id n))
  beside_two a b i j p q e f low others =
      by_cond (Right id Q) (ltb (id n) a)
      (λ t.
      let below : id n < a = ltb-true (id n) a t in
      Right.two (id n) a n i new (up i p) refl e below (λ k r x y.
      elim (ℕ_discrete k j) [
        | yes z ↦ rw z (omega arith)
        | no z ↦ omega (arith, others k (down k r x) y z)
      ]))
      (λ t.
      let above : a ≤ id n = ltb-false (id n) a t in
      let apart : id i ≡ id n → ⊥ = differ i p in
      by_cond (Right id Q) (ltb (id n) b)
      (λ u.
      let below : id n < b = ltb-true (id n) b u in
      Right.two a (id n) i n (up i p) new e refl (omega arith) (λ k r x y.
      elim (ℕ_discrete k j) [
        | yes z ↦ rw z (omega arith)
        | no z ↦ omega (arith, others k (down k r y) x z)
      ]))
      (λ u.
      let over : b ≤ id n = ltb-false (id n) b u in
      let away : id j ≡ id n → ⊥ = differ j q in
      Right.two a b i j (up i p) (up j q) e f low (λ k r x y.
      elim (ℕ_discrete k n) [
        | yes z ↦ rw z (omega arith)
        | no z ↦ others k (down k r z) x y
      ])))

  pub right_more : (l : Lowest) → Right id P l → Right id Q (lowered l (id n))
  right_more Nothing (Right.none never) =
      Right.one (id n) n new refl (λ k q.
      elim (ℕ_discrete k n) [
        | yes z ↦ z
        | no z ↦ absurd (never k (down k q z))
      ])
  right_more (One a) (Right.one b i p e alone) = beside_one a i p e alone
  right_more (Two a b) (Right.two c d i j p q e f low others) = beside_two a b i j p q e f low others

-- the same indices
pub right_same : (id : ℕ → ℕ) (P Q : ℕ → Type 0) → ((k : ℕ) → P k → Q k) → ((k : ℕ) → Q k → P k) → (l : Lowest) → Right id P l → Right id Q l
right_same id P Q up down Nothing (Right.none never) = Right.none (λ k q. never k (down k q))
right_same id P Q up down (One a) (Right.one b i p e alone) = Right.one a i (up i p) e (λ k q. alone k (down k q))
right_same id P Q up down (Two a b) (Right.two c d i j p q e f low others) =
    Right.two a b i j (up i p) (up j q) e f low (λ k r. others k (down k r))

-- where index k stands beside the two lowest: it is one of them, or has a higher identifier
data Beside (c a b : ℕ) : Type 0 where
  first : c ≡ a → Beside c a b
  second : c ≡ b → Beside c a b
  above : b < c → Beside c a b

beside : (id : ℕ → ℕ) (P : ℕ → Type 0) (a b i j : ℕ) → id i ≡ a → id j ≡ b → ((k : ℕ) → P k → (k ≡ i → ⊥) → (k ≡ j → ⊥) → b < id k) →
    (k c : ℕ) → P k → id k ≡ c → Beside c a b
beside id P a b i j e f others k c p g =
    elim (ℕ_discrete k i) [
      | yes x ↦ Beside.first (sym g ∙ ap id x ∙ e)
      | no x ↦
          elim (ℕ_discrete k j) [
            | yes y ↦ Beside.second (sym g ∙ ap id y ∙ f)
            | no y ↦ let h = others k p x y in Beside.above (omega arith)
          ]
    ]

-- two pairs of which each lies beside the other are the same
module _ (a b c d : ℕ) (low : a < b) (low' : c < d) where
  not_below : Beside c a b → (c < a → ⊥)
  not_below (Beside.first e) h = omega arith
  not_below (Beside.second e) h = omega arith
  not_below (Beside.above e) h = omega arith

  same_first : Beside a c d → Beside c a b → a ≡ c
  same_first (Beside.first e) x = e
  same_first (Beside.second e) x = absurd (not_below x (omega arith))
  same_first (Beside.above e) x = absurd (not_below x (omega arith))

  at_most : a ≡ c → Beside d a b → b ≤ d
  at_most e (Beside.first x) = absurd (omega arith)
  at_most e (Beside.second x) = omega arith
  at_most e (Beside.above x) = omega arith

-- there is one right answer
pub one_right : (id : ℕ → ℕ) (P : ℕ → Type 0) (l m : Lowest) → Right id P l → Right id P m → l ≡ m
one_right id P Nothing Nothing r s = refl
one_right id P Nothing (One b) (Right.none never) (Right.one b' i p e alone) = absurd (never i p)
one_right id P Nothing (Two b c) (Right.none never) (Right.two b' c' i j p q e f low others) = absurd (never i p)
one_right id P (One a) Nothing (Right.one a' i p e alone) (Right.none never) = absurd (never i p)
one_right id P (One a) (One b) (Right.one a' i p e alone) (Right.one b' j q f alone') = ap One (sym e ∙ ap id (alone' i p) ∙ f)
one_right id P (One a) (Two b c) (Right.one a' i p e alone) (Right.two b' c' j k q r f g low others) =
    let same : id j ≡ id k = ap id (alone j q ∙ sym (alone k r)) in
    absurd (omega arith)
one_right id P (Two a b) Nothing (Right.two a' b' i j p q e f low others) (Right.none never) = absurd (never i p)
one_right id P (Two a b) (One c) (Right.two a' b' i j p q e f low others) (Right.one c' k r g alone) =
    let same : id i ≡ id j = ap id (alone i p ∙ sym (alone j q)) in
    absurd (omega arith)
one_right id P (Two a b) (Two c d) (Right.two a' b' i j p q e f low others) (Right.two c' d' k l r s g h low' others') =
    let ours = beside id P a b i j e f others in
    let theirs = beside id P c d k l g h others' in
    let x : a ≡ c = same_first a b c d low low' (theirs i a p e) (ours k c r g) in
    let y : b ≤ d = at_most a b c d low low' x (ours l d s h) in
    let z : d ≤ b = at_most c d a b low' low (sym x) (theirs j b q f) in
    let w : b ≡ d = omega arith in
    cc

-- an entry's table holds the version, or `fitting` passes it over
says_yes_lem : (a : Result Bool RefusedInput) → says_yes a ≡ true → a ≡ Ok true
says_yes_lem (Ok true) e = refl
says_yes_lem (Ok false) e = cc
says_yes_lem (Err (First x)) e = cc
says_yes_lem (Err (Second x)) e = cc

module _ (es : List Entry) (buffer text : List ℕ) where
  -- one of the first n entries, and it accepts the version
  abbrev pub AcceptsBelow : ℕ → ℕ → Type 0
  AcceptsBelow n k = (k < n) × (looked (table_at es buffer k) text ≡ Ok true)

  fitting_on : (n : ℕ) (b : Bool) → n < length es → fits buffer text (entry_at es n) ≡ b →
      fitting buffer text (drop n es) ≡ cond b (id_at es n ∷ fitting buffer text (drop (suc n) es)) (fitting buffer text (drop (suc n) es))
  unfolding fitting
  fitting_on n b h e = rw (drop-cons es n blank h, e)

  module _ (differ : Differ es (length es)) where
    right_yes : (n : ℕ) (l : Lowest) → n < length es → looked (table_at es buffer n) text ≡ Ok true → Right (id_at es) (AcceptsBelow n) l →
        Right (id_at es) (AcceptsBelow (suc n)) (lowered l (id_at es n))
    right_yes n l h e r =
        right_more (id_at es) (AcceptsBelow n) (AcceptsBelow (suc n)) n (λ k p. (omega (arith, p.0), p.1)) (omega arith, e)
        (λ k q f. (omega (arith, q.0), q.1))
        (λ k p f. differ k n p.0 h f)
        l r

    right_no : (n : ℕ) (l : Lowest) → (looked (table_at es buffer n) text ≡ Ok true → ⊥) → Right (id_at es) (AcceptsBelow n) l →
        Right (id_at es) (AcceptsBelow (suc n)) l
    right_no n l f r =
        right_same (id_at es) (AcceptsBelow n) (AcceptsBelow (suc n)) (λ k p. (omega (arith, p.0), p.1))
        (λ k q.
        elim (ℕ_discrete k n) [
          | yes z ↦ absurd (f (sym (ap (λ (i : ℕ). looked (table_at es buffer i) text) z) ∙ q.1))
          | no z ↦ (omega (arith, q.0), q.1)
        ])
        l r

    right_from : (room n : ℕ) (l : Lowest) → n + room ≡ length es → Right (id_at es) (AcceptsBelow n) l →
        Right (id_at es) (Accepts es buffer text) (lowest_from l (fitting buffer text (drop n es)))
    unfolding lowest_from fitting
    right_from zero n l size r =
        let all : n ≡ length es = omega arith in
        let past : length es ≤ n = omega arith in
        let over : drop n es ≡ [] = drop_of_length-le es past in
        rw over (rw all at r)
    right_from (suc room) n l size r =
        elim (flag_cases (fits buffer text (entry_at es n))) [
          | FlagCases.holds e ↦
              rw (fitting_on n true (omega arith) e)
              (right_from room (suc n) (lowered l (id_at es n)) (omega arith) (right_yes n l (omega arith) (says_yes_lem _ e) r))
          | FlagCases.fails e ↦
              rw (fitting_on n false (omega arith) e)
              (right_from room (suc n) l (omega arith) (right_no n l (λ y. let z : true ≡ false = sym (ap says_yes y) ∙ e in false≢true (sym z)) r))
        ]

    -- the two lowest of what fits are right
    pub lowest_right : Right (id_at es) (Accepts es buffer text) (lowest_from Nothing (fitting buffer text es))
    lowest_right = right_from (length es) 0 Nothing (omega arith) (Right.none (λ k p. omega (arith, p.0)))

-- in the words of the cases
module _ (es : List Entry) (buffer text : List ℕ) where
  pub right_none : Right (id_at es) (Accepts es buffer text) Nothing → NoneAccepts es buffer text
  right_none (Right.none never) = never

  pub one_is_right : (id : ℕ) → OneAccepts es buffer text id → Right (id_at es) (Accepts es buffer text) (One id)
  one_is_right id o = Right.one id o.i o.accepts o.named o.alone

  pub right_one : (id : ℕ) → Right (id_at es) (Accepts es buffer text) (One id) → OneAccepts es buffer text id
  right_one id (Right.one a i p e alone) = record { i = i; accepts = p; named = e; alone = alone }

  pub two_are_right : (a b : ℕ) → TwoAccept es buffer text a b → Right (id_at es) (Accepts es buffer text) (Two a b)
  two_are_right a b t = Right.two a b t.i t.j t.i_accepts t.j_accepts t.i_named t.j_named t.ordered t.others

  pub right_two : (a b : ℕ) → Right (id_at es) (Accepts es buffer text) (Two a b) → TwoAccept es buffer text a b
  right_two a b (Right.two c d i j p q e f low others) =
      record { i = i; j = j; i_accepts = p; j_accepts = q; i_named = e; j_named = f; ordered = low; others = others }
