-- Each rule by index: an entry breaks it, and its number is not 0, or keeps it, and its number is 0; and `first_from` finds the first entry that
-- breaks it, or none does. Assumes nothing.
use mathlib.Core.Path.{◌≡◌, refl, sym, ◌∙◌, ap, subst}
use mathlib.Core.Bool.{Bool, true, false, cond}
use mathlib.Core.List.{List, [], ◌∷◌}
use Prim.Native.Nat.{ℕ, zero, suc, ◌+◌, ◌<◌}
use native.Mathlib.Decide.{dec_lt, ℕ_discrete}
use native.Mathlib.Omega.{arith}
use lib.ListN.{length, take}
use lib.Seq.{get_or-take, length-take-le}
use borrow.Author.Tests.{eq-eqb, ne_eqb, lt-ltb, le-ltb}
use Rattle.answers.specs.declared.Refusal.{Refusal}
use Rattle.answers.specs.Refusal.{refusal}
use Rattle.ranges.specs.Range.{Range}
use Rattle.list_ends.specs.Cut.{Place}
use Rattle.table_reading.specs.Table.{Tabled, refused, ranges, table_of}
use Rattle.table_reading.proofs.Tables.{only_18}
use Rattle.register_entries.specs.declared.entry.Entry.{Entry}
use Rattle.register_entries.specs.Held.{blank, has}
use Rattle.register_rules.specs.Guilt.{Zero, Taken, Outside, guilt_by, table_guilt, first_from}
use Rattle.register_rules.specs.Cases.{id_at, end_at, table_at}

-- a rule at an entry: broken, with a number, or kept, with 0
pub data Ruled (Broken : Type 0) (number : ℕ) : Type 0 where
  broken : Broken → (number ≡ 0 → ⊥) → Ruled Broken number
  kept : (Broken → ⊥) → number ≡ 0 → Ruled Broken number

-- identifier 0
pub zero_ruled : (buffer : List ℕ) (es : List Entry) (i : ℕ) → Ruled (id_at es i ≡ 0) (guilt_by Zero buffer es i)
zero_ruled buffer es i =
    elim (ℕ_discrete (id_at es i) 0) [
      | yes e ↦ Ruled.broken e (rw (eq-eqb (id_at es i) 0 e) (omega arith))
      | no f ↦ Ruled.kept f (rw (ne_eqb (id_at es i) 0 f))
    ]

pub zero_number : (buffer : List ℕ) (es : List Entry) (i : ℕ) → id_at es i ≡ 0 → guilt_by Zero buffer es i ≡ 31
zero_number buffer es i e = rw (eq-eqb (id_at es i) 0 e)

-- `has` says whether some entry of the list has the identifier
pub data Having (id : ℕ) (es : List Entry) : Bool → Type 0 where
  there : (j : ℕ) → j < length es → id_at es j ≡ id → Having id es true
  nowhere : ((j : ℕ) → j < length es → id_at es j ≡ id → ⊥) → Having id es false

having_on : (id : ℕ) (e : Entry) (es : List Entry) (b : Bool) → (e.id ≡ id → ⊥) → Having id es b → Having id (e ∷ es) b
having_on id e es true f (Having.there j h q) = Having.there (suc j) (omega arith) q
having_on id e es false f (Having.nowhere g) = Having.nowhere never
  where
    never : (j : ℕ) → j < length (e ∷ es) → id_at (e ∷ es) j ≡ id → ⊥
    never zero h q = f q
    never (suc j) h q = g j (omega arith) q

pub having : (id : ℕ) (es : List Entry) → Having id es (has id es)
unfolding has
having id [] = Having.nowhere (λ j h q. omega arith)
having id (e ∷ es) =
    elim (ℕ_discrete e.id id) [
      | yes q ↦ rw (eq-eqb e.id id q) (Having.there 0 (omega arith) q)
      | no f ↦ rw (ne_eqb e.id id f) (having_on id e es (has id es) f (having id es))
    ]

-- an earlier entry has the identifier of entry i
abbrev pub Repeats : List Entry → ℕ → Type 0
Repeats es i = (j : ℕ) × (j < i) × (id_at es j ≡ id_at es i)

module _ (buffer : List ℕ) (es : List Entry) (i : ℕ) (inside : i < length es) where
  size : length (take i es) ≡ i
  size = length-take-le i es (omega arith)

  earlier : (j : ℕ) → j < i → id_at (take i es) j ≡ id_at es j
  earlier j h = ap (λ (e : Entry). e.id) (get_or-take i es j blank h)

  by_having : (b : Bool) → Having (id_at es i) (take i es) b → Ruled (Repeats es i) (cond b 32 0)
  by_having true (Having.there j h q) = Ruled.broken (j, omega (arith, size), sym (earlier j (omega (arith, size))) ∙ q) (omega arith)
  by_having false (Having.nowhere f) = Ruled.kept (λ r. f r.0 (omega (arith, size, r.1)) (earlier r.0 r.1 ∙ r.2)) refl

  pub taken_ruled : Ruled (Repeats es i) (guilt_by Taken buffer es i)
  taken_ruled = by_having (has (id_at es i) (take i es)) (having (id_at es i) (take i es))

  -- it is not, where those before it do not have the identifier
  not_there : Having (id_at es i) (take i es) false → (j : ℕ) → j < i → id_at es j ≡ id_at es i → ⊥
  not_there (Having.nowhere f) j h q = f j (omega (arith, size)) (earlier j h ∙ q)

  pub not_had : has (id_at es i) (take i es) ≡ false → (j : ℕ) → j < i → id_at es j ≡ id_at es i → ⊥
  not_had e = not_there (subst (Having (id_at es i) (take i es)) e (having (id_at es i) (take i es)))

  number_having : (b : Bool) → Having (id_at es i) (take i es) b → Repeats es i → ◌≡◌ {A = ℕ} (cond b 32 0) 32
  number_having true h r = refl
  number_having false (Having.nowhere f) r = absurd (f r.0 (omega (arith, size, r.1)) (earlier r.0 r.1 ∙ r.2))

  pub taken_number : Repeats es i → guilt_by Taken buffer es i ≡ 32
  taken_number r = number_having (has (id_at es i) (take i es)) (having (id_at es i) (take i es)) r

-- a table that ends after the buffer's end
pub outside_ruled : (buffer : List ℕ) (es : List Entry) (i : ℕ) → Ruled (length buffer < end_at es i) (guilt_by Outside buffer es i)
outside_ruled buffer es i =
    elim (dec_lt (length buffer) (end_at es i)) [
      | yes h ↦ Ruled.broken h (rw (lt-ltb (length buffer) (end_at es i) h) (omega arith))
      | no f ↦ Ruled.kept f (rw (le-ltb (length buffer) (end_at es i) (omega arith)))
    ]

pub outside_number : (buffer : List ℕ) (es : List Entry) (i : ℕ) → length buffer < end_at es i → guilt_by Outside buffer es i ≡ 33
outside_number buffer es i h = rw (lt-ltb (length buffer) (end_at es i) h)

-- a table that is refused, with a number that is not 0
pub data Read (s : List ℕ) : Type 0 where
  refused_as : (number place : ℕ) → table_of s ≡ refused number place → (number ≡ 0 → ⊥) → Read s
  says : (T : List (Range Place)) → table_of s ≡ ranges T → Read s

abbrev pub Refusing : List ℕ → Type 0
Refusing s = (number : ℕ) × (place : ℕ) × (table_of s ≡ refused number place)

pub refused_some : (s : List ℕ) (number place : ℕ) → table_of s ≡ refused number place → number ≡ 0 → ⊥
refused_some s number place e z = omega (arith, (only_18 s number place e).0)

pub read_cases : (s : List ℕ) → Read s
read_cases s = go (table_of s) refl
  where
    go : (t : Tabled) → table_of s ≡ t → Read s
    go (refused number place) e = Read.refused_as number place e (refused_some s number place e)
    go (ranges T) e = Read.says T e

pub ranges_not_refused : (s : List ℕ) (T : List (Range Place)) → table_of s ≡ ranges T → Refusing s → ⊥
ranges_not_refused s T e r =
    let f : table_of s ≡ refused r.0 r.1 = r.2 in
    let z : ◌≡◌ {A = ℕ} 0 1 = cc in
    omega arith

pub table_ruled : (buffer : List ℕ) (es : List Entry) (i : ℕ) → Ruled (Refusing (table_at es buffer i)) (table_guilt buffer es i)
table_ruled buffer es i =
    elim (read_cases (table_at es buffer i)) [
      | Read.refused_as number place e f ↦ Ruled.broken (number, place, e) (rw e f)
      | Read.says T e ↦ Ruled.kept (ranges_not_refused (table_at es buffer i) T e) (rw e)
    ]

pub table_number : (buffer : List ℕ) (es : List Entry) (i number place : ℕ) → table_of (table_at es buffer i) ≡ refused number place →
    table_guilt buffer es i ≡ number
table_number buffer es i number place e = rw e

-- the first of n entries that breaks a rule, or all keep it
pub data FirstIs (P : ℕ → Type 0) (g : ℕ → ℕ) (n : ℕ) : Refusal → Type 0 where
  none : ((j : ℕ) → j < n → P j → ⊥) → FirstIs P g n (refusal 0 0)
  first : (i : ℕ) → i < n → P i → (g i ≡ 0 → ⊥) → ((j : ℕ) → j < i → P j → ⊥) → FirstIs P g n (refusal (g i) i)

module _ (P : ℕ → Type 0) (g : ℕ → ℕ) (n : ℕ) (ruled : (i : ℕ) → i < n → Ruled (P i) (g i)) where
  first_from_lem : (room i : ℕ) → i + room ≡ n → ((j : ℕ) → j < i → P j → ⊥) → FirstIs P g n (first_from g room i)
  unfolding first_from
  first_from_lem zero i size before = FirstIs.none (λ j h p. before j (omega arith) p)
  first_from_lem (suc room) i size before =
      elim (ruled i (omega arith)) [
        | Ruled.broken p f ↦ rw (ne_eqb (g i) 0 f) (FirstIs.first i (omega arith) p f before)
        | Ruled.kept f z ↦ rw (eq-eqb (g i) 0 z) (first_from_lem room (suc i) (omega arith) (also f))
      ]
    where
      also : (P i → ⊥) → (j : ℕ) → j < suc i → P j → ⊥
      also f j h p =
          elim (ℕ_discrete j i) [
            | yes e ↦ f (rw e at p)
            | no d ↦ before j (omega arith) p
          ]

  pub first_is : FirstIs P g n (first_from g n 0)
  first_is = first_from_lem n 0 (omega arith) (λ j h p. omega arith)
