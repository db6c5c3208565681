-- The ways of `find_operator`: operators by their bytes. They are no letters, so that a test in either case is a test of the byte.
-- Assumes nothing.
use Rattle.list_clauses.specs.declared.operator.Operator.{Operator}
use Rattle.std.specs.Prelude.{Option, Some, None}
use mathlib.Core.Path.{◌≡◌, refl, sym, ap}
use mathlib.Core.Bool.{Bool, true, false, ◌&&◌, cond}
use mathlib.Core.List.{List, [], ◌∷◌}
use Prim.Native.Nat.{ℕ, ◌+◌, ◌≤◌}
use native.Mathlib.Decide.{dec_lt}
use native.Mathlib.Omega.{arith}
use lib.Dec.{eqb}
use lib.ListN.{get_or}
use borrow.Author.Tests.{ne_eqb}
use Rattle.chars.specs.Case.{lower_of, starts_with}
use Rattle.chars.proofs.Beginnings.{lower_under, lower_over, lower_capital}
use Rattle.list_clauses.specs.declared.operator.Operator.TheVariants.{Equal, NotEqual, Compatible, AtMost, AtLeast, Below, Above}
use Rattle.list_clauses.specs.Operator.{order_of, operator_of}

-- a byte that is no letter, nor the 0 past the end
abbrev Plain : ℕ → Type 0
Plain x = (x ≡ 0 → ⊥) × (65 ≤ x → x ≤ 122 → ⊥)

less : Plain 60
less = ((λ e. omega arith), λ l h. omega arith)

equals : Plain 61
equals = ((λ e. omega arith), λ l h. omega arith)

greater : Plain 62
greater = ((λ e. omega arith), λ l h. omega arith)

bang : Plain 33
bang = ((λ e. omega arith), λ l h. omega arith)

tilde : Plain 126
tilde = ((λ e. omega arith), λ l h. omega arith)

same_byte : (b x : ℕ) → Plain x → eqb (lower_of b) x ≡ eqb b x
same_byte b x plain =
    elim (dec_lt b 65) [
      | yes under ↦ ap (λ y. eqb y x) (sym (lower_under b under))
      | no low ↦
          elim (dec_lt 90 b) [
            | yes over ↦ ap (λ y. eqb y x) (sym (lower_over b (omega arith) over))
            | no high ↦
                let lifted : b + 32 ≡ lower_of b = lower_capital b (omega arith) (omega arith) in
                rw (← lifted, ne_eqb (b + 32) x (λ e. plain.1 (omega arith) (omega arith)), ne_eqb b x (λ e. plain.1 (omega arith) (omega arith)))
          ]
    ]

neither : (t : Bool) → cond t false false ≡ false
neither true = refl
neither false = refl

turned : (p q : Bool) → cond p (cond q true false) false ≡ q && p
turned true true = refl
turned true false = refl
turned false true = refl
turned false false = refl

turned_three : (p q r : Bool) → cond p (cond q (cond r true false) false) false ≡ q && (p && r)
turned_three true true true = refl
turned_three true true false = refl
turned_three true false r = refl
turned_three false true r = refl
turned_three false false r = refl

only : (t : Bool) → cond t true false ≡ t
only true = refl
only false = refl

-- beginnings by their bytes, the second byte first: it decides most
one : (x : ℕ) (s : List ℕ) → Plain x → starts_with (x ∷ []) s ≡ eqb (get_or s 0 0) x
unfolding starts_with
one x [] plain = sym (ne_eqb 0 x (λ e. plain.0 (sym e)))
one x (a ∷ s) plain = rw (same_byte a x plain) (only (eqb a x))

two : (x : ℕ) (s : List ℕ) → Plain x → starts_with (x ∷ 61 ∷ []) s ≡ eqb (get_or s 1 0) 61 && eqb (get_or s 0 0) x
unfolding starts_with
two x [] plain = refl
two x (a ∷ []) plain = neither (eqb (lower_of a) x)
two x (a ∷ b ∷ s) plain = rw (same_byte a x plain, same_byte b 61 equals) (turned (eqb a x) (eqb b 61))

three : (s : List ℕ) → starts_with (61 ∷ 61 ∷ 61 ∷ []) s ≡ eqb (get_or s 1 0) 61 && (eqb (get_or s 0 0) 61 && eqb (get_or s 2 0) 61)
unfolding starts_with
three [] = refl
three (a ∷ []) = neither (eqb (lower_of a) 61)
three (a ∷ b ∷ []) = unended (eqb (lower_of a) 61) (eqb (lower_of b) 61) (eqb b 61) (eqb a 61)
  where
    unended : (p q r t : Bool) → cond p (cond q false false) false ≡ r && (t && false)
    unended p q r t = rw (neither q, neither p) (nothing r t)
      where
        nothing : (r t : Bool) → false ≡ r && (t && false)
        nothing true true = refl
        nothing true false = refl
        nothing false t = refl
three (a ∷ b ∷ c ∷ s) =
    rw (same_byte a 61 equals, same_byte b 61 equals, same_byte c 61 equals) (turned_three (eqb a 61) (eqb b 61) (eqb c 61))

-- the operators with two bytes, the second being `=`, and those with one
module _ (s : List ℕ) where
  abbrev wide : ℕ → Bool
  wide x = eqb (get_or s 1 0) 61 && eqb (get_or s 0 0) x

  order_is : order_of s
      ≡ cond (wide 60) (Some (AtMost, 2)) (cond (wide 62) (Some (AtLeast, 2))
      (cond (eqb (get_or s 0 0) 60) (Some (Below, 1)) (cond (eqb (get_or s 0 0) 62) (Some (Above, 1)) None)))
  unfolding order_of
  order_is =
      rw (
        two 60 s less,
        two 62 s greater,
        one 60 s less,
        one 62 s greater,
      )

  operator_is : operator_of s
      ≡ cond (eqb (get_or s 1 0) 61 && (eqb (get_or s 0 0) 61 && eqb (get_or s 2 0) 61)) None
      (cond (wide 61) (Some (Equal, 2)) (cond (wide 33) (Some (NotEqual, 2)) (cond (wide 126) (Some (Compatible, 2)) (order_of s))))
  unfolding operator_of
  operator_is =
      rw (
        three s,
        two 61 s equals,
        two 33 s bang,
        two 126 s tilde,
      )

  -- the ways, a and b being the first two bytes
  module _ (b : ℕ) (eb : b ≡ get_or s 1 0) where
    pub not_wide : (r : Option (Operator × ℕ)) → (b ≡ 61 → ⊥) → r ≡ order_of s → r ≡ operator_of s
    not_wide r h e = rw (operator_is, ← eb, ne_eqb _ _ h) e

    module _ (a : ℕ) (ea : a ≡ get_or s 0 0) where
      module _ (h : b ≡ 61) where
        pub three_equals : (c : ℕ) → c ≡ get_or s 2 0 → a ≡ 61 → c ≡ 61 → None ≡ operator_of s
        three_equals c ec f g = rw (operator_is, ← ea, ← eb, ← ec, h, f, g)

        pub is_equal : (c : ℕ) → c ≡ get_or s 2 0 → a ≡ 61 → (c ≡ 61 → ⊥) → Some (Equal, 2) ≡ operator_of s
        is_equal c ec f g = rw (operator_is, ← ea, ← eb, ← ec, h, f, ne_eqb _ _ g)

        pub is_not_equal : a ≡ 33 → Some (NotEqual, 2) ≡ operator_of s
        is_not_equal f = rw (operator_is, ← ea, ← eb, h, f)

        pub is_compatible : a ≡ 126 → Some (Compatible, 2) ≡ operator_of s
        is_compatible f = rw (operator_is, ← ea, ← eb, h, f)

        pub is_order : (r : Option (Operator × ℕ)) → (a ≡ 61 → ⊥) → (a ≡ 33 → ⊥) → (a ≡ 126 → ⊥) → r ≡ order_of s → r ≡ operator_of s
        is_order r f g k e = rw (operator_is, ← ea, ← eb, h, ne_eqb _ _ f, ne_eqb _ _ g, ne_eqb _ _ k) e

        pub is_at_most : a ≡ 60 → Some (AtMost, 2) ≡ order_of s
        is_at_most f = rw (order_is, ← ea, ← eb, h, f)

        pub is_at_least : a ≡ 62 → Some (AtLeast, 2) ≡ order_of s
        is_at_least f = rw (order_is, ← ea, ← eb, h, f)

        pub no_wide_order : (a ≡ 60 → ⊥) → (a ≡ 62 → ⊥) → None ≡ order_of s
        no_wide_order f g = rw (order_is, ← ea, ← eb, h, ne_eqb _ _ f, ne_eqb _ _ g)

      module _ (h : b ≡ 61 → ⊥) where
        pub is_below : a ≡ 60 → Some (Below, 1) ≡ order_of s
        is_below f = rw (order_is, ← ea, ← eb, ne_eqb _ _ h, f)

        pub is_above : a ≡ 62 → Some (Above, 1) ≡ order_of s
        is_above f = rw (order_is, ← ea, ← eb, ne_eqb _ _ h, f)

        pub no_order : (a ≡ 60 → ⊥) → (a ≡ 62 → ⊥) → None ≡ order_of s
        no_order f g = rw (order_is, ← ea, ← eb, ne_eqb _ _ h, ne_eqb _ _ f, ne_eqb _ _ g)
