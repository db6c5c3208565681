-- Tests of order: what follows from totality and transitivity, and that a comparison with the laws gives such a test. Assumes nothing.
use mathlib.Core.Path.{◌≡◌, refl, sym, ◌∙◌}
use mathlib.Core.Bool.{Bool, true, false, false≢true}
use mathlib.Mathlib.Data.Bool.Basic.{eq-true_of_not-eq-false, eq-false_of_not-eq-true}
use Rattle.order.specs.Ordering.{Ordering, lt, eq, gt, is_le, flip}
use Rattle.order.specs.Compare.{Comparison}
use Rattle.order.specs.Laws.{Triangle, Laws}
use Rattle.order.specs.Preorder.{TotalPreorder, Bounded, at_most}

module _ {P : Type 0} {le : P → P → Bool} (L : TotalPreorder le) where
  pub le_refl : (a : P) → le a a ≡ true
  le_refl a = eq-true_of_not-eq-false (λ e. false≢true (sym e ∙ L.total e))

  pub le_lt_trans : {a b c : P} → le a b ≡ true → le c b ≡ false → le c a ≡ false
  le_lt_trans p q = eq-false_of_not-eq-true (λ e. false≢true (sym q ∙ L.trans e p))

  -- the order turned round: a fact about what lies below becomes one about what lies above
  pub reversed : TotalPreorder (λ a b. le b a)
  reversed = record { total = λ {a} {b} e. L.total e; trans = λ {a} {b} {c} p q. L.trans q p }

module _ {P : Type 0} {le : P → P → Bool} (L : TotalPreorder le) where
  pub lt_le_trans : {a b c : P} → le b a ≡ false → le b c ≡ true → le c a ≡ false
  lt_le_trans p q = le_lt_trans (reversed L) q p

module _ {P : Type 0} {le : P → P → Bool} {bot top : P} (B : Bounded le bot top) where
  -- what lies strictly below something is not top, and what lies strictly above something is not bot
  pub not_top : (a b : P) → le b a ≡ false → a ≡ top → ⊥
  not_top a b e f = false≢true (sym e ∙ rw f (B.greatest b))

  pub not_bot : (a b : P) → le a b ≡ false → a ≡ bot → ⊥
  not_bot a b e f = false≢true (sym e ∙ rw f (B.least b))

-- the same for a comparison's answers
turned : (o : Ordering) → is_le o ≡ false → is_le (flip o) ≡ true
turned lt e = sym e
turned eq e = refl
turned gt e = refl

chained : (o p r : Ordering) → Triangle o p r → is_le o ≡ true → is_le p ≡ true → is_le r ≡ true
chained lt lt r t e f = rw t
chained lt eq r t e f = rw t
chained lt gt r t e f = absurd (false≢true f)
chained eq p r t e f = rw t f
chained gt p r t e f = absurd (false≢true e)

pub at_most_preorder : {A : Type 0} {cmp : Comparison A} → Laws cmp → TotalPreorder (at_most cmp)
at_most_preorder {A} {cmp} L = record {
  total = λ {a} {b} e. rw (L.turn a b) (turned (cmp a b) e);
  trans = λ {a} {b} {c} p q. chained (cmp a b) (cmp b c) (cmp a c) (L.tri a b c) p q;
}
