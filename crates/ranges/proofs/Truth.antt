-- Tests and what they pick: case analysis on a test that a value depends on, and the truth tables that the library lacks.
-- Assumes nothing.
use mathlib.Core.Path.{◌≡◌, refl, sym}
use mathlib.Core.Bool.{Bool, true, false, not, cond, ◌&&◌, ◌||◌}

-- to show something of what a test picks, show it of both, each time knowing how the test went
pub by_test : {A : Type 0} (C : A → Type 0) (b : Bool) (x y : A) → (b ≡ true → C x) → (b ≡ false → C y) → C (cond b x y)
by_test C true x y f g = f refl
by_test C false x y f g = g refl

-- a function of what a test picks
pub cond_map : {A B : Type 0} (g : A → B) (b : Bool) (x y : A) → g (cond b x y) ≡ cond b (g x) (g y)
cond_map g true x y = refl
cond_map g false x y = refl

-- if the test picks its second place, what it picks there may change so long as it equals the same
pub cond_behind : {A : Type 0} (b : Bool) (x y y' z : A) → (y ≡ z → y' ≡ z) → cond b x y ≡ z → cond b x y' ≡ z
cond_behind true x y y' z f h = h
cond_behind false x y y' z f h = f h

-- tests that imply each other are equal
pub same_test : (p q : Bool) → (p ≡ true → q ≡ true) → (q ≡ true → p ≡ true) → p ≡ q
same_test true q f g = sym (f refl)
same_test false true f g = g refl
same_test false false f g = refl

-- where one test implies another: the weaker adds nothing to a conjunction, the stronger nothing to a disjunction, and nothing passes the
-- stronger and not the weaker
pub and_implied : (p q : Bool) → (p ≡ true → q ≡ true) → p ≡ p && q
and_implied true q f = sym (f refl)
and_implied false q f = refl

pub or_implying : (p q : Bool) → (q ≡ true → p ≡ true) → p ≡ p || q
or_implying true q f = refl
or_implying false true f = f refl
or_implying false false f = refl

pub none_between : (p q : Bool) → (p ≡ true → q ≡ true) → p && not q ≡ false
none_between true q f = rw (f refl)
none_between false q f = refl

-- past two lower ends and below two upper ones: inside both stretches
pub both_within : (a b p q : Bool) → (a && b) && not (p || q) ≡ (a && not p) && (b && not q)
both_within true true true q = refl
both_within true true false q = refl
both_within true false true q = refl
both_within true false false q = refl
both_within false b p q = refl

-- below a stretch or past it: outside it
pub either_side : (m a b : Bool) → (m && not a) || (m && (b && true)) ≡ m && not (a && not b)
either_side true true true = refl
either_side true true false = refl
either_side true false b = refl
either_side false a b = refl
