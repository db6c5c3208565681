-- What the word that is found says, as a spelling of each part.
-- Assumes nothing.
use Rattle.std.specs.Prelude.{Option, Some, None}
use mathlib.Core.Path.{◌≡◌, refl, ◌∙◌}
use mathlib.Core.Bool.{Bool, true, false, cond}
use mathlib.Core.List.{List}
use Prim.Native.Nat.{ℕ}
use native.Mathlib.Omega.{arith}
use lib.Dec.{eqb}
use borrow.Author.Tests.{ne_eqb}
use Rattle.chars.specs.Text.{ascii}
use Rattle.chars.specs.Words.{words_in, first_in}
use Rattle.chars.specs.declared.spelling.PreKind.{PreKind}
use Rattle.chars.specs.declared.spelling.PreKind.TheVariants.{Rc}
use Rattle.chars.specs.Spelling.{pre_kind_of, pre_spelling, pre_spelling_of, spelling_of, post_spelling, dev_spelling}
use Rattle.chars.proofs.FirstWords.{tried_first}

-- past the last but one, the kind is that of the last
either : (t : Bool) (k : PreKind) → k ≡ cond t k k
either true k = refl
either false k = refl

pub kind_past : (which : ℕ) → (which ≡ 0 → ⊥) → (which ≡ 1 → ⊥) → (which ≡ 2 → ⊥) → (which ≡ 3 → ⊥) → (which ≡ 4 → ⊥) → (which ≡ 5 → ⊥) →
    (which ≡ 6 → ⊥) → Rc ≡ pre_kind_of which
unfolding pre_kind_of
kind_past which a b c d e f g =
    rw (
      ne_eqb which 0 a,
      ne_eqb which 1 b,
      ne_eqb which 2 c,
      ne_eqb which 3 d,
      ne_eqb which 4 e,
      ne_eqb which 5 f,
      ne_eqb which 6 g,
    )
    (either (eqb which 7) Rc)

-- what the words of each part say, in their order
pub pre_tried : (s : List ℕ) → pre_spelling_of (first_in 0 (words_in (ascii "alpha beta preview pre rc a b c")) s) ≡ pre_spelling s
unfolding words_in pre_spelling pre_kind_of
pre_tried s =
    tried_first pre_spelling_of 0 (words_in (ascii "alpha beta preview pre rc a b c")) s
    (omega arith, (omega arith, (omega arith, (omega arith, (omega arith, (omega arith, (omega arith, (omega arith, tt))))))))

post_tried : (s : List ℕ) → spelling_of (first_in 0 (words_in (ascii "post rev r")) s) ≡ post_spelling s
unfolding words_in post_spelling
post_tried s = tried_first spelling_of 0 (words_in (ascii "post rev r")) s (omega arith, (omega arith, (omega arith, tt)))

dev_tried : (s : List ℕ) → spelling_of (first_in 0 (words_in (ascii "dev")) s) ≡ dev_spelling s
unfolding words_in dev_spelling
dev_tried s = tried_first spelling_of 0 (words_in (ascii "dev")) s (omega arith, tt)

-- the ways of `pre_spelling`, r being the word that is found
module _ (s : List ℕ) (r : Option (ℕ × ℕ)) (e : r ≡ first_in 0 (words_in (ascii "alpha beta preview pre rc a b c")) s) where
  pub pre_found : (which n : ℕ) (k : PreKind) → r ≡ Some (which, n) → k ≡ pre_kind_of which → Some (k, n) ≡ pre_spelling s
  pre_found which n k f g = rw (← pre_tried s, ← e, f, g)

  pub pre_missing : r ≡ None → None ≡ pre_spelling s
  pre_missing f = rw (← pre_tried s, ← e, f)

-- and those of `post_spelling` and `dev_spelling`
module _ (s : List ℕ) (r : Option ℕ) where
  pub post_spelled : r ≡ spelling_of (first_in 0 (words_in (ascii "post rev r")) s) → r ≡ post_spelling s
  post_spelled e = e ∙ post_tried s

  pub dev_spelled : r ≡ spelling_of (first_in 0 (words_in (ascii "dev")) s) → r ≡ dev_spelling s
  dev_spelled e = e ∙ dev_tried s
