-- The suffix of a normal text is read back, rules 5 to 7: each part where it stands, and no part where another follows.
-- Assumes nothing.
use Rattle.std.specs.Prelude.{Option, None, Some, Ok}
use mathlib.Core.Path.{◌≡◌, refl, ◌∙◌}
use mathlib.Core.Bool.{false, cond}
use mathlib.Core.List.{List, [], ◌∷◌, ◌++◌, append_assoc}
use Prim.Native.Nat.{ℕ, ◌+◌, ◌<◌}
use Prim.Native.Char.{code}
use native.Mathlib.Nat.{add-zero}
use native.Mathlib.Omega.{arith}
use lib.Dec.{eqb}
use lib.ListN.{length, get_or, drop}
use borrow.Author.Tests.{ne_eqb}
use Rattle.chars.specs.Text.{ascii}
use Rattle.chars.specs.Class.{class_of, between, front}
use Rattle.chars.specs.Case.{lower_of, starts_with}
use Rattle.chars.specs.declared.spelling.PreKind.{PreKind}
use Rattle.chars.specs.declared.spelling.PreKind.TheVariants.{Alpha, Beta, Rc}
use Rattle.chars.specs.Spelling.{pre_spelling, post_spelling, dev_spelling}
use Rattle.chars.proofs.Beginnings.{lower_under}
use Rattle.decimal.specs.Digits.{decimal}
use Rattle.decimal.specs.Parse.{digits_of}
use Rattle.version_parts.specs.Places.{separator_end, marked_number}
use Rattle.version_parts.specs.Suffix.{Step, number_or_zero, pre_at, part_from, spelled_post, post_at, dev_at, suffix_at}
use Rattle.version_reading.specs.Value.{LocalSegment}
use Rattle.version_normal.specs.Normal.{kind_text, pre_text}
use Rattle.version_roundtrip.specs.Text.{label_text, from_dev, from_post, from_pre}
use Rattle.version_roundtrip.specs.Readable.{Fits, PreFits, PartFits}
use Rattle.version_roundtrip.proofs.Numbers.{begins_with_digit}
use Rattle.version_roundtrip.proofs.Rests.{
  Left,
  stepped,
  separated,
  byte_here,
  further,
  separator_here,
  past_separator,
  past,
  no_separator,
  number_here,
}

-- what follows a release begins with no digit, no dash, no dot and number, no wildcard and no mark of an epoch
pub record Quiet (rest : List ℕ) : Type 0 where
  pub digits : digits_of rest ≡ 0
  pub dash : eqb (get_or rest 0 0) (code "-") ≡ false
  pub dot : cond (eqb (get_or rest 0 0) (code ".")) (digits_of (drop 1 rest)) 0 ≡ 0
  pub star : starts_with (ascii ".*") rest ≡ false
  pub mark : eqb (get_or rest 0 0) (code "!") ≡ false

pub quiet : (pre : Option (PreKind × ℕ)) (post dev : Option ℕ) (label : List LocalSegment) → Quiet (from_pre pre post dev label)
unfolding front between class_of starts_with lower_of
quiet (Some (Alpha, n)) post dev label = record { digits = refl; dash = refl; dot = refl; star = refl; mark = refl }
quiet (Some (Beta, n)) post dev label = record { digits = refl; dash = refl; dot = refl; star = refl; mark = refl }
quiet (Some (Rc, n)) post dev label = record { digits = refl; dash = refl; dot = refl; star = refl; mark = refl }
quiet None (Some n) dev label = record { digits = refl; dash = refl; dot = refl; star = refl; mark = refl }
quiet None None (Some n) label = record { digits = refl; dash = refl; dot = refl; star = refl; mark = refl }
quiet None None None [] = record { digits = refl; dash = refl; dot = refl; star = refl; mark = refl }
quiet None None None (x ∷ label) = record { digits = refl; dash = refl; dot = refl; star = refl; mark = refl }

-- what is looked at for a spelling: the rest after its separator, if it begins with one
abbrev bared : List ℕ → List ℕ
bared rest = drop (separated rest) rest

-- the spelling of a part that is not there is not found after the separator of the next part
no_pre : (post dev : Option ℕ) (label : List LocalSegment) → pre_spelling (bared (from_post post dev label)) ≡ None
unfolding class_of starts_with lower_of pre_spelling
no_pre (Some n) dev label = refl
no_pre None (Some n) label = refl
no_pre None None [] = refl
no_pre None None (x ∷ label) = refl

no_post : (dev : Option ℕ) (label : List LocalSegment) → post_spelling (bared (from_dev dev label)) ≡ None
unfolding class_of starts_with lower_of post_spelling
no_post (Some n) label = refl
no_post None [] = refl
no_post None (x ∷ label) = refl

no_dev : (label : List LocalSegment) → dev_spelling (bared (label_text label)) ≡ None
unfolding class_of starts_with lower_of dev_spelling
no_dev [] = refl
no_dev (x ∷ label) = refl

-- a part's number, after its spelling
count_here : (s : List ℕ) (at n : ℕ) (rest : List ℕ) → drop at s ≡ decimal n ++ rest → Fits n → digits_of rest ≡ 0 →
    Left s rest (number_or_zero s at) (λ next. Ok (n, next))
unfolding number_or_zero
count_here s at n rest here h e =
    let from : separator_end s at ≡ at = separator_here s at _ here ∙ rw (no_separator n rest) (add-zero at) in
    stepped (number_here s at n rest here h e) (λ next f. rw (from, f))

-- a spelling that goes on with a letter is not found where a number goes on
no_letter : (x : ℕ) (w : List ℕ) → 57 < x → (n : ℕ) (rest : List ℕ) → starts_with (x ∷ w) (decimal n ++ rest) ≡ false
unfolding starts_with
no_letter x w h = begins_with_digit (λ s. starts_with (x ∷ w) s ≡ false) (λ b s d.
    let small = lower_under b (omega (arith, d.1)) in
    rw (← small, ne_eqb b x (λ e. omega (arith, d.1))))

kind_here : (kind : PreKind) (n : ℕ) (rest : List ℕ) →
    pre_spelling (kind_text kind ++ (decimal n ++ rest)) ≡ Some (kind, (length (kind_text kind)))
unfolding pre_spelling starts_with lower_of
kind_here Alpha n rest = rw (no_letter (code "l") (ascii "pha") (omega arith) n rest)
kind_here Beta n rest = rw (no_letter (code "e") (ascii "ta") (omega arith) n rest)
kind_here Rc n rest = refl

kind_plain : (kind : PreKind) (rest : List ℕ) → separated (kind_text kind ++ rest) ≡ 0
unfolding class_of
kind_plain Alpha rest = refl
kind_plain Beta rest = refl
kind_plain Rc rest = refl

pre_there : (s : List ℕ) (at : ℕ) (kind : PreKind) (n : ℕ) (rest : List ℕ) → drop at s ≡ pre_text (Some (kind, n)) ++ rest → Fits n →
    digits_of rest ≡ 0 → Left s rest (pre_at s at) (λ next. Ok ((Some (kind, n)), next))
unfolding pre_at
pre_there s at kind n rest here h e =
    let word : drop at s ≡ kind_text kind ++ (decimal n ++ rest) = here ∙ append_assoc (kind_text kind) (decimal n) rest in
    let from : separator_end s at ≡ at = separator_here s at _ word ∙ rw (kind_plain kind (decimal n ++ rest)) (add-zero at) in
    stepped (count_here s (at + length (kind_text kind)) n rest (past s at (kind_text kind) _ word) h e)
    (λ next f. rw (from, word, kind_here kind n rest, f))

-- a part without kinds, by the words that f finds
module _ (f : List ℕ → Option ℕ) (s : List ℕ) (at : ℕ) where
  abbrev spelled : Step (Option ℕ)
  spelled = part_from s at (separator_end s at) (f (drop (separator_end s at) s))

  part_missing : (rest : List ℕ) → drop at s ≡ rest → f (bared rest) ≡ None → Left s rest spelled (λ next. Ok (None, next))
  part_missing rest here e = record { next = at; is = rw (past_separator s at rest here, e); left = here }

  part_there : (name : List ℕ) (n : ℕ) (rest : List ℕ) → drop at s ≡ code "." ∷ (name ++ (decimal n ++ rest)) →
      f (name ++ (decimal n ++ rest)) ≡ Some (length name) → Fits n → digits_of rest ≡ 0 → Left s rest spelled (λ next. Ok ((Some n), next))
  unfolding class_of
  part_there name n rest here found h e =
      let from : separator_end s at ≡ at + 1 = separator_here s at _ here in
      let word : drop (at + 1) s ≡ name ++ (decimal n ++ rest) = further s at _ here 1 in
      stepped (count_here s (at + 1 + length name) n rest (past s (at + 1) name _ word) h e) (λ next g. rw (from, word, found, g))

module _ (s : List ℕ) (at : ℕ) where
  pre_back : (pre : Option (PreKind × ℕ)) (post dev : Option ℕ) (label : List LocalSegment) → PreFits pre → drop at s ≡ from_pre pre post dev label →
      Left s (from_post post dev label) (pre_at s at) (λ next. Ok (pre, next))
  unfolding pre_at
  pre_back None post dev label h here = record {
    next = at;
    is = rw (past_separator s at _ here, no_pre post dev label);
    left = here;
  }
  pre_back (Some (kind, n)) post dev label h here = pre_there s at kind n _ here h (quiet None post dev label).digits

  spelled_post_back : (post dev : Option ℕ) (label : List LocalSegment) → PartFits post → drop at s ≡ from_post post dev label →
      Left s (from_dev dev label) (spelled_post s at) (λ next. Ok (post, next))
  unfolding spelled_post post_spelling starts_with lower_of
  spelled_post_back None dev label h here = part_missing post_spelling s at _ here (no_post dev label)
  spelled_post_back (Some n) dev label h here =
      part_there post_spelling s at (ascii "post") n _ here refl h (quiet None None dev label).digits

  post_back : (post dev : Option ℕ) (label : List LocalSegment) → PartFits post → drop at s ≡ from_post post dev label →
      Left s (from_dev dev label) (post_at s at) (λ next. Ok (post, next))
  unfolding post_at marked_number
  post_back post dev label h here =
      stepped (spelled_post_back post dev label h here) (λ next e. rw (byte_here s at _ here, (quiet None post dev label).dash) e)

  dev_back : (dev : Option ℕ) (label : List LocalSegment) → PartFits dev → drop at s ≡ from_dev dev label →
      Left s (label_text label) (dev_at s at) (λ next. Ok (dev, next))
  unfolding dev_at dev_spelling starts_with lower_of
  dev_back None label h here = part_missing dev_spelling s at _ here (no_dev label)
  dev_back (Some n) label h here =
      part_there dev_spelling s at (ascii "dev") n _ here refl h (quiet None None None label).digits

pub suffix_back : (s : List ℕ) (at : ℕ) (pre : Option (PreKind × ℕ)) (post dev : Option ℕ) (label : List LocalSegment) → PreFits pre → PartFits post → PartFits dev →
    drop at s ≡ from_pre pre post dev label → Left s (label_text label) (suffix_at s at) (λ next. Ok ((pre, post, dev), next))
unfolding suffix_at
suffix_back s at pre post dev label f g h here =
    let p = pre_back s at pre post dev label f here in
    let q = post_back s p.next post dev label g p.left in
    stepped (dev_back s q.next dev label h q.left) (λ next e. rw (p.is, q.is, e))
