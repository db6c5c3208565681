-- Worked points of the order, by computation. They anchor the definitions against changes that would keep every law
-- and still be wrong, as a text segment put above numbers. Assumes nothing.
use Rattle.answers.specs.declared.RefusedInput.TheVariants.{First, Second}
use Rattle.chars.specs.declared.spelling.PreKind.{PreKind}
use Rattle.std.specs.Prelude.{Option, None, Some, Err}
use mathlib.Core.Path.{◌≡◌, refl}
use mathlib.Core.List.{List, [], ◌∷◌}
use Prim.Native.Nat.{ℕ}
use Rattle.answers.specs.Refusal.{refusal}
use Rattle.chars.specs.Text.{ascii}
use Rattle.chars.specs.declared.spelling.PreKind.TheVariants.{Alpha, Beta, Rc}
use Rattle.order.specs.Ordering.{lt, eq}
use Rattle.std.specs.declared.cmp.Ordering.TheVariants.{Less}
use Rattle.version_reading.specs.declared.text.Verdict.TheVariants.{Accepted, Refused}
use Rattle.version_reading.specs.Value.{LocalSegment, number, text, Value}
use Rattle.decimal.specs.Parse.{largest}
use Rattle.version_order.specs.Versions.{compare_release, compare_key, compare_public, compare_label, compare_values}
use Rattle.version_order.specs.Compared.{judged}

abbrev version : List ℕ → Option (PreKind × ℕ) → Option ℕ → Option ℕ → List LocalSegment → Value
version release pre post dev label = record { epoch = 0; release = release; pre = pre; post = post; dev = dev; label = label }

-- a release alone, and release 1 with a suffix
abbrev plain : List ℕ → Value
plain release = version release None None None []

abbrev one : Option (PreKind × ℕ) → Option ℕ → Option ℕ → Value
one pre post dev = version (1 ∷ []) pre post dev []

-- 4.9 and 4.10
pub nine_below_ten : compare_public (plain (4 ∷ 9 ∷ [])) (plain (4 ∷ 10 ∷ [])) ≡ lt
unfolding compare_release compare_public
nine_below_ten = refl

-- 4 and 4.0
pub zeros_are_equal : compare_public (plain (4 ∷ [])) (plain (4 ∷ 0 ∷ [])) ≡ eq
unfolding compare_release compare_key compare_public
zeros_are_equal = refl

-- 1.dev0, 1a0, 1b0, 1rc0, 1, 1.post0
pub dev_below_alpha : compare_public (one None None (Some 0)) (one (Some (Alpha, 0)) None None) ≡ lt
unfolding compare_release compare_key compare_public
dev_below_alpha = refl

pub alpha_below_beta : compare_public (one (Some (Alpha, 0)) None None) (one (Some (Beta, 0)) None None) ≡ lt
unfolding compare_release compare_key compare_public
alpha_below_beta = refl

pub beta_below_rc : compare_public (one (Some (Beta, 0)) None None) (one (Some (Rc, 0)) None None) ≡ lt
unfolding compare_release compare_key compare_public
beta_below_rc = refl

pub rc_below_release : compare_public (one (Some (Rc, 0)) None None) (one None None None) ≡ lt
unfolding compare_release compare_key compare_public
rc_below_release = refl

pub release_below_post : compare_public (one None None None) (one None (Some 0) None) ≡ lt
unfolding compare_release compare_key compare_public
release_below_post = refl

-- 1a1 and 1a1.post0
pub missing_post_below : compare_public (one (Some (Alpha, 1)) None None) (one (Some (Alpha, 1)) (Some 0) None) ≡ lt
unfolding compare_release compare_key compare_public
missing_post_below = refl

-- 1a1.dev5 and 1a1; 1.post1.dev5 and 1.post1
pub dev_below_pre : compare_public (one (Some (Alpha, 1)) None (Some 5)) (one (Some (Alpha, 1)) None None) ≡ lt
unfolding compare_release compare_key compare_public
dev_below_pre = refl

pub dev_below_post : compare_public (one None (Some 1) (Some 5)) (one None (Some 1) None) ≡ lt
unfolding compare_release compare_key compare_public
dev_below_post = refl

-- 1a1.dev18446744073709551615 and 1a1
pub largest_dev_is_none : compare_public (one (Some (Alpha, 1)) None (Some largest)) (one (Some (Alpha, 1)) None None) ≡ eq
unfolding compare_release compare_key compare_public
largest_dev_is_none = refl

-- 1+z and 1+0; 1+a and 1+a.0; 1 and 1+a
pub text_below_number : compare_label (text (ascii "z")) (number 0) ≡ lt
unfolding compare_label
text_below_number = refl

abbrev labelled : List LocalSegment → Value
labelled label = version (1 ∷ []) None None None label

pub beginning_first : compare_values (labelled (text (ascii "a") ∷ [])) (labelled (text (ascii "a") ∷ number 0 ∷ [])) ≡ lt
unfolding compare_release compare_key compare_public compare_label compare_values
beginning_first = refl

pub label_above_none : compare_values (labelled []) (labelled (text (ascii "a") ∷ [])) ≡ lt
unfolding compare_release compare_key compare_public compare_values
label_above_none = refl

-- the first text is judged first
pub first_judged : judged (Refused (refusal 1 0)) (Refused (refusal 2 0)) Less ≡ Err (First (refusal 1 0))
first_judged = refl

pub second_judged : judged Accepted (Refused (refusal 2 0)) Less ≡ Err (Second (refusal 2 0))
second_judged = refl
