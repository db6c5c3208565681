-- The versions that are met most, by a quick way: no epoch, at most four release numbers, no label, no blanks. What is found here is what the
-- rules read (`plain_read`); what is not found may still be a version.
use Rattle.chars.specs.declared.spelling.PreKind.{PreKind}
use Rattle.std.specs.Prelude.{◌≡◌, cond, List, ◌∷◌, ℕ, ◌≤◌, ltb, eqb, length, get_or, drop, replicate, Option, None, Some, IfSome, Ok, Err}
use Prim.Native.Char.{code}
use Rattle.chars.specs.Text.{ascii}
use Rattle.chars.specs.Case.{starts_with}
use Rattle.version_parts.specs.declared.fields.Release.{Release}
use Rattle.version_parts.specs.declared.fields.Version.{Version}
use Rattle.version_parts.specs.Fields.{no_local}
use Rattle.version_parts.specs.Places.{number_at, marked_number, on_number}
use Rattle.version_parts.specs.Suffix.{Step, Parts, suffix_at}
use Rattle.version_reading.specs.declared.plain.PlainHead.{PlainHead}
use Rattle.version_reading.specs.declared.plain.Plain.{Plain}
use Rattle.version_reading.specs.Reading.{longest}

abbrev pub plain_head : ℕ → ℕ → ℕ → ℕ → ℕ → ℕ → PlainHead
plain_head count a b c d at = record { count = count; first = a; second = b; third = c; fourth = d; at = at }

-- the blank one
abbrev pub no_head : PlainHead
no_head = plain_head 0 0 0 0 0 0

-- the release from after its numbers so far on
unfoldable pub after_fourth : List ℕ → ℕ → ℕ → ℕ → ℕ → ℕ → Option PlainHead
after_fourth s a b c d at = on_number (marked_number (code ".") s at) (Some (plain_head 4 a b c d at)) (λ e next. None) (λ e. None)

unfoldable pub after_third : List ℕ → ℕ → ℕ → ℕ → ℕ → Option PlainHead
after_third s a b c at = on_number (marked_number (code ".") s at) (Some (plain_head 3 a b c 0 at)) (λ d next. after_fourth s a b c d next) (λ e. None)

unfoldable pub after_second : List ℕ → ℕ → ℕ → ℕ → Option PlainHead
after_second s a b at = on_number (marked_number (code ".") s at) (Some (plain_head 2 a b 0 0 at)) (λ c next. after_third s a b c next) (λ e. None)

unfoldable pub after_first : List ℕ → ℕ → ℕ → Option PlainHead
after_first s a at = on_number (marked_number (code ".") s at) (Some (plain_head 1 a 0 0 0 at)) (λ b next. after_second s a b next) (λ e. None)

unfoldable pub plain_head_of : List ℕ → Option PlainHead
plain_head_of s =
    on_number (number_at s 0)
    None
    (λ a next. cond (eqb (get_or s next 0) (code "!")) None (after_first s a next))
    (λ e. None)

-- of four numbers the first `count` are there, and the others are 0
pub data Filled (count a b c d : ℕ) : Type 0 where
  none : count ≡ 0 → a ≡ 0 → b ≡ 0 → c ≡ 0 → d ≡ 0 → Filled count a b c d
  one : count ≡ 1 → b ≡ 0 → c ≡ 0 → d ≡ 0 → Filled count a b c d
  two : count ≡ 2 → c ≡ 0 → d ≡ 0 → Filled count a b c d
  three : count ≡ 3 → d ≡ 0 → Filled count a b c d
  four : count ≡ 4 → Filled count a b c d

-- the head names no place after `end`
pub record HeadWithin (end : ℕ) (h : PlainHead) : Type 0 where
  pub within : h.at ≤ end
  pub few : h.count ≤ 4
  pub filled : Filled h.count h.first h.second h.third h.fourth

-- r is what the rule gives as `spec`
pub record PlainHeaded (end : ℕ) (spec r : Option PlainHead) : Type 0 where
  pub is : r ≡ spec
  pub sound : IfSome r (HeadWithin end)

abbrev pub plain_with : PlainHead → Option (PreKind × ℕ) → Option ℕ → Option ℕ → Plain
plain_with h pre post dev = record {
  count = h.count;
  first = h.first;
  second = h.second;
  third = h.third;
  fourth = h.fourth;
  pre = pre;
  post = post;
  dev = dev;
}

abbrev pub found_with : PlainHead → Option (PreKind × ℕ) → Option ℕ → Option ℕ → Option Plain
found_with h pre post dev = Some (plain_with h pre post dev)

abbrev pub not_plain : Option Plain
not_plain = None

abbrev pub plain_suffixed : List ℕ → PlainHead → Step Parts → Option Plain
plain_suffixed s h (Ok ((pre, post, dev), next)) = cond (eqb next (length s)) (found_with h pre post dev) not_plain
plain_suffixed s h (Err e) = not_plain

-- after the release: nothing, or a suffix and nothing
unfoldable pub plain_at : List ℕ → PlainHead → Option Plain
plain_at s h =
    cond (eqb h.at (length s))
    (found_with h None None None)
    (cond (starts_with (ascii ".*") (drop h.at s)) not_plain (plain_suffixed s h (suffix_at s h.at)))

abbrev pub plain_from : List ℕ → Option PlainHead → Option Plain
plain_from s None = not_plain
plain_from s (Some h) = plain_at s h

unfoldable pub plain_of : List ℕ → Option Plain
plain_of s = cond (ltb longest (length s)) not_plain (plain_from s (plain_head_of s))

abbrev pub FilledPlain : Plain → Type 0
FilledPlain v = Filled v.count v.first v.second v.third v.fourth

-- of at most four numbers those that are not counted are 0
pub record PlainFilled (v : Plain) : Type 0 where
  pub few : v.count ≤ 4
  pub filled : FilledPlain v

-- r is what the rule gives as `spec`
pub record PlainRead (spec r : Option Plain) : Type 0 where
  pub is : r ≡ spec
  pub sound : IfSome r PlainFilled

-- a plain version's fields
abbrev pub whole_release : ℕ → ℕ → ℕ → ℕ → ℕ → Release
whole_release count a b c d = record { numbers = a ∷ b ∷ c ∷ d ∷ replicate 12 0; len = count }

abbrev pub whole_version : Plain → Version
whole_version v = record {
  epoch = 0;
  release = whole_release v.count v.first v.second v.third v.fourth;
  pre = v.pre;
  post = v.post;
  dev = v.dev;
  local = no_local;
}
