-- The order of versions is an order, with labels and without them: it is made of orders by combinators that keep the laws.
-- Assumes nothing.
use mathlib.Core.Path.{◌≡◌, refl, ◌∙◌, ap}
use mathlib.Core.List.{List, []}
use Prim.Native.Nat.{ℕ}
use Rattle.order.specs.Ordering.{eq, also}
use Rattle.order.specs.Compare.{list}
use Rattle.order.specs.Laws.{Laws}
use Rattle.order.proofs.Ordering.{also_eq}
use Rattle.order.proofs.Numbers.{number_laws}
use Rattle.order.proofs.Derived.{reflexive, eq_left, eq_right}
use Rattle.order.proofs.Combined.{by_laws, lex_laws}
use Rattle.order.proofs.Lists.{list_laws}
use Rattle.order.proofs.Missing.{option_laws}
use Rattle.order.proofs.Padded.{padded_laws}
use Rattle.version_parts.specs.declared.fields.Version.{Version}
use Rattle.version_reading.specs.Value.{Value, without_label, value_of}
use Rattle.version_order.specs.Versions.{compare_release, compare_key, key, compare_public, number_in, text_in, compare_label, compare_values}

release_laws : Laws compare_release
unfolding compare_release
release_laws = lex_laws (by_laws (λ v. v.epoch) number_laws) (by_laws (λ v. v.release) (padded_laws number_laws 0))

key_laws : Laws compare_key
unfolding compare_key
key_laws =
    lex_laws (by_laws (λ k. k.kind) number_laws)
    (lex_laws (by_laws (λ k. k.pre) number_laws)
    (lex_laws (by_laws (λ k. k.post) (option_laws number_laws)) (by_laws (λ k. k.dev) number_laws)))

label_laws : Laws compare_label
unfolding compare_label
label_laws = lex_laws (by_laws number_in (option_laws number_laws)) (by_laws text_in (list_laws number_laws))

pub public_laws : Laws compare_public
unfolding compare_public
public_laws = lex_laws release_laws (by_laws key key_laws)

pub value_laws : Laws compare_values
unfolding compare_values
value_laws = lex_laws public_laws (by_laws (λ v. v.label) (list_laws label_laws))

-- equal versions compare alike with every third, on either side
pub alike_left : (v w x : Value) → compare_values v w ≡ eq → compare_values v x ≡ compare_values w x
alike_left v w x e = eq_left value_laws v w x e

pub alike_right : (v w x : Value) → compare_values v w ≡ eq → compare_values x w ≡ compare_values x v
alike_right v w x e = eq_right value_laws x v w e

-- the same fields are equal
pub same_fields : (v w : Value) → v ≡ w → compare_values v w ≡ eq
same_fields v w e = rw e (reflexive value_laws w)

-- versions without a label
pub unlabelled : (v w : Value) → v.label ≡ [] → w.label ≡ [] → compare_values v w ≡ compare_public v w
unfolding compare_values
unlabelled v w e f =
    let equal : list compare_label v.label w.label ≡ eq = rw (e, f) in
    ap (also (compare_public v w)) equal ∙ also_eq (compare_public v w)

-- a label is nothing to the order without labels
pub unlabelled_left : (v w : Value) → compare_public v w ≡ compare_public (without_label v) w
unfolding compare_release compare_public
unlabelled_left v w = refl

pub unlabelled_right : (v w : Value) → compare_public v w ≡ compare_public v (without_label w)
unfolding compare_release compare_public
unlabelled_right v w = refl

-- nor is the text that it lies in
pub blind_left : (s t : List ℕ) (v : Version) (w : Value) → compare_public (value_of s v) w ≡ compare_public (value_of t v) w
unfolding value_of compare_release compare_public
blind_left s t v w = refl

pub label_blind : (s t : List ℕ) (v w : Version) →
    compare_public (value_of [] v) (value_of [] w) ≡ compare_public (value_of s v) (value_of t w)
unfolding value_of compare_release compare_public
label_blind s t v w = refl
