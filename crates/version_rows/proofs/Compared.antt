-- Rows compare, number by number, as their versions do.
-- Assumes nothing.
use Rattle.std.specs.Prelude.{Option, None, Some}
use mathlib.Core.Path.{◌≡◌, refl, sym, ◌∙◌}
use mathlib.Core.List.{List}
use Prim.Native.Nat.{ℕ, ◌-◌, ◌≤◌, compare}
use native.Mathlib.Omega.{arith}
use lib.ListN.{length, length-append, replicate, length-replicate}
use Rattle.order.specs.Ordering.{also}
use Rattle.order.specs.Compare.{padded, option}
use Rattle.order.proofs.Ordering.{also_assoc, also_eq}
use Rattle.order.proofs.Numbers.{number_laws}
use Rattle.order.proofs.Derived.{eq_left, eq_right}
use Rattle.order.proofs.Padded.{padded_laws, padded_append, padded_continued}
use Rattle.version_reading.specs.Value.{Value}
use Rattle.version_order.specs.declared.key.Key.{Key}
use Rattle.version_order.specs.Versions.{compare_release, compare_key, compare_public, key}
use Rattle.version_rows.specs.Row.{post_mark, post_number, key_numbers, sixteen, row_of, RowOf}

sixteen_compare : (a b : List ℕ) → padded compare 0 (sixteen a) (sixteen b) ≡ padded compare 0 a b
sixteen_compare a b =
    let L = padded_laws number_laws 0 in
    eq_left L (sixteen a) a (sixteen b) (padded_continued number_laws 0 a (16 - length a))
    ∙ sym (eq_right L a (sixteen b) b (padded_continued number_laws 0 b (16 - length b)))

pub sixteen_long : (a : List ℕ) → length a ≤ 16 → length (sixteen a) ≡ 16
sixteen_long a h = omega (arith, length-append a (replicate (16 - length a) 0), length-replicate {A = ℕ} (16 - length a) 0)

post_compare : (p q : Option ℕ)
    → option compare p q ≡ also (compare (post_mark p) (post_mark q)) (compare (post_number p) (post_number q))
post_compare None None = refl
post_compare None (Some n) = refl
post_compare (Some m) None = refl
post_compare (Some m) (Some n) = refl

key_compare : (k l : Key) → padded compare 0 (key_numbers k) (key_numbers l) ≡ compare_key k l
unfolding compare_key
key_compare k l = simp (post_compare, also_assoc, also_eq)

pub row_long : (v : Value) → length v.release ≤ 16 → length (row_of v) ≡ 22
unfolding row_of
row_long v h = omega (arith, length-append (sixteen v.release) (key_numbers (key v)), sixteen_long v.release h)

pub rows_compare : (v w : Value) → length v.release ≤ 16 → length w.release ≤ 16 → padded compare 0 (row_of v) (row_of w) ≡ compare_public v w
unfolding row_of compare_public compare_release
rows_compare v w h k =
    rw (
      padded_append compare 0 (sixteen v.release) (sixteen w.release) (key_numbers (key v)) (key_numbers (key w))
          (sixteen_long v.release h ∙ sym (sixteen_long w.release k)),
      sixteen_compare v.release w.release,
      key_compare (key v) (key w),
    )
    (sym (also_assoc (compare v.epoch w.epoch) (padded compare 0 v.release w.release) (compare_key (key v) (key w))))

-- the same of rows that were made
pub made_compare : (v w : Value) (a b : List ℕ) → RowOf v a → RowOf w b → padded compare 0 a b ≡ compare_public v w
made_compare v w a b p q = rw (p.is, q.is) (rows_compare v w p.few q.few)
