-- The library's `cmp` of keys, as their fields' order makes it, is the order of keys.
-- Assumes nothing.
use Rattle.std.specs.Option.{option_cmp}
use Rattle.std.specs.Ordering.{nat_cmp, ordering_then}
use Rattle.std.specs.declared.cmp.Ordering.{Ordering as Order}
use mathlib.Core.Path.{◌≡◌, ◌∙◌}
use Prim.Native.Nat.{compare}
use Rattle.order.specs.Ordering.{also}
use Rattle.order.specs.Compare.{option}
use Rattle.order.specs.Answer.{name_of}
use Rattle.order.proofs.Named.{number_named, option_named, then_named}
use Rattle.version_order.specs.declared.key.Key.{Key}
use Rattle.version_order.specs.Versions.{compare_key}

pub key_named : (a b : Key) →
    ordering_then (nat_cmp a.kind b.kind) (ordering_then (nat_cmp a.pre b.pre) (ordering_then (option_cmp nat_cmp a.post b.post) (nat_cmp a.dev b.dev))) ≡
    name_of (compare_key a b)
unfolding compare_key
key_named a b =
    rw (
      number_named a.kind b.kind,
      number_named a.pre b.pre,
      option_named a.post b.post,
      number_named a.dev b.dev,
      then_named (option compare a.post b.post) (compare a.dev b.dev),
      then_named (compare a.pre b.pre) (also (option compare a.post b.post) (compare a.dev b.dev)),
    )
    (then_named (compare a.kind b.kind) (also (compare a.pre b.pre) (also (option compare a.post b.post) (compare a.dev b.dev))))

-- a and b are the keys x and y
pub keys_are : (a b x y : Key) (r : Order) → a ≡ x → b ≡ y →
    r ≡ ordering_then (nat_cmp a.kind b.kind) (ordering_then (nat_cmp a.pre b.pre) (ordering_then (option_cmp nat_cmp a.post b.post) (nat_cmp a.dev b.dev))) →
    r ≡ name_of (compare_key x y)
keys_are a b x y r e f g = rw (← e, ← f) (g ∙ key_named a b)
