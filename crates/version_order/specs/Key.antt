-- The key of a version: its kind, and the numbers of its pre-, post- and development release as the order takes them.
use Rattle.std.specs.Prelude.{ℕ, None, Some, Option}
use Rattle.chars.specs.declared.spelling.PreKind.{PreKind}
use Rattle.decimal.specs.Parse.{largest}
use Rattle.chars.specs.declared.spelling.PreKind.TheVariants.{Alpha, Beta, Rc}
use Rattle.version_order.specs.declared.key.Key.{Key}

abbrev pub pre_kind : PreKind → ℕ
pre_kind Alpha = 2
pre_kind Beta = 3
pre_kind Rc = 4

-- 1 dev alone, 2 alpha, 3 beta, 4 rc, 5 none, 6 post without pre
abbrev pub kind_of : Option (PreKind × ℕ) → Option ℕ → Option ℕ → ℕ
kind_of (Some (kind, n)) post dev = pre_kind kind
kind_of None (Some n) dev = 6
kind_of None None (Some n) = 1
kind_of None None None = 5

-- 0 where there is no pre
abbrev pub pre_number : Option (PreKind × ℕ) → ℕ
pre_number None = 0
pre_number (Some (kind, n)) = n

-- its number; where it is absent, zero in kind 5 and the largest number in the others
abbrev pub dev_number : Option (PreKind × ℕ) → Option ℕ → Option ℕ → ℕ
dev_number pre post (Some n) = n
dev_number (Some (kind, n)) post None = largest
dev_number None (Some n) None = largest
dev_number None None None = 0

abbrev pub key_of : Option (PreKind × ℕ) → Option ℕ → Option ℕ → Key
key_of pre post dev = record {
  kind = kind_of pre post dev;
  pre = pre_number pre;
  post = post;
  dev = dev_number pre post dev;
}
