-- The prefix law: `==V.*` matches exactly the versions from V.dev0 up to, and not with, the next prefix's .dev0.
-- Assumes nothing.
use Rattle.chars.specs.declared.spelling.PreKind.{PreKind}
use Rattle.std.specs.Prelude.{None, Some, Option}
use mathlib.Core.Path.{◌≡◌, refl, ◌∙◌, ap}
use mathlib.Core.Bool.{Bool, true, false, not, ◌&&◌, cond}
use mathlib.Core.List.{List, [], ◌∷◌}
use Prim.Native.Nat.{ℕ, suc, compare}
use lib.Dec.{eqb, leb-zero}
use lib.ListN.{take}
use Rattle.chars.specs.declared.spelling.PreKind.TheVariants.{Alpha, Beta, Rc}
use Rattle.order.specs.Ordering.{Ordering, is_le, is_gt, also}
use Rattle.order.specs.Compare.{padded, option}
use Rattle.order.proofs.Ordering.{also_at_most}
use Rattle.version_reading.specs.Value.{Value}
use Rattle.decimal.specs.Parse.{largest}
use Rattle.version_order.specs.Key.{kind_of, pre_number, dev_number}
use Rattle.version_order.specs.Versions.{compare_release, compare_key, key, compare_public}
use Rattle.version_prefix.specs.Prefix.{
  prefix_matches,
  cut_to,
  raised,
  next_release,
  carried,
  next_prefix,
  dev_zero,
  prefix_start,
  zeroed,
  prefix_end,
  ends_above,
  Held,
}
use Rattle.version_prefix.proofs.Prefixes.{above, between, next_above, beginning_least}

-- the epoch in front of the release: how versions compare up to their keys
abbrev numbers : Value → List ℕ
numbers v = v.epoch ∷ v.release

-- both answers are at most
at_most_both : (o p : Ordering) → is_le o ≡ true → is_le p ≡ true → is_le (also o p) ≡ true
at_most_both o p e f = also_at_most o p f ∙ e

kind_least : (pre : Option (PreKind × ℕ)) (post dev : Option ℕ) → is_le (compare 1 (kind_of pre post dev)) ≡ true
kind_least (Some (Alpha, n)) post dev = refl
kind_least (Some (Beta, n)) post dev = refl
kind_least (Some (Rc, n)) post dev = refl
kind_least None (Some n) dev = refl
kind_least None None (Some n) = refl
kind_least None None None = refl

post_least : (post : Option ℕ) → is_le (option compare None post) ≡ true
post_least None = refl
post_least (Some n) = refl

-- dev 0 alone is the least key
key_least : (e : ℕ) (r : List ℕ) (w : Value) → is_le (compare_key (key (dev_zero e r)) (key w)) ≡ true
unfolding compare_key
key_least e r w =
    at_most_both (compare 1 (kind_of w.pre w.post w.dev)) _ (kind_least w.pre w.post w.dev)
    (at_most_both (compare 0 (pre_number w.pre)) _ (leb-zero (pre_number w.pre))
    (at_most_both (option compare None w.post) _ (post_least w.post)
    (leb-zero (dev_number w.pre w.post w.dev))))

dev_zero_least : (e : ℕ) (r : List ℕ) (w : Value) → is_le (compare_public (dev_zero e r) w) ≡ is_le (padded compare 0 (e ∷ r) (numbers w))
unfolding compare_release compare_public
dev_zero_least e r w =
    also_at_most (padded compare 0 (e ∷ r) (numbers w)) (compare_key (key (dev_zero e r)) (key w)) (key_least e r w)

-- a release 0 is no release at all
zero_alone : (l : List ℕ) → padded compare 0 (0 ∷ []) l ≡ padded compare 0 [] l
zero_alone [] = refl
zero_alone (x ∷ l) = refl

-- the end of what begins with the epoch e, by what the release numbers have become
carried_above : (e : ℕ) (n : Option (List ℕ)) (w : Value) → ends_above (zeroed (carried e n)) w ≡ above (raised e n) (numbers w)
carried_above e (Some q) w = ap not (dev_zero_least e q w)
carried_above e None w = go (eqb e largest)
  where
    go : (b : Bool) → ends_above (zeroed (cond b None (Some (record { epoch = suc e; release = 0 ∷ [] })))) w ≡
        above (cond b None (Some (suc e ∷ []))) (numbers w)
    go true = refl
    go false =
        ap not (dev_zero_least (suc e) (0 ∷ []) w)
        ∙ ap (λ (o : Ordering). is_gt (also (compare (suc e) w.epoch) o)) (zero_alone w.release)

end_above : (v w : Value) → ends_above (prefix_end v) w ≡ above (next_release (numbers v)) (numbers w)
unfolding next_prefix
end_above v w = carried_above v.epoch (next_release v.release) w

pub prefix_law : (v w : Value) → Held w → prefix_matches v w ≡ is_le (compare_public (prefix_start v) w) && ends_above (prefix_end v) w
unfolding prefix_matches
prefix_law v w h =
    rw (dev_zero_least v.epoch v.release w, end_above v w) (between (numbers v) (numbers w) (h.epoch, h.release))

pub prefix_proper : (v : Value) → ends_above (prefix_end v) (prefix_start v) ≡ true
prefix_proper v = end_above v (prefix_start v) ∙ next_above (numbers v)

-- what a version's first numbers match begins at or below the version
pub prefix_starts : (count : ℕ) (v : Value) → is_le (compare_public (prefix_start (cut_to count v)) v) ≡ true
prefix_starts count v = dev_zero_least v.epoch (take count v.release) v ∙ beginning_least (suc count) (numbers v)
