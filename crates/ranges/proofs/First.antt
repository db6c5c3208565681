-- Of equal ends the first that the shapes give stands in the table. What is carried through the compilation, for each range: its ends are
-- first ones, and no end given so far lies strictly inside it. So an end that comes to stand inside it is equal to none before, and is
-- itself the first of its kind. Assumes nothing.
use Rattle.std.specs.Prelude.{Some}
use mathlib.Core.Path.{◌≡◌}
use mathlib.Core.List.{List, [], ◌∷◌, ◌++◌, map, append-nil}
use mathlib.Core.Bool.{Bool, true, false, ◌&&◌, and-false}
use mathlib.Core.Logic.{◌⊎◌, inl, inr, ⊎_elim}
use lib.Seq.{append_snoc}
use Rattle.order.specs.All.{All}
use Rattle.order.specs.Preorder.{TotalPreorder, Bounded}
use Rattle.order.proofs.Preorder.{le_refl, le_lt_trans, lt_le_trans}
use Rattle.ranges.specs.Range.{Range}
use Rattle.ranges.specs.Shape.{Shape, span, hole, lower_end, upper_end, Proper}
use Rattle.ranges.specs.Compile.{tighter, narrow, clip, step, compile, table}
use Rattle.ranges.specs.Table.{first, IsFirst, Firsts}
use Rattle.ranges.proofs.Truth.{by_test, cond_behind}
use Rattle.order.proofs.Elements.{all_append, all_weaker}
use Rattle.ranges.proofs.Clip.{old_lower, new_lower, old_upper, new_upper, clip_all}

module _ {P : Type 0} (le : P → P → Bool) where
  -- not strictly inside the range
  abbrev Outside : Range P → P → Type 0
  Outside r y = (le y r.lo ≡ true) ⊎ (le r.hi y ≡ true)

  -- what is carried of a range; ls and us are the lower and the upper ends given so far
  record Carried (ls us : List P) (r : Range P) : Type 0 where
    lower_first : IsFirst le ls r.lo
    upper_first : IsFirst le us r.hi
    lowers_outside : All (Outside r) ls
    uppers_outside : All (Outside r) us

  -- more ends after change no first one
  first_append : (e x : P) (l m : List P) → first le e l ≡ Some x → first le e (l ++ m) ≡ Some x
  first_append e x [] m h = cc
  first_append e x (y ∷ l) m h =
      cond_behind (le y e && le e y) (Some y) (first le e l) (first le e (l ++ m)) (Some x) (first_append e x l m) h

module _ {P : Type 0} {le : P → P → Bool} (L : TotalPreorder le) where
  -- an end that equals none before it is the first of its kind
  first_new : (e : P) (l : List P) → All (λ y. (le y e && le e y) ≡ false) l → IsFirst le (l ++ (e ∷ [])) e
  first_new e [] a = rw (le_refl L e)
  first_new e (y ∷ l) a = rw a.0 (first_new e l a.1)

  -- the tighter of two ends is a first one: the old one stays first, and the new one takes its place only where it is new. The test is
  -- `le` for lower ends and `le` turned round for upper ones
  first_tighter : (test : P → P → Bool) (new old : P) (l : List P) → IsFirst le l old
      → (test new old ≡ false → All (λ y. (le y new && le new y) ≡ false) l) → IsFirst le (l ++ (new ∷ [])) (tighter test new old)
  first_tighter test new old l f g =
      by_test (IsFirst le (l ++ (new ∷ []))) (test new old) old new
      (λ e. first_append le old old l (new ∷ []) f) (λ e. first_new new l (g e))

  -- what lies strictly inside a range equals nothing outside it
  inside_new : (r : Range P) (x : P) → le x r.lo ≡ false → le r.hi x ≡ false → (l : List P) → All (Outside le r) l
      → All (λ y. (le y x && le x y) ≡ false) l
  inside_new r x p q = all_weaker (Outside le r) (λ y. (le y x && le x y) ≡ false)
      (λ y. ⊎_elim (λ e. rw (le_lt_trans L e p) (and-false (le y x))) (λ e. rw (lt_le_trans L q e)))

  -- one range, narrowed and not empty
  module _ (lo hi : P) (r : Range P) (filled : le (narrow le lo hi r).hi (narrow le lo hi r).lo ≡ false) where
    lower_stands : (l : List P) → IsFirst le l r.lo → All (Outside le r) l → IsFirst le (l ++ (lo ∷ [])) (narrow le lo hi r).lo
    lower_stands l f o = first_tighter le lo r.lo l f (λ e.
        inside_new r lo e (lt_le_trans L (le_lt_trans L (new_lower L lo hi r) filled) (old_upper L lo hi r)) l o)

    upper_stands : (l : List P) → IsFirst le l r.hi → All (Outside le r) l → IsFirst le (l ++ (hi ∷ [])) (narrow le lo hi r).hi
    upper_stands l f o = first_tighter (λ a b. le b a) hi r.hi l f (λ e.
        inside_new r hi (lt_le_trans L (le_lt_trans L (old_lower L lo hi r) filled) (new_upper L lo hi r)) e l o)

  -- the ends that lay outside a range lie outside it narrowed, and so does one end more
  still_outside : (lo hi : P) (r : Range P) (l : List P) (y : P) → All (Outside le r) l → Outside le (narrow le lo hi r) y
      → All (Outside le (narrow le lo hi r)) (l ++ (y ∷ []))
  still_outside lo hi r l y o n =
      all_append (Outside le (narrow le lo hi r)) l (y ∷ [])
      (all_weaker (Outside le r) (Outside le (narrow le lo hi r))
      (λ z. ⊎_elim (λ e. inl (L.trans e (old_lower L lo hi r))) (λ e. inr (L.trans (old_upper L lo hi r) e))) l o)
      (n, tt)

  module _ {bot top : P} (B : Bounded le bot top) where
    step_carried : (s : Shape P) → Proper le s → (ls us : List P) (T : List (Range P)) → All (Carried le ls us) T
        → All (Carried le (ls ++ (lower_end s ∷ [])) (us ++ (upper_end s ∷ []))) (step le bot top s T)
    step_carried (span lo hi) p ls us T a =
        clip_all le (Carried le ls us) (Carried le (ls ++ (lo ∷ [])) (us ++ (hi ∷ []))) lo hi
        (λ r k n. record {
          lower_first = lower_stands lo hi r n ls k.lower_first k.lowers_outside;
          upper_first = upper_stands lo hi r n us k.upper_first k.uppers_outside;
          lowers_outside = still_outside lo hi r ls lo k.lowers_outside (inl (new_lower L lo hi r));
          uppers_outside = still_outside lo hi r us hi k.uppers_outside (inr (new_upper L lo hi r));
        }) T a
    step_carried (hole lo hi) p ls us T a =
        all_append (Carried le (ls ++ (hi ∷ [])) (us ++ (lo ∷ []))) (clip le bot lo T) (clip le hi top T)
        (clip_all le (Carried le ls us) (Carried le (ls ++ (hi ∷ [])) (us ++ (lo ∷ []))) bot lo
        (λ r k n. record {
          lower_first = rw (B.least r.lo) (first_append le r.lo r.lo ls (hi ∷ []) k.lower_first);
          upper_first = upper_stands bot lo r n us k.upper_first k.uppers_outside;
          lowers_outside = still_outside bot lo r ls hi k.lowers_outside (inr (L.trans (new_upper L bot lo r) (L.total p)));
          uppers_outside = still_outside bot lo r us lo k.uppers_outside (inr (new_upper L bot lo r));
        }) T a)
        (clip_all le (Carried le ls us) (Carried le (ls ++ (hi ∷ [])) (us ++ (lo ∷ []))) hi top
        (λ r k n. record {
          lower_first = lower_stands hi top r n ls k.lower_first k.lowers_outside;
          upper_first = rw (B.greatest r.hi) (first_append le r.hi r.hi us (lo ∷ []) k.upper_first);
          lowers_outside = still_outside hi top r ls hi k.lowers_outside (inl (new_lower L hi top r));
          uppers_outside = still_outside hi top r us lo k.uppers_outside (inl (L.trans (L.total p) (new_lower L hi top r)));
        }) T a)

    compile_carried : (ss : List (Shape P)) → All (Proper le) ss → (ls us : List P) (T : List (Range P)) → All (Carried le ls us) T
        → All (Carried le (ls ++ map lower_end ss) (us ++ map upper_end ss)) (compile le bot top T ss)
    compile_carried [] p ls us T a = rw (append-nil ls, append-nil us) a
    compile_carried (s ∷ ss) p ls us T a =
        rw (append_snoc ls (lower_end s) (map lower_end ss), append_snoc us (upper_end s) (map upper_end ss)) at
        (compile_carried ss p.1 (ls ++ (lower_end s ∷ [])) (us ++ (upper_end s ∷ [])) (step le bot top s T)
        (step_carried s p.0 ls us T a))

    pub table_first : (ss : List (Shape P)) → All (Proper le) ss → Firsts le bot top ss (table le bot top ss)
    table_first ss p =
        all_weaker (Carried le (bot ∷ map lower_end ss) (top ∷ map upper_end ss))
        (λ r. IsFirst le (bot ∷ map lower_end ss) r.lo × IsFirst le (top ∷ map upper_end ss) r.hi)
        (λ r k. (k.lower_first, k.upper_first)) (table le bot top ss)
        (compile_carried ss p (bot ∷ []) (top ∷ []) (record { lo = bot; hi = top } ∷ []) (everything, tt))
      where
        everything : Carried le (bot ∷ []) (top ∷ []) (record { lo = bot; hi = top })
        everything = record {
          lower_first = rw (le_refl L bot);
          upper_first = rw (le_refl L top);
          lowers_outside = (inl (le_refl L bot), tt);
          uppers_outside = (inr (le_refl L top), tt);
        }
