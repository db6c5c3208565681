-- The versions at the ends of a sound clause can be written: its own, the start of what it matches, and the next prefix.
-- Assumes nothing.
use Rattle.std.specs.Prelude.{Option, None, Some}
use mathlib.Core.Path.{◌≡◌, refl}
use mathlib.Core.Bool.{Bool, true, false}
use mathlib.Core.List.{List, [], ◌∷◌}
use Prim.Native.Nat.{ℕ, suc, ◌-◌, ◌≤◌}
use native.Mathlib.Omega.{arith}
use lib.Dec.{eqb}
use lib.ListN.{length, length-take}
use borrow.Author.Tests.{eqb-false}
use Rattle.order.specs.All.{All}
use Rattle.order.proofs.Elements.{all_take}
use Rattle.ranges.specs.Cut.{bot, top, before, after}
use Rattle.ranges.specs.Shape.{lower_end, upper_end}
use Rattle.version_reading.specs.Value.{Value}
use Rattle.decimal.specs.Parse.{largest}
use Rattle.version_prefix.specs.Prefix.{shorter, raised, next_release, carried, next_prefix, dev_zero, zeroed, prefix_start}
use Rattle.version_roundtrip.specs.Readable.{Fits, Writable}
use Rattle.version_roundtrip.proofs.ReadPlaces.{by_cond}
use Rattle.list_clauses.specs.declared.operator.Operator.{Operator}
use Rattle.list_clauses.specs.declared.operator.Operator.TheVariants.{Equal, NotEqual, Compatible, AtMost, AtLeast, Below, Above}
use Rattle.list_clauses.specs.declared.clause.Clause.{Clause}
use Rattle.list_accepting.specs.Accept.{clause_value}
use Rattle.list_ends.specs.Cut.{Place}
use Rattle.list_ends.specs.Ends.{ends_before, match_end, first_place, second_place, hollow, first_end, second_end}
use Rattle.list_ends.specs.Shape.{shaped, clause_shape}
use Rattle.list_ends.specs.Sound.{Sound}

-- where there is a version, it can be written
abbrev pub Holds : Place → Type 0
Holds bot = Unit {0}
Holds top = Unit {0}
Holds (before v) = Writable v
Holds (after v) = Writable v

-- numbers of 64 bits: one at least, and `most` at most
record Numbers (most : ℕ) (l : List ℕ) : Type 0 where
  fits : All Fits l
  some : 1 ≤ length l
  few : length l ≤ most

abbrev NextFits : ℕ → Option (List ℕ) → Type 0
NextFits most None = Unit {0}
NextFits most (Some l) = Numbers most l

raised_fits : (x most : ℕ) (n : Option (List ℕ)) → Fits x → NextFits most n → NextFits (suc most) (raised x n)
raised_fits x most (Some l) fit r = record { fits = (fit, r.fits); some = omega arith; few = omega (arith, r.few) }
raised_fits x most None fit r =
    by_cond (NextFits (suc most)) (eqb x largest) (λ e. tt)
    (λ e. let other : x ≡ largest → ⊥ = eqb-false x largest e in
    record { fits = (omega arith, tt); some = omega arith; few = omega arith })

next_fits : (l : List ℕ) → All Fits l → NextFits (length l) (next_release l)
next_fits [] fits = tt
next_fits (x ∷ l) fits = raised_fits x (length l) (next_release l) fits.0 (next_fits l fits.1)

dev_zero_writable : (epoch : ℕ) (release : List ℕ) → Fits epoch → Numbers 16 release → Writable (dev_zero epoch release)
dev_zero_writable epoch release fit r = record {
  readable = record {
    epoch = fit;
    some = r.some;
    few = r.few;
    release = r.fits;
    pre = tt;
    post = tt;
    dev = omega arith;
    short = omega arith;
    label = tt;
  };
  unlabelled = refl;
}

carried_writable : (epoch most : ℕ) (n : Option (List ℕ)) → Fits epoch → most ≤ 16 → NextFits most n →
    Holds (ends_before (zeroed (carried epoch n)))
carried_writable epoch most (Some l) fit room r =
    dev_zero_writable epoch l fit (record { fits = r.fits; some = r.some; few = omega (arith, r.few) })
carried_writable epoch most None fit room r =
    by_cond (λ p. Holds (ends_before (zeroed p))) (eqb epoch largest) (λ e. tt)
    (λ e. let other : epoch ≡ largest → ⊥ = eqb-false epoch largest e in
    dev_zero_writable (suc epoch) (0 ∷ []) (omega arith) (record { fits = (omega arith, tt); some = omega arith; few = omega arith }))

end_holds : (v : Value) → Fits v.epoch → All Fits v.release → length v.release ≤ 16 → Holds (match_end v)
unfolding next_prefix
end_holds v fit fits few =
    carried_writable v.epoch (length v.release) (next_release v.release) fit few (next_fits v.release fits)

module _ (v : Value) (w : Writable v) where
  start : Writable (prefix_start v)
  start =
      dev_zero_writable v.epoch v.release w.readable.epoch
      (record { fits = w.readable.release; some = w.readable.some; few = w.readable.few })

  whole : Holds (match_end v)
  whole = end_holds v w.readable.epoch w.readable.release w.readable.few

  less : Holds (match_end (shorter v))
  less =
      let count = length v.release - 1 in
      end_holds (shorter v) w.readable.epoch (all_take Fits count v.release w.readable.release)
      (omega (arith, length-take count v.release, w.readable.few))

  first_holds : (o : Operator) (wildcard : Bool) → Holds (first_place o wildcard v)
  first_holds Equal false = w
  first_holds Equal true = start
  first_holds NotEqual false = w
  first_holds NotEqual true = start
  first_holds Compatible wildcard = w
  first_holds AtMost wildcard = tt
  first_holds AtLeast wildcard = w
  first_holds Below wildcard = tt
  first_holds Above wildcard = w

  second_holds : (o : Operator) (wildcard : Bool) → Holds (second_place o wildcard v)
  second_holds Equal false = w
  second_holds Equal true = whole
  second_holds NotEqual false = w
  second_holds NotEqual true = whole
  second_holds Compatible wildcard = less
  second_holds AtMost wildcard = w
  second_holds AtLeast wildcard = tt
  second_holds Below wildcard = w
  second_holds Above wildcard = tt

-- of a shape one end is the lower and the other the upper
by_shape : (gap : Bool) (lo hi : Place) → Holds lo → Holds hi → Holds (lower_end (shaped gap lo hi)) × Holds (upper_end (shaped gap lo hi))
by_shape false lo hi h k = (h, k)
by_shape true lo hi h k = (k, h)

pub shape_holds : (c : Clause) → Sound c → Holds (lower_end (clause_shape c)) × Holds (upper_end (clause_shape c))
shape_holds c sound =
    let w : Writable (clause_value c) = record { readable = sound.readable; unlabelled = sound.unlabelled } in
    by_shape (hollow c.operator) (first_end c) (second_end c)
    (first_holds (clause_value c) w c.operator c.wildcard) (second_holds (clause_value c) w c.operator c.wildcard)
