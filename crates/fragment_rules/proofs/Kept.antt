-- A verdict is kept until a reset, which leaves nothing of what came before it. Of every reader, however it came to be.
-- Assumes nothing.
use mathlib.Core.Path.{◌≡◌, refl, sym, ◌∙◌, ap}
use mathlib.Core.Bool.{Bool, true, false, cond}
use mathlib.Core.List.{List, [], ◌∷◌}
use Prim.Native.Nat.{ℕ, ◌<◌}
use native.Mathlib.Decide.{dec_lt}
use native.Mathlib.Omega.{arith}
use borrow.Author.Tests.{lt-ltb, le-ltb}
use Rattle.version_reading.specs.Reading.{longest}
use Rattle.fragment_rules.specs.declared.answer.Answer.{Answer}
use Rattle.fragment_rules.specs.declared.reader.Reader.{Reader}
use Rattle.fragment_rules.specs.Reader.{fresh, added, taken, marked, overfull, settled, too_long, said_by, Said}
use Rattle.fragment_rules.specs.Events.{Event, lump, end, reset, run_from, Going}
use Rattle.fragment_rules.proofs.Lumps.{pick_same}

-- why there is a verdict
data Why (r : Reader) : Type 0 where
  long : longest < r.count → Why r
  ended : r.ended ≡ true → Why r

why : (r : Reader) → settled r ≡ true → Why r
why r s =
    elim (dec_lt longest r.count) [
      | yes h ↦ Why.long h
      | no h ↦ Why.ended (rw (le-ltb longest r.count (omega arith)) at s)
    ]

pub long_settled : (r : Reader) → longest < r.count → settled r ≡ true
long_settled r h = rw (lt-ltb longest r.count h)

pub ended_settled : (r : Reader) → r.ended ≡ true → settled r ≡ true
ended_settled r e = ap (cond (overfull r) true) e ∙ sym (pick_same (overfull r) true)

long_said : (r : Reader) → longest < r.count → said_by r ≡ too_long
unfolding said_by
long_said r h = rw (lt-ltb longest r.count h)

-- what changes no reader after its end mark, and leaves one too long that is
module _ (r q : Reader) (behind : r.ended ≡ true → q ≡ r) (more : longest < r.count → longest < q.count) (s : settled r ≡ true) where
  still_settled : settled q ≡ true
  still_settled =
      elim (why r s) [
        | Why.long h ↦ long_settled q (more h)
        | Why.ended e ↦ ap settled (behind e) ∙ s
      ]

  still_said : said_by q ≡ said_by r
  still_said =
      elim (why r s) [
        | Why.long h ↦ long_said q (more h) ∙ sym (long_said r h)
        | Why.ended e ↦ ap said_by (behind e)
      ]

module _ (r : Reader) (l : List ℕ) where
  pub taken_behind : r.ended ≡ true → taken r l ≡ r
  unfolding taken
  taken_behind e = ap (λ (b : Bool). cond b r (added r l)) e

  picked_long : (b : Bool) → longest < r.count → longest < (cond b r (added r l)).count
  picked_long true h = h
  picked_long false h = omega arith

  taken_long : longest < r.count → longest < (taken r l).count
  unfolding taken
  taken_long h = picked_long r.ended h

  pub settled_lump : settled r ≡ true → settled (taken r l) ≡ true
  settled_lump s = still_settled r (taken r l) taken_behind taken_long s

  pub kept_lump : settled r ≡ true → said_by (taken r l) ≡ said_by r
  kept_lump s = still_said r (taken r l) taken_behind taken_long s

module _ (r : Reader) where
  marked_behind : r.ended ≡ true → marked r ≡ r
  marked_behind e = ap (λ (b : Bool). record { held = r.held; count = r.count; ended = b }) (sym e)

  pub settled_end : settled r ≡ true → settled (marked r) ≡ true
  settled_end s = ended_settled (marked r) refl

  pub kept_end : settled r ≡ true → said_by (marked r) ≡ said_by r
  kept_end s = still_said r (marked r) marked_behind (λ h. h) s

pub kept : (r : Reader) (es : List Event) → Going es → settled r ≡ true → said_by (run_from r es) ≡ said_by r
unfolding run_from
kept r [] g s = refl
kept r (lump l ∷ es) g s = kept (taken r l) es g (settled_lump r l s) ∙ kept_lump r l s
kept r (end ∷ es) g s = kept (marked r) es g (settled_end r s) ∙ kept_end r s
kept r (reset ∷ es) g s = absurd g

-- as new
pub reset_new : (r : Reader) (es : List Event) → run_from r (reset ∷ es) ≡ run_from fresh es
unfolding run_from
reset_new r es = refl

-- two answers that meet one statement are the same
pub one_answer : {spec r q : Answer} → Said spec r → Said spec q → r ≡ q
one_answer p q = p.is ∙ sym q.is
