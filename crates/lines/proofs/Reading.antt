-- Reading on after what is held.
-- Assumes nothing.
use mathlib.Core.Path.{◌≡◌, sym, ap, ◌∙◌}
use mathlib.Core.List.{List}
use Prim.Native.Nat.{ℕ, ◌-◌, ◌≤◌}
use native.Mathlib.Omega.{arith}
use lib.Dec.{eqb}
use lib.ListN.{length, length-append, take, drop}
use lib.Seq.{take_at}
use Rattle.lines.specs.declared.window.Window.{Window}
use Rattle.lines.specs.declared.window.Next.{Next}
use Rattle.lines.specs.Window.{held, front}
use Rattle.lines.specs.Input.{Slid, Behind, Told}

-- what was moved to the front stays there
pub kept_before : (old new : List ℕ) (w : Window) {moved : List ℕ} {count end : ℕ} → Slid old w.start w.end moved count → Behind moved count new end →
    take (length (held old w)) new ≡ held old w
kept_before old new w {moved} {count} s b =
    ap (λ n. take n new) (sym s.count) ∙ b.before ∙ ap (take count) s.moved ∙ take_at (held old w) (drop count old) count (sym s.count)

pub slid_inside : (old : List ℕ) (start end : ℕ) {moved : List ℕ} {count : ℕ} → Slid old start end moved count → count ≤ length moved
slid_inside old start end {moved} {count} s =
    let size = ap length s.moved ∙ length-append (take (end - start) (drop start old)) (drop count old) in
    omega (arith, s.count, size)

module _ (old : List ℕ) (w : Window) {moved : List ℕ} {count : ℕ} (slid : Slid old w.start w.end moved count) (end : ℕ) where
  pub came_behind : (new : List ℕ) → Behind moved count new end → length (held old w) ≤ end
  came_behind new b = omega (arith, slid.count, b.onward)

  pub nothing_came : eqb end count ≡ eqb end (length (held old w))
  nothing_came = rw slid.count

pub at_the_front : (buffer : List ℕ) (w : Window) (longest : ℕ) {r : Next} → r ≡ front buffer w longest → Told buffer longest r
at_the_front buffer w longest e = record { window = w; is = e }
