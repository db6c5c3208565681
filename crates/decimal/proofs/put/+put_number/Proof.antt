-- `decimal::put::put_number` meets its contract: the digits of n / 10, then one more. The number itself falls.
-- Assumes nothing.
use Prim.Native.Nat.{ℕ, ◌<◌}
use native.Mathlib.Omega.{arith}
use borrow.Author.Rules.{rules}
use borrow.Fn.Kinds.{In}
use borrow.Fn.PlainCycle.{Measures, is, falls, and}
use Rattle.decimal.proofs.Puts.{one_put, more_put}
use Rattle.decimal.proofs.put.put_number.Reads as put-number
use Rattle.decimal.proofs.put.put_number.Kinds as put-number-kinds
use Rattle.decimal.proofs.put.+put_number.Lts-put_number as put-number-lts
use Rattle.decimal.proofs.put.put_byte.Reads as put-byte-reads
use Rattle.decimal.proofs.put.+put_number.{statement}
use Rattle.decimal.proofs.put.+put_number.Tie.{close}

abbrev μ_put_number : Measures 1 put-number-kinds.ps ℕ
μ_put_number κs a = a.1.1.0

abbrev put_number_at : ℕ → In 1 put-number-kinds.ps
put_number_at t =
    and 1 put-number-kinds.ps (is 1 put-number-kinds.ps μ_put_number t) put-number.Pre

abbrev put_number_below : ℕ → In 1 put-number-kinds.ps
put_number_below t =
    and 1 put-number-kinds.ps (falls 1 put-number-kinds.ps ◌<◌ μ_put_number t) put-number.Pre

pub +put_number_spec : {M : Type 1} → statement M
+put_number_spec =
    close μ_put_number λ t.
    put-number-lts.spec (put-byte-reads.Asked, put-byte-reads.Learnt, put_number_below t, put-number.Post) (put_number_at t) put-number.Post
    (λ c. omega arith)
    (λ c. omega arith)
    (λ c κs. search rules)
    (λ c κs. (omega arith, search rules))
    (λ c. omega arith)
    (λ c. omega arith)
    (λ c κs. search rules)
    (λ c. search rules)
    (λ c. search one_put)
    (λ c. search rules)
    (λ c. search more_put)
