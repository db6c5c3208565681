-- What holds of every element of a list holds of every element of a longer one, of its first ones, or in a weaker form. Assumes nothing.
use mathlib.Core.List.{List, [], ◌∷◌, ◌++◌}
use Prim.Native.Nat.{ℕ, zero, suc}
use lib.ListN.{take}
use Rattle.order.specs.All.{All}

pub all_append : {A : Type 0} (Q : A → Type 0) (l m : List A) → All Q l → All Q m → All Q (l ++ m)
all_append Q [] m a b = b
all_append Q (x ∷ l) m a b = (a.0, all_append Q l m a.1 b)

pub all_weaker : {A : Type 0} (Q R : A → Type 0) → ((x : A) → Q x → R x) → (l : List A) → All Q l → All R l
all_weaker Q R f [] a = tt
all_weaker Q R f (x ∷ l) a = (f x a.0, all_weaker Q R f l a.1)

pub all_take : {A : Type 0} (Q : A → Type 0) (k : ℕ) (l : List A) → All Q l → All Q (take k l)
all_take Q zero l a = tt
all_take Q (suc k) [] a = tt
all_take Q (suc k) (x ∷ l) a = (a.0, all_take Q k l a.1)
