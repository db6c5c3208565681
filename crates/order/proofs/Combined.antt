-- A comparison through a function, and one comparison after another, keep the laws of an order. Assumes nothing.
use Rattle.order.specs.Compare.{Comparison, by, lex}
use Rattle.order.specs.Laws.{Laws}
use Rattle.order.proofs.Ordering.{also_turn, also_tri}

pub by_laws : {A B : Type 0} (f : A → B) {cmp : Comparison B} → Laws cmp → Laws (by f cmp)
by_laws f L = record { turn = λ a b. L.turn (f a) (f b); tri = λ a b c. L.tri (f a) (f b) (f c) }

pub lex_laws : {A : Type 0} {first second : Comparison A} → Laws first → Laws second → Laws (lex first second)
lex_laws {first} {second} L M = record {
  turn = λ a b. also_turn (first a b) (second a b) (first b a) (second b a) (L.turn a b) (M.turn a b);
  tri = λ a b c. also_tri (first a b) (first b c) (first a c) (second a b) (second b c) (second a c) (L.tri a b c) (M.tri a b c);
}
