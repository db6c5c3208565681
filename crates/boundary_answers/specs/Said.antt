-- Answers in numbers: a call returns the refusal's number, 0 for none, and leaves three numbers in the lent answer: the value, the place and which text.
use Rattle.version_word.specs.declared.packed.Word.{Word}
use Rattle.std.specs.declared.cmp.Ordering.TheVariants.{Less, Equal, Greater}
use Rattle.std.specs.declared.cmp.Ordering.{Ordering as Order}
use Rattle.answers.specs.declared.RefusedInput.TheVariants.{First, Second}
use Rattle.answers.specs.declared.RefusedInput.{RefusedInput}
use Rattle.std.specs.Prelude.{◌≡◌, Bool, false, List, [], ◌∷◌, ℕ, ◌+◌, ◌*◌, Result, Ok, Err, true, Option, Some, None}
use Rattle.answers.specs.declared.Refusal.{Refusal}
use Rattle.version_reading.specs.declared.text.Verdict.{Verdict}
use Rattle.version_reading.specs.declared.text.Verdict.TheVariants.{Accepted, Refused as NotRead}
use Rattle.register_rules.specs.declared.lowest.Lowest.{Lowest}
use Rattle.register_rules.specs.declared.lowest.Lowest.TheVariants.{Nothing as NoTable, One, Two}
use Rattle.fragment_rules.specs.Lent.{flag}
use Rattle.boundary_answers.specs.declared.said.Said.{Said}

abbrev pub answered : ℕ → Said
answered n = record { number = 0; value = n; place = 0; of = 0 }

-- a refusal of the first text, list or table, or of the second
abbrev pub refused_of : ℕ → Refusal → Said
refused_of which x = record { number = x.number; value = 0; place = x.place; of = which }

-- the value is whether a wildcard follows
abbrev pub of_verdict : Verdict → Bool → Said
of_verdict Accepted wildcard = answered (flag wildcard)
of_verdict (NotRead x) wildcard = refused_of 1 x

-- that a reader of lumps has nothing to say yet is no refusal: its number is none of theirs
abbrev pub not_yet : Said
not_yet = record { number = 255; value = 0; place = 0; of = 0 }

abbrev pub of_says : Option Verdict → Said
of_says None = not_yet
of_says (Some verdict) = of_verdict verdict false

-- the length
abbrev pub of_measured : Result ℕ Refusal → Said
of_measured (Ok n) = answered n
of_measured (Err x) = refused_of 1 x

-- which of the two inputs is refused
abbrev pub of_refused : RefusedInput → Said
of_refused (First x) = refused_of 1 x
of_refused (Second x) = refused_of 2 x

abbrev pub of_compared : Result Order RefusedInput → Said
of_compared (Ok Less) = answered 0
of_compared (Ok Equal) = answered 1
of_compared (Ok Greater) = answered 2
of_compared (Err input) = of_refused input

-- the word, 0 for none: no version has the word 0
abbrev pub of_worded : Result (Option Word) Refusal → Said
of_worded (Ok (Some w)) = answered w.0
of_worded (Ok None) = answered 0
of_worded (Err x) = refused_of 1 x

abbrev pub of_yes_no : Result Bool RefusedInput → Said
of_yes_no (Ok false) = answered 0
of_yes_no (Ok true) = answered 1
of_yes_no (Err input) = of_refused input

-- the lowest identifier and, 65,536 times, the second lowest; 0 for each that there is not: no identifier of a register that is not refused is 0
abbrev pub of_lowest : Lowest → Said
of_lowest NoTable = answered 0
of_lowest (One id) = answered id
of_lowest (Two first second) = answered (first + 65536 * second)

abbrev pub of_fit : Result Lowest RefusedInput → Said
of_fit (Ok lowest) = of_lowest lowest
of_fit (Err input) = of_refused input

abbrev pub left : Said → List ℕ
left said = said.value ∷ said.place ∷ said.of ∷ []

-- what a call returned and left in the answer says this
pub record Told (said : Said) (answer : List ℕ) (r : ℕ) : Type 0 where
  pub returns : r ≡ said.number
  pub leaves : answer ≡ left said
