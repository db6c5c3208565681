-- The lines that the program prints.
use Rattle.answers.specs.declared.RefusedInput.TheVariants.{First, Second}
use Rattle.answers.specs.declared.RefusedInput.{RefusedInput}
use Rattle.std.specs.Prelude.{List, ◌++◌, ℕ, Result, Ok, Err}
use Rattle.answers.specs.declared.Refusal.{Refusal}
use Rattle.chars.specs.Text.{ascii}
use Rattle.decimal.specs.Digits.{decimal}
use Rattle.register_rules.specs.declared.lowest.Lowest.{Lowest}
use Rattle.register_rules.specs.declared.lowest.Lowest.TheVariants.{Nothing, One, Two}
use Rattle.answer_lines.specs.Text.{refusal_line, normal_line}

abbrev pub several_text : ℕ → ℕ → List ℕ
several_text first second = ascii "several " ++ decimal first ++ ascii " " ++ decimal second

abbrev pub lowest_text : Lowest → List ℕ
lowest_text Nothing = ascii "none"
lowest_text (One id) = decimal id
lowest_text (Two first second) = several_text first second

-- the answer to a version, by which entries fit it
abbrev pub fit_line : Result Lowest RefusedInput → List ℕ → List ℕ
fit_line (Ok lowest) version = lowest_text lowest ++ normal_line (ascii " ") version
fit_line (Err (First x)) version = refusal_line (ascii "register refused ") x
fit_line (Err (Second x)) version = refusal_line (ascii "refused ") x

-- the one answer where a line of the register, counted from 1, is refused
abbrev pub entry_line : ℕ → Refusal → List ℕ
entry_line k x = ascii "entry " ++ decimal k ++ refusal_line (ascii " refused ") x

-- `several 65535 65535 `, a normal text of 1,033 bytes, and the line feed
abbrev pub longest_answer : ℕ
longest_answer = 1054
