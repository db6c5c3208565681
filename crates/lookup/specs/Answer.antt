-- The lines that the program prints.
use Rattle.answers.specs.declared.RefusedInput.TheVariants.{First, Second}
use Rattle.answers.specs.declared.RefusedInput.{RefusedInput}
use Rattle.std.specs.Prelude.{List, ℕ, Result, Bool, Ok, true, false, Err}
use Rattle.chars.specs.Text.{ascii}
use Rattle.answer_lines.specs.Text.{refusal_line, normal_line}

-- the answer to a version, by what looking it up gave
abbrev pub answer_line : Result Bool RefusedInput → List ℕ → List ℕ
answer_line (Ok true) version = normal_line (ascii "yes ") version
answer_line (Ok false) version = normal_line (ascii "no ") version
answer_line (Err (First r)) version = refusal_line (ascii "table refused ") r
answer_line (Err (Second r)) version = refusal_line (ascii "refused ") r

-- `yes `, a normal text of 1,033 bytes, and the line feed
abbrev pub longest_answer : ℕ
longest_answer = 1038
