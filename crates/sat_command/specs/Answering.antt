-- What a run of the program `sat` finds out.
use Rattle.std.specs.Prelude.{◌≡◌, ℕ, ◌≤◌, List, length, Option, Some, None}
use Rattle.psl_base.specs.Places.{file_limit}
use Rattle.psl_base.specs.Shelf.{Contents, ShelfState}
use Rattle.clauses.specs.declared.cnf.Cnf.{Cnf}
use Rattle.sat_dimacs.specs.Formulas.{StandsFor}
use Rattle.cdcl.specs.declared.answer.Answer.{Answer}
use Rattle.cdcl.specs.Answers.{IsAnswer}
use Rattle.sat_command.specs.Requests.{Asked}

-- how many lemmas may be learned
abbrev pub limit_of : Option ℕ → ℕ
limit_of None = 18446744073709551615
limit_of (Some steps) = steps

-- the text stands for a formula, and the answer is one for it, with its evidence
abbrev pub IsAnswerFor : List ℕ → ℕ → Answer → Type 0
IsAnswerFor text steps answer = (cnf : Cnf) × StandsFor text cnf.variables cnf.clauses × IsAnswer cnf steps answer

-- where the contents are told, the file is there and no longer than a file may be, and this is a fact of its content
abbrev pub OfContent : ShelfState → List ℕ → (List ℕ → Type 0) → Type 0
OfContent files name Fact =
    (contents : Contents) → files.told ≡ Some contents →
    (content : List ℕ) × (contents name ≡ Some content) × (length content ≤ file_limit) × Fact content

-- the answer is one for the formula that the file stands for
abbrev pub IsSolved : Asked → ShelfState → Answer → Type 0
IsSolved asked files answer = OfContent files asked.file (λ content. IsAnswerFor content (limit_of asked.steps) answer)

-- the words asked for an answer, and got it
abbrev pub IsAnswered : Option Asked → ShelfState → Answer → Type 0
IsAnswered None files answer = ⊥
IsAnswered (Some asked) files answer = IsSolved asked files answer
