use Rattle.std.proofs.Common.{◌≡◌, ◌++◌, ◌∷◌, ◌∙◌, ap, ℕ, List, Some, None, arith}
use Rattle.psl_base.specs.Decimals.{plain_upto}
use Rattle.cert_theory.specs.Headers.{most_of}
use Rattle.cert_theory.specs.Lines.{word_of}
use Rattle.cert_lines.proofs.NumberLines.{none_read, number_says, too_small}
use Rattle.cert_lines.proofs.numbers.number_in.Goals as goal

pub returns-in_err-number-clause-none : goal.returns-in_err-number-clause-none
returns-in_err-number-clause-none c =
    let is : c.args.line.now ≡ word_of c.args.field ++ 32 ∷ c.in_ok-text.text.now = c.in_ok-text.ensures.some ∙ ap (λ (word : List ℕ). word ++ 32 ∷ c.in_ok-text.text.now) c.word_of.ensures in
    let none : None ≡ plain_upto (most_of c.args.field) c.in_ok-text.text.now = c.in_err-number.ensures.is ∙ ap (λ (n : ℕ). plain_upto n c.in_ok-text.text.now) (c.from.ensures ∙ c.most_of.ensures) in
    rw c.from_residual-in_err-number.ensures (λ number says. none_read c.args.field c.args.line.now c.in_ok-text.text.now number is none says)

pub returns-then-number-from-clause-some : goal.returns-then-number-from-clause-some
returns-then-number-from-clause-some c =
    let is : c.args.line.now ≡ word_of c.args.field ++ 32 ∷ c.in_ok-text.text.now = c.in_ok-text.ensures.some ∙ ap (λ (word : List ℕ). word ++ 32 ∷ c.in_ok-text.text.now) c.word_of.ensures in
    let some : Some c.in_ok-number.number ≡ plain_upto (most_of c.args.field) c.in_ok-text.text.now = c.in_ok-number.ensures.is ∙ ap (λ (n : ℕ). plain_upto n c.in_ok-text.text.now) (c.from.ensures ∙ c.most_of.ensures) in
    number_says c.args.field c.args.line.now c.in_ok-text.text.now c.in_ok-number.number is some (omega (arith, c.if-number-from.true, c.from-2.ensures, c.least_of.ensures))

pub returns-else-number-from-clause-none : goal.returns-else-number-from-clause-none
returns-else-number-from-clause-none c =
    let is : c.args.line.now ≡ word_of c.args.field ++ 32 ∷ c.in_ok-text.text.now = c.in_ok-text.ensures.some ∙ ap (λ (word : List ℕ). word ++ 32 ∷ c.in_ok-text.text.now) c.word_of.ensures in
    let some : Some c.in_ok-number.number ≡ plain_upto (most_of c.args.field) c.in_ok-text.text.now = c.in_ok-number.ensures.is ∙ ap (λ (n : ℕ). plain_upto n c.in_ok-text.text.now) (c.from.ensures ∙ c.most_of.ensures) in
    λ number says. too_small c.args.field c.args.line.now c.in_ok-text.text.now c.in_ok-number.number number is some (omega (arith, c.if-number-from.false, c.from-2.ensures, c.least_of.ensures)) says
