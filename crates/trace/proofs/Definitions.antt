-- The tokens that all declarations of a trace have, and the end of its definitions.
use Rattle.std.proofs.Common.{◌≡◌, ◌∙◌, refl, ap, ℕ, suc, ◌+◌, ◌<◌, ◌≤◌, Bool, true, false, List, [], ◌∷◌, ◌++◌, map, None, Some, arith}
use Rattle.std.specs.Prelude.{cond, nat_lt, codes}
use Rattle.std.specs.List.{range_with_len}
use Rattle.std.proofs.lemmas.Bool.{cond-false, le-ltb}
use Rattle.std.proofs.lemmas.Slice.Eq.{bytes_eq-Decides}
use Rattle.std.proofs.lemmas.List.FromFn.{map-range_with_len_more}
use Rattle.psl_base.specs.Tokens.{token_at}
use Rattle.trace.proofs.Digits.{no-end}
use Rattle.trace.specs.Codes.{code_of}
use Rattle.vcd_reader.specs.Declarations.{Declared, Variable, bits_most, bits_of, declared_with}
use Rattle.vcd_reader.specs.Shapes.{is_end, keyword_of, shape_of}
use Rattle.vcd_reader.specs.Standing.{Defining, InReference, Open, Ready, Standing, WantsDefinitionsEnd, WantsReference, WantsSize, WantsType}
use Rattle.vcd_reader.specs.declared.fault.VcdFault.TheVariants.{TooManySignals}
use Rattle.vcd_writer.proofs.Pieces.{Reads, reads-on, reads-word}
use Rattle.vcd_writer.proofs.Samples.{before_sample}
use Rattle.vcd_writer.proofs.Standings.{Goes}
use Rattle.vcd_writer.specs.Lines.{line}

pub more : {A : Type 0} (f : ℕ → A) (count : ℕ) → map f (range_with_len 0 (suc count)) ≡ map f (range_with_len 0 count) ++ f count ∷ []
more f count =
    ap (λ (n : ℕ). map f (range_with_len 0 n)) (let same : suc count ≡ count + 1 = omega arith in same)
    ∙ map-range_with_len_more f 0 count count (omega arith)

-- ---- the tokens of a declaration

-- among the definitions
abbrev pub defining : Declared → Open → Standing
defining declared opened = record { declared = declared; part = Defining; opened = opened }

pub var-goes : (whole : List ℕ) (declared : Declared) (at : ℕ) → Goes (defining declared Ready) (token_at whole at (codes "$var") ∷ []) [] (defining declared WantsType)
unfolding shape_of keyword_of
var-goes whole declared at = (refl, ([], refl, (refl, refl)))

pub wire-goes : (whole : List ℕ) (declared : Declared) (at : ℕ) → Goes (defining declared WantsType) (token_at whole at (codes "wire") ∷ []) [] (defining declared (WantsSize false))
wire-goes whole declared at = (refl, ([], refl, (refl, refl)))

pub name-goes : (whole : List ℕ) (declared : Declared) (at : ℕ) (variable : Variable) (name : List ℕ) → is_end name ≡ false
    → Goes (defining declared (WantsReference variable)) (token_at whole at name ∷ []) [] (defining declared (InReference variable name))
name-goes whole declared at variable name goes_on = (rw goes_on refl, ([], refl, (refl, refl)))

pub end-goes : (whole : List ℕ) (declared later : Declared) (at : ℕ) (variable : Variable) (name : List ℕ) → declared_with declared variable name ≡ later → bits_of later.signals ≤ bits_most
    → Goes (defining declared (InReference variable name)) (token_at whole at (codes "$end") ∷ []) [] (defining later Ready)
end-goes whole declared later at variable name is few = (
  ap (λ (d : Declared). cond (nat_lt bits_most (bits_of d.signals)) (Some TooManySignals) None) is ∙ cond-false (nat_lt bits_most (bits_of later.signals)) _ _ (le-ltb bits_most (bits_of later.signals) few),
  ([], refl, (refl, ap (λ (d : Declared). defining d Ready) is)),
)

pub no-end-code : (signal : ℕ) → signal < 56_335_895 → is_end (code_of signal) ≡ false
no-end-code signal few = by (is_end (code_of signal)) refl
  where
    by : (b : Bool) → is_end (code_of signal) ≡ b → b ≡ false
    by true e = absurd (no-end signal few ((bytes_eq-Decides (code_of signal) (codes "$end")).0 e))
    by false e = refl

ending-goes : (whole : List ℕ) (declared : Declared) (at : ℕ) → Goes (defining declared Ready) (token_at whole at (codes "$enddefinitions") ∷ []) [] (defining declared WantsDefinitionsEnd)
unfolding shape_of keyword_of
ending-goes whole declared at = (refl, ([], refl, (refl, refl)))

pub ending-reads : (whole : List ℕ) (declared : Declared) → Reads whole (defining declared Ready) (line (codes "$enddefinitions $end")) [] (before_sample declared 0)
ending-reads whole declared =
    reads-on whole (defining declared Ready) (defining declared WantsDefinitionsEnd) (before_sample declared 0) (codes "$enddefinitions" ++ 32 ∷ []) (codes "$end" ++ 10 ∷ []) [] []
    (reads-word whole (defining declared Ready) (defining declared WantsDefinitionsEnd) (codes "$enddefinitions") 32 [] (omega arith) refl refl (ending-goes whole declared))
    (reads-word whole (defining declared WantsDefinitionsEnd) (before_sample declared 0) (codes "$end") 10 [] (omega arith) refl refl (λ at. (refl, ([], refl, (refl, refl)))))
