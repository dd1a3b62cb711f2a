-- A line of a header says one thing.
use Rattle.std.proofs.Common.{◌≡◌, ◌∙◌, ap, sym, ℕ, suc, ◌<◌, ◌^◌, List, drop, length, get_or, arith, refl}
use Rattle.std.specs.Prelude.{decimal}
use Rattle.std.proofs.lemmas.Fmt.{decimal_injective}
use Rattle.cert_theory.specs.declared.header.Field.{Field}
use Rattle.cert_theory.specs.declared.header.Field.TheVariants.{Assertion, Visits, Window, Live}
use Rattle.cert_theory.specs.declared.header.Form.{Form}
use Rattle.cert_theory.specs.declared.header.Form.TheVariants.{Windowed, Clausal}
use Rattle.cert_theory.specs.declared.header.Version.TheVariants.{One, Two}
use Rattle.cert_theory.specs.Headers.{MayBe, Says}
use Rattle.cert_theory.specs.Lines.{field_line, form_line, word_of}

pub small_number : (field : Field) (number : ℕ) → MayBe field number → number < 2 ^ 64
small_number Assertion number may = omega (arith, may.most)
small_number Visits number may = omega (arith, may.most)
small_number Window number may = omega (arith, may.most)
small_number Live number may = omega (arith, may.most)

-- behind the word and the blank come the digits
digits_behind : (field : Field) (number : ℕ) → drop (suc (length (word_of field))) (field_line field number) ≡ decimal number
digits_behind Assertion number = refl
digits_behind Visits number = refl
digits_behind Window number = refl
digits_behind Live number = refl

pub says_once : (field : Field) (line : List ℕ) (number other : ℕ) → Says field line number → Says field line other → number ≡ other
says_once field line number other one two =
    decimal_injective number other (small_number field number one.may) (small_number field other two.may)
    (sym (digits_behind field number) ∙ ap (drop (suc (length (word_of field)))) (sym one.is ∙ two.is) ∙ digits_behind field other)

-- the digit at the end of a first line
digit_of : Form → ℕ
digit_of (Windowed One) = 49
digit_of (Windowed Two) = 50
digit_of Clausal = 51

digit_is : (form : Form) → get_or (form_line form) 10 0 ≡ digit_of form
unfolding digit_of
digit_is (Windowed One) = refl
digit_is (Windowed Two) = refl
digit_is Clausal = refl

digit_once : (form other : Form) → digit_of form ≡ digit_of other → form ≡ other
unfolding digit_of
digit_once (Windowed One) (Windowed One) same = refl
digit_once (Windowed One) (Windowed Two) same = absurd (omega (arith, same))
digit_once (Windowed One) Clausal same = absurd (omega (arith, same))
digit_once (Windowed Two) (Windowed One) same = absurd (omega (arith, same))
digit_once (Windowed Two) (Windowed Two) same = refl
digit_once (Windowed Two) Clausal same = absurd (omega (arith, same))
digit_once Clausal (Windowed One) same = absurd (omega (arith, same))
digit_once Clausal (Windowed Two) same = absurd (omega (arith, same))
digit_once Clausal Clausal same = refl

pub form_once : (form other : Form) → form_line form ≡ form_line other → form ≡ other
form_once form other same =
    digit_once form other (sym (digit_is form) ∙ ap (λ (text : List ℕ). get_or text 10 0) same ∙ digit_is other)
