-- Pieces that are added one after the other are added together.
use Rattle.std.proofs.Common.{◌≡◌, ◌++◌, ◌∙◌, ap, ℕ, List, Ok, Err}
use Rattle.std.specs.Prelude.{Result, OnOk}
use Rattle.std.proofs.lemmas.List.{append_assoc}
use Rattle.psl_base.specs.declared.items.NoMemory.{NoMemory}

pub three-added : (old first second third one two three : List ℕ) → one ≡ old ++ first → two ≡ one ++ second → three ≡ two ++ third
    → three ≡ old ++ (first ++ second ++ third)
three-added old first second third one two three a b c =
    let b' : two ≡ old ++ (first ++ second) = b ∙ ap (λ x. x ++ second) a ∙ append_assoc old first second in
    c ∙ ap (λ x. x ++ third) b' ∙ append_assoc old (first ++ second) third

pub four-added : (old first second third fourth one two three four : List ℕ) → one ≡ old ++ first → two ≡ one ++ second → three ≡ two ++ third → four ≡ three ++ fourth
    → four ≡ old ++ (first ++ second ++ third ++ fourth)
four-added old first second third fourth one two three four a b c d =
    three-added old (first ++ second) third fourth two three four (b ∙ ap (λ x. x ++ second) a ∙ append_assoc old first second) c d

pub five-added : (old first second third fourth fifth one two three four five : List ℕ) → one ≡ old ++ first → two ≡ one ++ second → three ≡ two ++ third → four ≡ three ++ fourth
    → five ≡ four ++ fifth → five ≡ old ++ (first ++ second ++ third ++ fourth ++ fifth)
five-added old first second third fourth fifth one two three four five a b c d e =
    three-added old (first ++ second ++ third) fourth fifth three four five (three-added old first second third one two three a b c) d e

pub six-added : (old first second third fourth fifth sixth one two three four five six : List ℕ) → one ≡ old ++ first → two ≡ one ++ second → three ≡ two ++ third → four ≡ three ++ fourth
    → five ≡ four ++ fifth → six ≡ five ++ sixth → six ≡ old ++ (first ++ second ++ third ++ fourth ++ fifth ++ sixth)
six-added old first second third fourth fifth sixth one two three four five six a b c d e f =
    three-added old (first ++ second ++ third ++ fourth) fifth sixth four five six (four-added old first second third fourth one two three four a b c d) e f

pub seven-added : (old first second third fourth fifth sixth seventh one two three four five six seven : List ℕ) → one ≡ old ++ first → two ≡ one ++ second → three ≡ two ++ third
    → four ≡ three ++ fourth → five ≡ four ++ fifth → six ≡ five ++ sixth → seven ≡ six ++ seventh
    → seven ≡ old ++ (first ++ second ++ third ++ fourth ++ fifth ++ sixth ++ seventh)
seven-added old first second third fourth fifth sixth seventh one two three four five six seven a b c d e f g =
    three-added old (first ++ second ++ third ++ fourth ++ fifth) sixth seventh five six seven (five-added old first second third fourth fifth one two three four five a b c d e) f g

pub on-ok : {P Q : Type 0} (result : Result (Unit {0}) NoMemory) → (P → Q) → OnOk result P → OnOk result Q
on-ok (Ok _) f h = f h
on-ok (Err _) f h = tt
