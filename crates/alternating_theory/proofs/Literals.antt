-- Booleans as literals: their negation, and their values on letters.
use Rattle.std.proofs.Common.{◌≡◌, refl, sym, ap, ◌∙◌, Bool as Truth, true, false, List}
use Rattle.std.specs.Prelude.{not, if◌then◌else◌}
use Rattle.psl_tree.specs.Holds.{holds, holds_among}
use Rattle.psl_tree.specs.Trees.{Boolean, Const, Test, Not, And, Or}
use Rattle.psl_tree.specs.declared.atom.Atom.{Atom}
use Rattle.psl_tree.specs.declared.letter.Letter.{Letter}
use Rattle.psl_tree.specs.declared.letter.Letter.TheVariants.{Top, Bottom, Holds}
use Rattle.alternating_theory.specs.Literals.{is_unnegated, bare, negated}

unnegated-bare : (b : Boolean) → is_unnegated (bare b) ≡ true
unnegated-bare (Const v) = refl
unnegated-bare (Test a) = refl
unnegated-bare (Not b) = unnegated-bare b
unnegated-bare (And b c) = refl
unnegated-bare (Or b c) = refl

bare-twice : (b : Boolean) → bare (bare b) ≡ bare b
bare-twice (Const v) = refl
bare-twice (Test a) = refl
bare-twice (Not b) = bare-twice b
bare-twice (And b c) = refl
bare-twice (Or b c) = refl

pub unnegated-negated : (b : Boolean) → is_unnegated (negated b) ≡ not (is_unnegated b)
unnegated-negated b = at (is_unnegated b)
  where
    at : (t : Truth) → is_unnegated (if t then Not (bare b) else bare b) ≡ not t
    at true = ap (λ (u : Truth). not u) (unnegated-bare b)
    at false = unnegated-bare b

pub bare-negated : (b : Boolean) → bare (negated b) ≡ bare b
bare-negated b = at (is_unnegated b)
  where
    at : (t : Truth) → bare (if t then Not (bare b) else bare b) ≡ bare b
    at true = bare-twice b
    at false = bare-twice b

-- the value of a Boolean by that of what stands behind its Nots
abbrev signed : Truth → Truth → Truth
signed true v = v
signed false v = not v

signed-not : (t v : Truth) → signed (not t) v ≡ not (signed t v)
signed-not true true = refl
signed-not true false = refl
signed-not false true = refl
signed-not false false = refl

holds-bare : (held : List Atom) (b : Boolean) → holds_among held b ≡ signed (is_unnegated b) (holds_among held (bare b))
holds-bare held (Const v) = refl
holds-bare held (Test a) = refl
holds-bare held (Not b) = ap (λ (t : Truth). not t) (holds-bare held b) ∙ sym (signed-not (is_unnegated b) (holds_among held (bare b)))
holds-bare held (And b c) = refl
holds-bare held (Or b c) = refl

-- the negation holds where a Not before the Boolean does
pub holds-negated : (x : Letter) (b : Boolean) → holds x (negated b) ≡ holds x (Not b)
holds-negated Top b = refl
holds-negated Bottom b = refl
holds-negated (Holds held) b =
    holds-bare held (negated b)
    ∙ ap (λ (c : Boolean). signed (is_unnegated (negated b)) (holds_among held c)) (bare-negated b)
    ∙ ap (λ (t : Truth). signed t (holds_among held (bare b))) (unnegated-negated b)
    ∙ signed-not (is_unnegated b) (holds_among held (bare b))
    ∙ ap (λ (t : Truth). not t) (sym (holds-bare held b))

-- Booleans with the same sign and the same tree behind it have the same values
pub holds-literal : (x : Letter) (b c : Boolean) → is_unnegated b ≡ is_unnegated c → bare b ≡ bare c → holds x b ≡ holds x c
holds-literal Top b c e f = refl
holds-literal Bottom b c e f = refl
holds-literal (Holds held) b c e f =
    holds-bare held b
    ∙ ap (λ (d : Boolean). signed (is_unnegated b) (holds_among held d)) f
    ∙ ap (λ (t : Truth). signed t (holds_among held (bare c))) e
    ∙ sym (holds-bare held c)
