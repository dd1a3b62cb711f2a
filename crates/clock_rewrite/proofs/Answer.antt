-- What a formula keeps that is the table's.
use Rattle.std.proofs.Common.{◌≡◌, sym, subst}
use Rattle.std.specs.Prelude.{Option}
use Rattle.clock_rewrite.proofs.Atoms.{plain_atoms}
use Rattle.clock_rewrite.proofs.Clockless.{plain_plain}
use Rattle.clock_rewrite.proofs.Meaning.{plain_words}
use Rattle.clock_rewrite.specs.Clock.{HasSameWords, KeepsAtoms}
use Rattle.psl_tree.specs.Clockless.{IsPlain}
use Rattle.psl_tree.specs.Plain.{plain}
use Rattle.psl_tree.specs.Trees.{Boolean, Formula}

pub answer_clockless : (new f : Formula) (c : Option Boolean) → new ≡ plain f c → IsPlain new
answer_clockless new f c e = subst (λ (g : Formula). IsPlain g) (sym e) (plain_plain f c)

pub answer_words : (new f : Formula) (c : Option Boolean) → new ≡ plain f c → HasSameWords new f c
answer_words new f c e = subst (λ (g : Formula). HasSameWords g f c) (sym e) (plain_words f c)

pub answer_atoms : (new f : Formula) (c : Option Boolean) → new ≡ plain f c → KeepsAtoms new f c
answer_atoms new f c e = subst (λ (g : Formula). KeepsAtoms g f c) (sym e) (plain_atoms f c)
