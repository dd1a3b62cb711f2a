use Rattle.std.proofs.Common.{length, subst, sym}
use Rattle.psl_lexer.specs.declared.front.Front.{Front}
use Rattle.psl_lexer.specs.Fronts.{IsFront, IsWithin}
use Rattle.psl_lexer.proofs.Withins.{front_is, front_within}
use Rattle.psl_lexer.proofs.front.read_front.Goals as goal

pub returns : goal.returns
returns c = record {
  front = subst (λ (f : Front). IsFront c.args.rest.now f) (sym c.front_of.ensures) (front_is c.args.rest.now c.requires.some);
  within = subst (λ (f : Front). IsWithin (length c.args.rest.now) f) (sym c.front_of.ensures) (front_within c.args.rest.now c.requires.some);
}
