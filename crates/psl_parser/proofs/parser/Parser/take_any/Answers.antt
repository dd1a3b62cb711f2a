use Rattle.std.proofs.Common.{◌≡◌, refl, sym, subst, false, List, [], ◌∷◌, length, arith}
use Rattle.psl_grammar.specs.Firsts.{at}
use Rattle.psl_grammar.specs.Trees.{Token}
use Rattle.psl_lexer.specs.declared.kind.TokenKind.{TokenKind}
use Rattle.psl_parser.proofs.Forms.{no, yes}
use Rattle.psl_parser.specs.Steps.{TookNot as took_not}
use Rattle.psl_parser.proofs.parser.Parser.take_any.Goals as goal

none-at : (ts : List Token) (kinds : List TokenKind) → length ts ≡ 0 → at ts kinds ≡ false
none-at [] kinds e = refl
none-at (t ∷ ts) kinds e = absurd (some t ts e)
  where
    some : (t : Token) (ts : List Token) → length (t ∷ ts) ≡ 0 → ⊥
    some t ts e = omega arith

front-at : (ts rest : List Token) (t : Token) (kinds : List TokenKind) → ts ≡ t ∷ rest → at (t ∷ rest) kinds ≡ false → at ts kinds ≡ false
front-at ts rest t kinds e h = subst (λ us. at us kinds ≡ false) (sym e) h

pub returns-in-None-clause-took : goal.returns-in-None-clause-took
returns-in-None-clause-took c = took_not.missed (record { misses = none-at _ c.args.kinds.now c.in-None.ensures.cases; stays = refl })

pub returns-then-not-is_any-clause-took : goal.returns-then-not-is_any-clause-took
returns-then-not-is_any-clause-took c =
    took_not.missed (record { misses = front-at _ _ _ c.args.kinds.now c.in-Some.ensures.cases.0 (no c.is_any.ensures c.if-not-is_any.true); stays = refl })

pub returns-then-rest-self-clause-took : goal.returns-then-rest-self-clause-took
returns-then-rest-self-clause-took c =
    took_not.reached (record {
      token = c.in-Some.token.now;
      rest = c.in-Some.rest.now;
      front = c.in-Some.ensures.cases.0;
      kind = yes c.is_any.ensures c.if-not-is_any.false;
      reached = c.if-rest-self.true;
      stays = refl;
    })
