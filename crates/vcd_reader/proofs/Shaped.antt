-- How long the tokens of a shape are.
use Rattle.std.proofs.Common.{◌≡◌, ℕ, ◌<◌, Bool, true, false, cond, eqb, List, [], ◌∷◌, length, arith, ◌||◌, ◌&&◌}
use Rattle.vcd_reader.specs.declared.shape.Shape.{Shape}
use Rattle.vcd_reader.specs.declared.shape.Shape.TheVariants.{End, Comment, Header, Scope, Upscope, Var, EndDefinitions, Dump, Unknown, Time, Vector, Unread, Scalar, Other}
use Rattle.vcd_reader.specs.Shapes.{keyword_of, shape_of, is_value, has_more}

by_keyword : (a b c d e f g h : Bool) → cond a End (cond b Comment (cond c Header (cond d Scope (cond e Upscope (cond f Var (cond g EndDefinitions (cond h Dump Unknown))))))) ≡ Vector → ⊥
by_keyword true b c d e f g h is = cc
by_keyword false true c d e f g h is = cc
by_keyword false false true d e f g h is = cc
by_keyword false false false true e f g h is = cc
by_keyword false false false false true f g h is = cc
by_keyword false false false false false true g h is = cc
by_keyword false false false false false false true h is = cc
by_keyword false false false false false false false true is = cc
by_keyword false false false false false false false false is = cc

no_keyword : (text : List ℕ) → keyword_of text ≡ Vector → ⊥
unfolding keyword_of
no_keyword text is = by_keyword _ _ _ _ _ _ _ _ is

by_first : (a b c d e : Bool) (keyword : Shape) → (keyword ≡ Vector → ⊥) → cond a keyword (cond b Time (cond c Other (cond d Unread (cond e Scalar Other)))) ≡ Vector → ⊥
by_first true b c d e keyword never is = never is
by_first false true c d e keyword never is = cc
by_first false false true d e keyword never is = cc
by_first false false false true e keyword never is = cc
by_first false false false false true keyword never is = cc
by_first false false false false false keyword never is = cc

-- a vector has a letter behind its first byte
pub vector-long : (first : ℕ) (rest : List ℕ) → shape_of (first ∷ rest) ≡ Vector → 0 < length rest
unfolding shape_of
vector-long first [] is = absurd (by_first (eqb first 36) (eqb first 35) (eqb first 98 || eqb first 66) (eqb first 114 || eqb first 82 || eqb first 115 || eqb first 83) (is_value first && has_more []) (keyword_of (first ∷ [])) (no_keyword (first ∷ [])) is)
vector-long first (second ∷ rest) is = omega arith

-- the empty text is neither a vector nor a change of one letter
pub vector-some : shape_of [] ≡ Vector → ⊥
unfolding shape_of
vector-some is = cc

pub scalar-some : shape_of [] ≡ Scalar → ⊥
unfolding shape_of
scalar-some is = cc
