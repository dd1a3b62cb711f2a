-- What the loops of the reader keep.
use Rattle.std.proofs.Common.{◌≡◌, refl, List, [], ◌++◌}
use Rattle.psl_grammar.proofs.Loops.{Through, through-start, InfixedThrough, infixed-start}
use Rattle.psl_grammar.specs.Parts.{Part, Sym, Post}
use Rattle.psl_grammar.specs.Reading.{State}
use Rattle.psl_grammar.specs.Trees.{Token, Node, Item, applied, names}
use Rattle.psl_parser.specs.Pieces.{PostsThrough}

-- operators that associate to the left: the items of some rounds have made `now` of `first`
pub record Joined (a : Part) (start to : State) (first now : Node) : Type 0 where
  pub items : List Item
  pub through : Through a start to items
  pub folds : InfixedThrough first now items

pub joined-start : (a : Part) (start : State) (x : Node) → Joined a start start x x
joined-start a start x = record { items = []; through = through-start a start; folds = infixed-start x }

-- repetitions and clocks
pub record Behind (start to : State) (first now : Node) : Type 0 where
  pub items : List Item
  pub through : Through (Sym Post) start to items
  pub folds : PostsThrough first now items

pub behind-start : (start : State) (x : Node) → Behind start start x x
behind-start start x = record {
  items = [];
  through = through-start (Sym Post) start;
  folds = record { posted = λ g. refl; conjoined = λ a b g. refl };
}

-- operators that wait: the fold of the items of some rounds, whatever stands behind them
pub record Waiting (fold : List Item → Node) (a : Part) (start to : State) (first now : Node) : Type 0 where
  pub items : List Item
  pub through : Through a start to items
  pub folds : (g : List Item) → applied first (fold (items ++ g)) ≡ applied now (fold g)

pub waiting-start : (fold : List Item → Node) (a : Part) (start : State) (x : Node) → Waiting fold a start start x x
waiting-start fold a start x = record { items = []; through = through-start a start; folds = λ g. refl }

-- the names of a path behind its first, each behind its dot
pub record Dotted (a : Part) (start to : State) (first now : List Token) : Type 0 where
  pub items : List Item
  pub through : Through a start to items
  pub folds : (g : List Item) → first ++ names (items ++ g) ≡ now ++ names g

pub dotted-start : (a : Part) (start : State) (x : List Token) → Dotted a start start x x
dotted-start a start x = record { items = []; through = through-start a start; folds = λ g. refl }
