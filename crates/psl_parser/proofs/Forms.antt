-- Steps of a reader of the grammar that several methods share.
use Rattle.std.proofs.Common.{◌≡◌, refl, sym, ◌∙◌, ap, subst, Bool, true, false, not, List, [], ◌∷◌, ◌++◌, append_assoc, append-nil}
use Rattle.psl_grammar.proofs.Loops.{through-more, InfixedThrough, infixed-more}
use Rattle.psl_grammar.proofs.NextToken.{clash, not-true}
use Rattle.psl_grammar.specs.Firsts.{at}
use Rattle.psl_grammar.specs.Parts.{Part, Sym, Prop, ImpRight, Post, ◌~◌, Many}
use Rattle.psl_grammar.specs.Reading.{State, Starts, Reads, Reads as reads, Stops, Stops as stops, Fault}
use Rattle.psl_grammar.specs.Trees.{Token, Node, Infix, Posted, Item, Tok, Tree, posted, conjoined, applied, tails, wide_tails}
use Rattle.psl_lexer.specs.declared.kind.TokenKind.{TokenKind}
use Rattle.psl_parser.specs.Pieces.{PostsThrough}
use Rattle.psl_parser.proofs.Rounds.{Joined, Behind, Waiting}
use Rattle.psl_parser.proofs.Taking.{other, beside, missed-first, missed-later}

-- what a test of the code says of the next token

pub yes : {r b : Bool} → r ≡ b → r ≡ true → b ≡ true
yes e p = sym e ∙ p

pub no : {r b : Bool} → r ≡ b → r ≡ false → b ≡ false
no e p = sym e ∙ p

pub not_yes : {r b : Bool} → r ≡ b → not r ≡ true → b ≡ false
not_yes e p = sym e ∙ not-true _ p

not-false : (r : Bool) → not r ≡ false → r ≡ true
not-false true p = refl
not-false false p = sym p

pub not_no : {r b : Bool} → r ≡ b → not r ≡ false → b ≡ true
not_no e p = sym e ∙ not-false _ p

-- one node for another
pub node : {x y : Node} → x ≡ y → Tree x ∷ [] ≡ Tree y ∷ []
node e = ap (λ z. Tree z ∷ []) e

-- the right side of an arrow is a property

pub right-read : {from to : State} {g : List Item} → Reads (Sym Prop) from g to → Reads (Sym ImpRight) from g to
right-read (reads.symbol x e) = reads.symbol x e

pub right-stop : {z : Fault} {from stop : State} → Stops z (Sym Prop) from stop → Stops z (Sym ImpRight) from stop
right-stop stops.memory = stops.memory
right-stop (stops.symbol x) = stops.symbol x

-- one, and any number more

pub some-read : {a : Part} {from to : State} {f : List Item} → Starts a from → Reads (Many a) from f to → Reads (a ~ Many a) from f to
some-read s (reads.end n) = clash s.holds n.holds
some-read s (reads.more h x y e) = reads.both x y e

pub some-stop : {a : Part} {z : Fault} {from stop : State} → Stops z (Many a) from stop → Stops z (a ~ Many a) from stop
some-stop stops.memory = stops.memory
some-stop (stops.now h x) = stops.first x
some-stop (stops.later f h x y) = stops.next f x y

pub regroup-read : {a c : Part} {from to : State} {f : List Item} → Starts a from → Reads (Many a ~ c) from f to → Reads (a ~ Many a ~ c) from f to
regroup-read s (reads.both (reads.end n) z i) = clash s.holds n.holds
regroup-read s (reads.both {g = g2} (reads.more {f = f1} {g = g1} h x y e) z i) = reads.both x (reads.both y z refl) (i ∙ (ap (λ u. u ++ g2) e ∙ append_assoc f1 g1 g2))

pub regroup-stop : {a c : Part} {z : Fault} {from stop : State} → Starts a from → Stops z (Many a ~ c) from stop → Stops z (a ~ Many a ~ c) from stop
regroup-stop s stops.memory = stops.memory
regroup-stop s (stops.first stops.memory) = stops.memory
regroup-stop s (stops.first (stops.now h x)) = stops.first x
regroup-stop s (stops.first (stops.later f h x y)) = stops.next f x (stops.first y)
regroup-stop s (stops.next f (reads.end n) y) = clash s.holds n.holds
regroup-stop s (stops.next f (reads.more h x y e) z) = stops.next _ x (stops.next _ y z)

-- past some kinds

pub skip-read : (ks : List TokenKind) {p : Part} {from to : State} {f : List Item} → at from.tokens ks ≡ false → Reads p from f to → Reads (beside ks p) from f to
skip-read [] h x = x
skip-read (k ∷ ks) {from = from} h x = reads.right (other (missed-first from.tokens k ks h)) (skip-read ks (missed-later from.tokens k ks h) x)

pub skip-stop : (ks : List TokenKind) {p : Part} {z : Fault} {from stop : State} → at from.tokens ks ≡ false → Stops z p from stop → Stops z (beside ks p) from stop
skip-stop [] h x = x
skip-stop (k ∷ ks) {from = from} h x = stops.right (other (missed-first from.tokens k ks h)) (skip-stop ks (missed-later from.tokens k ks h) x)

-- rounds of loops

pub joined-more : {a : Part} {start now after : State} {first left new y : Node} {operator : Token} →
    Joined a start now first left → Starts a now → Reads a now (Tok operator ∷ Tree y ∷ []) after → new ≡ Infix left operator y → Joined a start after first new
joined-more {first = first} {y = y} {operator = operator} h s x e = record {
  items = h.items ++ Tok operator ∷ Tree y ∷ [];
  through = through-more h.through s x;
  folds = subst (λ z. InfixedThrough first z (h.items ++ Tok operator ∷ Tree y ∷ [])) (sym e) (infixed-more operator y h.folds);
}

pub behind-more : {start now after : State} {first operand new post : Node} →
    Behind start now first operand → Starts (Sym Post) now → Reads (Sym Post) now (Tree post ∷ []) after → Posted operand post ≡ new → Behind start after first new
behind-more {first = first} {operand = operand} {post = post} h s x e = record {
  items = h.items ++ Tree post ∷ [];
  through = through-more h.through s x;
  folds = subst (λ z. PostsThrough first z (h.items ++ Tree post ∷ [])) e (record {
    posted = λ g. ap (posted first) (append_assoc h.items (Tree post ∷ []) g) ∙ h.folds.posted (Tree post ∷ g);
    conjoined = λ a b g. ap (conjoined first) (append_assoc h.items (Tree post ∷ []) (Tree a ∷ Tree b ∷ g)) ∙ h.folds.conjoined post a (Tree b ∷ g);
  });
}

pub posts-end : {start now : Node} {items : List Item} → PostsThrough start now items → posted start items ≡ now
posts-end {start = start} {items = items} h = ap (posted start) (sym (append-nil items)) ∙ h.posted []

pub within-more : {a : Part} {start now after : State} {first left new y : Node} {operator : Token} →
    Waiting tails a start now first left → Starts a now → Reads a now (Tok operator ∷ Tree y ∷ []) after → new ≡ Infix left operator y → Waiting tails a start after first new
within-more {first = first} {y = y} {operator = operator} h s x e = record {
  items = h.items ++ Tok operator ∷ Tree y ∷ [];
  through = through-more h.through s x;
  folds = λ g. ap (λ u. applied first (tails u)) (append_assoc h.items (Tok operator ∷ Tree y ∷ []) g) ∙ (h.folds (Tok operator ∷ Tree y ∷ g) ∙ ap (λ u. applied u (tails g)) (sym e));
}

pub and-more : {a : Part} {start now after : State} {first left new side right tail : Node} {operator : Token} →
    Waiting wide_tails a start now first left → Starts a now → Reads a now (Tok operator ∷ Tree side ∷ Tree tail ∷ []) after →
    applied side tail ≡ right → new ≡ Infix left operator right → Waiting wide_tails a start after first new
and-more {first = first} {left = left} {side = side} {tail = tail} {operator = operator} h s x i e = record {
  items = h.items ++ Tok operator ∷ Tree side ∷ Tree tail ∷ [];
  through = through-more h.through s x;
  folds = λ g. ap (λ u. applied first (wide_tails u)) (append_assoc h.items (Tok operator ∷ Tree side ∷ Tree tail ∷ []) g)
      ∙ (h.folds (Tok operator ∷ Tree side ∷ Tree tail ∷ g) ∙ ap (λ u. applied u (wide_tails g)) (ap (λ u. Infix left operator u) i ∙ sym e));
}

pub waiting-end : {fold : List Item → Node} {a : Part} {start now : State} {first left : Node} → (h : Waiting fold a start now first left) → applied left (fold []) ≡ left → applied first (fold h.items) ≡ left
waiting-end {fold = fold} {first = first} h e = ap (λ u. applied first (fold u)) (sym (append-nil h.items)) ∙ (h.folds [] ∙ e)
