-- What methods outside of the cycle make of the parts that they read.
use Rattle.std.proofs.Common.{◌≡◌, refl, sym, ◌∙◌, ap, subst, List, [], ◌∷◌, ◌++◌, map, append-nil, append_assoc, Option, None, Some}
use Rattle.psl_grammar.proofs.Loops.{Through, through-start, through-more}
use Rattle.psl_grammar.specs.declared.tree.Count as code_count
use Rattle.psl_grammar.specs.declared.tree.Statement as code_statement
use Rattle.psl_grammar.specs.declared.tree.VerificationUnit.{VerificationUnit}
use Rattle.psl_grammar.specs.Parts.{Part, Quoted, Sym, ◌~◌, ◌//◌, Many, Maybe, Path, Post, Start, Prop, Vunit, Statement, Directive, Declaration}
use Rattle.psl_grammar.specs.Productions.{index, edge}
use Rattle.psl_grammar.specs.Reading.{State, Left, Starts, Reads, Reads as r}
use Rattle.psl_grammar.specs.Surface.{binding_node, count_node, report_node, signal_node, statement_node, statements_node, unit_node, units_node}
use Rattle.psl_grammar.specs.Trees.{Token, Node, Absent, Named, Edge, Directed, UnitOf, Listed, Repeat, Item, Tok, Tree, atom, built, listed, names, opened}
use Rattle.psl_lexer.specs.declared.kind.TokenKind.{TokenKind}
use Rattle.psl_lexer.specs.declared.kind.TokenKind.TheVariants as kinds
use Rattle.psl_parser.specs.declared.make.Repetition.{Repetition}
use Rattle.psl_parser.specs.Pieces.{signal, edged, starred, equals, label, report, binding, count_items, ReadsRepetition, ReadsPlain, ReadsEquals, ReadsIndex, ReadsOptionalIndex, ReadsLabel, ReadsSomeLabel, ReadsReport, ReadsSomeReport, ReadsBinding, ReadsDirective, statement_items, unit_items}
use Rattle.psl_parser.proofs.Forms.{node}
use Rattle.psl_parser.proofs.Rounds.{Dotted}

-- repetitions

post-repeat : (o c : Token) (count : Option code_count.Count) → built Post (Tok o ∷ (count_items count ++ Tok c ∷ [])) ≡ Repeat o (count_node count)
post-repeat o c None = refl
post-repeat o c (Some count) = refl

start-repeat : (o c : Token) (count : Option code_count.Count) → o.kind ≡ kinds.StarOpen → built Start (Tok o ∷ (count_items count ++ Tok c ∷ [])) ≡ Repeat o (count_node count)
start-repeat o c None e = refl
start-repeat o c (Some count) e = ap (λ k. opened k o (count_node (Some count))) e

repeat : {x : Repetition} {o : Token} {count : Option code_count.Count} → (x.opening ≡ o) × (x.count ≡ count) → Repeat o (count_node count) ≡ Repeat x.opening (count_node x.count)
repeat {x = x} {count = count} h = ap (λ z. Repeat z (count_node count)) (sym h.0) ∙ ap (λ z. Repeat x.opening (count_node z)) (sym h.1)

pub repetition-made : {kind : TokenKind} {o : Token} (c : Token) {count : Option code_count.Count} {x : Repetition} {from to : State} →
    (x.opening ≡ o) × (x.count ≡ count) → o.kind ≡ kind → Reads (starred kind) from (Tok o ∷ (count_items count ++ Tok c ∷ [])) to → ReadsRepetition kind x from to
repetition-made {o = o} c {count = count} h e y = record {
  items = Tok o ∷ (count_items count ++ Tok c ∷ []);
  post = post-repeat o c count ∙ repeat h;
  start = λ i. start-repeat o c count (e ∙ i) ∙ repeat h;
  reads = y;
}

pub plain-made : {o : Token} {x : Repetition} {from to : State} → (x.opening ≡ o) × (x.count ≡ None) → Reads (Quoted kinds.PlusRepeat) from (Tok o ∷ []) to → ReadsPlain x from to
plain-made {from = from} {to = to} h y = record { none = h.1; reads = subst (λ z. Reads (Quoted kinds.PlusRepeat) from (Tok z ∷ []) to) (sym h.0) y }

pub equals-made : {o c : Token} {count : code_count.Count} {x : Repetition} {from to : State} →
    (x.opening ≡ o) × (x.count ≡ Some count) → Reads equals from (Tok o ∷ Tree (count_node (Some count)) ∷ Tok c ∷ []) to → ReadsEquals x from to
equals-made {o = o} {c = c} {x = x} {from = from} {to = to} h y = record {
  closing = c;
  reads = subst (λ z. Reads equals from (Tok z ∷ Tree (count_node x.count) ∷ Tok c ∷ []) to) (sym h.0)
      (subst (λ z. Reads equals from (Tok o ∷ Tree (count_node z) ∷ Tok c ∷ []) to) (sym h.1) y);
}

-- marks

pub index-made : {o c n x : Token} {from to : State} → x ≡ n → Reads index from (Tok o ∷ Tok n ∷ Tok c ∷ []) to → ReadsIndex x from to
index-made {o = o} {c = c} {from = from} {to = to} h y = record { opening = o; closing = c; reads = subst (λ z. Reads index from (Tok o ∷ Tok z ∷ Tok c ∷ []) to) (sym h) y }

pub label-made : {colon n x : Token} {from to : State} → x ≡ n → Reads label from (Tok n ∷ Tok colon ∷ []) to → ReadsSomeLabel x from to
label-made {colon = colon} {from = from} {to = to} h y = record { colon = colon; reads = subst (λ z. Reads label from (Tok z ∷ Tok colon ∷ []) to) (sym h) y }

pub report-made : {word n x : Token} {from to : State} → x ≡ n → Reads report from (Tok word ∷ Tok n ∷ []) to → ReadsSomeReport x from to
report-made {word = word} {from = from} {to = to} h y = record { word = word; reads = subst (λ z. Reads report from (Tok word ∷ Tok z ∷ []) to) (sym h) y }

-- the items of parts that may be absent

pub index-some : (number : Option Token) {from to : State} → ReadsOptionalIndex number from to → (f : List Item) × Reads (Maybe index) from f to
index-some None h = ([], h)
index-some (Some number) h = (_, h.reads)

pub label-some : (name : Option Token) {from to : State} → ReadsLabel name from to → (f : List Item) × Reads label from f to
label-some None h = ([], h)
label-some (Some name) h = (_, h.reads)

pub report-some : (text : Option Token) {from to : State} → ReadsReport text from to → (f : List Item) × Reads report from f to
report-some None h = ([], h)
report-some (Some text) h = (_, h.reads)

pub binding-some : (path : Option (List Token)) {from to : State} → ReadsBinding path from to → (f : List Item) × Reads binding from f to
binding-some None h = ([], h)
binding-some (Some path) h = (_, h.reads)

-- paths

pub dotted-more : {a : Part} {start now after : State} {first names' new : List Token} {dot name : Token} →
    Dotted a start now first names' → Starts a now → Reads a now (Tok dot ∷ Tok name ∷ []) after → new ≡ names' ++ name ∷ [] → Dotted a start after first new
dotted-more {first = first} {names' = names'} {dot = dot} {name = name} h s x e = record {
  items = h.items ++ Tok dot ∷ Tok name ∷ [];
  through = through-more h.through s x;
  folds = λ g. ap (λ u. first ++ names u) (append_assoc h.items (Tok dot ∷ Tok name ∷ []) g)
      ∙ (h.folds (Tok dot ∷ Tok name ∷ g) ∙ (sym (append_assoc names' (name ∷ []) (names g)) ∙ ap (λ u. u ++ names g) (sym e)));
}

pub path-end : {a : Part} {start now : State} {first names' : List Token} (name : Token) (none : List Token) → (h : Dotted a start now first names') → none ≡ [] → first ≡ none ++ name ∷ [] → Tree (Named names') ∷ [] ≡ Tree (Named (name ∷ names h.items)) ∷ []
path-end {first = first} {names' = names'} name none h i e =
    node (ap Named (sym (ap (λ u. u ++ names h.items) (sym (e ∙ ap (λ u. u ++ name ∷ []) i)) ∙ (ap (λ u. first ++ names u) (sym (append-nil h.items)) ∙ (h.folds [] ∙ append-nil names')))))

-- atoms

pub signal-made : {path : List Token} (number : Option Token) {from mid to : State} → Reads (Sym Path) from (Tree (Named path) ∷ []) mid → ReadsOptionalIndex number mid to →
    (items : List Item) × (atom items ≡ signal_node path number) × Reads signal from items to
signal-made {path = path} None x h = (Tree (Named path) ∷ [], refl, r.both x h refl)
signal-made {path = path} (Some number) x h = (Tree (Named path) ∷ Tok h.opening ∷ Tok number ∷ Tok h.closing ∷ [], refl, r.both x h.reads refl)

pub edge-made : {word : Token} {path : List Token} (number : Option Token) {from next mid to : State} → Reads edge from (Tok word ∷ []) next → Reads (Sym Path) next (Tree (Named path) ∷ []) mid → ReadsOptionalIndex number mid to →
    (items : List Item) × (atom items ≡ Edge word (signal_node path number)) × Reads edged from items to
edge-made {word = word} {path = path} None w x h = (Tok word ∷ Tree (Named path) ∷ [], refl, r.both w (r.both x h refl) refl)
edge-made {word = word} {path = path} (Some number) w x h = (Tok word ∷ Tree (Named path) ∷ Tok h.opening ∷ Tok number ∷ Tok h.closing ∷ [], refl, r.both w (r.both x h.reads refl) refl)

-- statements and units

map-push : {A B : Type 0} (f : A → B) (xs : List A) (x : A) → map f (xs ++ x ∷ []) ≡ map f xs ++ f x ∷ []
map-push f [] x = refl
map-push f (y ∷ ys) x = ap (λ zs. f y ∷ zs) (map-push f ys x)

pub rounds-start : {A : Type 0} (f : A → Item) (a : Part) (start : State) (none : List A) → none ≡ [] → Through a start start (map f none)
rounds-start f a start none e = subst (λ u. Through a start start (map f u)) (sym e) (through-start a start)

pub pushed : {A : Type 0} (f : A → Item) {a : Part} {start now after : State} (old : List A) {new : List A} {x : A} → Through a start now (map f old) → Starts a now → Reads a now (f x ∷ []) after → new ≡ old ++ x ∷ [] → Through a start after (map f new)
pushed f {a = a} {start = start} {after = after} old {x = x} h s y e =
    subst (λ u. Through a start after (map f u)) (sym e) (subst (λ u. Through a start after u) (sym (map-push f old x)) (through-more h s y))

pub listed-statements : (all : List code_statement.Statement) → listed (statement_items all) ≡ statements_node all
listed-statements [] = refl
listed-statements (x ∷ xs) = ap (λ u. Listed (statement_node x) u) (listed-statements xs)

pub listed-units : (all : List VerificationUnit) → listed (unit_items all) ≡ units_node all
listed-units [] = refl
listed-units (x ∷ xs) = ap (λ u. Listed (unit_node x) u) (listed-units xs)

closed-statements : (all : List code_statement.Statement) (brace : Token) → listed (statement_items all ++ Tok brace ∷ []) ≡ statements_node all
closed-statements [] brace = refl
closed-statements (x ∷ xs) brace = ap (λ u. Listed (statement_node x) u) (closed-statements xs brace)

bare-unit : (unit name brace last : Token) (all : List code_statement.Statement) →
    built Vunit (Tok unit ∷ Tok name ∷ Tok brace ∷ (statement_items all ++ Tok last ∷ [])) ≡ UnitOf name Absent (listed (statement_items all ++ Tok last ∷ []))
bare-unit unit name brace last [] = refl
bare-unit unit name brace last (x ∷ []) = refl
bare-unit unit name brace last (x ∷ y ∷ ys) = refl

pub unit-made : {unit name name' brace : Token} (last : Token) (path : Option (List Token)) (all : List code_statement.Statement) {from one two three to : State} → name' ≡ name →
    Reads (Quoted kinds.Vunit) from (Tok unit ∷ []) one → Reads (Quoted kinds.Name) one (Tok name ∷ []) two → ReadsBinding path two three →
    Reads (Quoted kinds.BraceOpen ~ Many (Sym Statement) ~ Quoted kinds.BraceClose) three (Tok brace ∷ (statement_items all ++ Tok last ∷ [])) to →
    Reads (Sym Vunit) from (Tree (UnitOf name' (binding_node path) (statements_node all)) ∷ []) to
unit-made {unit = unit} {name = name} {brace = brace} last None all e u n b x =
    r.symbol (r.both u (r.both n (r.both b x refl) refl) refl) (node (ap (λ z. UnitOf z Absent (statements_node all)) e ∙ (ap (λ z. UnitOf name Absent z) (sym (closed-statements all last)) ∙ sym (bare-unit unit name brace last all))))
unit-made {name = name} last (Some path) all e u n b x =
    r.symbol (r.both u (r.both n (r.both b.reads x refl) refl) refl) (node (ap (λ z. UnitOf z (Named path) (statements_node all)) e ∙ ap (λ z. UnitOf name (Named path) z) (sym (closed-statements all last))))

pub directive-made : {word last : Token} {p : Node} (text : Option Token) {from one two three to : State} →
    Reads (Quoted kinds.Assert // Quoted kinds.Assume // Quoted kinds.Cover) from (Tok word ∷ []) one → Reads (Sym Prop) one (Tree p ∷ []) two → ReadsReport text two three →
    Reads (Quoted kinds.Semicolon) three (Tok last ∷ []) to → Reads (Sym Directive) from (Tree (Directed word p (report_node text)) ∷ []) to
directive-made None w p t e = r.symbol (r.both w (r.both p (r.both t e refl) refl) refl) refl
directive-made (Some text) w p t e = r.symbol (r.both w (r.both p (r.both t.reads e refl) refl) refl) refl

pub labelled : (name : Option Token) {statement : code_statement.Statement} {from mid to : State} → Left (label ~ Sym Directive) (Sym Declaration) from → ReadsLabel name from mid → ReadsDirective name statement mid to →
    Reads (Sym Statement) from (Tree (statement_node statement) ∷ []) to
labelled None h l d = r.symbol (r.left h (r.both l d.reads refl)) (node (sym d.same))
labelled (Some name) h l d = r.symbol (r.left h (r.both l.reads d.reads refl)) (node (sym d.same))
