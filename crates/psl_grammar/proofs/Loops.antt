-- What a loop over `Many` keeps, and the folds of the trees that it builds: what code that reads in rounds rests on.
use Rattle.std.proofs.Common.{◌≡◌, refl, sym, ◌∙◌, ap, subst, List, [], ◌∷◌, ◌++◌, append_assoc, append-nil}
use Rattle.psl_grammar.specs.Parts.{Part, Many}
use Rattle.psl_grammar.specs.Reading.{State, Starts, StartsNot, Reads, Reads as reads, Stops, Stops as stops, Fault}
use Rattle.psl_grammar.specs.Trees.{Token, Node, Infix, Posted, Item, Tok, Tree, infixed, posted, applied, tails}

-- From `start` on the items of some rounds were read, and the reader stands at `now`: whatever it does from there on
-- with more rounds is done from the start.
pub record Through (a : Part) (start now : State) (done : List Item) : Type 0 where
  pub reads_on : (g : List Item) (to : State) → Reads (Many a) now g to → Reads (Many a) start (done ++ g) to
  pub stops_on : (z : Fault) (stop : State) → Stops z (Many a) now stop → Stops z (Many a) start stop

pub through-start : (a : Part) (start : State) → Through a start start []
through-start a start = record { reads_on = λ g to x. x; stops_on = λ z stop x. x }

-- one round more
pub through-more : {a : Part} {start now after : State} {done f : List Item} → Through a start now done → Starts a now → Reads a now f after → Through a start after (done ++ f)
through-more {a = a} {start = start} {done = done} {f = f} h s x =
    record {
      reads_on = λ g to y. subst (λ items. Reads (Many a) start items to) (sym (append_assoc done f g)) (h.reads_on (f ++ g) to (reads.more s x y refl));
      stops_on = λ z stop y. h.stops_on z stop (stops.later f s x y);
    }

-- no round more
pub through-end : {a : Part} {start now : State} {done : List Item} → Through a start now done → StartsNot a now → Reads (Many a) start done now
through-end {a = a} {start = start} {now = now} {done = done} h n = subst (λ items. Reads (Many a) start items now) (append-nil done) (h.reads_on [] now (reads.end n))

-- a round that stops
pub through-stop : {a : Part} {start now stop : State} {done : List Item} (z : Fault) → Through a start now done → Starts a now → Stops z a now stop → Stops z (Many a) start stop
through-stop {stop = stop} z h s x = h.stops_on z stop (stops.now s x)

-- Operators that associate to the left: with the items of some rounds `start` has become `now`.
pub record InfixedThrough (start now : Node) (done : List Item) : Type 0 where
  pub same : (g : List Item) → infixed start (done ++ g) ≡ infixed now g

pub infixed-start : (x : Node) → InfixedThrough x x []
infixed-start x = record { same = λ g. refl }

pub infixed-more : {start now : Node} {done : List Item} (operator : Token) (y : Node) → InfixedThrough start now done → InfixedThrough start (Infix now operator y) (done ++ Tok operator ∷ Tree y ∷ [])
infixed-more {start = start} {done = done} operator y h =
    record { same = λ g. ap (infixed start) (append_assoc done (Tok operator ∷ Tree y ∷ []) g) ∙ h.same (Tok operator ∷ Tree y ∷ g) }

pub infixed-end : {start now : Node} {done : List Item} → InfixedThrough start now done → infixed start done ≡ now
infixed-end {start = start} {done = done} h = ap (infixed start) (sym (append-nil done)) ∙ h.same []

-- The same of repetitions and clocks.
pub record PostedThrough (start now : Node) (done : List Item) : Type 0 where
  pub same : (g : List Item) → posted start (done ++ g) ≡ posted now g

pub posted-start : (x : Node) → PostedThrough x x []
posted-start x = record { same = λ g. refl }

pub posted-more : {start now : Node} {done : List Item} (post : Node) → PostedThrough start now done → PostedThrough start (Posted now post) (done ++ Tree post ∷ [])
posted-more {start = start} {done = done} post h = record { same = λ g. ap (posted start) (append_assoc done (Tree post ∷ []) g) ∙ h.same (Tree post ∷ g) }

pub posted-end : {start now : Node} {done : List Item} → PostedThrough start now done → posted start done ≡ now
posted-end {start = start} {done = done} h = ap (posted start) (sym (append-nil done)) ∙ h.same []

-- operators that waited, applied one by one
pub applied-tails : (x : Node) (items : List Item) → applied x (tails items) ≡ infixed x items
applied-tails x [] = refl
applied-tails x (Tok operator ∷ Tree y ∷ rest) = applied-tails (Infix x operator y) rest
applied-tails x (Tok operator ∷ Tok other ∷ rest) = refl
applied-tails x (Tok operator ∷ []) = refl
applied-tails x (Tree y ∷ rest) = refl
