-- What the literals of combinations say.
use Rattle.std.proofs.Common.{ℕ, ℤ, Bool, ◌&&◌, ◌||◌, List, Option}
use Rattle.std.specs.Bool.{IsTrue}
use Rattle.alternating_theory.specs.Atoms.{AtomsOfPositive}
use Rattle.alternating_theory.specs.Positive.{Positive, Const, Holds, Owed, And, Or, met}
use Rattle.clauses.specs.Literals.{clause_within}
use Rattle.clauses.specs.Models.{Assignment, is_true}
use Rattle.gates_theory.proofs.Within.{wider}
use Rattle.psl_tree.specs.Names.{AtomInRange}
use Rattle.psl_tree.specs.declared.name.Name.{Name}
use Rattle.gates_nodes.specs.declared.cover.Cover.{Cover}
use Rattle.gates_nodes.specs.declared.node.Node.{Node}
use Rattle.gates_nodes.specs.Folding.{Built, conjoined, either}
use Rattle.gates_nodes.specs.Makes.{AreSound, Makes}
use Rattle.gates_nodes.specs.Nodes.{variables_of}
use Rattle.gates_nodes.proofs.Folds.{makes-conjoined, makes-either}
use Rattle.gates_frames.specs.Frames.{literal_at}
use Rattle.gates_letters.specs.Combinations.{combination_built, combination_by, listed}
use Rattle.gates_letters.specs.Extending.{Extends, extends-same}
use Rattle.gates_letters.specs.Letters.{FramesWithin, letter_of}
use Rattle.gates_letters.proofs.BooleanValues.{boolean-made}
use Rattle.gates_letters.proofs.Growing.{extends-then, more-extends}
use Rattle.gates_letters.proofs.Parts.{frames-wider, made-more, makes-at, makes-constant, makes-joined}

-- whether the letter of two frames meets a combination, where obligations have a meaning
abbrev met_where : List Name → Option (List ℤ) → List ℤ → (ℕ → Assignment → Bool) → Positive → Assignment → Bool
met_where names before now meaning positive v = met positive (letter_of names v before now) (λ number. meaning number v)

-- the literal of each obligation has its meaning behind whatever nodes follow some
abbrev AreMade : List Cover → ℕ → List Node → (ℕ → List Node → Built) → (ℕ → Assignment → Bool) → Type 0
AreMade covers given nodes later meaning = (number : ℕ) (others : List Node) → Extends nodes others → AreSound given others → Makes covers given others (later number others) (meaning number)

made-on : (covers : List Cover) (given : ℕ) (nodes more : List Node) (later : ℕ → List Node → Built) (meaning : ℕ → Assignment → Bool) → Extends nodes more → AreMade covers given nodes later meaning → AreMade covers given more later meaning
made-on covers given nodes more later meaning extends made number others further sound = made number others (extends-then nodes more others extends further) sound

pub by-made : (covers : List Cover) (given : ℕ) (nodes : List Node) (names : List Name) (before : Option (List ℤ)) (now : List ℤ) (later : ℕ → List Node → Built) (meaning : ℕ → Assignment → Bool) (positive : Positive) →
    AreSound given nodes → FramesWithin (variables_of given nodes) before now → AtomsOfPositive (AtomInRange names) positive → AreMade covers given nodes later meaning →
    Makes covers given nodes (combination_by given before now later positive nodes) (met_where names before now meaning positive)
by-made covers given nodes names before now later meaning (Const value) sound within in_range made = makes-constant covers given nodes value sound
by-made covers given nodes names before now later meaning (Holds test) sound within in_range made = boolean-made covers given nodes names before now test sound within in_range
by-made covers given nodes names before now later meaning (Owed number) sound within in_range made = made number nodes (extends-same nodes) sound
by-made covers given nodes names before now later meaning (And left right) sound within in_range made =
    let one = combination_by given before now later left nodes in
    let m = met_where names before now meaning left in
    let a = by-made covers given nodes names before now later meaning left sound within in_range.0 made in
    makes-joined covers given (conjoined given) (λ x y. x && y) nodes (combination_by given before now later left) (combination_by given before now later right) m (met_where names before now meaning right)
    (makes-conjoined covers given) a
    (by-made covers given one.nodes names before now later meaning right a.sound (frames-wider (variables_of given nodes) (variables_of given one.nodes) before now (made-more covers given nodes one m a) within) in_range.1
    (made-on covers given nodes one.nodes later meaning (record { more = a.more; is = a.grown }) made))
by-made covers given nodes names before now later meaning (Or left right) sound within in_range made =
    let one = combination_by given before now later left nodes in
    let m = met_where names before now meaning left in
    let a = by-made covers given nodes names before now later meaning left sound within in_range.0 made in
    makes-joined covers given (either given) (λ x y. x || y) nodes (combination_by given before now later left) (combination_by given before now later right) m (met_where names before now meaning right)
    (makes-either covers given) a
    (by-made covers given one.nodes names before now later meaning right a.sound (frames-wider (variables_of given nodes) (variables_of given one.nodes) before now (made-more covers given nodes one m a) within) in_range.1
    (made-on covers given nodes one.nodes later meaning (record { more = a.more; is = a.grown }) made))

-- where a list has the literals
pub combination-made : (covers : List Cover) (given : ℕ) (nodes : List Node) (names : List Name) (before : Option (List ℤ)) (now later : List ℤ) (positive : Positive) → AreSound given nodes →
    FramesWithin (variables_of given nodes) before now → IsTrue (clause_within (variables_of given nodes) later) → AtomsOfPositive (AtomInRange names) positive →
    Makes covers given nodes (combination_built given before now later positive nodes) (met_where names before now (λ number v. is_true v (literal_at given later number)) positive)
combination-made covers given nodes names before now later positive sound within owed in_range =
    by-made covers given nodes names before now (listed given later) (λ number v. is_true v (literal_at given later number)) positive sound within in_range
    (λ number others extends others_sound.
    makes-at covers given others later number others_sound (wider (variables_of given nodes) (variables_of given others) (more-extends given nodes others extends) later owed))
