-- The clauses of the nodes from a place on.
use Rattle.std.proofs.Common.{◌≡◌, ℕ, zero, suc, ◌+◌, ◌<◌, ◌≤◌, ℤ, Bool, false, cond, List, [], ◌∷◌, ◌++◌, length, drop, get_or, append_assoc, Some, Err, Ok, refl, sym, ap, ◌∙◌, subst, arith}
use Rattle.std.specs.Bool.{IsTrue}
use Rattle.std.specs.List.{flat_map}
use Rattle.std.specs.Prelude.{slice_get}
use Rattle.std.proofs.lemmas.Bool.{and_from, and_parts}
use Rattle.std.proofs.lemmas.List.{append-nil, drop_all}
use Rattle.clauses.specs.declared.cnf.Cnf.{Cnf}
use Rattle.clauses.specs.declared.flat.CnfFault.{CnfFault}
use Rattle.clauses.specs.Literals.{clause_words, is_within}
use Rattle.gates_theory.proofs.Sizes.{words-append}
use Rattle.gates_theory.proofs.Within.{wider}
use Rattle.gates_nodes.specs.declared.cover.Cover.{Cover}
use Rattle.gates_nodes.specs.declared.node.Node.{Node}
use Rattle.gates_nodes.specs.declared.node.Node.TheVariants.{Free, And, Lut}
use Rattle.gates_nodes.specs.Clauses.{asked_clauses, asks, named, node_clauses, wanted}
use Rattle.gates_nodes.specs.Nodes.{node_within, nodes_within}
use Rattle.gates_nodes.proofs.Literals.{wider_literal}
use Rattle.gates_builder.specs.Adding.{Making}
use Rattle.gates_builder.proofs.CubeSteps.{get-is}
use Rattle.gates_formula.specs.Adding.{Adds}
use Rattle.gates_formula.specs.Marks.{AreMarks}
use Rattle.gates_formula.specs.Places.{clauses_at, node_at, variable_at}
use Rattle.gates_formula.proofs.Additions.{Clauses, adds-late, adds-then}

abbrev pub literals_of : Clauses → List ℤ
literals_of clauses = flat_map (λ clause. clause) clauses

-- the clauses of the nodes from a place on, and the literals that are then asked for
abbrev pub asked_from : Making → ℕ → Clauses → Clauses
asked_from making place clauses =
    asked_clauses making.covers making.given (suc making.given + place) (drop place making.nodes) (literals_of clauses)

abbrev pub wanted_from : Making → ℕ → Clauses → List ℤ
wanted_from making place clauses = wanted (suc making.given + place) (drop place making.nodes) (literals_of clauses)

pub record Asked (making : Making) (place : ℕ) (clauses : Clauses) (old mid : Cnf) (set : List Bool) : Type 0 where
  pub variables : mid.variables ≡ old.variables
  pub added : mid.clauses ≡ old.clauses ++ asked_from making place clauses
  pub marks : AreMarks set (wanted_from making place clauses)

-- the node at a place
pub within-at : (before place : ℕ) (nodes : List Node) → place < length nodes → IsTrue (nodes_within before nodes) → IsTrue (node_within (before + place) (node_at nodes place))
within-at before place [] below within = absurd (omega arith)
within-at before zero (node ∷ nodes) below within =
    let e : before ≡ before + 0 = omega arith in
    subst (λ n. IsTrue (node_within n node)) e (and_parts (node_within before node) (nodes_within (suc before) nodes) within).0
within-at before (suc place) (node ∷ nodes) below within =
    let e : suc before + place ≡ before + suc place = omega arith in
    subst (λ n. IsTrue (node_within n (node_at nodes place))) e
    (within-at (suc before) place nodes (omega arith) (and_parts (node_within before node) (nodes_within (suc before) nodes) within).1)

pub drop-at : (nodes : List Node) (place : ℕ) → place < length nodes → drop place nodes ≡ node_at nodes place ∷ drop (suc place) nodes
drop-at [] place below = absurd (omega arith)
drop-at (node ∷ nodes) zero below = refl
drop-at (node ∷ nodes) (suc place) below = drop-at nodes place (omega arith)

-- at the place behind the last one nothing is asked for but the literals of the clauses
pub asked-none : (making : Making) (place : ℕ) (clauses : Clauses) → length making.nodes ≤ place → (asked_from making place clauses ≡ []) × (wanted_from making place clauses ≡ literals_of clauses)
asked-none making place clauses past = rw (drop_all place making.nodes past) (refl, refl)

-- one place in front
pub asked-next : (making : Making) (place : ℕ) (clauses : Clauses) → place < length making.nodes →
    asked_from making place clauses ≡ asked_from making (suc place) clauses ++ cond (asks (wanted_from making (suc place) clauses) (variable_at making place)) (clauses_at making place) []
asked-next making place clauses below =
    let e : suc making.given + suc place ≡ suc (suc making.given + place) = omega arith in
    rw (drop-at making.nodes place below, e) refl

pub wanted-next : (making : Making) (place : ℕ) (clauses : Clauses) → place < length making.nodes →
    wanted_from making place clauses
    ≡ cond (asks (wanted_from making (suc place) clauses) (variable_at making place)) (named (node_at making.nodes place) ++ wanted_from making (suc place) clauses) (wanted_from making (suc place) clauses)
wanted-next making place clauses below =
    let e : suc making.given + suc place ≡ suc (suc making.given + place) = omega arith in
    rw (drop-at making.nodes place below, e) refl

-- those from a place on have no more words than all
pub asked-less : (covers : List Cover) (given before place : ℕ) (nodes : List Node) (literals : List ℤ) →
    clause_words (asked_clauses covers given (before + place) (drop place nodes) literals) ≤ clause_words (asked_clauses covers given before nodes literals)
asked-less covers given before zero nodes literals = let e : before + 0 ≡ before = omega arith in rw e (omega arith)
asked-less covers given before (suc place) [] literals = omega arith
asked-less covers given before (suc place) (node ∷ nodes) literals =
    let e : before + suc place ≡ suc before + place = omega arith in
    let rest = asked_clauses covers given (suc before) nodes literals in
    let here = cond (asks (wanted (suc before) nodes literals) (suc before)) (node_clauses covers given before node) [] in
    rw e (omega (arith, asked-less covers given (suc before) place nodes literals, words-append rest here))

-- behind the last node, a place in front, where that fails, and all
pub asked-start : (making : Making) (place : ℕ) (clauses : Clauses) (old : Cnf) (set : List Bool) → length making.nodes ≤ place → AreMarks set (literals_of clauses) → Asked making place clauses old old set
asked-start making place clauses old set past marks =
    let none = asked-none making place clauses past in
    record {
      variables = refl;
      added = sym (ap (λ more. old.clauses ++ more) none.0 ∙ append-nil old.clauses);
      marks = subst (AreMarks set) (sym none.1) marks;
    }

pub asked-step : {A : Type 0} (making : Making) (place : ℕ) (clauses : Clauses) (old mid new : Cnf) (set more : List Bool) (value : A) → place < length making.nodes → Asked making (suc place) clauses old mid set →
    Adds mid new (cond (asks (wanted_from making (suc place) clauses) (variable_at making place)) (clauses_at making place) []) (Ok value) →
    AreMarks more
    (cond (asks (wanted_from making (suc place) clauses) (variable_at making place)) (named (node_at making.nodes place) ++ wanted_from making (suc place) clauses) (wanted_from making (suc place) clauses)) →
    Asked making place clauses old new more
asked-step making place clauses old mid new set more value below before adds marks =
    let here = cond (asks (wanted_from making (suc place) clauses) (variable_at making place)) (clauses_at making place) [] in
    record {
      variables = adds.variables ∙ before.variables;
      added = adds.ok ∙ ap (λ c. c ++ here) before.added ∙ append_assoc old.clauses (asked_from making (suc place) clauses) here ∙ sym (ap (λ c. old.clauses ++ c) (asked-next making place clauses below));
      marks = subst (AreMarks more) (sym (wanted-next making place clauses below)) marks;
    }

pub asked-fails : {A B : Type 0} (making : Making) (place : ℕ) (clauses : Clauses) (old mid new : Cnf) (set : List Bool) (fault : CnfFault) → place < length making.nodes → Asked making (suc place) clauses old mid set →
    Adds {A = A} mid new (cond (asks (wanted_from making (suc place) clauses) (variable_at making place)) (clauses_at making place) []) (Err fault) →
    Adds {A = B} old new (asked_clauses making.covers making.given (suc making.given) making.nodes (literals_of clauses)) (Err fault)
asked-fails {A} {B} making place clauses old mid new set fault below before fails =
    let here = cond (asks (wanted_from making (suc place) clauses) (variable_at making place)) (clauses_at making place) [] in
    let part = asked_from making (suc place) clauses in
    let added : Adds {A = Unit {0}} old mid part (Ok tt) = record { variables = before.variables; ok = before.added; large = tt } in
    let both : Adds {A = A} old new (part ++ here) (Err fault) = adds-then old mid new part here tt (Err fault) added fails in
    adds-late {A = A} {B = B} old new (asked_from making place clauses) (asked_clauses making.covers making.given (suc making.given) making.nodes (literals_of clauses)) fault
    (asked-less making.covers making.given (suc making.given) place making.nodes (literals_of clauses))
    (subst (λ (c : Clauses). Adds {A = A} old new c (Err fault)) (sym (asked-next making place clauses below)) both)

pub asked-end : {A : Type 0} (making : Making) (clauses : Clauses) (old mid : Cnf) (set : List Bool) (value : A) → Asked making 0 clauses old mid set →
    Adds old mid (asked_clauses making.covers making.given (suc making.given) making.nodes (literals_of clauses)) (Ok value)
asked-end making clauses old mid set value before =
    let e : suc making.given + 0 ≡ suc making.given = omega arith in
    record {
      variables = before.variables;
      ok = before.added ∙ ap (λ b. old.clauses ++ asked_clauses making.covers making.given b making.nodes (literals_of clauses)) e;
      large = tt;
    }

-- what a mark says
pub mark-asks : (marks : List Bool) (literals : List ℤ) (place variable : ℕ) (is b : Bool) → place ≡ variable → variable < length marks → slice_get marks place ≡ Some is → is ≡ b → AreMarks marks literals → asks literals variable ≡ b
mark-asks marks literals place variable is b same below found value are =
    sym (are.are variable below) ∙ ap (λ i. get_or marks i false) (sym same) ∙ get-is marks place is false found ∙ value

pub wider_node : (few more : ℕ) (node : Node) → few ≤ more → IsTrue (node_within few node) → IsTrue (node_within more node)
wider_node few more (Free frame bit) order within = refl
wider_node few more (And first second) order within =
    let parts = and_parts (is_within few first) (is_within few second) within in
    and_from (is_within more first) (is_within more second) (wider_literal few more order first parts.0) (wider_literal few more order second parts.1)
wider_node few more (Lut cover a b c d) order within = wider few more order (a ∷ b ∷ c ∷ d ∷ []) within
