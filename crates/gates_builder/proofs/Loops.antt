-- Conjunctions and rows, one behind another.
use Rattle.std.proofs.Common.{◌≡◌, ℕ, suc, ◌<◌, ◌≤◌, ℤ, neg_ℤ, List, [], ◌∷◌, fold, Err, Ok, refl, sym, ap, ◌∙◌, subst, arith}
use Rattle.std.specs.Bool.{IsTrue}
use Rattle.std.specs.Prelude.{Result}
use Rattle.clauses.specs.declared.flat.CnfFault.{CnfFault}
use Rattle.clauses.specs.Literals.{is_literal, is_within}
use Rattle.netlist.specs.declared.rows.Mark.{Mark}
use Rattle.gates_nodes.specs.declared.node.Node.{Node}
use Rattle.gates_nodes.specs.Folding.{Built, conjoined, conjoined_all, either}
use Rattle.gates_nodes.specs.Nodes.{variables_of, yes}
use Rattle.gates_nodes.specs.Tables.{asked, with_row}
use Rattle.gates_builder.specs.Adding.{Adds, Making, with_nodes}
use Rattle.gates_builder.proofs.Growing.{adds-fails, more-added, more-all, more-conjoined, more-rows}

-- what was added to nodes that were added
pub adds-from : (old mid new : Making) (built : ℕ → Built) (result : Result ℤ CnfFault) → mid ≡ with_nodes old mid.nodes → Adds mid new (built mid.given) result → Adds old new (built old.given) result
adds-from old mid new built result kept adds =
    let same : mid.given ≡ old.given = ap (λ m. m.given) kept in
    let here = subst (λ m. Adds m new (built old.given) result) kept (subst (λ g. Adds mid new (built g) result) same adds) in
    record { making = here.making; output = here.output; within = here.within; literal = here.literal; large = here.large }

built-is : (built : Built) (nodes : List Node) (output : ℤ) → nodes ≡ built.nodes → output ≡ built.output → record { nodes = nodes; output = output } ≡ built
built-is built nodes output e f = ap (λ n. record { nodes = n; output = output }) e ∙ ap (λ o. record { nodes = built.nodes; output = o }) f

kept-by : (old new : Making) (built : Built) → new ≡ with_nodes old built.nodes → new ≡ with_nodes old new.nodes
kept-by old new built e = e ∙ ap (with_nodes old) (sym (ap (λ m. m.nodes) e))

-- some steps of a fold are done: what is left of it, from the literal that there is, gives the whole
pub record SoFar {X : Type 0} (step : Built → X → Built) (old mid : Making) (output : ℤ) (left : List X) (whole : Built) : Type 0 where
  pub kept : mid ≡ with_nodes old mid.nodes
  pub more : variables_of old.given old.nodes ≤ variables_of mid.given mid.nodes
  pub within : IsTrue (is_within (variables_of mid.given mid.nodes) output)
  pub literal : IsTrue (is_literal output)
  pub so_far : fold step (record { nodes = mid.nodes; output = output }) left ≡ whole

pub so_far-step : {X : Type 0} (step : Built → X → Built) (old mid new : Making) (output result : ℤ) (x : X) (left : List X) (whole : Built) → SoFar step old mid output (x ∷ left) whole →
    variables_of mid.given mid.nodes ≤ variables_of new.given new.nodes → Adds old new (step (record { nodes = mid.nodes; output = output }) x) (Ok result) → SoFar step old new result left whole
so_far-step step old mid new output result x left whole before more adds =
    let built = step (record { nodes = mid.nodes; output = output }) x in
    record {
      kept = kept-by old new built adds.making;
      more = omega (arith, before.more, more);
      within = adds.within;
      literal = adds.literal;
      so_far = ap (λ b. fold step b left) (built-is built new.nodes result (ap (λ m. m.nodes) adds.making) adds.output) ∙ before.so_far;
    }

pub so_far-done : {X : Type 0} (step : Built → X → Built) (old mid : Making) (output : ℤ) (left : List X) (whole : Built) → left ≡ [] → SoFar step old mid output left whole → Adds old mid whole (Ok output)
so_far-done {X} step old mid output left whole none before =
    let last : record { nodes = mid.nodes; output = output } ≡ whole = sym (ap (λ xs. fold step (record { nodes = mid.nodes; output = output }) xs) none) ∙ before.so_far in
    record {
      making = before.kept ∙ ap (λ b. with_nodes old b.nodes) last;
      output = ap (λ b. b.output) last;
      within = before.within;
      literal = before.literal;
      large = tt;
    }

-- the literals of a conjunction, and the rows of a table
abbrev pub joining : ℕ → Built → ℤ → Built
joining given now literal = conjoined given now.nodes now.output literal

pub all-step : (old mid new : Making) (output l result : ℤ) (left : List ℤ) (whole : Built) → SoFar (joining old.given) old mid output (l ∷ left) whole →
    Adds mid new (conjoined mid.given mid.nodes output l) (Ok result) → SoFar (joining old.given) old new result left whole
all-step old mid new output l result left whole before adds =
    so_far-step (joining old.given) old mid new output result l left whole before (more-added mid new (conjoined mid.given mid.nodes output l) result (more-conjoined mid.given mid.nodes output l) adds) (adds-from old mid new (λ given. conjoined given mid.nodes output l) (Ok result) before.kept adds)

pub all-err : (old mid new : Making) (output l : ℤ) (left : List ℤ) (whole : Built) (fault : CnfFault) → SoFar (joining old.given) old mid output (l ∷ left) whole →
    Adds mid new (conjoined mid.given mid.nodes output l) (Err fault) → Adds old new whole (Err fault)
all-err old mid new output l left whole fault before adds =
    let part = conjoined old.given mid.nodes output l in
    adds-fails old new part whole fault
    (omega (arith, more-all old.given part left, ap (λ b. variables_of old.given b.nodes) before.so_far))
    (adds-from old mid new (λ given. conjoined given mid.nodes output l) (Err fault) before.kept adds)

abbrev pub fits_of : ℕ → List Node → List Mark → List ℤ → Built
fits_of given nodes row literals = conjoined_all given nodes (asked given row literals)

pub more-fits : (given : ℕ) (nodes : List Node) (row : List Mark) (literals : List ℤ) → variables_of given nodes ≤ variables_of given (fits_of given nodes row literals).nodes
more-fits given nodes row literals = more-all given (record { nodes = nodes; output = yes given }) (asked given row literals)

pub rows-step : (old mid next new : Making) (output fits result : ℤ) (literals : List ℤ) (row : List Mark) (left : List (List Mark)) (whole : Built) →
    SoFar (with_row old.given literals) old mid output (row ∷ left) whole → Adds mid next (fits_of mid.given mid.nodes row literals) (Ok fits) →
    Adds next new (either next.given next.nodes output fits) (Ok result) → SoFar (with_row old.given literals) old new result left whole
rows-step old mid next new output fits result literals row left whole before first second =
    let all = fits_of old.given mid.nodes row literals in
    let one = adds-from old mid next (λ given. fits_of given mid.nodes row literals) (Ok fits) before.kept first in
    let kept = kept-by old next all one.making in
    let two = adds-from old next new (λ given. either given next.nodes output fits) (Ok result) kept second in
    let nodes : next.nodes ≡ all.nodes = ap (λ m. m.nodes) one.making in
    let same = subst (λ l. Adds old new (either old.given all.nodes output l) (Ok result)) one.output
    (subst (λ n. Adds old new (either old.given n output fits) (Ok result)) nodes two) in
    let more_fits = more-added mid next (fits_of mid.given mid.nodes row literals) fits (more-fits mid.given mid.nodes row literals) first in
    let more_or = more-added next new (either next.given next.nodes output fits) result (more-conjoined next.given next.nodes (neg_ℤ output) (neg_ℤ fits)) second in
    so_far-step (with_row old.given literals) old mid new output result row left whole before (omega (arith, more_fits, more_or)) same

-- a row's conjunction fails, or the join with the others
pub rows-fail : (old mid new : Making) (output : ℤ) (literals : List ℤ) (row : List Mark) (left : List (List Mark)) (whole : Built) (fault : CnfFault) →
    SoFar (with_row old.given literals) old mid output (row ∷ left) whole → Adds mid new (fits_of mid.given mid.nodes row literals) (Err fault) → Adds old new whole (Err fault)
rows-fail old mid new output literals row left whole fault before adds =
    let part = fits_of old.given mid.nodes row literals in
    let next = with_row old.given literals (record { nodes = mid.nodes; output = output }) row in
    adds-fails old new part whole fault
    (omega (arith, more-conjoined old.given part.nodes (neg_ℤ output) (neg_ℤ part.output), more-rows old.given next literals left, ap (λ b. variables_of old.given b.nodes) before.so_far))
    (adds-from old mid new (λ given. fits_of given mid.nodes row literals) (Err fault) before.kept adds)

pub rows-fail_or : (old mid next new : Making) (output fits : ℤ) (literals : List ℤ) (row : List Mark) (left : List (List Mark)) (whole : Built) (fault : CnfFault) →
    SoFar (with_row old.given literals) old mid output (row ∷ left) whole → Adds mid next (fits_of mid.given mid.nodes row literals) (Ok fits) →
    Adds next new (either next.given next.nodes output fits) (Err fault) → Adds old new whole (Err fault)
rows-fail_or old mid next new output fits literals row left whole fault before first second =
    let all = fits_of old.given mid.nodes row literals in
    let one = adds-from old mid next (λ given. fits_of given mid.nodes row literals) (Ok fits) before.kept first in
    let kept = kept-by old next all one.making in
    let two = adds-from old next new (λ given. either given next.nodes output fits) (Err fault) kept second in
    let nodes : next.nodes ≡ all.nodes = ap (λ m. m.nodes) one.making in
    let same = subst (λ l. Adds old new (either old.given all.nodes output l) (Err fault)) one.output
    (subst (λ n. Adds old new (either old.given n output fits) (Err fault)) nodes two) in
    let next_built = with_row old.given literals (record { nodes = mid.nodes; output = output }) row in
    adds-fails old new next_built whole fault
    (omega (arith, more-rows old.given next_built literals left, ap (λ b. variables_of old.given b.nodes) before.so_far)) same
