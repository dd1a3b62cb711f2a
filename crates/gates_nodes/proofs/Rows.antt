-- Tables of any number of inputs as conjunctions.
use Rattle.std.proofs.Common.{◌≡◌, ℕ, ◌≤◌, ℤ, Bool, true, false, ◌||◌, List, [], ◌∷◌, map, fold, refl, sym, ap, ◌∙◌, arith}
use Rattle.std.specs.Bool.{IsTrue}
use Rattle.std.specs.List.{list_all}
use Rattle.clauses.specs.Literals.{clause_within, is_within}
use Rattle.clauses.specs.Models.{Assignment, is_true}
use Rattle.gates_theory.proofs.Within.{wider}
use Rattle.netlist.specs.Valuations.{fits_row}
use Rattle.netlist.specs.declared.rows.Mark.{Mark}
use Rattle.gates_nodes.specs.declared.cover.Cover.{Cover}
use Rattle.gates_nodes.specs.declared.node.Node.{Node}
use Rattle.gates_nodes.specs.Folding.{Built, conjoined_all}
use Rattle.gates_nodes.specs.Makes.{AreSound, Makes}
use Rattle.gates_nodes.specs.Nodes.{fits_some, no, variables_of}
use Rattle.gates_nodes.specs.Tables.{asked, some_row, with_row}
use Rattle.gates_nodes.proofs.Cubes.{asked-value, asked-within}
use Rattle.gates_nodes.proofs.Folds.{makes-all, makes-either, makes-no}
use Rattle.gates_nodes.proofs.Literals.{or_false}
use Rattle.gates_nodes.proofs.Making.{makes-as, makes-then, names-kept, value-kept}
use Rattle.gates_nodes.proofs.Values.{variables-more}

or_assoc : (a b c : Bool) → ((a || b) || c) ≡ (a || (b || c))
or_assoc true b c = refl
or_assoc false b c = refl

module _ (covers : List Cover) (given : ℕ) where
  -- one row more behind others
  row-here : (now : Built) (row : List Mark) (literals : List ℤ) → AreSound given now.nodes → IsTrue (is_within (variables_of given now.nodes) now.output) →
      IsTrue (clause_within (variables_of given now.nodes) literals) →
      Makes covers given now.nodes (with_row given literals now row) (λ v. is_true v now.output || fits_row row (map (is_true v) literals))
  row-here now row literals sound names within =
      let n = variables_of given now.nodes in
      let wants = asked given row literals in
      let all = conjoined_all given now.nodes wants in
      let new = with_row given literals now row in
      let fits = makes-all covers given now.nodes wants sound (asked-within n given row literals (omega arith) within) in
      let kept = names-kept covers given now.nodes fits.more all.nodes now.output fits.grown names in
      let one = makes-either covers given all.nodes now.output all.output fits.sound kept fits.names in
      let m = λ (v : Assignment). is_true v now.output || is_true v all.output in
      makes-as covers given now.nodes new m (λ v. is_true v now.output || fits_row row (map (is_true v) literals))
      (makes-then covers given now.nodes all new (λ v. list_all (is_true v) wants) m fits one)
      (λ source v is. ap (λ b. is_true v now.output || b)
      (value-kept covers given now.nodes all (λ v. list_all (is_true v) wants) one.more new.nodes fits one.grown source v is ∙ asked-value v given n row literals is.yes within))

  rows-so_far : (old : List Node) (now : Built) (meaning : Assignment → Bool) (rows : List (List Mark)) (literals : List ℤ) → Makes covers given old now meaning →
      IsTrue (clause_within (variables_of given now.nodes) literals) →
      Makes covers given old (fold (with_row given literals) now rows) (λ v. meaning v || fits_some rows (map (is_true v) literals))
  rows-so_far old now meaning [] literals makes within = makes-as covers given old now meaning (λ v. meaning v || false) makes (λ source v is. sym (or_false (meaning v)))
  rows-so_far old now meaning (row ∷ rows) literals makes within =
      let n = variables_of given now.nodes in
      let new = with_row given literals now row in
      let fits = λ (v : Assignment). fits_row row (map (is_true v) literals) in
      let here = row-here now row literals makes.sound makes.names within in
      let order : n ≤ variables_of given new.nodes = rw here.grown (variables-more given now.nodes here.more) in
      let m = λ (v : Assignment). meaning v || fits v in
      let made = makes-as covers given old new (λ v. is_true v now.output || fits v) m
      (makes-then covers given old now new meaning (λ v. is_true v now.output || fits v) makes here)
      (λ source v is. ap (λ b. b || fits v) (value-kept covers given old now meaning here.more new.nodes makes here.grown source v is)) in
      let rest = rows-so_far old new m rows literals made (wider n (variables_of given new.nodes) order literals within) in
      makes-as covers given old (fold (with_row given literals) new rows) (λ v. m v || fits_some rows (map (is_true v) literals)) (λ v. meaning v || fits_some (row ∷ rows) (map (is_true v) literals)) rest
      (λ source v is. or_assoc (meaning v) (fits v) (fits_some rows (map (is_true v) literals)))

  pub makes-rows : (nodes : List Node) (rows : List (List Mark)) (literals : List ℤ) → AreSound given nodes → IsTrue (clause_within (variables_of given nodes) literals) →
      Makes covers given nodes (some_row given nodes rows literals) (λ v. fits_some rows (map (is_true v) literals))
  makes-rows nodes rows literals sound within =
      rows-so_far nodes (record { nodes = nodes; output = no given }) (λ v. false) rows literals (makes-no covers given nodes sound) within
