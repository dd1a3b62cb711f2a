-- There is a model exactly where there is a run.
use Rattle.std.proofs.Common.{◌≡◌, ℕ, suc, ◌-◌, false, map, length, sym, ap, ◌∙◌, subst, arith}
use Rattle.std.specs.Prelude.{◌↔◌}
use Rattle.std.specs.List.{range_with_len}
use Rattle.std.proofs.lemmas.List.FromFn.{get_or-map-range_with_len, length-map-range_with_len}
use Rattle.alternating_theory.specs.Courses as lasso
use Rattle.alternating_theory.specs.Obligations.{Automaton}
use Rattle.bounded_theory.specs.Found.{SomeFound}
use Rattle.bounded_theory.specs.Numbers.{IsSearched}
use Rattle.bounded_theory.proofs.Ranks.{accepted-numbers}
use Rattle.clauses.specs.Models.{Assignment}
use Rattle.gates_theory.specs.Circuits.{AreSame}
use Rattle.gates_theory.proofs.Agreement.{same-met}
use Rattle.netlist.specs.Design.{Design}
use Rattle.netlist.specs.Runs.{bits_of, word}
use Rattle.psl_tree.specs.Letters.{letter_at}
use Rattle.run_terms.specs.Formulas.{HasModel, values_of}
use Rattle.run_terms.proofs.LetterRuns.{places-of_word}
use Rattle.bounded.specs.Found.{run_of}
use Rattle.bounded.specs.Searches.{search_clauses, search_variables}
use Rattle.bounded.proofs.Cones.{Premises}
use Rattle.bounded.proofs.Reading.{model-run}
use Rattle.bounded.proofs.Telling.{told-model}
use Rattle.bounded.proofs.Within.{search-within}

-- values as a list
listed : (count : ℕ) (v : Assignment) → AreSame count v (values_of (map (λ k. v (suc k)) (range_with_len 0 count)))
listed count v variable some few =
    ap v (omega arith) ∙ sym (get_or-map-range_with_len (λ k. v (suc k)) 0 count (variable - 1) (variable - 1) false (omega arith) (omega arith))

module _ (d : Design) (a : Automaton) (on : Premises d a) (n : ℕ) where
  run-models : SomeFound d a n → HasModel (search_variables d a n) (search_clauses d a n)
  run-models some none = some (λ run is.
      (let entered : length (word d run).stem ≡ suc (length run.stem) = length-map-range_with_len (letter_at (bits_of run) d.names) 0 (suc (length run.stem)) in
      let looped : length (word d run).looped ≡ length run.loop_part =
      length-map-range_with_len (letter_at (bits_of run) d.names) (suc (length run.stem)) (length run.loop_part) in
      let more = is.is.loops in
      accepted-numbers a (word d run) n on.good (omega (arith, looped)) (places-of_word d run ∙ ap suc is.size) is.accepted (λ is_owed number searched small.
      (let made = told-model d a on n run is is_owed number
      (subst (λ (k : ℕ). IsSearched a n k (lasso.letter_at (word d run)) is_owed number) entered searched) small in
      let count = search_variables d a n in
      let bits = map (λ k. made.0 (suc k)) (range_with_len 0 count) in
      none bits (length-map-range_with_len (λ k. made.0 (suc k)) 0 count)
      (sym (same-met count made.0 (values_of bits) (listed count made.0) (search_clauses d a n) (search-within d a on n)) ∙ made.1)))))

  pub models-runs : HasModel (search_variables d a n) (search_clauses d a n) ↔ SomeFound d a n
  models-runs = ((λ some none. some (λ bits size model. none (run_of d a n (values_of bits)) (model-run d a on n (values_of bits) model))), run-models)
